-- Items of a sound device that were made ready may be brought up together.
use Rattle.std.proofs.Common.{◌≤◌, ◌≡◌, ◌≢◌, ◌<◌, ◌⊎◌, ℕ, suc, zero, List, [], ◌∷◌, ◌++◌, length, map, Option, Some, None, is_some, Bool, true, false, refl}
use Rattle.std.proofs.Common.{sym, ap, ◌∙◌, inl, inr, arith, subst, slice_get}
use Rattle.std.specs.Prelude.{◌&&◌, ◌||◌, not, filter, if◌then◌else◌, IfSome, IsSome}
use Rattle.std.specs.Str.{bytes_eq}
use Rattle.std.proofs.lemmas.Bool.{or_left, or_right}
use Rattle.std.proofs.lemmas.Option.{slice_get_within}
use Rattle.std.proofs.lemmas.Slice.Eq.{bytes_eq-Decides}
use Rattle.serde_json.specs.Data.{Data}
use Rattle.nuc_base.specs.declared.kinds.Step.{Step}
use Rattle.nuc_base.specs.declared.kinds.Step.TheVariants as step
use Rattle.nuc_base.proofs.Leading.{leads_more}
use Rattle.records.specs.Stored.{Item}
use Rattle.records.specs.declared.record.Origin.{Origin}
use Rattle.recipe_reader.specs.Environment.{Variable}
use Rattle.recipe_reader.specs.OneRecipe.{IsOneRecipe}
use Rattle.recipe_reader.specs.Sound.{ReadsSound}
use Rattle.recipe_reader.specs.Steps.{IsLimit, IsStep, step_of, usual_limit}
use Rattle.recipe_reader.specs.declared.recipe.Dependency.{Dependency}
use Rattle.recipe_reader.specs.declared.recipe.StepDef.{StepDef}
use Rattle.interpolation.specs.declared.scope.Scope.{Scope}
use Rattle.device.specs.Plans.{AreItems, IsSupplied, NeedsByName}
use Rattle.lifecycle.specs.Awaits.{is_same_step}
use Rattle.components.specs.Components.{Components}
use Rattle.components.specs.Fitted.{Fitted, limit_of, name_of, prepared_of}
use Rattle.components.specs.Made.{AreFitted, IsFittedAt, IsPrepared}
use Rattle.components.specs.Platforms.{AllRunFor}
use Rattle.components.specs.declared.kinds.Prepared.{Prepared}
use Rattle.components.proofs.Platforms.{keep_for, keep_needs, ready_for}
use Rattle.law_termination.specs.Drives.{IsAmong, IsPlaced, MayCome, MayTakeOver}
use Rattle.law_termination.specs.Kept.{IsRunnable, IsTimely, has_limit}
use Rattle.law_termination.proofs.Limits.{IsLong, limits_are_long}
use Rattle.law_termination.proofs.Lists.{Has, each_has}
use Rattle.law_termination.proofs.Near.{all_of, contains_one, has_at, has_one, placed_at}
use Rattle.law_termination.proofs.RiseOrders.{Needs, needs_below, needs_of, order_of}

-- ---- lists

has_left : {X : Type 0} (x : X) (xs ys : List X) → Has x xs → Has x (xs ++ ys)
has_left x [] ys h = absurd h
has_left x (y ∷ xs) ys (inl q) = inl q
has_left x (y ∷ xs) ys (inr h) = inr (has_left x xs ys h)

has_right : {X : Type 0} (x : X) (xs ys : List X) → Has x ys → Has x (xs ++ ys)
has_right x [] ys h = h
has_right x (y ∷ xs) ys h = inr (has_right x xs ys h)

has_either : {X : Type 0} (x : X) (xs ys : List X) → Has x (xs ++ ys) → Has x xs ⊎ Has x ys
has_either x [] ys h = inr h
has_either x (y ∷ xs) ys (inl q) = inl (inl q)
has_either x (y ∷ xs) ys (inr h) = elim (has_either x xs ys h) [ inl a ↦ inl (inr a) | inr b ↦ inr b ]

-- a name that passes a test of its dependency is that of a dependency
abbrev NamedIn : List Dependency → List ℕ → Type 0
NamedIn ds n = (d : Dependency) × Has d ds × (d.name ≡ n)

named_by : (b : Bool) (d : Dependency) (ds : List Dependency) (ns : List (List ℕ)) (n : List ℕ) → (Has n ns → NamedIn ds n) →
    Has n (if b then d.name ∷ ns else ns) → NamedIn (d ∷ ds) n
named_by true d ds ns n f (inl q) = (d, inl refl, sym q)
named_by true d ds ns n f (inr h) = let r = f h in (r.0, inr r.1, r.2)
named_by false d ds ns n f h = let r = f h in (r.0, inr r.1, r.2)

names_if : (b : Bool) (d : Dependency) (ds : List Dependency) → map (λ (d : Dependency). d.name) (if b then d ∷ ds else ds)
    ≡ (if b then d.name ∷ map (λ (d : Dependency). d.name) ds else map (λ (d : Dependency). d.name) ds)
names_if true d ds = refl
names_if false d ds = refl

named : (t : Dependency → Bool) (ds : List Dependency) (n : List ℕ) → Has n (map (λ (d : Dependency). d.name) (filter t ds)) → NamedIn ds n
named t [] n h = absurd h
named t (d ∷ ds) n h = named_by (t d) d ds (map (λ (d : Dependency). d.name) (filter t ds)) n (λ i. named t ds n i)
    (subst (λ (ns : List (List ℕ)). Has n ns) (names_if (t d) d (filter t ds)) h)

-- ---- limits

usual : (s : Step) → is_same_step step.Run s ≡ false → is_some (usual_limit s) ≡ true
usual step.Install e = refl
usual step.Run e = absurd (cc)
usual step.Startup e = refl
usual step.Shutdown e = refl
usual step.Recover e = refl
usual step.Bootstrap e = refl

some_limit : (s : Step) (o : Option Data) (limit : Option ℕ) → is_same_step step.Run s ≡ false → IsLimit s o limit → is_some limit ≡ true
some_limit s None limit n i = ap (λ (z : Option ℕ). is_some z) i ∙ usual s n
some_limit s (Some v) limit n i = ap (λ (z : Option ℕ). is_some z) i.2

abbrev HasLimit : StepDef → Type 0
HasLimit def = is_some def.limit_ms ≡ true

limited : (s : Step) (outer : List Variable) (o : Option Data) (def : Option StepDef) → is_same_step step.Run s ≡ false → IsStep s outer o def →
    IfSome def HasLimit
limited s outer None None n i = tt
limited s outer None (Some def) n i = absurd i
limited s outer (Some v) None n i = tt
limited s outer (Some v) (Some def) n i = some_limit s _ def.limit_ms n i.limit

prepared_limit : (scope : Scope) (def : Option StepDef) (made : Option Prepared) → IsPrepared scope def made → IfSome def HasLimit →
    (not (is_some made) || is_some (limit_of made)) ≡ true
prepared_limit scope None made i l = subst (λ (o : Option Prepared). (not (is_some o) || is_some (limit_of o)) ≡ true) (sym i) refl
prepared_limit scope (Some def) made i l = subst (λ (o : Option Prepared). (not (is_some o) || is_some (limit_of o)) ≡ true) (sym i.1)
    (ap (λ (o : Option ℕ). is_some o) i.2.limit ∙ l)

prepared_on_time : (scope : Scope) (def : Option StepDef) (made : Option Prepared) → IsPrepared scope def made → IfSome def IsLong →
    IfSome (limit_of made) (λ l. 1 ≤ l)
prepared_on_time scope None made i l = subst (λ (o : Option Prepared). IfSome (limit_of o) (λ l. 1 ≤ l)) (sym i) tt
prepared_on_time scope (Some def) made i l = subst (λ (o : Option Prepared). IfSome (limit_of o) (λ l. 1 ≤ l)) (sym i.1)
    (subst (λ (o : Option ℕ). IfSome o (λ l. 1 ≤ l)) (sym i.2.limit) l)

one_main : (scope : Scope) (a b : Option StepDef) (x y : Option Prepared) → IsPrepared scope a x → IsPrepared scope b y → (IsSome a → IsSome b → ⊥) →
    (is_some x && is_some y) ≡ false
one_main scope None b x y i j never = subst (λ (o : Option Prepared). (is_some o && is_some y) ≡ false) (sym i) refl
one_main scope (Some a) None x y i j never = subst (λ (o : Option Prepared). (is_some x && is_some o) ≡ false) (sym j) (and_false (is_some x))
  where
    and_false : (b : Bool) → (b && false) ≡ false
    and_false true = refl
    and_false false = refl
one_main scope (Some a) (Some b) x y i j never = absurd (never refl refl)

-- ---- one item

module _ (sound : ReadsSound) (o : Origin) (items : List Item) (fitted : List Fitted) (are : AreItems o.platform items) (a : AreFitted o items fitted) where
  at_of : (f : Fitted) → Has f fitted → (k : ℕ) × IsFittedAt o items k f
  at_of f h = let p = placed_at f fitted h in (p.0, a.each p.0 f p.1)

  has_limits : (f : Fitted) (k : ℕ) → IsFittedAt o items k f → (s : Step) → is_same_step step.Run s ≡ false → s ≢ step.Bootstrap → has_limit f s ≡ true
  has_limits f k i s n b = prepared_limit i.scope (step_of i.is_scope.recipe s) (prepared_of f s) (i.steps s b)
      (limited s i.is_scope.reads.3.steps.outer _ (step_of i.is_scope.recipe s) n (i.is_scope.reads.3.steps.steps s))

  on_time : (f : Fitted) (k : ℕ) → IsFittedAt o items k f → (s : Step) → s ≢ step.Bootstrap → IfSome (limit_of (prepared_of f s)) (λ l. 1 ≤ l)
  on_time f k i s b = prepared_on_time i.scope (step_of i.is_scope.recipe s) (prepared_of f s) (i.steps s b)
      (limits_are_long i.is_scope.item.recipe o.platform i.is_scope.recipe i.is_scope.reads s)

  timely : (f : Fitted) (k : ℕ) → IsFittedAt o items k f → IsTimely f
  timely f k i step.Install = on_time f k i step.Install (λ e. absurd (cc))
  timely f k i step.Run = on_time f k i step.Run (λ e. absurd (cc))
  timely f k i step.Startup = on_time f k i step.Startup (λ e. absurd (cc))
  timely f k i step.Shutdown = on_time f k i step.Shutdown (λ e. absurd (cc))
  timely f k i step.Recover = on_time f k i step.Recover (λ e. absurd (cc))
  timely f k i step.Bootstrap = tt

  runs_to_end : (f : Fitted) → Has f fitted → IsRunnable f
  runs_to_end f h = let x = at_of f h in let i = x.1 in record {
    main = one_main i.scope (step_of i.is_scope.recipe step.Run) (step_of i.is_scope.recipe step.Startup) f.run f.startup
        (i.steps step.Run (λ e. absurd (cc))) (i.steps step.Startup (λ e. absurd (cc)))
        (sound i.is_scope.item.recipe o.platform i.is_scope.recipe i.is_scope.reads).not_both;
    timely = timely f x.0 i;
    install = has_limits f x.0 i step.Install refl (λ e. absurd (cc));
    startup = has_limits f x.0 i step.Startup refl (λ e. absurd (cc));
    shutdown = has_limits f x.0 i step.Shutdown refl (λ e. absurd (cc));
    recover = has_limits f x.0 i step.Recover refl (λ e. absurd (cc));
  }

  -- ---- what it needs

  record NeedOf (f : Fitted) (n : List ℕ) : Type 0 where
    k : ℕ
    fit : IsFittedAt o items k f
    dependency : Dependency
    is_one : Has dependency fit.is_scope.recipe.dependencies
    name : dependency.name ≡ n

  need_of : (f : Fitted) (n : List ℕ) → Has f fitted → Has n (needs_of f) → NeedOf f n
  need_of f n h m = let x = at_of f h in let i = x.1 in elim (has_either n f.hard f.soft m) [
    | inl y ↦ (let r = named (λ (d : Dependency). d.hard) i.is_scope.recipe.dependencies n (subst (λ (ns : List (List ℕ)). Has n ns) i.hard y) in
        record { k = x.0; fit = i; dependency = r.0; is_one = r.1; name = r.2 })
    | inr y ↦ (let r = named (λ (d : Dependency). not d.hard) i.is_scope.recipe.dependencies n (subst (λ (ns : List (List ℕ)). Has n ns) i.soft y) in
        record { k = x.0; fit = i; dependency = r.0; is_one = r.1; name = r.2 })
  ]

  by_name : (b c : List ℕ) → Needs fitted b c → NeedsByName o.platform items b c
  by_name b c n =
      let r = need_of n.item c n.is_one n.to in
      record {
        item = r.fit.is_scope.item;
        is_one = contains_one items r.fit.is_scope.item (has_at r.fit.is_scope.item items r.k r.fit.is_scope.there);
        from = ap (λ (i : Item). i.name) (sym r.fit.item) ∙ n.from;
        dependency = r.dependency;
        names = record {
          recipe = r.fit.is_scope.recipe;
          reads = r.fit.is_scope.reads;
          named = contains_one r.fit.is_scope.recipe.dependencies r.dependency
              r.is_one;
        };
        to = r.name;
      }

  among_at : (n : List ℕ) (i : Item) (k : ℕ) → slice_get items k ≡ Some i → i.name ≡ n → IsAmong fitted n
  among_at n i k e q =
      let l = slice_get_within items k i e in
      let m = a.many in
      let g = slice_get_cases fitted k (omega (arith, l, m)) in
      let x = a.each k g.0 g.1 in
      let same : name_of g.0 ≡ n = ap (λ (z : Item). z.name) (x.item ∙ ap (λ (z : Option Item). elim z [ None ↦ i | Some y ↦ y ]) (sym x.is_scope.there ∙ e))
      ∙ q in
      any_named fitted g.0 n (has_at g.0 fitted k g.1) same
    where
      slice_get_cases : (xs : List Fitted) (j : ℕ) → j < length xs → (f : Fitted) × (slice_get xs j ≡ Some f)
      slice_get_cases [] j l = absurd (omega (arith, l))
      slice_get_cases (f ∷ fs) zero l = (f, refl)
      slice_get_cases (f ∷ fs) (suc j) l = slice_get_cases fs j (omega (arith, l))

      any_named : (fs : List Fitted) (g : Fitted) (n : List ℕ) → Has g fs → name_of g ≡ n → IsAmong fs n
      any_named [] g n h e = absurd h
      any_named (f ∷ fs) g n (inl q) e = or_left (bytes_eq (name_of f) n) _ ((bytes_eq-Decides (name_of f) n).1 (sym (ap name_of q) ∙ e))
      any_named (f ∷ fs) g n (inr h) e = or_right (bytes_eq (name_of f) n) _ (any_named fs g n h e)

  among : (f : Fitted) (n : List ℕ) → Has f fitted → Has n (needs_of f) → IsAmong fitted n
  among f n h m =
      let r = need_of f n h m in
      let i = r.fit.is_scope.item in
      let s = each_has (IsSupplied o.platform items) i items (has_at i items r.k r.fit.is_scope.there) are.supplied in
      let y = s r.dependency (record {
        recipe = r.fit.is_scope.recipe;
        reads = r.fit.is_scope.reads;
        named = contains_one r.fit.is_scope.recipe.dependencies r.dependency r.is_one;
      }) in
      let p = placed_at y.item items (has_one items y.item y.is_one) in
      among_at n y.item p.0 p.1 (y.meets.name ∙ r.name)

  placed : (f : Fitted) → Has f fitted → IsPlaced (order_of fitted) fitted f
  placed f h = record {
    hard = all_of (λ n. order_of fitted n < order_of fitted (name_of f)) f.hard (λ n m. below n (has_left n f.hard f.soft m));
    soft = all_of (λ n. order_of fitted n < order_of fitted (name_of f)) f.soft (λ n m. below n (has_right n f.hard f.soft m));
    hard_there = all_of (IsAmong fitted) f.hard (λ n m. among f n h (has_left n f.hard f.soft m));
    soft_there = all_of (IsAmong fitted) f.soft (λ n m. among f n h (has_right n f.hard f.soft m));
  }
    where
      below : (n : List ℕ) → Has n (needs_of f) → order_of fitted n < order_of fitted (name_of f)
      below n m = needs_below fitted f n (λ name l. are.acyclic name (leads_more by_name l)) h m

  pub ready_come : MayCome fitted
  ready_come =
      record {
        runnable = all_of IsRunnable fitted runs_to_end;
        s = order_of fitted;
        placed = all_of (IsPlaced (order_of fitted) fitted) fitted placed;
      }

pub ready_take_over : ReadsSound → IsOneRecipe → (o : Origin) (items : List Item) (fitted : List Fitted) (w : Components) → AreItems o.platform items →
    AreFitted o items fitted → AllRunFor o.platform w.parts → MayTakeOver fitted w.parts
ready_take_over sound one o items fitted w are a runs = record {
  come = ready_come sound o items fitted are a;
  steps = keep_for one o.platform fitted w.parts (ready_for o items fitted a) runs;
  needs = keep_needs one o.platform fitted w.parts (ready_for o items fitted a) runs;
}
