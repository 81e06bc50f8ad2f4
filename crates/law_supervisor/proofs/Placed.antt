-- A change to other items keeps the children, gives each its own name, and owes nothing new.
use Rattle.std.proofs.Common.{◌≡◌, ◌≢◌, ◌<◌, ℕ, suc, zero, List, [], ◌∷◌, ◌++◌, length, map, Option, Some, None, Bool, true, false, refl, sym, ap, ◌∙◌}
use Rattle.std.proofs.Common.{arith, subst}
use Rattle.std.specs.Prelude.{◌↔◌, ◌&&◌, not, slice_get, get_or, if◌then◌else◌, filter}
use Rattle.std.specs.Option.{IfSome}
use Rattle.std.specs.List.{All, AllByRecursion, list_any}
use Rattle.std.specs.Str.{bytes_eq}
use Rattle.std.proofs.lemmas.Bool.{or_parts}
use Rattle.std.proofs.lemmas.List.Elements.{recursion_from_All}
use Rattle.std.proofs.lemmas.Slice.Eq.{bytes_eq-Decides}
use Rattle.lifecycle.specs.declared.kinds.After.TheVariants as after
use Rattle.device.specs.Devices.{Device}
use Rattle.components.specs.Fitted.{Fitted, name_of, is_before}
use Rattle.components.specs.Components.{Components, ComponentState, Child, component_name, is_over, is_gone, under_way, stops_for_good}
use Rattle.components.specs.Marks.{flagged, may_replan}
use Rattle.components.specs.Turns.{owes}
use Rattle.components.specs.Answers.{living_numbers, child_numbers}
use Rattle.components.specs.Changes.{Coming, counted, coming_for, fresh_part, leaving, is_replaced, with_texts, staying, coming_again, meeting, fate}
use Rattle.components.specs.Changes.{standing, is_replacing, replanned, newcomers, placed, with_newcomers, changed_to}
use Rattle.law_supervisor.specs.Sound.{HaveOwnNames, IsOrderly, IsSoundPart, AreDistinct}
use Rattle.law_supervisor.specs.Keeps.{AreCounted, IsCounted, ItemsDiffer, HasNoneOwed, IsSupervised, Owns}
use Rattle.law_supervisor.proofs.Lists.{clash, some_same, no_some, from_places, at_places, mapped_all, mapped_same}
use Rattle.components.proofs.Whole.{firsts_flagged}
use Rattle.law_supervisor.proofs.Reached.{restarted_all, restarted_same, same_may}
use Rattle.law_supervisor.proofs.Counts.{count, same_living, one_owns, owns_one}
use Rattle.law_supervisor.proofs.Together.{told_each}
use Rattle.law_supervisor.proofs.Changed.{left_as, texts_named, texts_same, placed_all, newcomers_all, standing_all, changed_sound, changed_counted}

-- ---- what becomes of one

-- the same name and children, and nothing new is owed
pub record Same (p q : ComponentState) : Type 0 where
  pub name : component_name q ≡ component_name p
  pub children : q.children ≡ p.children
  pub owed : p.owed ≡ None → q.owed ≡ None

pub same_leaving : (p : ComponentState) → Same p (leaving p)
same_leaving p = go p.life.gone (is_gone (under_way p.life))
  where
    go : (g u : Bool) → Same p (left_as g u p)
    go true u = record { name = refl; children = refl; owed = λ e. e }
    go false true = record { name = refl; children = refl; owed = λ e. e }
    go false false = record { name = refl; children = refl; owed = λ e. e }

same_meeting : (n : Coming) (p : ComponentState) → name_of n.0 ≡ component_name p → Same p (meeting n p)
same_meeting n p e = go p.life.gone (is_replaced n.0 p) (stops_for_good (with_texts n.0 p).life)
  where
    children : (with_texts n.0 p).children ≡ p.children
    children = texts_same (λ q. q.children) (λ f q. refl) n.0 p

    owed : p.owed ≡ None → (with_texts n.0 p).owed ≡ None
    owed o = texts_same (λ q. q.owed) (λ f q. refl) n.0 p ∙ o

    go : (g y z : Bool) → Same p (if g then coming_again n p
        else (if y then (let q : ComponentState = with_texts n.0 p in if z then record q {
          life = record q.life { stop = Some after.Restart };
          stop =
              Some after.Again;
          next = Some n;
        } else record q { stop = Some after.Again; next = Some n }) else staying n (with_texts n.0 p)))
    go true y z = record { name = e; children = refl; owed = λ o. refl }
    go false true true = record { name = texts_named n.0 p e; children = children; owed = owed }
    go false true false = record { name = texts_named n.0 p e; children = children; owed = owed }
    go false false z = record { name = texts_named n.0 p e; children = children; owed = owed }

found_name : (own : List ℕ) (ns : List Coming) → IfSome (coming_for own ns) (λ n. name_of n.0 ≡ own)
found_name own [] = tt
found_name own (n ∷ ns) = elim (bytes_eq own (name_of n.0)) as (λ (y : Bool). bytes_eq own (name_of n.0) ≡ y →
    IfSome (if y then Some n else coming_for own ns) (λ m. name_of m.0 ≡ own))
    [ true ↦ λ e. sym ((bytes_eq-Decides own (name_of n.0)).0 e) | false ↦ λ e. found_name own ns ] refl

same_fate : (ns : List Coming) (p : ComponentState) → Same p (fate ns p)
same_fate ns p = go (coming_for (component_name p) ns) (found_name (component_name p) ns)
  where
    go : (o : Option Coming) → IfSome o (λ n. name_of n.0 ≡ component_name p) → Same p (elim o [ None ↦ leaving p | Some n ↦ meeting n p ])
    go None h = same_leaving p
    go (Some n) h = same_meeting n p h

same_fates : {X : Type 0} (v : ComponentState → X) → ((p q : ComponentState) → Same p q → v q ≡ v p) → (ns : List Coming) (ps : List ComponentState) →
    map v (map (fate ns) ps) ≡ map v ps
same_fates v m ns ps = mapped_same v (fate ns) (λ p. m p (fate ns p) (same_fate ns p)) ps

same_replanned : {X : Type 0} (v : ComponentState → X) → ((p : ComponentState) → v (record p { stop = Some after.Restart }) ≡ v p) →
    (ps : List ComponentState) → map v (replanned ps) ≡ map v ps
same_replanned v m ps = restarted_same v m may_replan (flagged is_replacing ps) ∙ ap (λ (qs : List ComponentState). map v qs) (firsts_flagged is_replacing ps)

same_planned : {X : Type 0} (v : ComponentState → X) → ((p : ComponentState) → v (record p { stop = Some after.Restart }) ≡ v p) →
    ((p q : ComponentState) → Same p q → v q ≡ v p) → (ns : List Coming) (ps : List ComponentState) → map v (replanned (map (fate ns) ps)) ≡ map v ps
same_planned v m f ns ps = same_replanned v m (map (fate ns) ps) ∙ same_fates v f ns ps

-- ---- children

placed_living : (p : ComponentState) (qs : List ComponentState) → p.children ≡ [] → living_numbers (placed p qs) ≡ living_numbers qs
placed_living p [] e = ap (λ (cs : List Child). child_numbers cs ++ []) e
placed_living p (q ∷ qs) e = elim (is_before (component_name p) (component_name q))
    as (λ (y : Bool). living_numbers (if y then p ∷ q ∷ qs else q ∷ placed p qs) ≡ living_numbers (q ∷ qs)) [
      | true ↦ ap (λ (cs : List Child). child_numbers cs ++ living_numbers (q ∷ qs)) e
      | false ↦ ap (λ (ns : List ℕ). child_numbers q.children ++ ns) (placed_living p qs e)
    ]

newcomers_living : (ns ps : List ComponentState) → AllByRecursion (λ p. p.children ≡ []) ns → living_numbers (with_newcomers ns ps) ≡ living_numbers ps
newcomers_living [] ps a = refl
newcomers_living (n ∷ ns) ps a = placed_living n (with_newcomers ns ps) a.0 ∙ newcomers_living ns ps a.1

fresh_all : (P : ComponentState → Type 0) → ((n : Coming) → P (fresh_part n)) → (ns : List Coming) → AllByRecursion P (map fresh_part ns)
fresh_all P f [] = tt
fresh_all P f (n ∷ ns) = (f n, fresh_all P f ns)

standing_living : (ps : List ComponentState) → living_numbers (standing ps) ≡ living_numbers ps
standing_living [] = refl
standing_living (p ∷ ps) = go p.life.gone p.children refl (standing_living ps)
  where
    go : (g : Bool) (cs : List Child) → p.children ≡ cs → living_numbers (standing ps) ≡ living_numbers ps →
        living_numbers (if not (g && elim cs [ [] ↦ true | ◌∷◌ c ds ↦ false ]) then p ∷ standing ps else standing ps) ≡ child_numbers p.children
        ++ living_numbers ps
    go false cs e rest = ap (λ (ns : List ℕ). child_numbers p.children ++ ns) rest
    go true [] e rest = rest ∙ ap (λ (ds : List Child). child_numbers ds ++ living_numbers ps) (sym e)
    go true (c ∷ cs) e rest = ap (λ (ns : List ℕ). child_numbers p.children ++ ns) rest

pub changed_living : (items : List Fitted) (counts : List ℕ) (steady : Bool) (w : Components) → living_numbers (changed_to items counts steady w).parts
    ≡ living_numbers w.parts
changed_living items counts steady w =
    let ns = counted 0 counts items in
    newcomers_living (newcomers ns (standing w.parts)) (replanned (map (fate ns) (standing w.parts)))
    (fresh_all (λ p. p.children ≡ []) (λ n. refl) (filter
    (λ (n : Coming). not (list_any (λ p. bytes_eq (component_name p) (name_of n.0)) (standing w.parts))) ns))
    ∙ same_living (standing w.parts) (replanned (map (fate ns) (standing w.parts)))
    (same_planned (λ p. p.children) (λ p. refl) (λ p q s. s.children) ns (standing w.parts))
    ∙ standing_living w.parts

pub changed_owns : (n : ℕ) (items : List Fitted) (counts : List ℕ) (steady : Bool) (w : Components) → Owns (changed_to items counts steady w) n ↔ Owns w n
changed_owns n items counts steady w =
    let e = ap (count n) (changed_living items counts steady w) in (
      (λ y. owns_one n w.parts (let c = one_owns 0 n (changed_to items counts steady w).parts y in omega (arith, e, c))),
      (λ y. owns_one n (changed_to items counts steady w).parts (let c = one_owns 0 n w.parts y in omega (arith, e, c))),
    )

-- ---- what is owed

pub owed_any : (ps : List ComponentState) → AllByRecursion (λ p. p.owed ≡ None) ps → list_any owes ps ≡ false
owed_any [] a = refl
owed_any (p ∷ ps) a = let x : owes p ≡ false = rw a.0 refl in rw x (owed_any ps a.1)

pub changed_told : (items : List Fitted) (counts : List ℕ) (steady : Bool) (w : Components) → HasNoneOwed w → HasNoneOwed (changed_to items counts steady w)
changed_told items counts steady w t =
    let ns = counted 0 counts items in
    owed_any (changed_to items counts steady w).parts (newcomers_all (λ p. p.owed ≡ None) (newcomers ns (standing w.parts))
    (replanned (map (fate ns) (standing w.parts)))
    (fresh_all (λ p. p.owed ≡ None) (λ n. refl) (filter (λ (n : Coming). not (list_any (λ p. bytes_eq (component_name p) (name_of n.0)) (standing w.parts)))
    ns))
    (restarted_all (λ p. p.owed ≡ None) (λ p m e. e) may_replan same_may (flagged is_replacing (map (fate ns) (standing w.parts)))
    (subst (λ (qs : List ComponentState). AllByRecursion (λ p. p.owed ≡ None) qs) (sym (firsts_flagged is_replacing (map (fate ns) (standing w.parts))))
    (mapped_all (λ p. p.owed ≡ None) (λ p. p.owed ≡ None) (fate ns) (λ p o. (same_fate ns p).owed o) (standing w.parts)
    (standing_all (λ p. p.owed ≡ None) w.parts (from_places (λ p. p.owed ≡ None) w.parts (told_each w.parts t)))))))

-- ---- names

abbrev Others : List ℕ → ComponentState → Type 0
Others n q = component_name q ≢ n

abbrev Alone : List (List ℕ) → Type 0
Alone [] = Unit {0}
Alone (n ∷ ns) = AllByRecursion (λ m. m ≢ n) ns × Alone ns

abbrev Apart : List ComponentState → Type 0
Apart [] = Unit {0}
Apart (p ∷ ps) = AllByRecursion (Others (component_name p)) ps × Apart ps

apart_of : (ps : List ComponentState) → HaveOwnNames ps → Apart ps
apart_of [] h = tt
apart_of (p ∷ ps) h = (
  from_places (Others (component_name p)) ps (λ k q e n. let z = h 0 (suc k) p q refl e (sym n) in absurd (omega (arith, z))),
  apart_of ps (λ j k q r a b n. let z = h (suc j) (suc k) q r a b n in let y : j ≡ k = omega (arith, z) in y),
)

own_of : (ps : List ComponentState) → Apart ps → HaveOwnNames ps
own_of [] a = λ j k p q x y n. no_some p x
own_of (r ∷ ps) a = go (own_of ps a.1)
  where
    go : HaveOwnNames ps → HaveOwnNames (r ∷ ps)
    go rest zero zero p q x y n = refl
    go rest zero (suc k) p q x y n = absurd (at_places (Others (component_name r)) ps a.0 k q y (sym n ∙ ap component_name (sym (some_same r p x))))
    go rest (suc j) zero p q x y n = absurd (at_places (Others (component_name r)) ps a.0 j p x (n ∙ ap component_name (sym (some_same r q y))))
    go rest (suc j) (suc k) p q x y n = ap suc (rest j k p q x y n)

standing_apart : (ps : List ComponentState) → Apart ps → Apart (standing ps)
standing_apart [] a = tt
standing_apart (p ∷ ps) a = elim (is_over p) as (λ (y : Bool). Apart (if not y then p ∷ standing ps else standing ps))
    [ true ↦ standing_apart ps a.1 | false ↦ (standing_all (Others (component_name p)) ps a.0, standing_apart ps a.1) ]

by_names : (n : List ℕ) (ps qs : List ComponentState) → map component_name qs ≡ map component_name ps → AllByRecursion (Others n) ps →
    AllByRecursion (Others n) qs
by_names n ps qs e a = back qs (subst (λ (ms : List (List ℕ)). AllByRecursion (λ m. m ≢ n) ms) (sym e) (forth ps a))
  where
    forth : (rs : List ComponentState) → AllByRecursion (Others n) rs → AllByRecursion (λ m. m ≢ n) (map component_name rs)
    forth [] b = tt
    forth (r ∷ rs) b = (b.0, forth rs b.1)

    back : (rs : List ComponentState) → AllByRecursion (λ m. m ≢ n) (map component_name rs) → AllByRecursion (Others n) rs
    back [] b = tt
    back (r ∷ rs) b = (b.0, back rs b.1)

apart_names : (ps qs : List ComponentState) → map component_name qs ≡ map component_name ps → Apart ps → Apart qs
apart_names ps qs e a = forget qs (subst Alone (sym e) (remember ps a))
  where
    remember : (rs : List ComponentState) → Apart rs → Alone (map component_name rs)
    remember [] b = tt
    remember (r ∷ rs) b = (forth (component_name r) rs b.0, remember rs b.1)
      where
        forth : (n : List ℕ) (ts : List ComponentState) → AllByRecursion (Others n) ts → AllByRecursion (λ m. m ≢ n) (map component_name ts)
        forth n [] c = tt
        forth n (t ∷ ts) c = (c.0, forth n ts c.1)

    forget : (rs : List ComponentState) → Alone (map component_name rs) → Apart rs
    forget [] b = tt
    forget (r ∷ rs) b = (back (component_name r) rs b.0, forget rs b.1)
      where
        back : (n : List ℕ) (ts : List ComponentState) → AllByRecursion (λ m. m ≢ n) (map component_name ts) → AllByRecursion (Others n) ts
        back n [] c = tt
        back n (t ∷ ts) c = (c.0, back n ts c.1)

placed_apart : (p : ComponentState) (qs : List ComponentState) → AllByRecursion (Others (component_name p)) qs → Apart qs → Apart (placed p qs)
placed_apart p [] a b = (tt, tt)
placed_apart p (q ∷ qs) a b = elim (is_before (component_name p) (component_name q)) as (λ (y : Bool). Apart (if y then p ∷ q ∷ qs else q ∷ placed p qs)) [
  | true ↦ (a, b)
  | false ↦ (placed_all (Others (component_name q)) p qs (λ e. a.0 (sym e)) b.0, placed_apart p qs a.1 b.1)
]

newcomers_apart : (ns ps : List ComponentState) → Apart ns → AllByRecursion (λ n. AllByRecursion (Others (component_name n)) ps) ns → Apart ps →
    Apart (with_newcomers ns ps)
newcomers_apart [] ps a f b = b
newcomers_apart (n ∷ ns) ps a f b = placed_apart n (with_newcomers ns ps) (newcomers_all (Others (component_name n)) ns ps a.0 f.0)
    (newcomers_apart ns ps a.1 f.1 b)

-- ---- the items

module _ (test : Coming → Bool) (counts : List ℕ) where
  fresh_others : (n : List ℕ) (j : ℕ) (fs : List Fitted) → AllByRecursion (λ (g : Fitted). name_of g ≢ n) fs →
      AllByRecursion (Others n) (map fresh_part (filter test (counted j counts fs)))
  fresh_others n j [] a = tt
  fresh_others n j (f ∷ fs) a = keep (f, get_or counts j 0) a.0 (fresh_others n (suc j) fs a.1)
    where
      keep : (c : Coming) → (name_of c.0 ≢ n) → AllByRecursion (Others n) (map fresh_part (filter test (counted (suc j) counts fs))) →
          AllByRecursion (Others n) (map fresh_part (filter test (c ∷ counted (suc j) counts fs)))
      keep c h r = elim (test c) as (λ (y : Bool). AllByRecursion (Others n)
          (map fresh_part (if y then c ∷ filter test (counted (suc j) counts fs) else filter test (counted (suc j) counts fs)))) [ true ↦ (h, r) | false ↦ r ]

  fresh_apart : (j : ℕ) (fs : List Fitted) → ItemsDiffer fs → Apart (map fresh_part (filter test (counted j counts fs)))
  fresh_apart j [] d = tt
  fresh_apart j (f ∷ fs) d = keep (f, get_or counts j 0) (fresh_others (name_of f) (suc j) fs
      (items_others fs (λ k g e n. let z = d 0 (suc k) f g refl e (sym n) in absurd (omega (arith, z)))))
      (fresh_apart (suc j) fs (λ i k g h a b n. let z = d (suc i) (suc k) g h a b n in let y : i ≡ k = omega (arith, z) in y))
    where
      items_others : (gs : List Fitted) → ((k : ℕ) (g : Fitted) → slice_get gs k ≡ Some g → name_of g ≢ name_of f) →
          AllByRecursion (λ (g : Fitted). name_of g ≢ name_of f) gs
      items_others [] h = tt
      items_others (g ∷ gs) h = (h 0 g refl, items_others gs (λ k x e. h (suc k) x e))

      keep : (c : Coming) → AllByRecursion (Others (name_of c.0)) (map fresh_part (filter test (counted (suc j) counts fs))) →
          Apart (map fresh_part (filter test (counted (suc j) counts fs))) → Apart (map fresh_part (filter test (c ∷ counted (suc j) counts fs)))
      keep c h r = elim (test c) as (λ (y : Bool). Apart (map fresh_part
          (if y then c ∷ filter test (counted (suc j) counts fs) else filter test (counted (suc j) counts fs)))) [ true ↦ (h, r) | false ↦ r ]

-- who did not stand before has none of the names
not_met : (ps qs : List ComponentState) → map component_name qs ≡ map component_name ps → (ns : List Coming)
    → AllByRecursion (λ n. AllByRecursion (Others (component_name n)) qs)
    (map fresh_part (filter (λ (n : Coming). not (list_any (λ p. bytes_eq (component_name p) (name_of n.0)) ps)) ns))
not_met ps qs e [] = tt
not_met ps qs e (n ∷ ns) = elim (list_any (λ p. bytes_eq (component_name p) (name_of n.0)) ps)
    as (λ (y : Bool). list_any (λ p. bytes_eq (component_name p) (name_of n.0)) ps ≡ y
    → AllByRecursion (λ m. AllByRecursion (Others (component_name m)) qs)
    (map fresh_part (if not y then n ∷ filter (λ (m : Coming). not (list_any (λ p. bytes_eq (component_name p) (name_of m.0)) ps)) ns else filter
    (λ (m : Coming). not (list_any (λ p. bytes_eq (component_name p) (name_of m.0)) ps)) ns))) [
      | true ↦ λ h. not_met ps qs e ns
      | false ↦ λ h. (by_names (name_of n.0) ps qs e (none ps h), not_met ps qs e ns)
    ] refl
  where
    none : (rs : List ComponentState) → list_any (λ p. bytes_eq (component_name p) (name_of n.0)) rs ≡ false → AllByRecursion (Others (name_of n.0)) rs
    none [] h = tt
    none (r ∷ rs) h = let x = or_parts (bytes_eq (component_name r) (name_of n.0)) (list_any (λ p. bytes_eq (component_name p) (name_of n.0)) rs) h in
        ((λ y. clash (bytes_eq (component_name r) (name_of n.0)) ((bytes_eq-Decides (component_name r) (name_of n.0)).1 y) x.0), none rs x.1)

pub changed_names : (items : List Fitted) (counts : List ℕ) (steady : Bool) (w : Components) → ItemsDiffer items → HaveOwnNames w.parts →
    HaveOwnNames (changed_to items counts steady w).parts
changed_names items counts steady w d h =
    let ns = counted 0 counts items in
    let same = same_planned component_name (λ p. refl) (λ p q s. s.name) ns (standing w.parts) in
    own_of (changed_to items counts steady w).parts (newcomers_apart (newcomers ns (standing w.parts)) (replanned (map (fate ns) (standing w.parts)))
    (fresh_apart (λ (n : Coming). not (list_any (λ p. bytes_eq (component_name p) (name_of n.0)) (standing w.parts))) counts 0 items d)
    (not_met (standing w.parts) (replanned (map (fate ns) (standing w.parts))) same ns)
    (apart_names (standing w.parts) (replanned (map (fate ns) (standing w.parts))) same (standing_apart w.parts (apart_of w.parts h))))

-- ---- what is kept

pub few_counts : (counts : List ℕ) → All (λ (n : ℕ). n < 3) counts → (k : ℕ) → get_or counts k 0 < 3
few_counts counts a = at counts (recursion_from_All (λ (n : ℕ). n < 3) counts a)
  where
    at : (ns : List ℕ) → AllByRecursion (λ (n : ℕ). n < 3) ns → (k : ℕ) → get_or ns k 0 < 3
    at [] b k = omega arith
    at (n ∷ ns) b zero = b.0
    at (n ∷ ns) b (suc k) = at ns b.1 k

pub changed_orderly : (items : List Fitted) (counts : List ℕ) (steady : Bool) (w : Components)
    → ((k : ℕ) (f : Fitted) → slice_get items k ≡ Some f → get_or counts k 0 < 3) → ItemsDiffer items → IsOrderly w →
    IsOrderly (changed_to items counts steady w)
changed_orderly items counts steady w c n i = record {
  sound = at_places IsSoundPart (changed_to items counts steady w).parts (changed_sound items counts steady w c i);
  differ = subst AreDistinct (sym (changed_living items counts steady w)) i.differ;
  names = changed_names items counts steady w n i.names;
}

pub changed_keeps : (d : Device) (items : List Fitted) (counts : List ℕ) (w : Components) → IfSome d.pending (λ q. length q.failures ≡ 128) →
    AreCounted d items counts → ItemsDiffer items → HasNoneOwed w → IsOrderly w → IsSupervised d (changed_to items counts false w)
changed_keeps d items counts w m a n t i =
    let o = changed_orderly items counts false w (λ k f e. (a k f e).1) n i in
    record {
      counted = at_places (IsCounted d) (changed_to items counts false w).parts (changed_counted d items counts false w a t i);
      sound = o.sound;
      differ = o.differ;
      names = o.names;
      driven = refl;
      counts = m;
    }
