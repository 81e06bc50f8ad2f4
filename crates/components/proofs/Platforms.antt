-- What was made ready for one platform stays so, and keeps the steps of its items.
use Rattle.std.proofs.Common.{◌≡◌, ◌≢◌, ℕ, suc, zero, List, [], ◌∷◌, length, Bool, true, false, Option, Some, None, refl, sym, ap, ◌∙◌, subst, map, filter}
use Rattle.std.proofs.Common.{inl, inr, slice_get}
use Rattle.std.specs.Prelude.{◌&&◌, not, cond, if◌then◌else◌, IfSome, is_some, option_map}
use Rattle.std.specs.List.{AllByRecursion, Contains}
use Rattle.std.specs.Str.{bytes_eq}
use Rattle.std.proofs.lemmas.Bool.{and_parts}
use Rattle.nuc_base.proofs.Lists.{in_nil, in_cons}
use Rattle.nuc_base.specs.declared.kinds.Step.{Step}
use Rattle.nuc_base.specs.declared.kinds.Step.TheVariants as step
use Rattle.nuc_base.specs.declared.kinds.Exit.{Exit}
use Rattle.nuc_base.specs.declared.kinds.Exit.TheVariants as exits
use Rattle.nuc_base.specs.declared.platform.Platform.{Platform}
use Rattle.recipe_reader.specs.OneRecipe.{IsRecipeFor, AreAlike, IsOneRecipe}
use Rattle.recipe_reader.specs.Steps.{step_of}
use Rattle.recipe_reader.specs.declared.recipe.Recipe.{Recipe}
use Rattle.recipe_reader.specs.declared.recipe.StepDef.{StepDef}
use Rattle.interpolation.specs.declared.scope.Scope.{Scope}
use Rattle.lifecycle.specs.Life.{Life}
use Rattle.lifecycle.specs.Table.{table}
use Rattle.lifecycle.specs.declared.kinds.After.TheVariants as after
use Rattle.lifecycle.specs.declared.kinds.LifeAct.{LifeAct}
use Rattle.lifecycle.specs.declared.kinds.LifeEvent.{LifeEvent}
use Rattle.lifecycle.specs.declared.kinds.LifeEvent.TheVariants as event
use Rattle.lifecycle.specs.declared.kinds.StepSet.{StepSet}
use Rattle.records.specs.Stored.{Item}
use Rattle.records.specs.declared.record.Origin.{Origin}
use Rattle.components.specs.Acts.{NextAct, HandsOut, MovesInOrder, Move}
use Rattle.components.specs.Changes.{Coming, all_stopped, changed_to, coming_again, coming_for, counted, fate, forgetting, fresh_part, is_replaced}
use Rattle.components.specs.Changes.{is_replacing, leaving, meeting, replacing, replanned, standing, staying, steadied, with_items, with_newcomers}
use Rattle.components.specs.Changes.{with_texts}
use Rattle.components.specs.Events.{answered_at, gone_by, is_orphan_at, kill_event_at, launched, noticed, heard_at, with_child}
use Rattle.components.specs.Fitted.{Fitted, is_same_config, is_same_item, prepared_of, steps_of}
use Rattle.components.specs.Lives.{drops_at, lived, lived_at, replaced}
use Rattle.components.specs.Made.{AreFitted, IsFittedAt, IsPrepared, hard_names}
use Rattle.components.specs.Marks.{Flagged, flagged, flagged_at, grown, marked, may_replan, may_restart, reaching, restarted}
use Rattle.components.specs.Platforms.{AllFor, AllRunFor, IsFor, RunsFor, steps_in}
use Rattle.components.specs.Readied.{KeepNeeds, KeepSteps}
use Rattle.components.specs.Rows.{completed_from, succeeds_from}
use Rattle.components.specs.Components.{ComponentState, Components, changed_at, child_gone, is_again, is_gone, owner, component_name, stops_for_good}
use Rattle.components.specs.Components.{under_way, without_child}
use Rattle.components.specs.declared.kinds.Act.{Act}
use Rattle.components.specs.declared.kinds.Act.TheVariants as acts
use Rattle.components.specs.declared.kinds.Event.{Event}
use Rattle.components.specs.declared.kinds.Event.TheVariants.{Started, Refused, Skipped, Ended, Passed}
use Rattle.components.specs.declared.kinds.Prepared.{Prepared}
use Rattle.components.proofs.Changed.{all_placed, all_standing, is_held_by}
use Rattle.components.proofs.Lived.{lived_none, lived_row, settled_part}
use Rattle.components.proofs.Names.{same_name}

-- ---- what was made ready has the steps of its recipe

has_prepared : (scope : Scope) (d : Option StepDef) (m : Option Prepared) → IsPrepared scope d m → is_some m ≡ is_some d
has_prepared scope None m h = ap (λ (o : Option Prepared). is_some o) h
has_prepared scope (Some d) m h = ap (λ (o : Option Prepared). is_some o) h.1

same_set : (a b c d e f g h i j : Bool) → a ≡ f → b ≡ g → c ≡ h → d ≡ i → e ≡ j
    → (let x : StepSet = record { install = a; run = b; startup = c; shutdown = d; recover = e } in x)
    ≡ (let y : StepSet = record { install = f; run = g; startup = h; shutdown = i; recover = j } in y)
same_set a b c d e f g h i j p q r s t =
    ap (λ (x : Bool). let z : StepSet = record { install = x; run = b; startup = c; shutdown = d; recover = e } in z) p
    ∙ ap (λ (x : Bool). let z : StepSet = record { install = f; run = x; startup = c; shutdown = d; recover = e } in z) q
    ∙ ap (λ (x : Bool). let z : StepSet = record { install = f; run = g; startup = x; shutdown = d; recover = e } in z) r
    ∙ ap (λ (x : Bool). let z : StepSet = record { install = f; run = g; startup = h; shutdown = x; recover = e } in z) s
    ∙ ap (λ (x : Bool). let z : StepSet = record { install = f; run = g; startup = h; shutdown = i; recover = x } in z) t

abbrev no_bootstrap : Step → Bool
no_bootstrap step.Install = true
no_bootstrap step.Run = true
no_bootstrap step.Startup = true
no_bootstrap step.Shutdown = true
no_bootstrap step.Recover = true
no_bootstrap step.Bootstrap = false

other : (s : Step) → no_bootstrap s ≡ true → s ≢ step.Bootstrap
other s h = λ e. let f : true ≡ false = sym h ∙ ap no_bootstrap e in absurd (cc)

fitted_for : (origin : Origin) (items : List Item) (at : ℕ) (f : Fitted) → IsFittedAt origin items at f → IsFor origin.platform f
fitted_for origin items at f h =
    let r : Recipe = h.is_scope.recipe in
    let has : (s : Step) → no_bootstrap s ≡ true → is_some (prepared_of f s) ≡ is_some (step_of r s) =
    λ s e. has_prepared h.scope (step_of r s) (prepared_of f s) (h.steps s (other s e)) in
    record {
      recipe = r;
      reads = subst (λ (i : Item). IsRecipeFor i.recipe origin.platform r) (sym h.item) h.is_scope.reads;
      steps = same_set (is_some f.install) (is_some f.run) (is_some f.startup) (is_some f.shutdown) (is_some f.recover) (is_some r.install) (is_some r.run)
          (is_some r.startup) (is_some r.shutdown) (is_some r.recover)
          (has step.Install refl) (has step.Run refl) (has step.Startup refl) (has step.Shutdown refl) (has step.Recover refl);
      hard = h.hard;
    }

all_from : (P : Fitted → Type 0) (fs : List Fitted) → ((at : ℕ) (f : Fitted) → slice_get fs at ≡ Some f → P f) → AllByRecursion P fs
all_from P [] h = tt
all_from P (f ∷ fs) h = (h zero f refl, all_from P fs (λ at g e. h (suc at) g e))

pub ready_for : (origin : Origin) (items : List Item) (fs : List Fitted) → AreFitted origin items fs → AllFor origin.platform fs
ready_for origin items fs h = all_from (IsFor origin.platform) fs (λ at f e. fitted_for origin items at f (h.each at f e))

-- ---- the same item has the same steps

same_steps : (r s : Recipe) → AreAlike r s → steps_in r ≡ steps_in s
same_steps r s a =
    let has : (t : Step) → is_some (step_of r t) ≡ is_some (step_of s t) = λ t. ap (λ (o : Option StepDef). is_some o) (a.steps t) in
    same_set (is_some r.install) (is_some r.run) (is_some r.startup) (is_some r.shutdown) (is_some r.recover) (is_some s.install) (is_some s.run)
    (is_some s.startup) (is_some s.shutdown) (is_some s.recover)
    (has step.Install) (has step.Run) (has step.Startup) (has step.Shutdown) (has step.Recover)

same_recipe : (a b : Item) → is_same_item a b ≡ true → a.recipe ≡ b.recipe
same_recipe a b e =
    let name : Bool = bytes_eq a.name b.name in
    let version : Bool = bytes_eq a.version b.version in
    let config : Bool = is_same_config a.config b.config in
    let recipe : Bool = bytes_eq a.recipe b.recipe in
    same_name a.recipe b.recipe (and_parts config recipe (and_parts version (config && recipe) (and_parts name (version && (config && recipe)) e).1).1).1

steps_for : (one : IsOneRecipe) (platform : Platform) (f g : Fitted) → IsFor platform f → IsFor platform g → is_same_item f.item g.item ≡ true →
    steps_of f ≡ steps_of g
steps_for one platform f g h i e =
    h.steps ∙ same_steps h.recipe i.recipe (one g.item.recipe platform h.recipe i.recipe
    (subst (λ (bs : List ℕ). IsRecipeFor bs platform h.recipe) (same_recipe f.item g.item e) h.reads) i.reads) ∙ sym i.steps

all_has : {A : Type 0} (P : A → Type 0) (xs : List A) (x : A) → AllByRecursion P xs → Contains xs x → P x
all_has P [] x h i = absurd (in_nil x i)
all_has P (y ∷ ys) x h i = elim (in_cons y ys x i) [ inl e ↦ subst P e h.0 | inr j ↦ all_has P ys x h.1 j ]

pub keep_for : (one : IsOneRecipe) (platform : Platform) (fs : List Fitted) (ps : List ComponentState) → AllFor platform fs → AllRunFor platform ps →
    KeepSteps fs ps
keep_for one platform fs ps h i = λ f p inf inp e. steps_for one platform f p.fitted (all_has (IsFor platform) fs f h inf)
    (all_has (RunsFor platform) ps p i inp).0 e

needs_for : (one : IsOneRecipe) (platform : Platform) (f g : Fitted) → IsFor platform f → IsFor platform g → is_same_item f.item g.item ≡ true →
    f.hard ≡ g.hard
needs_for one platform f g h i e =
    let a : AreAlike h.recipe i.recipe = one g.item.recipe platform h.recipe i.recipe
    (subst (λ (bs : List ℕ). IsRecipeFor bs platform h.recipe) (same_recipe f.item g.item e) h.reads) i.reads in
    h.hard ∙ ap hard_names a.dependencies ∙ sym i.hard

pub keep_needs : (one : IsOneRecipe) (platform : Platform) (fs : List Fitted) (ps : List ComponentState) → AllFor platform fs → AllRunFor platform ps →
    KeepNeeds fs ps
keep_needs one platform fs ps h i = λ f p inf inp e. needs_for one platform f p.fitted (all_has (IsFor platform) fs f h inf)
    (all_has (RunsFor platform) ps p i inp).0 e

-- ---- whatever befalls the components

module _ (platform : Platform) where
  run_if : (b : Bool) (p q : ComponentState) → RunsFor platform p → RunsFor platform q → RunsFor platform (if b then p else q)
  run_if true p q h i = h
  run_if false p q h i = i

  abbrev replaced_with : ComponentState → Option (Fitted × ℕ) → ComponentState
  replaced_with q o = elim o [ None ↦ q | Some n ↦ record q { fitted = n.0; life = record q.life { steps = steps_of n.0; failures = n.1 }; next = None } ]

  run_replaced : (q : ComponentState) (o : Option (Fitted × ℕ)) → RunsFor platform q → IfSome o (λ n. IsFor platform n.0) → RunsFor platform (replaced_with q o)
  run_replaced q None h g = h
  run_replaced q (Some n) h g = (g, tt)

  run_lived_by : (b : Bool) (e : LifeEvent) (p : ComponentState) (o : Option (LifeAct × Life)) → table p.life e ≡ o → RunsFor platform p →
      RunsFor platform (lived b e p)
  run_lived_by b e p None t h = subst (RunsFor platform) (sym (lived_none b e p t)) h
  run_lived_by b e p (Some r) t h =
      let q : ComponentState = settled_part (b && succeeds_from p.life.state p.life.busy r.1.state) e r.0 r.1 p in
      subst (RunsFor platform) (sym (lived_row b e p r.0 r.1 t))
      (run_if (is_again (completed_from e p.life.state p.life.stop r.1.state)) (replaced q) q (run_replaced q q.next h h.1) h)

  run_lived : (b : Bool) (e : LifeEvent) (p : ComponentState) → RunsFor platform p → RunsFor platform (lived b e p)
  run_lived b e p h = run_lived_by b e p (table p.life e) refl h

  run_changed : (f : ComponentState → ComponentState) → ((p : ComponentState) → RunsFor platform p → RunsFor platform (f p)) →
      (k : ℕ) (ps : List ComponentState) → AllRunFor platform ps → AllRunFor platform (changed_at k f ps)
  run_changed f g k [] a = tt
  run_changed f g zero (p ∷ ps) a = (g p a.0, a.1)
  run_changed f g (suc k) (p ∷ ps) a = (a.0, run_changed f g k ps a.1)

  run_mapped : (f : ComponentState → ComponentState) → ((p : ComponentState) → RunsFor platform p → RunsFor platform (f p)) → (ps : List ComponentState) →
      AllRunFor platform ps → AllRunFor platform (map f ps)
  run_mapped f g [] a = tt
  run_mapped f g (p ∷ ps) a = (g p a.0, run_mapped f g ps a.1)

  abbrev FlagsFor : Flagged → Type 0
  FlagsFor fs = AllByRecursion (λ (f : ComponentState × Bool). RunsFor platform f.0) fs

  run_grown : (all fs : Flagged) → FlagsFor fs → FlagsFor (grown all fs)
  run_grown all [] a = tt
  run_grown all (f ∷ fs) a = (a.0, run_grown all fs a.1)

  run_reaching : (n : ℕ) (fs : Flagged) → FlagsFor fs → FlagsFor (reaching n fs)
  run_reaching zero fs a = a
  run_reaching (suc n) fs a = run_reaching n (grown fs fs) (run_grown fs fs a)

  run_flagged : (test : ComponentState → Bool) (ps : List ComponentState) → AllRunFor platform ps → FlagsFor (flagged test ps)
  run_flagged test [] a = tt
  run_flagged test (p ∷ ps) a = (a.0, run_flagged test ps a.1)

  run_flagged_at : (k : ℕ) (ps : List ComponentState) → AllRunFor platform ps → FlagsFor (flagged_at k ps)
  run_flagged_at k [] a = tt
  run_flagged_at zero (p ∷ ps) a = (a.0, run_flagged (λ q. false) ps a.1)
  run_flagged_at (suc k) (p ∷ ps) a = (a.0, run_flagged_at k ps a.1)

  run_marked : (may : ComponentState → Bool) (fs : Flagged) → FlagsFor fs → AllRunFor platform (marked may fs)
  run_marked may [] a = tt
  run_marked may (f ∷ fs) a = (run_if (f.1 && may f.0) (record f.0 { stop = Some after.Restart }) f.0 a.0 a.0, run_marked may fs a.1)

  run_restarted : (may : ComponentState → Bool) (fs : Flagged) → FlagsFor fs → AllRunFor platform (restarted may fs)
  run_restarted may fs a = run_marked may (reaching (length fs) fs) (run_reaching (length fs) fs a)

  all_if : (b : Bool) (ps qs : List ComponentState) → AllRunFor platform ps → AllRunFor platform qs → AllRunFor platform (if b then ps else qs)
  all_if true ps qs a c = a
  all_if false ps qs a c = c

  run_lived_at : (k : ℕ) (e : LifeEvent) (w : Components) → AllRunFor platform w.parts → AllRunFor platform (lived_at k e w).parts
  run_lived_at k e w a =
      let qs : List ComponentState = changed_at k (lived w.steady e) w.parts in
      let c : AllRunFor platform qs = run_changed (lived w.steady e) (run_lived w.steady e) k w.parts a in
      all_if (drops_at k w e) (restarted may_restart (flagged_at k qs)) qs (run_restarted may_restart (flagged_at k qs) (run_flagged_at k qs c)) c

  run_gone : (k n : ℕ) (w : Components) → AllRunFor platform w.parts → AllRunFor platform (child_gone k n w).parts
  run_gone k n w a = run_changed (without_child n) (λ p h. h) k w.parts a

  world_if : (b : Bool) (v w : Components) → AllRunFor platform v.parts → AllRunFor platform w.parts → AllRunFor platform (if b then v else w).parts
  world_if true v w a c = a
  world_if false v w a c = c

  run_gone_by : (e : Option LifeEvent) (k : ℕ) (s : Step) (n : ℕ) (w : Components) → AllRunFor platform w.parts → AllRunFor platform (gone_by e k s n w).parts
  run_gone_by None k s n w a = run_gone k n w a
  run_gone_by (Some e) k s n w a =
      let g = run_gone k n w a in
      world_if (is_orphan_at k s w) (child_gone k n w) (lived_at k e (child_gone k n w)) g (run_lived_at k e (child_gone k n w) g)

  run_ended : (o : Option (ℕ × Step)) (n : ℕ) (x : Exit) (w : Components) → AllRunFor platform w.parts →
      (let v : Components = elim o [ None ↦ w | Some y ↦ gone_by (Some (event.Ended y.1 x)) y.0 y.1 n w ] in AllRunFor platform v.parts)
  run_ended None n x w a = a
  run_ended (Some y) n x w a = run_gone_by (Some (event.Ended y.1 x)) y.0 y.1 n w a

  run_killed : (o : Option (ℕ × Step)) (n : ℕ) (w : Components) → AllRunFor platform w.parts →
      (let v : Components = elim o [ None ↦ w | Some y ↦ gone_by (kill_event_at y.0 y.1 n w) y.0 y.1 n w ] in AllRunFor platform v.parts)
  run_killed None n w a = a
  run_killed (Some y) n w a = run_gone_by (kill_event_at y.0 y.1 n w) y.0 y.1 n w a

  run_handed : (b : Bool) (k : ℕ) (ps : List ComponentState) → AllRunFor platform ps → AllRunFor platform (changed_at k (λ p. record p { handed = b }) ps)
  run_handed b k ps a = run_changed (λ p. record p { handed = b }) (λ p h. h) k ps a

  run_launched : (s : Step) (k : ℕ) (w : Components) → AllRunFor platform w.parts → AllRunFor platform (launched s k w).parts
  run_launched step.Install k w a = a
  run_launched step.Run k w a = run_lived_at k event.Launched w a
  run_launched step.Startup k w a = a
  run_launched step.Shutdown k w a = a
  run_launched step.Recover k w a = a
  run_launched step.Bootstrap k w a = a

  pub run_noticed : (e : Event) (w : Components) → AllRunFor platform w.parts → AllRunFor platform (noticed e w).parts
  run_noticed (Started k s n) w a =
      run_launched s k (record w { parts = changed_at k (λ p. with_child n s w.moment (record p { handed = false })) w.parts })
      (run_changed (λ p. with_child n s w.moment (record p { handed = false })) (λ p h. h) k w.parts a)
  run_noticed (Refused k s) w a = run_lived_at k (event.Ended s exits.NotStarted) (answered_at k w) (run_handed false k w.parts a)
  run_noticed (Skipped k s) w a = run_lived_at k event.Skipped (answered_at k w) (run_handed false k w.parts a)
  run_noticed (Ended n x) w a = run_ended (owner n w.parts) n x w a
  run_noticed Passed w a = a

  run_quietly : (ms : List Move) (w v : Components) → MovesInOrder w ms v → AllRunFor platform w.parts → AllRunFor platform v.parts
  run_quietly [] w v q a = subst (λ (u : Components). AllRunFor platform u.parts) (sym q) a
  run_quietly (m ∷ ms) w v q a = run_quietly ms (lived_at m.who m.what w) v q.2 (run_lived_at m.who m.what w a)

  run_told : (k : ℕ) (w : Components) → AllRunFor platform w.parts → AllRunFor platform (heard_at k w).parts
  run_told k w a = run_changed (λ p. record p { owed = None }) (λ p h. h) k w.parts a

  run_hands : (w : Components) (act : Option Act) (v : Components) → HandsOut w act v → AllRunFor platform w.parts → AllRunFor platform v.parts
  run_hands w None v h a = subst (λ (u : Components). AllRunFor platform u.parts) (sym h.1) a
  run_hands w (Some (acts.Start k t)) v h a = subst (λ (u : Components). AllRunFor platform u.parts) (sym h.2) (run_handed true k w.parts a)
  run_hands w (Some (acts.Kill n)) v h a = subst (λ (u : Components). AllRunFor platform u.parts) (sym h.4) (run_killed (owner n w.parts) n w a)
  run_hands w (Some (acts.Failed k t e)) v h a = subst (λ (u : Components). AllRunFor platform u.parts) (sym h.1) (run_told k w a)
  run_hands w (Some (acts.Broke k t e)) v h a = subst (λ (u : Components). AllRunFor platform u.parts) (sym h.1) (run_told k w a)

  pub run_next : (w : Components) (act : Option Act) (v : Components) → NextAct w act v → AllRunFor platform w.parts → AllRunFor platform v.parts
  run_next w act v n a = run_hands n.seen act v n.hands (run_quietly n.made w n.seen n.quietly a)

  -- ---- all at once

  run_leaving_at : (b d : Bool) (p : ComponentState) → RunsFor platform p →
      RunsFor platform (if b then p else (if d then record p { stop = None; next = None } else record p { stop = Some after.Gone; next = None }))
  run_leaving_at true d p h = h
  run_leaving_at false true p h = (h.0, tt)
  run_leaving_at false false p h = (h.0, tt)

  run_leaving : (p : ComponentState) → RunsFor platform p → RunsFor platform (leaving p)
  run_leaving p h = run_leaving_at p.life.gone (is_gone (under_way p.life)) p h

  pub run_stopped : (w : Components) → AllRunFor platform w.parts → AllRunFor platform (all_stopped w).parts
  run_stopped w a = run_mapped leaving run_leaving w.parts a

  forgotten_next : (o : Option (Fitted × ℕ)) → IfSome o (λ n. IsFor platform n.0) → IfSome {T = Fitted × ℕ} (option_map (λ (n : Fitted × ℕ). (n.0, 0)) o)
      (λ n. IsFor platform n.0)
  forgotten_next None h = tt
  forgotten_next (Some n) h = h

  pub run_steadied : (w : Components) → AllRunFor platform w.parts → AllRunFor platform (steadied w).parts
  run_steadied w a = run_mapped forgetting (λ p h. (h.0, forgotten_next p.next h.1)) w.parts a

  -- ---- a change

  abbrev ComesFor : List Coming → Type 0
  ComesFor ns = AllByRecursion (λ (n : Coming). IsFor platform n.0) ns

  counted_for : (k : ℕ) (counts : List ℕ) (fs : List Fitted) → AllFor platform fs → ComesFor (counted k counts fs)
  counted_for k counts [] a = tt
  counted_for k counts (f ∷ fs) a = (a.0, counted_for (suc k) counts fs a.1)

  coming_at : (b : Bool) (n : Coming) (o : Option Coming) → IsFor platform n.0 → IfSome o (λ m. IsFor platform m.0) →
      IfSome {T = Coming} (cond b (Some n) o) (λ m. IsFor platform m.0)
  coming_at true n o h i = h
  coming_at false n o h i = i

  coming_for_it : (name : List ℕ) (ns : List Coming) → ComesFor ns → IfSome (coming_for name ns) (λ n. IsFor platform n.0)
  coming_for_it name [] a = tt
  coming_for_it name (n ∷ ns) a = coming_at (bytes_eq name n.0.item.name) n (coming_for name ns) a.0 (coming_for_it name ns a.1)

  run_texts : (b : Bool) (f : Fitted) (p : ComponentState) → IsFor platform f → RunsFor platform p → RunsFor platform (if b then record p { fitted = f } else p)
  run_texts true f p h i = (h, i.1)
  run_texts false f p h i = i

  run_replacing : (b : Bool) (n : Coming) (p : ComponentState) → IsFor platform n.0 → RunsFor platform p
      → RunsFor platform (if b then record p { life = record p.life { stop = Some after.Restart }; stop = Some after.Again; next = Some n } else record p
      { stop = Some after.Again; next = Some n })
  run_replacing true n p h i = (i.0, h)
  run_replacing false n p h i = (i.0, h)

  run_meeting : (n : Coming) (p : ComponentState) → IsFor platform n.0 → RunsFor platform p → RunsFor platform (meeting n p)
  run_meeting n p h i =
      let q : ComponentState = with_texts n.0 p in
      let t : RunsFor platform q = run_texts (is_same_item n.0.item p.fitted.item) n.0 p h i in
      run_if p.life.gone (coming_again n p) (if is_replaced n.0 p then replacing n q else staying n q) (h, tt)
      (run_if (is_replaced n.0 p) (replacing n q) (staying n q) (run_replacing (stops_for_good q.life) n q h t) t)

  run_fate_by : (p : ComponentState) (o : Option Coming) → IfSome o (λ n. IsFor platform n.0) → RunsFor platform p →
      RunsFor platform (elim o [ None ↦ leaving p | Some n ↦ meeting n p ])
  run_fate_by p None h i = run_leaving p i
  run_fate_by p (Some n) h i = run_meeting n p h i

  run_newcomers_at : (b : Bool) (n : Coming) (ms : List Coming) → IsFor platform n.0 → ComesFor ms → ComesFor (cond b (n ∷ ms) ms)
  run_newcomers_at true n ms h a = (h, a)
  run_newcomers_at false n ms h a = a

  run_newcomers : (ns : List Coming) (ps : List ComponentState) → ComesFor ns → ComesFor (filter (λ (n : Coming). not (is_held_by ps n)) ns)
  run_newcomers [] ps a = tt
  run_newcomers (n ∷ ns) ps a = run_newcomers_at (not (is_held_by ps n)) n (filter (λ (m : Coming). not (is_held_by ps m)) ns) a.0 (run_newcomers ns ps a.1)

  run_with : (ns : List Coming) (ps : List ComponentState) → ComesFor ns → AllRunFor platform ps → AllRunFor platform (with_newcomers (map fresh_part ns) ps)
  run_with [] ps h a = a
  run_with (n ∷ ns) ps h a = all_placed (RunsFor platform) (fresh_part n) (with_newcomers (map fresh_part ns) ps) (h.0, tt) (run_with ns ps h.1 a)

  run_items : (ns : List Coming) (ps : List ComponentState) → ComesFor ns → AllRunFor platform ps → AllRunFor platform (with_items ns ps)
  run_items ns ps h a =
      let met : AllRunFor platform (map (fate ns) ps) = run_mapped (fate ns)
      (λ p i. run_fate_by p (coming_for (component_name p) ns) (coming_for_it (component_name p) ns h) i) ps a in
      run_with (filter (λ (n : Coming). not (is_held_by ps n)) ns) (replanned (map (fate ns) ps)) (run_newcomers ns ps h)
      (run_restarted may_replan (flagged is_replacing (map (fate ns) ps)) (run_flagged is_replacing (map (fate ns) ps) met))

  pub run_change : (fs : List Fitted) (counts : List ℕ) (steady : Bool) (w : Components) → AllFor platform fs → AllRunFor platform w.parts →
      AllRunFor platform (changed_to fs counts steady w).parts
  run_change fs counts steady w h a = run_items (counted 0 counts fs) (standing w.parts) (counted_for 0 counts fs h) (all_standing (RunsFor platform) w.parts a)
