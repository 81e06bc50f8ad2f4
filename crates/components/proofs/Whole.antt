-- The run child of a component lives on, whatever befalls the component.
use Rattle.std.proofs.Common.{◌≡◌, ◌==◌, ℕ, suc, zero, List, [], ◌∷◌, ◌++◌, length, Bool, true, false, Option, Some, None, refl, sym, ap, ◌∙◌, subst, map}
use Rattle.std.proofs.Common.{filter, ◌⊎◌, inl, inr}
use Rattle.std.specs.Prelude.{◌&&◌, ◌||◌, not, if◌then◌else◌, IfSome, IsSomeAnd, slice_get}
use Rattle.std.specs.List.{list_any, AllByRecursion}
use Rattle.std.proofs.lemmas.Bool.{or_parts, or_left, or_right, or_cases, eqb-true}
use Rattle.nuc_base.specs.declared.kinds.Step.TheVariants as step
use Rattle.nuc_base.specs.declared.kinds.Exit.{Exit}
use Rattle.lifecycle.specs.Life.{Life, may_run}
use Rattle.lifecycle.specs.Table.{table}
use Rattle.lifecycle.specs.Awaits.{is_same_step}
use Rattle.lifecycle.specs.declared.kinds.After.TheVariants as after_stop
use Rattle.lifecycle.specs.declared.kinds.LifeAct.{LifeAct}
use Rattle.lifecycle.specs.declared.kinds.LifeEvent.{LifeEvent}
use Rattle.lifecycle.specs.declared.kinds.LifeEvent.TheVariants as event
use Rattle.components.specs.Fitted.{Fitted, steps_of}
use Rattle.components.specs.Components.{Components, ComponentState, Child, changed_at, is_again, child_of}
use Rattle.components.specs.Marks.{Flagged, flagged, flagged_at, grown, reaching, marked, restarted, may_restart}
use Rattle.components.specs.Lives.{lived, lived_at, drops_at, replaced}
use Rattle.components.specs.Rows.{succeeds_from, completed_from}
use Rattle.components.specs.Answers.{child_numbers, living_numbers}
use Rattle.components.specs.Readied.{AreApart}
use Rattle.components.specs.Whole.{has_run_child, keeps_run, IsWhole, AreWhole}
use Rattle.components.proofs.Lived.{lived_row, lived_none, settled_part}
use Rattle.components.proofs.Tables.{is_launch, after, may_row, runs_row, run_ends_row, run_ends_none}

-- ---- one component after an event

-- all but its failures and its steps is as the row has it
pub record Follows (d : Life) (p q : ComponentState) : Type 0 where
  pub state : q.life.state ≡ d.state
  pub busy : q.life.busy ≡ d.busy
  pub runs : q.life.runs ≡ d.runs
  pub gone : q.life.gone ≡ d.gone
  pub children : q.children ≡ p.children

settled_follows : (b : Bool) (e : LifeEvent) (a : LifeAct) (d : Life) (p : ComponentState) → Follows d p (settled_part b e a d p)
settled_follows true e a d p = record { state = refl; busy = refl; runs = refl; gone = refl; children = refl }
settled_follows false e a d p = record { state = refl; busy = refl; runs = refl; gone = refl; children = refl }

replaced_follows : (d : Life) (p q : ComponentState) (o : Option (Fitted × ℕ)) → Follows d p q
    → Follows d p (elim o [ None ↦ q | Some n ↦ record q { fitted = n.0; life = record q.life { steps = steps_of n.0; failures = n.1 }; next = None } ])
replaced_follows d p q None f = f
replaced_follows d p q (Some x) f = record { state = f.state; busy = f.busy; runs = f.runs; gone = f.gone; children = f.children }

if_follows : (b : Bool) (d : Life) (p q r : ComponentState) → Follows d p q → Follows d p r → Follows d p (if b then q else r)
if_follows true d p q r f g = f
if_follows false d p q r f g = g

pub lived_follows : (b : Bool) (e : LifeEvent) (p : ComponentState) (a : LifeAct) (d : Life) → table p.life e ≡ Some (a, d) → Follows d p (lived b e p)
lived_follows b e p a d t =
    let s : Bool = b && succeeds_from p.life.state p.life.busy d.state in
    let q : ComponentState = settled_part s e a d p in
    let f = settled_follows s e a d p in
    subst (Follows d p) (sym (lived_row b e p a d t))
    (if_follows (is_again (completed_from e p.life.state p.life.stop d.state)) d p (replaced q) q (replaced_follows d p q q.next f) f)

lived_as : (b : Bool) (e : LifeEvent) (p : ComponentState) (o : Option (LifeAct × Life)) → table p.life e ≡ o →
    Follows (elim o [ None ↦ p.life | Some r ↦ r.1 ]) p (lived b e p)
lived_as b e p None t = subst (Follows p.life p) (sym (lived_none b e p t)) (record { state = refl; busy = refl; runs = refl; gone = refl; children = refl })
lived_as b e p (Some r) t = lived_follows b e p r.0 r.1 t

after_may : (c : Life) (o : Option (LifeAct × Life)) → may_run c.state c.runs ≡ true → IfSome o (λ r. may_run r.1.state r.1.runs ≡ true)
    → (let d : Life = elim o [ None ↦ c | Some r ↦ r.1 ] in may_run d.state d.runs ≡ true)
after_may c None h i = h
after_may c (Some r) h i = i

-- it is whole after an event, where its run child lives on
pub lived_whole : (b : Bool) (e : LifeEvent) (p : ComponentState) → may_run p.life.state p.life.runs ≡ true → keeps_run (after e p.life) p.children ≡ true →
    IsWhole (lived b e p)
lived_whole b e p may run =
    let f = lived_as b e p (table p.life e) refl in
    let m = after_may p.life (table p.life e) may (may_row p.life e may) in
    record { may = rw (f.state, f.runs) m; run = rw (f.runs, f.gone, f.children) run }

-- ---- its run child

keeps_of : (r g h : Bool) → (r ≡ true → (g ≡ true) ⊎ (h ≡ true)) → (not r || (g || h)) ≡ true
keeps_of false g h f = refl
keeps_of true g h f = elim (f refl) [ inl x ↦ or_left g h x | inr x ↦ or_right g h x ]

keeps_to : (r g h : Bool) → (not r || (g || h)) ≡ true → r ≡ true → (g ≡ true) ⊎ (h ≡ true)
keeps_to false g h e q = absurd (cc)
keeps_to true g h e q = or_cases g h e

pub keeps_from : (c : Life) (cs : List Child) → (c.runs ≡ true → (c.gone ≡ true) ⊎ (has_run_child cs ≡ true)) → keeps_run c cs ≡ true
keeps_from c cs f = keeps_of c.runs c.gone (has_run_child cs) f

pub keeps_gives : (c : Life) (cs : List Child) → keeps_run c cs ≡ true → c.runs ≡ true → (c.gone ≡ true) ⊎ (has_run_child cs ≡ true)
keeps_gives c cs e q = keeps_to c.runs c.gone (has_run_child cs) e q

-- an event that is no launch leaves the run child where it was
after_keeps : (c : Life) (cs ds : List Child) (o : Option (LifeAct × Life)) → IfSome o (λ r. (r.1.runs ≡ true → c.runs ≡ true) × (c.gone ≡ false)) →
    keeps_run c cs ≡ true → (has_run_child cs ≡ true → has_run_child ds ≡ true)
    → keeps_run (elim o [ None ↦ c | Some r ↦ r.1 ]) ds ≡ true
after_keeps c cs ds None i h f = keeps_from c ds (λ q. elim (keeps_gives c cs h q) [ inl g ↦ inl g | inr x ↦ inr (f x) ])
after_keeps c cs ds (Some r) i h f = keeps_from r.1 ds (λ q. elim (keeps_gives c cs h (i.0 q)) [ inl g ↦ absurd (let n = i.1 in cc) | inr x ↦ inr (f x) ])

pub other_keeps : (e : LifeEvent) (c : Life) (cs ds : List Child) → is_launch e ≡ false → keeps_run c cs ≡ true →
    (has_run_child cs ≡ true → has_run_child ds ≡ true) → keeps_run (after e c) ds ≡ true
other_keeps e c cs ds l h f = after_keeps c cs ds (table c e) (runs_row c e l) h f

pub launch_keeps : (c : Life) (cs : List Child) → has_run_child cs ≡ true → keeps_run c cs ≡ true
launch_keeps c cs h = keeps_from c cs (λ q. inr h)

run_end_at : (c : Life) (x : Exit) (cs : List Child) (o : Option (LifeAct × Life)) → table c (event.Ended step.Run x) ≡ o → may_run c.state c.runs ≡ true →
    IfSome o (λ r. r.1.runs ≡ false)
    → keeps_run (elim o [ None ↦ c | Some r ↦ r.1 ]) cs ≡ true
run_end_at c x cs None t m i = keeps_from c cs (λ q. inl (run_ends_none c x m t q))
run_end_at c x cs (Some r) t m i = keeps_from r.1 cs (λ q. absurd (cc))

-- once it ended there is none to keep
pub run_end_keeps : (c : Life) (x : Exit) (cs : List Child) → may_run c.state c.runs ≡ true → keeps_run (after (event.Ended step.Run x) c) cs ≡ true
run_end_keeps c x cs m = run_end_at c x cs (table c (event.Ended step.Run x)) refl m (run_ends_row c x)

-- ---- a child of another step is gone

none_removed : (n : ℕ) (cs : List Child) → list_any (λ m. m == n) (child_numbers cs) ≡ false → filter (λ (c : Child). not (c.number == n)) cs ≡ cs
none_removed n [] e = refl
none_removed n (c ∷ cs) e =
    let x = or_parts (c.number == n) (list_any (λ m. m == n) (child_numbers cs)) e in
    rw x.0 (ap (λ (ds : List Child). c ∷ ds) (none_removed n cs x.1))

other_removed_at : (b : Bool) (n : ℕ) (c : Child) (cs : List Child) → (c.number == n) ≡ b → AreApart (child_numbers (c ∷ cs))
    → IsSomeAnd (if b then Some c else child_of n cs) (λ d. is_same_step step.Run d.of ≡ false) → has_run_child (c ∷ cs) ≡ true
    → (AreApart (child_numbers cs) → IsSomeAnd (child_of n cs) (λ d. is_same_step step.Run d.of ≡ false) → has_run_child cs ≡ true →
    has_run_child (filter (λ (d : Child). not (d.number == n)) cs) ≡ true)
    → has_run_child (if not b then c ∷ filter (λ (d : Child). not (d.number == n)) cs else filter (λ (d : Child). not (d.number == n)) cs) ≡ true
other_removed_at true n c cs e a h r f =
    let q : c.number ≡ n = eqb-true c.number n e in
    let o : list_any (λ m. m == n) (child_numbers cs) ≡ false = subst (λ y. list_any (λ m. m == y) (child_numbers cs) ≡ false) q a.0 in
    subst (λ (ds : List Child). has_run_child ds ≡ true) (sym (none_removed n cs o)) (subst (λ (b : Bool). (b || has_run_child cs) ≡ true) h r)
other_removed_at false n c cs e a h r f = elim (or_cases (is_same_step step.Run c.of) (has_run_child cs) r) [
  | inl y ↦ or_left (is_same_step step.Run c.of) (has_run_child (filter (λ (d : Child). not (d.number == n)) cs)) y
  | inr y ↦ or_right (is_same_step step.Run c.of) (has_run_child (filter (λ (d : Child). not (d.number == n)) cs)) (f a.1 h y)
]

pub other_removed : (n : ℕ) (cs : List Child) → AreApart (child_numbers cs) → IsSomeAnd (child_of n cs) (λ d. is_same_step step.Run d.of ≡ false) →
    has_run_child cs ≡ true
    → has_run_child (filter (λ (c : Child). not (c.number == n)) cs) ≡ true
other_removed n [] a h r = absurd h
other_removed n (c ∷ cs) a h r = other_removed_at (c.number == n) n c cs refl a h r (other_removed n cs)

pub apart_last : (xs ys : List ℕ) → AreApart (xs ++ ys) → AreApart ys
apart_last [] ys a = a
apart_last (x ∷ xs) ys a = apart_last xs ys a.1

among_first : (n : ℕ) (xs ys : List ℕ) → list_any (λ m. m == n) (xs ++ ys) ≡ false → list_any (λ m. m == n) xs ≡ false
among_first n [] ys e = refl
among_first n (x ∷ xs) ys e = let o = or_parts (x == n) (list_any (λ m. m == n) (xs ++ ys)) e in rw o.0 (among_first n xs ys o.1)

pub apart_first : (xs ys : List ℕ) → AreApart (xs ++ ys) → AreApart xs
apart_first [] ys a = tt
apart_first (x ∷ xs) ys a = (among_first x xs ys a.0, apart_first xs ys a.1)

-- the children of one component are apart
pub apart_at : (k : ℕ) (ps : List ComponentState) (p : ComponentState) → AreApart (living_numbers ps) → slice_get ps k ≡ Some p →
    AreApart (child_numbers p.children)
apart_at k [] p a e = absurd (cc)
apart_at zero (q ∷ ps) p a e = let r : q ≡ p = cc in subst (λ (x : ComponentState). AreApart (child_numbers x.children)) r
    (apart_first (child_numbers q.children) (living_numbers ps) a)
apart_at (suc k) (q ∷ ps) p a e = apart_at k ps p (apart_last (child_numbers q.children) (living_numbers ps) a) e

-- ---- all components

pub each_at : (P : ComponentState → Type 0) (k : ℕ) (ps : List ComponentState) (p : ComponentState) → AllByRecursion P ps → slice_get ps k ≡ Some p → P p
each_at P k [] p a e = absurd (cc)
each_at P zero (q ∷ ps) p a e = let r : q ≡ p = cc in subst P r a.0
each_at P (suc k) (q ∷ ps) p a e = each_at P k ps p a.1 e

-- one changes and is whole
pub changed_whole : (f : ComponentState → ComponentState) (k : ℕ) (ps : List ComponentState) → AreWhole ps →
    ((p : ComponentState) → slice_get ps k ≡ Some p → IsWhole p → IsWhole (f p)) → AreWhole (changed_at k f ps)
changed_whole f k [] a g = tt
changed_whole f zero (p ∷ ps) a g = (g p refl a.0, a.1)
changed_whole f (suc k) (p ∷ ps) a g = (a.0, changed_whole f k ps a.1 g)

pub mapped_whole : (f : ComponentState → ComponentState) → ((p : ComponentState) → IsWhole p → IsWhole (f p)) → (ps : List ComponentState) → AreWhole ps →
    AreWhole (map f ps)
mapped_whole f g [] a = tt
mapped_whole f g (p ∷ ps) a = (g p a.0, mapped_whole f g ps a.1)

pub twice : (k : ℕ) (f g : ComponentState → ComponentState) (ps : List ComponentState) → changed_at k f (changed_at k g ps) ≡ changed_at k (λ p. f (g p)) ps
twice k f g [] = refl
twice zero f g (p ∷ ps) = refl
twice (suc k) f g (p ∷ ps) = ap (λ (qs : List ComponentState). p ∷ qs) (twice k f g ps)

-- ---- with the marks of an error

abbrev pub firsts : Flagged → List ComponentState
firsts [] = []
firsts (f ∷ fs) = f.0 ∷ firsts fs

firsts_grown : (all fs : Flagged) → firsts (grown all fs) ≡ firsts fs
firsts_grown all [] = refl
firsts_grown all (f ∷ fs) = ap (λ (ps : List ComponentState). f.0 ∷ ps) (firsts_grown all fs)

pub firsts_reaching : (n : ℕ) (fs : Flagged) → firsts (reaching n fs) ≡ firsts fs
firsts_reaching zero fs = refl
firsts_reaching (suc n) fs = firsts_reaching n (grown fs fs) ∙ firsts_grown fs fs

pub firsts_flagged : (test : ComponentState → Bool) (ps : List ComponentState) → firsts (flagged test ps) ≡ ps
firsts_flagged test [] = refl
firsts_flagged test (p ∷ ps) = ap (λ (qs : List ComponentState). p ∷ qs) (firsts_flagged test ps)

pub firsts_at : (k : ℕ) (ps : List ComponentState) → firsts (flagged_at k ps) ≡ ps
firsts_at k [] = refl
firsts_at zero (p ∷ ps) = ap (λ (qs : List ComponentState). p ∷ qs) (firsts_flagged (λ q. false) ps)
firsts_at (suc k) (p ∷ ps) = ap (λ (qs : List ComponentState). p ∷ qs) (firsts_at k ps)

mark_one : (b : Bool) (p : ComponentState) → IsWhole p → IsWhole (if b then record p { stop = Some after_stop.Restart } else p)
mark_one true p h = record { may = h.may; run = h.run }
mark_one false p h = h

marked_each : (may : ComponentState → Bool) (fs : Flagged) → AreWhole (firsts fs) → AreWhole (marked may fs)
marked_each may [] a = tt
marked_each may (f ∷ fs) a = (mark_one (f.1 && may f.0) f.0 a.0, marked_each may fs a.1)

marked_whole : (k : ℕ) (ps : List ComponentState) → AreWhole ps → AreWhole (restarted may_restart (flagged_at k ps))
marked_whole k ps a =
    let fs : Flagged = flagged_at k ps in
    let gs : Flagged = reaching (length fs) fs in
    let e : firsts gs ≡ ps = firsts_reaching (length fs) fs ∙ firsts_at k ps in
    marked_each may_restart gs (subst AreWhole (sym e) a)

-- those that reach one that passes the test
pub flagged_whole : (may test : ComponentState → Bool) (ps : List ComponentState) → AreWhole ps → AreWhole (restarted may (flagged test ps))
flagged_whole may test ps a =
    let fs : Flagged = flagged test ps in
    let gs : Flagged = reaching (length fs) fs in
    let e : firsts gs ≡ ps = firsts_reaching (length fs) fs ∙ firsts_flagged test ps in
    marked_each may gs (subst AreWhole (sym e) a)

if_whole : (b : Bool) (ps qs : List ComponentState) → AreWhole ps → AreWhole qs → AreWhole (if b then ps else qs)
if_whole true ps qs a c = a
if_whole false ps qs a c = c

-- an event of one, perhaps after it changed
pub lived_at_whole : (k : ℕ) (e : LifeEvent) (f : ComponentState → ComponentState) (w : Components) → AreWhole w.parts
    → ((p : ComponentState) → slice_get w.parts k ≡ Some p → IsWhole p → IsWhole (lived w.steady e (f p)))
    → AreWhole (lived_at k e (record w { parts = changed_at k f w.parts })).parts
lived_at_whole k e f w a g =
    let v : Components = record w { parts = changed_at k f w.parts } in
    let x : AreWhole (changed_at k (lived w.steady e) (changed_at k f w.parts)) = subst AreWhole (sym (twice k (lived w.steady e) f w.parts))
    (changed_whole (λ p. lived w.steady e (f p)) k w.parts a g) in
    if_whole (drops_at k v e) (restarted may_restart (flagged_at k (changed_at k (lived w.steady e) (changed_at k f w.parts))))
    (changed_at k (lived w.steady e) (changed_at k f w.parts)) (marked_whole k (changed_at k (lived w.steady e) (changed_at k f w.parts)) x) x

pub same_changed : (k : ℕ) (ps : List ComponentState) → changed_at k (λ p. p) ps ≡ ps
same_changed k [] = refl
same_changed zero (p ∷ ps) = refl
same_changed (suc k) (p ∷ ps) = ap (λ (qs : List ComponentState). p ∷ qs) (same_changed k ps)

-- an event of one as it is, which is no launch
pub plain_whole : (k : ℕ) (e : LifeEvent) (w : Components) → is_launch e ≡ false → AreWhole w.parts → AreWhole (lived_at k e w).parts
plain_whole k e w l a =
    subst (λ (ps : List ComponentState). AreWhole (lived_at k e (record w { parts = ps })).parts) (same_changed k w.parts)
    (lived_at_whole k e (λ p. p) w a (λ p i h. lived_whole w.steady e p h.may (other_keeps e p.life p.children p.children l h.run (λ x. x))))
