-- What one component has to do: its start, its children that are to be killed, and its stop.
use Rattle.std.proofs.Common.{◌≡◌, ℕ, List, [], ◌∷◌, Bool, true, false, Option, Some, None, refl, sym, ap, ◌∙◌, subst, arith, inl, inr}
use Rattle.std.specs.Prelude.{◌&&◌, ◌||◌, not, if◌then◌else◌, is_some, slice_get}
use Rattle.std.specs.List.{list_any, find}
use Rattle.std.proofs.lemmas.Bool.{or_parts, or_left, or_right, or_cases, and_parts, cases_Bool}
use Rattle.nuc_base.specs.declared.kinds.Step.{Step}
use Rattle.nuc_base.specs.declared.kinds.Step.TheVariants as step
use Rattle.lifecycle.specs.Life.{Life}
use Rattle.lifecycle.specs.Table.{table}
use Rattle.lifecycle.specs.Awaits.{is_awaited, is_same_step, is_busy_with, awaits}
use Rattle.lifecycle.specs.Laws.{has_step, is_kill}
use Rattle.lifecycle.specs.declared.kinds.StepSet.{StepSet}
use Rattle.lifecycle.specs.declared.kinds.After.{After}
use Rattle.lifecycle.specs.declared.kinds.LifeEvent.TheVariants as event
use Rattle.components.specs.Fitted.{Fitted, prepared_of, steps_of}
use Rattle.components.specs.Components.{ComponentState, Child, has_orphan, is_orphan, is_running}
use Rattle.components.specs.Deadlines.{has_passed}
use Rattle.components.specs.Turns.{is_begun, is_late, is_to_start, is_unstarted, may_retry}
use Rattle.components.specs.Rows.{is_stop_ready}
use Rattle.components.specs.Runs.{IsKeptPart}
use Rattle.components.specs.Acts.{HasStart, kills}
use Rattle.supervisor.specs.Deeds.{IsAmong, HasChild, IsFor, has_deed, kills_by}
use Rattle.supervisor.specs.declared.acting.Deed.{Deed}
use Rattle.supervisor.specs.declared.acting.Deed.TheVariants.{Moves, Kills}
use Rattle.components.specs.Whole.{IsWhole, keeps_run}

-- ---- its start

step_prepared : (f : Fitted) (t : Step) → has_step t (steps_of f) ≡ is_some (prepared_of f t)
step_prepared f step.Install = refl
step_prepared f step.Run = refl
step_prepared f step.Startup = refl
step_prepared f step.Shutdown = refl
step_prepared f step.Recover = refl
step_prepared f step.Bootstrap = refl

same_step : (t s : Step) → is_same_step t s ≡ true → t ≡ s
same_step t s e = grind (arith, e)

own_busy : (t : Step) (steps : StepSet) (o : Option Step) → is_busy_with t o ≡ true → (elim o [ None ↦ true | Some s ↦ has_step s steps ]) ≡ true →
    has_step t steps ≡ true
own_busy t steps None b h = absurd (cc)
own_busy t steps (Some s) b h = subst (λ (x : Step). has_step x steps ≡ true) (sym (same_step t s b)) h

pub start_of : (p : ComponentState) (t : Step) → IsKeptPart p → is_begun t p ≡ true → p.handed ≡ false → HasStart t p
start_of p t k b h =
    let x = and_parts (is_busy_with t p.life.busy) (not (list_any (λ (c : Child). is_same_step t c.of) p.children)) b in
    record {
      begun = b;
      new = h;
      prepared = sym (step_prepared p.fitted t) ∙ ap (has_step t) (sym k.steps) ∙ own_busy t p.life.steps p.life.busy x.0 k.own;
    }

-- ---- its children

found_at : (b : Bool) (test : Child → Bool) (d c : Child) (ds : List Child) → test d ≡ b → ◌≡◌ {A = Option Child} (if b then Some d else find test ds) (Some c)
    → (find test ds ≡ Some c → IsAmong c ds × (test c ≡ true)) → IsAmong c (d ∷ ds) × (test c ≡ true)
found_at true test d c ds t e f = let q : d ≡ c = cc in (inl (sym q), subst (λ (x : Child). test x ≡ true) q t)
found_at false test d c ds t e f = let x = f e in (inr x.0, x.1)

pub found : (test : Child → Bool) (cs : List Child) (c : Child) → find test cs ≡ Some c → IsAmong c cs × (test c ≡ true)
found test [] c e = absurd (cc)
found test (d ∷ ds) c e = found_at (test d) test d c ds refl e (found test ds c)

some_at : (b : Bool) (d : Child) (o : Option Child) (r : Bool) → is_some o ≡ r → is_some (if b then Some d else o) ≡ (b || r)
some_at true d o r e = refl
some_at false d o r e = e

pub found_some : (test : Child → Bool) (cs : List Child) → is_some (find test cs) ≡ list_any test cs
found_some test [] = refl
found_some test (d ∷ ds) = some_at (test d) d (find test ds) (list_any test ds) (found_some test ds)

-- one that passes a stronger test
pub has_found : (test other : Child → Bool) (p : ComponentState) (c : Child) → ((d : Child) → test d ≡ true → other d ≡ true) →
    find test p.children ≡ Some c → HasChild other c.number p
has_found test other p c f e = let x = found test p.children c e in record { child = c; here = x.0; number = refl; passes = f c x.1 }

any_either : (f g : Child → Bool) (cs : List Child) → list_any (λ (c : Child). f c || g c) cs ≡ (list_any f cs || list_any g cs)
any_either f g [] = refl
any_either f g (c ∷ cs) = ap (λ (b : Bool). (f c || g c) || b) (any_either f g cs) ∙ four (f c) (g c) (list_any f cs) (list_any g cs) where
  four : (a b x y : Bool) → ((a || b) || (x || y)) ≡ ((a || x) || (b || y))
  four true b x y = refl
  four false true true y = refl
  four false true false y = refl
  four false false x y = refl

-- one that is late, or that outlived the stop
pub overdue_some : (m : ℕ) (p : ComponentState) (o : Option Child) → o ≡ find (λ (c : Child). has_passed m c.deadline || is_orphan p.life c.of) p.children →
    is_some o ≡ (is_late m p || has_orphan p)
overdue_some m p o e =
    ap (λ (x : Option Child). is_some x) e ∙ found_some (λ (c : Child). has_passed m c.deadline || is_orphan p.life c.of) p.children
    ∙ any_either (λ (c : Child). has_passed m c.deadline) (λ (c : Child). is_orphan p.life c.of) p.children

pub overdue_child : (m : ℕ) (p : ComponentState) (c : Child) → Some c ≡ find (λ (d : Child). has_passed m d.deadline || is_orphan p.life d.of) p.children →
    HasChild (λ (d : Child). has_passed m d.deadline || is_orphan p.life d.of) c.number p
overdue_child m p c e =
    let t : Child → Bool = λ (d : Child). has_passed m d.deadline || is_orphan p.life d.of in
    has_found t t p c (λ d h. h) (sym e)

-- ---- its stop

pub kills_stop : (c : Life) (a : After) → is_awaited (event.Stop a) c ≡ true → (elim (table c (event.Stop a)) [ None ↦ false | Some r ↦ is_kill r.0 ])
    ≡ (not (is_running c.state && c.steps.shutdown) && (c.runs || is_some c.busy))
kills_stop c a h = grind (arith, h)

pub kills_is : (p : ComponentState) (a : After) → IsKeptPart p → is_awaited (event.Stop a) p.life ≡ true →
    kills (event.Stop a) p ≡ (not (is_running p.life.state && is_some p.fitted.shutdown) && (p.life.runs || is_some p.life.busy))
kills_is p a k h = kills_stop p.life a h ∙ ap (λ (s : StepSet). not (is_running p.life.state && s.shutdown) && (p.life.runs || is_some p.life.busy)) k.steps

pub spares_stop : (c : Life) (a : After) → is_awaited (event.Stop a) c ≡ true → (elim (table c (event.Stop a)) [ None ↦ false | Some r ↦ is_kill r.0 ]) ≡ false
    → (elim (table c (event.Stop a)) [ None ↦ false | Some r ↦ not (is_kill r.0) ]) ≡ true
spares_stop c a h e = grind (arith, h, e)

-- the parts of a stop that is ready
pub ready_parts : (p : ComponentState) (a : After) → p.stop ≡ Some a → is_stop_ready p ≡ true → (is_awaited (event.Stop a) p.life ≡ true) ×
    (is_unstarted p ≡ false)
ready_parts p a e h =
    let x : (is_awaited (event.Stop a) p.life && not (has_orphan p || is_unstarted p)) ≡ true
    = subst (λ (o : Option After). (elim o [ None ↦ false | Some b ↦ is_awaited (event.Stop b) p.life && not (has_orphan p || is_unstarted p) ]) ≡ true) e h in
    let y = and_parts (is_awaited (event.Stop a) p.life) (not (has_orphan p || is_unstarted p)) x in
    (y.0, (or_parts (has_orphan p) (is_unstarted p) (not_so (has_orphan p || is_unstarted p) y.1)).1) where
      not_so : (b : Bool) → not b ≡ true → b ≡ false
      not_so true q = absurd (cc)
      not_so false q = refl

stands_on : (p : ComponentState) (a : After) → is_awaited (event.Stop a) p.life ≡ true → p.life.gone ≡ false
stands_on p a h = stands_at p.life.gone (and_parts (not p.life.gone) (awaits (event.Stop a) p.life) h).0 where
  stands_at : (b : Bool) → not b ≡ true → b ≡ false
  stands_at true q = absurd (cc)
  stands_at false q = refl

no_one : (o : Option Step) → is_some o ≡ true → (elim o as (λ (x : Option Step). Bool) [
  | None ↦ false
  | Some s ↦ is_busy_with s o &&
      not (list_any (λ (c : Child). is_same_step s c.of) [])
]) ≡ false → ⊥
no_one None i e = absurd (cc)
no_one (Some step.Install) i e = absurd (cc)
no_one (Some step.Run) i e = absurd (cc)
no_one (Some step.Startup) i e = absurd (cc)
no_one (Some step.Shutdown) i e = absurd (cc)
no_one (Some step.Recover) i e = absurd (cc)
no_one (Some step.Bootstrap) i e = absurd (cc)

no_run : (r g : Bool) → r ≡ true → g ≡ false → (not r || (g || false)) ≡ true → ⊥
no_run true true e f h = absurd (cc)
no_run true false e f h = absurd (cc)
no_run false g e f h = absurd (cc)

-- a stop that kills has a child to kill
pub has_one : (p : ComponentState) (a : After) → IsWhole p → p.stop ≡ Some a → is_stop_ready p ≡ true → (p.life.runs || is_some p.life.busy) ≡ true →
    p.children ≡ [] → ⊥
has_one p a w e h k none =
    let x = ready_parts p a e h in
    let u = subst (λ (cs : List Child). (elim p.life.busy [
      | None ↦ false
      | Some s ↦ is_busy_with s p.life.busy &&
          not (list_any (λ (c : Child). is_same_step s c.of) cs)
    ]) ≡ false) none x.1 in
    let r = subst (λ (cs : List Child). keeps_run p.life cs ≡ true) none w.run in
    elim (cases_Bool p.life.runs) [
      | inl y ↦ no_run p.life.runs p.life.gone y (stands_on p a x.0) r
      | inr y ↦ no_one p.life.busy (subst (λ (b : Bool). (b || is_some p.life.busy) ≡ true) y k) u
    ]

first_here : (cs : List Child) (c : Child) → Some c ≡ slice_get cs 0 → IsAmong c cs
first_here [] c e = absurd (cc)
first_here (d ∷ ds) c e = let q : c ≡ d = cc in inl q

none_here : (cs : List Child) → None ≡ slice_get cs 0 → cs ≡ []
none_here [] e = refl
none_here (c ∷ cs) e = absurd (cc)

pub stop_awaits : (p : ComponentState) (a : After) → p.stop ≡ Some a → is_stop_ready p ≡ true → is_awaited (event.Stop a) p.life ≡ true
stop_awaits p a e r = (ready_parts p a e r).0

pub stop_moves : (p : ComponentState) (a : After) → p.stop ≡ Some a → is_stop_ready p ≡ true → kills (event.Stop a) p ≡ false → (m : ℕ) (b : Bool) →
    IsFor m b (Some a) p (Moves (event.Stop a))
stop_moves p a e r k m b = (refl, spares_stop p.life a (stop_awaits p a e r) k)

pub stop_first : (p : ComponentState) (a : After) (c : Child) → kills (event.Stop a) p ≡ true → Some c ≡ slice_get p.children 0 → (m : ℕ) (b : Bool) →
    IsFor m b (Some a) p (Kills c.number)
stop_first p a c k e m b = record {
  child = c;
  here = first_here p.children c e;
  number = refl;
  passes = or_right (has_passed m c.deadline) (is_orphan p.life c.of || kills (event.Stop a) p) (or_right (is_orphan p.life c.of) (kills (event.Stop a) p) k);
}

pub stop_none : (p : ComponentState) (a : After) → IsWhole p → p.stop ≡ Some a → is_stop_ready p ≡ true → kills (event.Stop a) p ≡ true →
    None ≡ slice_get p.children 0 → ⊥
stop_none p a w e r k n =
    let x = and_parts (not (is_running p.life.state && p.life.steps.shutdown)) (p.life.runs || is_some p.life.busy)
    (sym (kills_stop p.life a (stop_awaits p a e r)) ∙ k) in
    has_one p a w e r x.1 (none_here p.children n)

-- ---- all of it

pub deed_begins : (m : ℕ) (b : Bool) (st : Option After) (p : ComponentState) → b ≡ true → true ≡ has_deed m b st p
deed_begins m b st p e = sym (or_left (b || may_retry p) (is_late m p || (is_some st || (has_orphan p || is_to_start p))) (or_left b (may_retry p) e))

pub deed_retries : (m : ℕ) (b : Bool) (st : Option After) (p : ComponentState) → may_retry p ≡ true → true ≡ has_deed m b st p
deed_retries m b st p e = sym (or_left (b || may_retry p) (is_late m p || (is_some st || (has_orphan p || is_to_start p))) (or_right b (may_retry p) e))

pub deed_overdue : (m : ℕ) (b : Bool) (st : Option After) (p : ComponentState) → true ≡ (is_late m p || has_orphan p) → true ≡ has_deed m b st p
deed_overdue m b st p e = sym (or_right (b || may_retry p) (is_late m p || (is_some st || (has_orphan p || is_to_start p)))
    (elim (or_cases (is_late m p) (has_orphan p) (sym e)) [
      | inl x ↦ or_left (is_late m p) (is_some st || (has_orphan p || is_to_start p)) x
      | inr x ↦ or_right (is_late m p) (is_some st || (has_orphan p || is_to_start p))
          (or_right (is_some st) (has_orphan p || is_to_start p) (or_left (has_orphan p) (is_to_start p) x))
    ]))

pub deed_stops : (m : ℕ) (b : Bool) (st : Option After) (p : ComponentState) → is_some st ≡ true → true ≡ has_deed m b st p
deed_stops m b st p e = sym (or_right (b || may_retry p) (is_late m p || (is_some st || (has_orphan p || is_to_start p)))
    (or_right (is_late m p) (is_some st || (has_orphan p || is_to_start p)) (or_left (is_some st) (has_orphan p || is_to_start p) e)))

last_of : (b r l s o t : Bool) → b ≡ false → r ≡ false → l ≡ false → s ≡ false → o ≡ false → t ≡ ((b || r) || (l || (s || (o || t))))
last_of true r l s o t e f g h i = absurd (cc)
last_of false true l s o t e f g h i = absurd (cc)
last_of false false true s o t e f g h i = absurd (cc)
last_of false false false true o t e f g h i = absurd (cc)
last_of false false false false true t e f g h i = absurd (cc)
last_of false false false false false t e f g h i = refl

pub deed_starts : (m : ℕ) (b : Bool) (st : Option After) (p : ComponentState) (x : Bool) → b ≡ false → may_retry p ≡ false →
    false ≡ (is_late m p || has_orphan p) → is_some st ≡ false → x ≡ is_to_start p → x ≡ has_deed m b st p
deed_starts m b st p x e f g h i =
    let y = or_parts (is_late m p) (has_orphan p) (sym g) in
    i ∙ last_of b (may_retry p) (is_late m p) (is_some st) (has_orphan p) (is_to_start p) e f y.0 h y.1

pub overdue_due : (m : ℕ) (b : Bool) (st : Option After) (p : ComponentState) (n : ℕ) →
    HasChild (λ (c : Child). has_passed m c.deadline || is_orphan p.life c.of) n p → IsFor m b st p (Kills n)
overdue_due m b st p n h =
    let c : Child = h.child in
    record {
      child = c;
      here = h.here;
      number = h.number;
      passes = elim (or_cases (has_passed m c.deadline) (is_orphan p.life c.of) h.passes) [
        | inl x ↦ or_left (has_passed m c.deadline) (is_orphan p.life c.of || kills_by st p) x
        | inr x ↦ or_right (has_passed m c.deadline) (is_orphan p.life c.of || kills_by st p) (or_left (is_orphan p.life c.of) (kills_by st p) x)
      ];
    }

pub stop_given : (m : ℕ) (b : Bool) (st : Option After) (p : ComponentState) (a : After) (d : Deed) → st ≡ Some a → IsFor m b (Some a) p d → IsFor m b st p d
stop_given m b st p a d e h = subst (λ (o : Option After). IsFor m b o p d) (sym e) h
