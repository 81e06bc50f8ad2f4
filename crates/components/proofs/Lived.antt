-- A component after an event, from what is held of its parts.
use Rattle.std.proofs.Common.{◌≡◌, ◌<◌, ℕ, Bool, true, false, Option, Some, None, refl, sym, ap, ◌∙◌, subst, arith, MatchOption}
use Rattle.std.specs.Prelude.{◌&&◌, not, if◌then◌else◌, IfSome, IsSome, IsTrue, ◌↔◌}
use Rattle.nuc_base.specs.declared.kinds.Step.{Step}
use Rattle.nuc_base.specs.declared.kinds.Exit.{Exit}
use Rattle.lifecycle.specs.Life.{Life, IsSound, begun}
use Rattle.lifecycle.specs.Table.{table}
use Rattle.lifecycle.specs.declared.kinds.After.{After}
use Rattle.lifecycle.specs.declared.kinds.State.{State}
use Rattle.lifecycle.specs.declared.kinds.LifeEvent.{LifeEvent}
use Rattle.lifecycle.specs.declared.kinds.LifeEvent.TheVariants as event
use Rattle.lifecycle.specs.declared.kinds.LifeAct.{LifeAct}
use Rattle.lifecycle.specs.declared.kinds.LifeAct.TheVariants as act
use Rattle.components.specs.Fitted.{Fitted, steps_of}
use Rattle.components.specs.Components.{ComponentState, is_again, is_spared}
use Rattle.components.specs.Lives.{lived, after_row, with_failures_forgotten, with_failure_owed, with_stop_given, with_new_item, completed, replaced}
use Rattle.components.specs.Rows.{succeeds_from, owed_after, stop_after, is_spared_by, completed_from, ItemAfterStop}
use Rattle.components.specs.Runs.{is_own, IsKeptPart}

pub and_not : (a b : Bool) → (a && not b) ≡ true → b ≡ false
and_not true true e = absurd (cc)
and_not true false e = refl
and_not false b e = absurd (cc)

-- ---- rows of the table

none_of : (o : Option (LifeAct × Life)) → (IsSome o → ⊥) → o ≡ None
none_of None h = refl
none_of (Some r) h = absurd (h refl)

pub no_row : (c : Life) (e : LifeEvent) (b : Bool) → b ≡ false → (IsTrue b ↔ IsSome (table c e)) → table c e ≡ None
no_row c e b f h = none_of (table c e) (λ s. let t : b ≡ true = h.1 s in cc)

pub table_own : (c : Life) (e : LifeEvent) → IsSound c → IfSome (table c e) (λ r. (is_own c ≡ true → is_own r.1 ≡ true) × (r.1.steps ≡ c.steps))
table_own c e sound = grind (arith, sound)

pub table_again : (c : Life) (e : LifeEvent) → IsSound c → IfSome (table c e) (λ r. is_again (completed e c r.1) ≡ true → r.1 ≡ begun r.1.steps 0)
table_again c e sound = grind (arith, sound)

-- ---- the parts, one after another

forget_at : (b : Bool) (d : Life) (p : ComponentState) → (if b then record (after_row d p) { life = record d { failures = 0 } } else after_row d p)
    ≡ record p { life = if b then record d { failures = 0 } else d }
forget_at true d p = refl
forget_at false d p = refl

owed_at : (b : Bool) (p : ComponentState) (x : Option (Step × Exit)) → (if b then p else record p { owed = x }) ≡ record p { owed = if b then p.owed else x }
owed_at true p x = refl
owed_at false p x = refl

owing : (a : LifeAct) (p : ComponentState) → with_failure_owed a p ≡ record p { owed = owed_after a (is_spared p) p.owed }
owing act.Nothing p = refl
owing (act.Begin s) p = refl
owing act.Kill p = refl
owing (act.Failed s e) p = owed_at (is_spared p) p (Some (s, e))
owing (act.Broke s e) p = owed_at (is_spared p) p (Some (s, e))

giving : (e : LifeEvent) (p : ComponentState) → with_stop_given e p ≡ record p { stop = stop_after e p.stop }
giving event.MayBegin p = refl
giving event.Launched p = refl
giving event.Skipped p = refl
giving (event.Ended s x) p = refl
giving (event.Stop a) p = refl
giving event.Retry p = refl

state_kept : (b : Bool) (d : Life) → (if b then record d { failures = 0 } else d).state ≡ d.state
state_kept true d = refl
state_kept false d = refl

-- the component before it takes another item
abbrev pub settled_part : Bool → LifeEvent → LifeAct → Life → ComponentState → ComponentState
settled_part b e a d p =
    let l : Life = if b then record d { failures = 0 } else d in
    record p { life = l; owed = owed_after a (is_spared_by p.stop l) p.owed; stop = stop_after e p.stop }

pub lived_row : (steady : Bool) (e : LifeEvent) (p : ComponentState) (a : LifeAct) (d : Life) → table p.life e ≡ Some (a, d)
    → lived steady e p
    ≡ (let q = settled_part (steady && succeeds_from p.life.state p.life.busy d.state) e a d p in if is_again
    (completed_from e p.life.state p.life.stop d.state) then replaced q else q)
lived_row steady e p a d t =
    let b : Bool = steady && succeeds_from p.life.state p.life.busy d.state in
    let l : Life = if b then record d { failures = 0 } else d in
    let p1 : ComponentState = record p { life = l } in
    let p2 : ComponentState = record p1 { owed = owed_after a (is_spared p1) p1.owed } in
    let p3 : ComponentState = record p2 { stop = stop_after e p2.stop } in
    ap (λ (o : Option (LifeAct × Life)). elim o [
      | None ↦ p
      | Some r ↦ with_new_item e p.life
          (with_stop_given e (with_failure_owed r.0 (with_failures_forgotten steady p.life (after_row r.1 p))))
    ]) t
    ∙ ap (λ (q : ComponentState). with_new_item e p.life (with_stop_given e (with_failure_owed a q))) (forget_at b d p)
    ∙ ap (λ (q : ComponentState). with_new_item e p.life (with_stop_given e q)) (owing a p1)
    ∙ ap (λ (q : ComponentState). with_new_item e p.life q) (giving e p2)
    ∙ ap (λ (s : State). if is_again (completed_from e p.life.state p.life.stop s) then replaced p3 else p3) (state_kept b d)

pub lived_none : (steady : Bool) (e : LifeEvent) (p : ComponentState) → table p.life e ≡ None → lived steady e p ≡ p
lived_none steady e p t =
    ap (λ (o : Option (LifeAct × Life)). elim o [
      | None ↦ p
      | Some r ↦ with_new_item e p.life
          (with_stop_given e (with_failure_owed r.0 (with_failures_forgotten steady p.life (after_row r.1 p))))
    ]) t

replaced_by : (q : ComponentState) (o : Option (Fitted × ℕ)) (f : Fitted) (l : Life) → q.life ≡ begun q.life.steps 0 →
    MatchOption o ((f ≡ q.fitted) × (l ≡ q.life)) (λ n. (f ≡ n.0) × (l ≡ begun (steps_of n.0) n.1))
    → record q { fitted = f; life = l; next = None } ≡ replaced (record q { next = o })
replaced_by q None f l s m = rw (m.0, m.1) refl
replaced_by q (Some n) f l s m = rw (m.0, m.1) (ap (λ (x : Life). record q {
  fitted = n.0;
  life = record x { steps = steps_of n.0; failures = n.1 };
  next =
      None;
}) (sym s))

pub replaced_is : (q : ComponentState) (f : Fitted) (l : Life) (nx : Option (Fitted × ℕ)) → q.life ≡ begun q.life.steps 0 →
    MatchOption q.next ((f ≡ q.fitted) × (l ≡ q.life)) (λ n. (f ≡ n.0) × (l ≡ begun (steps_of n.0) n.1)) → nx ≡ None
    → record q { fitted = f; life = l; next = nx } ≡ replaced q
replaced_is q f l nx s m e = ap (λ (o : Option (Fitted × ℕ)). record q { fitted = f; life = l; next = o }) e ∙ replaced_by q q.next f l s m

-- ---- what is held of it before is what it is

pub succeeds_same : (was was2 now now2 : State) (busy busy2 : Option Step) → was ≡ was2 → busy ≡ busy2 → now ≡ now2 →
    succeeds_from was busy now ≡ succeeds_from was2 busy2 now2
succeeds_same was was2 now now2 busy busy2 e f g = ap (λ (s : State). succeeds_from s busy now) e ∙ ap (λ (o : Option Step). succeeds_from was2 o now) f ∙ ap
    (λ (s : State). succeeds_from was2 busy2 s) g

pub completed_same : (e : LifeEvent) (was was2 now now2 : State) (way way2 : Option After) → was ≡ was2 → way ≡ way2 → now ≡ now2 →
    completed_from e was way now ≡ completed_from e was2 way2 now2
completed_same e was was2 now now2 way way2 h f g = ap (λ (s : State). completed_from e s way now) h ∙ ap (λ (o : Option After). completed_from e was2 o now)
    f ∙ ap (λ (s : State). completed_from e was2 way2 s) g

-- ---- the whole

row_of : (P : LifeAct × Life → Type 0) (o : Option (LifeAct × Life)) (r : LifeAct × Life) → o ≡ Some r → IfSome o P → P r
row_of P o r e h = subst (λ (x : Option (LifeAct × Life)). IfSome x P) e h

forget_own : (b : Bool) (d : Life) → is_own (if b then record d { failures = 0 } else d) ≡ is_own d
forget_own true d = refl
forget_own false d = refl

forget_steps : (b : Bool) (d : Life) → (if b then record d { failures = 0 } else d).steps ≡ d.steps
forget_steps true d = refl
forget_steps false d = refl

forget_begun : (b : Bool) (d : Life) → d ≡ begun d.steps 0 → (if b then record d { failures = 0 } else d) ≡ begun
    (if b then record d { failures = 0 } else d).steps 0
forget_begun true d e = ap (λ (x : Life). record x { failures = 0 }) e
forget_begun false d e = e

module _ (steady : Bool) (e : LifeEvent) (p : ComponentState) (a : LifeAct) (d l : Life) (again : Bool) (sound : IsSound p.life)
    (row : table p.life e ≡ Some (a, d))
    (forgets : l ≡ (if steady && succeeds_from p.life.state p.life.busy d.state then record d { failures = 0 } else d))
    (again_is : again ≡ is_again (completed_from e p.life.state p.life.stop d.state)) where
  pub fresh : again ≡ true → l ≡ begun l.steps 0
  fresh h =
      let g : d ≡ begun d.steps 0 = row_of (λ r. is_again (completed e p.life r.1) ≡ true → r.1 ≡ begun r.1.steps 0) (table p.life e) (a, d) row
      (table_again p.life e sound) (sym again_is ∙ h) in
      subst (λ (x : Life). x ≡ begun x.steps 0) (sym forgets) (forget_begun (steady && succeeds_from p.life.state p.life.busy d.state) d g)

  module _ (owed2 : Option (Step × Exit)) (stop2 : Option After) (f2 : Fitted) (c2 : Life) (n2 : Option (Fitted × ℕ)) (kept : IsKeptPart p)
      (owes : owed2 ≡ owed_after a (is_spared_by p.stop l) p.owed)
      (stops : stop2 ≡ stop_after e p.stop) (takes : ItemAfterStop again p.fitted f2 l c2 p.next n2) where
    abbrev mid : ComponentState
    mid = record p { life = l; owed = owed2; stop = stop2 }

    settles : mid ≡ settled_part (steady && succeeds_from p.life.state p.life.busy d.state) e a d p
    settles =
        ap (λ (o : Option (Step × Exit)). record p { life = l; owed = o; stop = stop2 }) owes
        ∙ ap (λ (s : Option After). record p { life = l; owed = owed_after a (is_spared_by p.stop l) p.owed; stop = s }) stops
        ∙ ap (λ (x : Life). record p { life = x; owed = owed_after a (is_spared_by p.stop x) p.owed; stop = stop_after e p.stop }) forgets

    by_again : (b : Bool) → again ≡ b → record mid { fitted = f2; life = c2; next = n2 } ≡ (if b then replaced mid else mid)
    by_again true h = let t = takes.taken h in replaced_is mid f2 c2 n2 (fresh h) t.0 t.1
    by_again false h = let t = takes.kept h in rw (t.0, t.1, t.2) refl

    pub moved : record p { fitted = f2; life = c2; owed = owed2; stop = stop2; next = n2 } ≡ lived steady e p
    moved =
        by_again again refl
        ∙ ap (λ (q : ComponentState). if again then replaced q else q) settles
        ∙ ap (λ (b : Bool). let q = settled_part (steady && succeeds_from p.life.state p.life.busy d.state) e a d p in if b then replaced q else q) again_is
        ∙ sym (lived_row steady e p a d row)

    own_row : (is_own p.life ≡ true → is_own d ≡ true) × (d.steps ≡ p.life.steps)
    own_row = row_of (λ r. (is_own p.life ≡ true → is_own r.1 ≡ true) × (r.1.steps ≡ p.life.steps)) (table p.life e) (a, d) row (table_own p.life e sound)

    steps_l : l.steps ≡ steps_of p.fitted
    steps_l = ap (λ (x : Life). x.steps) forgets ∙ forget_steps (steady && succeeds_from p.life.state p.life.busy d.state) d ∙ own_row.1 ∙ kept.steps

    own_l : is_own l ≡ true
    own_l = ap is_own forgets ∙ forget_own (steady && succeeds_from p.life.state p.life.busy d.state) d ∙ own_row.0 kept.own

    taken_kept : (o : Option (Fitted × ℕ)) → MatchOption o ((f2 ≡ p.fitted) × (c2 ≡ l)) (λ x. (f2 ≡ x.0) × (c2 ≡ begun (steps_of x.0) x.1)) →
        (c2.steps ≡ steps_of f2) × (is_own c2 ≡ true)
    taken_kept None t = rw (t.0, t.1) (steps_l, own_l)
    taken_kept (Some n) t = rw (t.0, t.1) (refl, refl)

    kept_again : (b : Bool) → again ≡ b → (c2.steps ≡ steps_of f2) × (is_own c2 ≡ true) × IfSome n2 (λ n. n.1 < 3)
    kept_again true h = let t = takes.taken h in let k = taken_kept p.next t.0 in (k.0, k.1, rw t.1 tt)
    kept_again false h = let t = takes.kept h in rw (t.0, t.1, t.2) (steps_l, own_l, kept.coming)

    pub still_kept : IsKeptPart (record p { fitted = f2; life = c2; owed = owed2; stop = stop2; next = n2 })
    still_kept = let k = kept_again again refl in record { steps = k.0; own = k.1; coming = k.2 }
