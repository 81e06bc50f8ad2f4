-- A move that leaves nothing outside owes no failure, and less is still to be done.
use Rattle.std.proofs.Common.{◌≡◌, ◌<◌, ℕ, suc, zero, List, [], ◌∷◌, Bool, true, false, Option, Some, None, refl, sym, ap, ◌∙◌, arith, subst}
use Rattle.std.specs.Prelude.{◌&&◌, ◌||◌, not, if◌then◌else◌, IsSomeAnd, is_some, slice_get}
use Rattle.std.specs.List.{list_any, list_all}
use Rattle.std.proofs.lemmas.Bool.{or_left, and_parts, and_left, and_right}
use Rattle.nuc_base.specs.declared.kinds.Step.{Step}
use Rattle.nuc_base.specs.declared.kinds.Exit.{Exit}
use Rattle.lifecycle.specs.Life.{Life}
use Rattle.lifecycle.specs.Table.{table}
use Rattle.lifecycle.specs.Awaits.{is_awaited, is_stopping}
use Rattle.lifecycle.specs.declared.kinds.After.{After}
use Rattle.lifecycle.specs.declared.kinds.State.{State}
use Rattle.lifecycle.specs.declared.kinds.LifeAct.{LifeAct}
use Rattle.lifecycle.specs.declared.kinds.LifeAct.TheVariants as act
use Rattle.lifecycle.specs.declared.kinds.LifeEvent.{LifeEvent}
use Rattle.lifecycle.specs.declared.kinds.LifeEvent.TheVariants as event
use Rattle.components.specs.Fitted.{Fitted, steps_of}
use Rattle.components.specs.Components.{Components, ComponentState, At, changed_at, is_again, is_to_stop, is_up, has_orphan, stands_up, component_name}
use Rattle.components.specs.Marks.{flagged_at, restarted, may_restart}
use Rattle.components.specs.Lives.{lived, lived_at, drops, replaced}
use Rattle.components.specs.Rows.{owed_after, stop_after, succeeds_from, completed_from}
use Rattle.components.specs.Turns.{may_begin, may_retry, may_stop, is_met, serves_softly, owes, is_unstarted, is_held, is_held_for}
use Rattle.components.specs.Acts.{MayMove, spares}
use Rattle.components.specs.Whole.{state_work, life_work, part_work, work}
use Rattle.components.proofs.Each.{at_more}
use Rattle.components.proofs.Held.{none_direct}
use Rattle.components.proofs.Lived.{lived_row, settled_part}
use Rattle.components.proofs.Tables.{is_launch, is_failure, begin_row, retry_row, stop_row}
use Rattle.components.proofs.Whole.{lived_follows}

-- ---- one component

replaced_owed : (q : ComponentState) (o : Option (Fitted × ℕ)) →
    (let r : ComponentState = elim o [
      | None ↦ q
      | Some n ↦ record q {
        fitted = n.0;
        life = record q.life { steps = steps_of n.0; failures = n.1 };
        next =
            None;
      }
    ] in r.owed ≡ q.owed)
replaced_owed q None = refl
replaced_owed q (Some n) = refl

replaced_stop : (q : ComponentState) (o : Option (Fitted × ℕ)) →
    (let r : ComponentState = elim o [
      | None ↦ q
      | Some n ↦ record q {
        fitted = n.0;
        life = record q.life { steps = steps_of n.0; failures = n.1 };
        next =
            None;
      }
    ] in r.stop ≡ q.stop)
replaced_stop q None = refl
replaced_stop q (Some n) = refl

if_owed : (b : Bool) (p q : ComponentState) (o : Option (Step × Exit)) → p.owed ≡ o → q.owed ≡ o → (if b then p else q).owed ≡ o
if_owed true p q o e f = e
if_owed false p q o e f = f

if_stop : (b : Bool) (p q : ComponentState) (o : Option After) → p.stop ≡ o → q.stop ≡ o → (if b then p else q).stop ≡ o
if_stop true p q o e f = e
if_stop false p q o e f = f

owed_none : (a : LifeAct) (s : Bool) (o : Option (Step × Exit)) → is_failure a ≡ false → owed_after a s o ≡ o
owed_none act.Nothing s o e = refl
owed_none (act.Begin t) s o e = refl
owed_none act.Kill s o e = refl
owed_none (act.Failed t x) s o e = absurd (cc)
owed_none (act.Broke t x) s o e = absurd (cc)

module _ (b : Bool) (e : LifeEvent) (p : ComponentState) (a : LifeAct) (d : Life) (row : table p.life e ≡ Some (a, d)) where
  abbrev mid : ComponentState
  mid = settled_part (b && succeeds_from p.life.state p.life.busy d.state) e a d p

  lived_owed : is_failure a ≡ false → (lived b e p).owed ≡ p.owed
  lived_owed f =
      let o : mid.owed ≡ p.owed = owed_none a _ p.owed f in
      ap (λ (q : ComponentState). q.owed) (lived_row b e p a d row)
      ∙ if_owed (is_again (completed_from e p.life.state p.life.stop d.state)) (replaced mid) mid p.owed (replaced_owed mid mid.next ∙ o) o

  lived_stop : (lived b e p).stop ≡ stop_after e p.stop
  lived_stop =
      ap (λ (q : ComponentState). q.stop) (lived_row b e p a d row)
      ∙ if_stop (is_again (completed_from e p.life.state p.life.stop d.state)) (replaced mid) mid (stop_after e p.stop) (replaced_stop mid mid.next) refl

  lived_work : life_work (lived b e p).life ≡ life_work d
  lived_work =
      let f = lived_follows b e p a d row in
      ap (λ (o : Option Step). if is_some o then 0 else state_work (lived b e p).life.state) f.busy
      ∙ ap (λ (s : State). if is_some d.busy then 0 else state_work s) f.state

-- it owes no more, less is to be done, and nobody is to be stopped for it
pub record IsQuietly (b : Bool) (e : LifeEvent) (p : ComponentState) : Type 0 where
  pub owed : (lived b e p).owed ≡ p.owed
  pub less : part_work (lived b e p) < part_work p
  pub stays : drops b e p ≡ false

row_of : (P : LifeAct × Life → Type 0) (o : Option (LifeAct × Life)) → IsSomeAnd o P → (r : LifeAct × Life) × (o ≡ Some r) × P r
row_of P None h = absurd h
row_of P (Some r) h = (r, refl, h)

-- without a stop
plainly : (b : Bool) (e : LifeEvent) (p : ComponentState) → stop_after e p.stop ≡ p.stop →
    IsSomeAnd (table p.life e) (λ r. (is_failure r.0 ≡ false) × (life_work r.1 < life_work p.life) × (is_up p.life.state ≡ false)) → IsQuietly b e p
plainly b e p s h =
    let x = row_of (λ r. (is_failure r.0 ≡ false) × (life_work r.1 < life_work p.life) × (is_up p.life.state ≡ false)) (table p.life e) h in
    let r : LifeAct × Life = x.0 in
    let q = lived_stop b e p r.0 r.1 x.1 ∙ s in
    let l = lived_work b e p r.0 r.1 x.1 in
    let m : ◌≡◌ {A = ℕ} (if is_some (lived b e p).stop then 4 else 0) (if is_some p.stop then 4 else 0) =
    ap (λ (o : Option After). if is_some o then 4 else 0) q in
    let y = x.2 in
    record {
      owed = lived_owed b e p r.0 r.1 x.1 y.0;
      less = (let z = y.1 in omega (arith, l, m, z));
      stays = and_left (is_up p.life.state) (not (is_up (lived b e p).life.state) && not (is_to_stop p)) y.2;
    }

not_of : (b : Bool) → b ≡ true → not b ≡ false
not_of b e = rw e refl

with_stop : (b : Bool) (a : After) (p : ComponentState) → p.stop ≡ Some a → is_awaited (event.Stop a) p.life ≡ true → IsQuietly b (event.Stop a) p
with_stop b a p s h =
    let x = row_of (λ r. (is_failure r.0 ≡ false) × (life_work r.1 < 4)) (table p.life (event.Stop a)) (stop_row p.life a h) in
    let r : LifeAct × Life = x.0 in
    let q = lived_stop b (event.Stop a) p r.0 r.1 x.1 in
    let l = lived_work b (event.Stop a) p r.0 r.1 x.1 in
    let m : ◌≡◌ {A = ℕ} (if is_some (lived b (event.Stop a) p).stop then 4 else 0) 0 = ap (λ (o : Option After). if is_some o then 4 else 0) q in
    let n : ◌≡◌ {A = ℕ} (if is_some p.stop then 4 else 0) 4 = ap (λ (o : Option After). if is_some o then 4 else 0) s in
    let y = x.2 in
    let i : is_some p.stop ≡ true = ap (λ (o : Option After). is_some o) s in
    let t : is_to_stop p ≡ true = or_left (is_some p.stop) (is_stopping p.life.state || has_orphan p) i in
    record {
      owed = lived_owed b (event.Stop a) p r.0 r.1 x.1 y.0;
      less = (let z = y.1 in omega (arith, l, m, n, z));
      stays = and_right (is_up p.life.state) (not (is_up (lived b (event.Stop a) p).life.state) && not (is_to_stop p))
          (and_right (not (is_up (lived b (event.Stop a) p).life.state)) (not (is_to_stop p)) (not_of (is_to_stop p) t));
    }

-- what is there of a stop that may be given
abbrev may_stop_by : Components → ComponentState → After → Bool
may_stop_by w p a = (is_awaited (event.Stop a) p.life && not (has_orphan p || is_unstarted p)) && not (is_held_for a (component_name p) w.parts)

stop_by : (w : Components) (p : ComponentState) (a : After) → p.stop ≡ Some a → may_stop w p ≡ true → may_stop_by w p a ≡ true
stop_by w p a e m = subst (λ (o : Option After). (elim o [ None ↦ false | Some b ↦ may_stop_by w p b ]) ≡ true) e m

pub stop_awaited : (w : Components) (p : ComponentState) (a : After) → p.stop ≡ Some a → may_stop w p ≡ true → is_awaited (event.Stop a) p.life ≡ true
stop_awaited w p a e m =
    let ready : Bool = is_awaited (event.Stop a) p.life && not (has_orphan p || is_unstarted p) in
    (and_parts (is_awaited (event.Stop a) p.life) (not (has_orphan p || is_unstarted p))
    (and_parts ready (not (is_held_for a (component_name p) w.parts)) (stop_by w p a e m)).0).0

not_so : (b : Bool) → not b ≡ true → b ≡ false
not_so true e = absurd (cc)
not_so false e = refl

direct_by : (w : Components) (p : ComponentState) (o : Option After) → p.stop ≡ o → may_stop w p ≡ true → is_held (component_name p) w.parts ≡ false
direct_by w p None e m =
    let f : false ≡ true = subst (λ (o : Option After). (elim o [ None ↦ false | Some b ↦ may_stop_by w p b ]) ≡ true) e m in absurd (cc)
direct_by w p (Some a) e m =
    let ready : Bool = is_awaited (event.Stop a) p.life && not (has_orphan p || is_unstarted p) in
    none_direct a (component_name p) w.parts (not_so (is_held_for a (component_name p) w.parts)
    (and_parts ready (not (is_held_for a (component_name p) w.parts)) (stop_by w p a e m)).1)

-- who is stopped waits for those that need it directly
pub stop_direct : (w : Components) (p : ComponentState) → may_stop w p ≡ true → is_held (component_name p) w.parts ≡ false
stop_direct w p m = direct_by w p p.stop refl m

-- in its turn
pub quiet_at : (w : Components) (k : ℕ) (e : LifeEvent) → MayMove w k e → At k (IsQuietly w.steady e) w.parts
quiet_at w k event.MayBegin h = at_more (λ p. may_begin w p ≡ true) (IsQuietly w.steady event.MayBegin) w.parts k (λ p m.
    let x = and_parts (is_awaited event.MayBegin p.life && not (is_to_stop p)) (list_all (is_met stands_up w.parts) p.fitted.hard &&
    list_all (is_met serves_softly w.parts) p.fitted.soft) m in
    plainly w.steady event.MayBegin p refl (begin_row p.life (and_parts (is_awaited event.MayBegin p.life) (not (is_to_stop p)) x.0).0)) h
quiet_at w k event.Retry h = at_more (λ p. may_retry p ≡ true) (IsQuietly w.steady event.Retry) w.parts k (λ p m.
    plainly w.steady event.Retry p refl (retry_row p.life (and_parts (is_awaited event.Retry p.life) (not (is_to_stop p)) m).0)) h
quiet_at w k (event.Stop a) h = at_more (λ p. (may_stop w p ≡ true) × (p.stop ≡ Some a) × (spares (event.Stop a) p ≡ true))
    (IsQuietly w.steady (event.Stop a)) w.parts k (λ p m.
    with_stop w.steady a p m.1 (stop_awaited w p a m.1 m.0)) h
quiet_at w k event.Launched h = absurd h
quiet_at w k event.Skipped h = absurd h
quiet_at w k (event.Ended s x) h = absurd h

pub move_no_launch : (w : Components) (k : ℕ) (e : LifeEvent) → MayMove w k e → is_launch e ≡ false
move_no_launch w k event.MayBegin h = refl
move_no_launch w k event.Retry h = refl
move_no_launch w k (event.Stop a) h = refl
move_no_launch w k event.Launched h = absurd h
move_no_launch w k event.Skipped h = absurd h
move_no_launch w k (event.Ended s x) h = absurd h

-- ---- all components

owes_changed : (b : Bool) (e : LifeEvent) (k : ℕ) (ps : List ComponentState) → At k (IsQuietly b e) ps → list_any owes (changed_at k (lived b e) ps)
    ≡ list_any owes ps
owes_changed b e k [] h = refl
owes_changed b e zero (p ∷ ps) h = ap (λ (o : Option (Step × Exit)). is_some o || list_any owes ps) h.owed
owes_changed b e (suc k) (p ∷ ps) h = ap (λ (x : Bool). owes p || x) (owes_changed b e k ps h)

work_changed : (b : Bool) (e : LifeEvent) (k : ℕ) (ps : List ComponentState) → At k (IsQuietly b e) ps → work (changed_at k (lived b e) ps) < work ps
work_changed b e k [] h = absurd h
work_changed b e zero (p ∷ ps) h = let l = h.less in omega (arith, l)
work_changed b e (suc k) (p ∷ ps) h = let i = work_changed b e k ps h in omega (arith, i)

no_drop : (b : Bool) (e : LifeEvent) (o : Option ComponentState) → IsSomeAnd o (IsQuietly b e) → (elim o [ None ↦ false | Some p ↦ drops b e p ]) ≡ false
no_drop b e None h = refl
no_drop b e (Some p) h = h.stays

pub move_owes : (w : Components) (k : ℕ) (e : LifeEvent) → MayMove w k e → list_any owes w.parts ≡ false → list_any owes (lived_at k e w).parts ≡ false
move_owes w k e m h =
    let q = quiet_at w k e m in
    let ps : List ComponentState = changed_at k (lived w.steady e) w.parts in
    subst (λ (b : Bool). list_any owes (if b then restarted may_restart (flagged_at k ps) else ps) ≡ false) (sym (no_drop w.steady e (slice_get w.parts k) q))
    (owes_changed w.steady e k w.parts q ∙ h)

pub move_works : (w : Components) (k : ℕ) (e : LifeEvent) → MayMove w k e → work (lived_at k e w).parts < work w.parts
move_works w k e m =
    let q = quiet_at w k e m in
    let ps : List ComponentState = changed_at k (lived w.steady e) w.parts in
    subst (λ (b : Bool). work (if b then restarted may_restart (flagged_at k ps) else ps) < work w.parts) (sym (no_drop w.steady e (slice_get w.parts k) q))
    (work_changed w.steady e k w.parts q)
