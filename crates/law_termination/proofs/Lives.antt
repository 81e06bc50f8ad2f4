-- What is held of each row's life is held of the component's, also where it takes an item.
use Rattle.std.proofs.Common.{◌≡◌, ℕ, Option, Some, None, Bool, true, false, refl, sym, ap, subst, arith}
use Rattle.std.specs.Prelude.{◌&&◌, if◌then◌else◌, IfSome}
use Rattle.lifecycle.specs.Life.{Life, IsSound, begun, may_stop}
use Rattle.lifecycle.specs.Table.{table}
use Rattle.lifecycle.specs.declared.kinds.LifeAct.{LifeAct}
use Rattle.lifecycle.specs.declared.kinds.LifeEvent.{LifeEvent}
use Rattle.components.specs.Components.{ComponentState, is_again}
use Rattle.components.specs.Fitted.{Fitted, steps_of}
use Rattle.components.specs.Lives.{lived, replaced}
use Rattle.components.specs.Rows.{completed_from, succeeds_from}
use Rattle.components.specs.Runs.{is_own}
use Rattle.components.proofs.Lived.{lived_none, lived_row, settled_part, table_again, table_own}

module _ (P : Life → Type 0) (forget : (d : Life) → P d → P (record d { failures = 0 }))
    (take : (d : Life) (n : Fitted × ℕ) → d ≡ begun d.steps 0 → P (record d { steps = steps_of n.0; failures = n.1 })) where
  forgotten : (b : Bool) (d : Life) → P d → P (if b then record d { failures = 0 } else d)
  forgotten true d h = forget d h
  forgotten false d h = h

  begun_still : (b : Bool) (d : Life) → d ≡ begun d.steps 0 → (let c : Life = (if b then record d { failures = 0 } else d) in c ≡ begun c.steps 0)
  begun_still true d e = ap (λ (c : Life). let x : Life = record c { failures = 0 } in x) e
  begun_still false d e = e

  taken : (q : ComponentState) (o : Option (Fitted × ℕ)) → P q.life → q.life ≡ begun q.life.steps 0 → P (replaced (record q { next = o })).life
  taken q None h e = h
  taken q (Some n) h e = take q.life n e

  abbrev again_at : LifeEvent → ComponentState → LifeAct × Life → Bool
  again_at e p r = is_again (completed_from e p.life.state p.life.stop r.1.state)

  abbrev settled : Bool → LifeEvent → ComponentState → LifeAct × Life → ComponentState
  settled b e p r = settled_part (b && succeeds_from p.life.state p.life.busy r.1.state) e r.0 r.1 p

  by_again : (b : Bool) (e : LifeEvent) (p : ComponentState) (r : LifeAct × Life) → P r.1 → (again_at e p r ≡ true → r.1 ≡ begun r.1.steps 0) → (y : Bool) →
      again_at e p r ≡ y → P (if y then replaced (settled b e p r) else settled b e p r).life
  by_again b e p r h g true z = taken (settled b e p r) (settled b e p r).next (forgotten (b && succeeds_from p.life.state p.life.busy r.1.state) r.1 h)
      (begun_still (b && succeeds_from p.life.state p.life.busy r.1.state) r.1 (g z))
  by_again b e p r h g false z = forgotten (b && succeeds_from p.life.state p.life.busy r.1.state) r.1 h

  by_row : (b : Bool) (e : LifeEvent) (p : ComponentState) → P p.life → (o : Option (LifeAct × Life)) → table p.life e ≡ o → IfSome o (λ r. P r.1) →
      IfSome o (λ r. again_at e p r ≡ true → r.1 ≡ begun r.1.steps 0) → P (lived b e p).life
  by_row b e p own None t h g = subst (λ (q : ComponentState). P q.life) (sym (lived_none b e p t)) own
  by_row b e p own (Some r) t h g = subst (λ (q : ComponentState). P q.life) (sym (lived_row b e p r.0 r.1 t)) (by_again b e p r h g (again_at e p r) refl)

  pub life_lived : (b : Bool) (e : LifeEvent) (p : ComponentState) → IsSound p.life → P p.life → IfSome (table p.life e) (λ r. P r.1) → P (lived b e p).life
  life_lived b e p sound own rows = by_row b e p own (table p.life e) refl rows (table_again p.life e sound)

-- ---- the step that it is busy with is one that it has

own_rows : (c : Life) (e : LifeEvent) → IsSound c → is_own c ≡ true → IfSome (table c e) (λ r. is_own r.1 ≡ true)
own_rows c e sound own = by (table c e) (table_own c e sound)
  where
    by : (o : Option (LifeAct × Life)) → IfSome o (λ r. (is_own c ≡ true → is_own r.1 ≡ true) × (r.1.steps ≡ c.steps)) → IfSome o (λ r. is_own r.1 ≡ true)
    by None h = tt
    by (Some r) h = h.0 own

pub own_lived : (b : Bool) (e : LifeEvent) (p : ComponentState) → IsSound p.life → is_own p.life ≡ true → is_own (lived b e p).life ≡ true
own_lived b e p sound own = life_lived (λ c. is_own c ≡ true) (λ d h. h) (λ d n s. rw (ap (λ (c : Life). c.busy) s) refl) b e p sound own
    (own_rows p.life e sound own)

-- ---- a stop is under way where it is STOPPING, and there alone

stop_rows : (c : Life) (e : LifeEvent) → IsSound c → IfSome (table c e) (λ r. may_stop r.1.state r.1.stop ≡ true)
stop_rows c e sound = grind (arith, sound)

pub stop_lived : (b : Bool) (e : LifeEvent) (p : ComponentState) → IsSound p.life → may_stop (lived b e p).life.state (lived b e p).life.stop ≡ true
stop_lived b e p sound = life_lived (λ c. may_stop c.state c.stop ≡ true) (λ d h. h)
    (λ d n s. rw (ap (λ (c : Life). c.state) s) (rw (ap (λ (c : Life). c.stop) s) refl)) b e p sound sound.stop (stop_rows p.life e sound)
