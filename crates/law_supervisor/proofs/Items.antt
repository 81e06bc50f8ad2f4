-- What no event changes but where an item is taken: the item, the one that is to come, the steps and the children.
use Rattle.std.proofs.Common.{◌≡◌, ℕ, List, Option, Some, None, Bool, true, false, refl, sym, subst, arith}
use Rattle.std.specs.Prelude.{◌&&◌, if◌then◌else◌}
use Rattle.std.specs.Option.{IfSome}
use Rattle.lifecycle.specs.Life.{Life}
use Rattle.lifecycle.specs.Table.{table}
use Rattle.lifecycle.specs.declared.kinds.LifeAct.{LifeAct}
use Rattle.lifecycle.specs.declared.kinds.LifeEvent.{LifeEvent}
use Rattle.lifecycle.specs.declared.kinds.StepSet.{StepSet}
use Rattle.components.specs.Fitted.{Fitted, steps_of}
use Rattle.components.specs.Components.{ComponentState, Child, is_again}
use Rattle.components.specs.Lives.{lived, replaced}
use Rattle.components.specs.Rows.{completed_from, succeeds_from}
use Rattle.components.proofs.Lived.{lived_none, lived_row, settled_part}

table_steps : (c : Life) (e : LifeEvent) → IfSome (table c e) (λ r. r.1.steps ≡ c.steps)
table_steps c e = grind arith

module _ (P : Fitted → Option (Fitted × ℕ) → StepSet → List Child → Type 0) where
  abbrev pub Has : ComponentState → Type 0
  Has p = P p.fitted p.next p.life.steps p.children

  -- so it is, and so it is once the item that is to come is taken
  abbrev pub Of : ComponentState → Type 0
  Of p = Has p × ((n : Fitted × ℕ) → p.next ≡ Some n → P n.0 None (steps_of n.0) p.children)

  by_row : (b : Bool) (e : LifeEvent) (a : LifeAct) (d : Life) (p : ComponentState) → d.steps ≡ p.life.steps → Of p → Of (settled_part b e a d p)
  by_row true e a d p i h = (subst (λ (st : StepSet). P p.fitted p.next st p.children) (sym i) h.0, h.1)
  by_row false e a d p i h = (subst (λ (st : StepSet). P p.fitted p.next st p.children) (sym i) h.0, h.1)

  by_again : (y : Bool) (p : ComponentState) → Of p → Has (if y then replaced p else p)
  by_again false p h = h.0
  by_again true p h = elim p.next as (λ (o : Option (Fitted × ℕ)). p.next ≡ o →
      (let q : ComponentState = (elim o [
        | None ↦ p
        | Some n ↦ record p { fitted = n.0; life = record p.life { steps = steps_of n.0; failures = n.1 }; next = None }
      ]) in Has q))
      [ None ↦ λ e. h.0 | Some n ↦ λ e. h.1 n e ] refl

  pub by_lived : (b : Bool) (e : LifeEvent) (p : ComponentState) → Of p → Has (lived b e p)
  by_lived b e p h = go (table p.life e) refl (table_steps p.life e)
    where
      go : (o : Option (LifeAct × Life)) → table p.life e ≡ o → IfSome o (λ r. r.1.steps ≡ p.life.steps) → Has (lived b e p)
      go None t i = subst Has (sym (lived_none b e p t)) h.0
      go (Some r) t i = subst Has (sym (lived_row b e p r.0 r.1 t)) (by_again (is_again (completed_from e p.life.state p.life.stop r.1.state))
          (settled_part (b && succeeds_from p.life.state p.life.busy r.1.state) e r.0 r.1 p)
          (by_row (b && succeeds_from p.life.state p.life.busy r.1.state) e r.0 r.1 p i h))

pub same_children : (b : Bool) (e : LifeEvent) (p : ComponentState) → (lived b e p).children ≡ p.children
same_children b e p = by_lived (λ f nx st cs. cs ≡ p.children) b e p (refl, (λ n e. refl))

-- nothing befalls one that is gone
pub lived_gone : (b : Bool) (e : LifeEvent) (p : ComponentState) → p.life.gone ≡ true → lived b e p ≡ p
lived_gone b e p g = lived_none b e p (rw g refl)
