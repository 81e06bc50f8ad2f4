-- Whose stop may be given is not held.
use Rattle.std.proofs.Common.{◌≡◌, Option, Some, None, true, false, subst}
use Rattle.std.specs.Prelude.{◌&&◌, ◌||◌, not}
use Rattle.std.proofs.lemmas.Bool.{and_parts}
use Rattle.lifecycle.specs.Awaits.{is_awaited}
use Rattle.lifecycle.specs.declared.kinds.After.{After}
use Rattle.lifecycle.specs.declared.kinds.LifeEvent.TheVariants as event
use Rattle.components.specs.Components.{ComponentState, Components, component_name, has_orphan}
use Rattle.components.specs.Turns.{is_held_for, is_unstarted, may_stop}
use Rattle.law_supervisor.proofs.Lists.{not_so}

pub can_stop : (w : Components) (p : ComponentState) (a : After) → p.stop ≡ Some a → may_stop w p ≡ true → (is_awaited (event.Stop a) p.life ≡ true) ×
    (is_held_for a (component_name p) w.parts ≡ false)
can_stop w p a e m =
    let x : ((is_awaited (event.Stop a) p.life && not (has_orphan p || is_unstarted p)) && not (is_held_for a (component_name p) w.parts)) ≡ true
    = subst (λ (o : Option After). (elim o [
      | None ↦ false
      | Some b ↦ (is_awaited (event.Stop b) p.life && not (has_orphan p || is_unstarted p))
          && not (is_held_for b (component_name p) w.parts)
    ]) ≡ true) e m in
    let y = and_parts (is_awaited (event.Stop a) p.life && not (has_orphan p || is_unstarted p)) (not (is_held_for a (component_name p) w.parts)) x in
    ((and_parts (is_awaited (event.Stop a) p.life) (not (has_orphan p || is_unstarted p)) y.0).0, not_so (is_held_for a (component_name p) w.parts) y.1)
