-- Whoever leaves goes on leaving, and owes nothing, whether failures are forgotten or not.
use Rattle.std.proofs.Common.{◌≡◌, ℕ, Bool, true, arith, List, Option, None}
use Rattle.std.specs.Prelude.{not, ◌&&◌, is_some}
use Rattle.nuc_base.specs.declared.kinds.Step.{Step}
use Rattle.lifecycle.specs.declared.kinds.StepSet.{StepSet}
use Rattle.lifecycle.specs.declared.kinds.State.{State}
use Rattle.lifecycle.specs.declared.kinds.State.TheVariants as state
use Rattle.lifecycle.specs.declared.kinds.After.{After}
use Rattle.lifecycle.specs.declared.kinds.LifeEvent.{LifeEvent}
use Rattle.components.specs.Fitted.{Fitted}
use Rattle.components.specs.Components.{ComponentState, Child, is_leaving, under_way}
use Rattle.components.specs.Lives.{lived}
use Rattle.law_supervisor.specs.Sound.{may_ask}
use Rattle.law_supervisor.proofs.Made.{mk, MayBefall}

abbrev pub leaves_quietly : ComponentState → Bool
leaves_quietly p = (is_leaving p && not (is_some p.owed)) && not (is_some p.next)

module _ (f : Fitted) (steps : StepSet) (n : ℕ) (busy : Option Step) (runs inst : Bool) (way : Option After) (cs : List Child) (hd : Bool)
    (asked : Option After) where
  pub leaving_at : (s : State) (e : LifeEvent) (b : Bool) → may_ask (under_way (mk f steps n busy runs inst way cs hd None asked None s).life) asked ≡ true →
      MayBefall e (mk f steps n busy runs inst way cs hd None asked None s) → is_leaving (mk f steps n busy runs inst way cs hd None asked None s) ≡ true →
      leaves_quietly (lived b e (mk f steps n busy runs inst way cs hd None asked None s)) ≡ true
  leaving_at state.New e b a m l = grind (arith, a, m, l)
  leaving_at state.Installed e b a m l = grind (arith, a, m, l)
  leaving_at state.Starting e b a m l = grind (arith, a, m, l)
  leaving_at state.Running e b a m l = grind (arith, a, m, l)
  leaving_at state.Stopping e b a m l = grind (arith, a, m, l)
  leaving_at state.Finished e b a m l = grind (arith, a, m, l)
  leaving_at state.Errored e b a m l = grind (arith, a, m, l)
  leaving_at state.Broken e b a m l = grind (arith, a, m, l)
