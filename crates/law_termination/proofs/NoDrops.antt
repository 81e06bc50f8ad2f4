-- Whoever leaves takes nobody down.
use Rattle.std.proofs.Common.{◌≡◌, ℕ, Bool, true, false, arith, List, Option}
use Rattle.nuc_base.specs.declared.kinds.Exit.{Exit}
use Rattle.nuc_base.specs.declared.kinds.Step.{Step}
use Rattle.lifecycle.specs.Life.{IsSound}
use Rattle.lifecycle.specs.declared.kinds.After.{After}
use Rattle.lifecycle.specs.declared.kinds.LifeEvent.{LifeEvent}
use Rattle.lifecycle.specs.declared.kinds.State.{State}
use Rattle.lifecycle.specs.declared.kinds.State.TheVariants as state
use Rattle.lifecycle.specs.declared.kinds.StepSet.{StepSet}
use Rattle.components.specs.Components.{Child, is_leaving}
use Rattle.components.specs.Fitted.{Fitted}
use Rattle.components.specs.Lives.{drops}
use Rattle.law_supervisor.proofs.Made.{mk}

module _ (f : Fitted) (steps : StepSet) (n : ℕ) (busy : Option Step) (runs inst : Bool) (way : Option After) (cs : List Child) (hd : Bool)
    (o : Option (Step × Exit)) (asked : Option After) (nx : Option (Fitted × ℕ)) where
  pub no_drop : (s : State) (e : LifeEvent) → IsSound (mk f steps n busy runs inst way cs hd o asked nx s).life →
      is_leaving (mk f steps n busy runs inst way cs hd o asked nx s) ≡ true → drops true e (mk f steps n busy runs inst way cs hd o asked nx s) ≡ false
  no_drop state.New e k l = grind (arith, k, l)
  no_drop state.Installed e k l = grind (arith, k, l)
  no_drop state.Starting e k l = grind (arith, k, l)
  no_drop state.Running e k l = grind (arith, k, l)
  no_drop state.Stopping e k l = grind (arith, k, l)
  no_drop state.Finished e k l = grind (arith, k, l)
  no_drop state.Errored e k l = grind (arith, k, l)
  no_drop state.Broken e k l = grind (arith, k, l)
