-- Which step is busy.
use Rattle.std.proofs.Common.{◌≡◌, ℕ, Bool, true, arith, List, Option}
use Rattle.nuc_base.specs.declared.kinds.Step.{Step}
use Rattle.nuc_base.specs.declared.kinds.Exit.{Exit}
use Rattle.lifecycle.specs.declared.kinds.StepSet.{StepSet}
use Rattle.lifecycle.specs.declared.kinds.State.{State}
use Rattle.lifecycle.specs.declared.kinds.State.TheVariants as state
use Rattle.lifecycle.specs.declared.kinds.After.{After}
use Rattle.lifecycle.specs.declared.kinds.LifeEvent.{LifeEvent}
use Rattle.components.specs.Fitted.{Fitted}
use Rattle.components.specs.Components.{Child}
use Rattle.components.specs.Lives.{lived}
use Rattle.lifecycle.specs.Life.{may_be_busy}
use Rattle.law_supervisor.proofs.Made.{mk}

module _ (f : Fitted) (steps : StepSet) (n : ℕ) (busy : Option Step) (runs inst : Bool) (way : Option After) (cs : List Child) (hd : Bool)
    (o : Option (Step × Exit)) (asked : Option After) (nx : Option (Fitted × ℕ)) where
  pub busy_at : (s : State) (e : LifeEvent) (b : Bool) → may_be_busy s busy ≡ true →
      may_be_busy (lived b e (mk f steps n busy runs inst way cs hd o asked nx s)).life.state
      (lived b e (mk f steps n busy runs inst way cs hd o asked nx s)).life.busy ≡ true
  busy_at state.New e b k = grind (arith, k)
  busy_at state.Installed e b k = grind (arith, k)
  busy_at state.Starting e b k = grind (arith, k)
  busy_at state.Running e b k = grind (arith, k)
  busy_at state.Stopping e b k = grind (arith, k)
  busy_at state.Finished e b k = grind (arith, k)
  busy_at state.Errored e b k = grind (arith, k)
  busy_at state.Broken e b k = grind (arith, k)
