-- While a run is begun and not answered no run child lives.
use Rattle.std.proofs.Common.{◌≡◌, ℕ, Bool, true, false, arith, List, Option}
use Rattle.nuc_base.specs.declared.kinds.Step.{Step}
use Rattle.nuc_base.specs.declared.kinds.Step.TheVariants as step
use Rattle.nuc_base.specs.declared.kinds.Exit.{Exit}
use Rattle.lifecycle.specs.declared.kinds.StepSet.{StepSet}
use Rattle.lifecycle.specs.declared.kinds.State.{State}
use Rattle.lifecycle.specs.declared.kinds.State.TheVariants as state
use Rattle.lifecycle.specs.declared.kinds.After.{After}
use Rattle.lifecycle.specs.declared.kinds.LifeEvent.{LifeEvent}
use Rattle.components.specs.Fitted.{Fitted}
use Rattle.components.specs.Components.{Child}
use Rattle.components.specs.Lives.{lived}
use Rattle.lifecycle.specs.Life.{may_be_busy, may_run}
use Rattle.std.specs.Prelude.{◌&&◌}
use Rattle.lifecycle.specs.Awaits.{is_busy_with}
use Rattle.law_supervisor.proofs.Made.{mk, begins}

module _ (f : Fitted) (steps : StepSet) (n : ℕ) (busy : Option Step) (runs inst : Bool) (way : Option After) (cs : List Child) (hd : Bool)
    (o : Option (Step × Exit)) (asked : Option After) (nx : Option (Fitted × ℕ)) (z : Bool) where
  pub run_at : (s : State) (e : LifeEvent) (b : Bool) → may_be_busy s busy ≡ true → may_run s runs ≡ true → (is_busy_with step.Run busy && z) ≡ false →
      (begins e && z) ≡ false → (is_busy_with step.Run (lived b e (mk f steps n busy runs inst way cs hd o asked nx s)).life.busy && z) ≡ false
  run_at state.New e b k r h i = grind (arith, k, r, h, i)
  run_at state.Installed e b k r h i = grind (arith, k, r, h, i)
  run_at state.Starting e b k r h i = grind (arith, k, r, h, i)
  run_at state.Running e b k r h i = grind (arith, k, r, h, i)
  run_at state.Stopping e b k r h i = grind (arith, k, r, h, i)
  run_at state.Finished e b k r h i = grind (arith, k, r, h, i)
  run_at state.Errored e b k r h i = grind (arith, k, r, h, i)
  run_at state.Broken e b k r h i = grind (arith, k, r, h, i)
