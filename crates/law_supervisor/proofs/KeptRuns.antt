-- A run child lives in RUNNING and STOPPING.
use Rattle.std.proofs.Common.{◌≡◌, ℕ, Bool, true, arith, List, Option}
use Rattle.nuc_base.specs.declared.kinds.Step.{Step}
use Rattle.nuc_base.specs.declared.kinds.Exit.{Exit}
use Rattle.lifecycle.specs.declared.kinds.StepSet.{StepSet}
use Rattle.lifecycle.specs.declared.kinds.State.{State}
use Rattle.lifecycle.specs.declared.kinds.State.TheVariants as state
use Rattle.lifecycle.specs.declared.kinds.After.{After}
use Rattle.lifecycle.specs.declared.kinds.LifeEvent.{LifeEvent}
use Rattle.components.specs.Fitted.{Fitted}
use Rattle.components.specs.Components.{Child}
use Rattle.components.specs.Lives.{lived}
use Rattle.lifecycle.specs.Life.{may_run}
use Rattle.law_supervisor.proofs.Made.{mk}

module _ (f : Fitted) (steps : StepSet) (n : ℕ) (busy : Option Step) (runs inst : Bool) (way : Option After) (cs : List Child) (hd : Bool)
    (o : Option (Step × Exit)) (asked : Option After) (nx : Option (Fitted × ℕ)) where
  pub runs_at : (s : State) (e : LifeEvent) (b : Bool) → may_run s runs ≡ true →
      may_run (lived b e (mk f steps n busy runs inst way cs hd o asked nx s)).life.state
      (lived b e (mk f steps n busy runs inst way cs hd o asked nx s)).life.runs ≡ true
  runs_at state.New e b r = grind (arith, r)
  runs_at state.Installed e b r = grind (arith, r)
  runs_at state.Starting e b r = grind (arith, r)
  runs_at state.Running e b r = grind (arith, r)
  runs_at state.Stopping e b r = grind (arith, r)
  runs_at state.Finished e b r = grind (arith, r)
  runs_at state.Errored e b r = grind (arith, r)
  runs_at state.Broken e b r = grind (arith, r)
