-- An error that takes a component down costs it a failure.
use Rattle.std.proofs.Common.{◌≡◌, ◌≤◌, ◌+◌, ℕ, Bool, true, false, arith, List, Option}
use Rattle.nuc_base.specs.declared.kinds.Exit.{Exit}
use Rattle.nuc_base.specs.declared.kinds.Step.{Step}
use Rattle.lifecycle.specs.Life.{IsSound}
use Rattle.lifecycle.specs.declared.kinds.After.{After}
use Rattle.lifecycle.specs.declared.kinds.LifeEvent.{LifeEvent}
use Rattle.lifecycle.specs.declared.kinds.LifeEvent.TheVariants as event
use Rattle.lifecycle.specs.declared.kinds.State.{State}
use Rattle.lifecycle.specs.declared.kinds.State.TheVariants as state
use Rattle.lifecycle.specs.declared.kinds.StepSet.{StepSet}
use Rattle.components.specs.Components.{Child}
use Rattle.components.specs.Fitted.{Fitted}
use Rattle.components.specs.Lives.{lived, drops}
use Rattle.law_supervisor.proofs.Made.{MayBefall, mk}
use Rattle.law_termination.proofs.Cores.{core}

module _ (f : Fitted) (steps : StepSet) (n : ℕ) (busy : Option Step) (runs inst : Bool) (way : Option After) (cs : List Child) (hd : Bool)
    (o : Option (Step × Exit)) (asked : Option After) (nx : Option (Fitted × ℕ)) where
  pub drops_at : (s : State) (e : LifeEvent) → IsSound (mk f steps n busy runs inst way cs hd o asked nx s).life →
      MayBefall e (mk f steps n busy runs inst way cs hd o asked nx s) → drops false e (mk f steps n busy runs inst way cs hd o asked nx s) ≡ true →
      core (lived false e (mk f steps n busy runs inst way cs hd o asked nx s)) + 49000 ≤ core (mk f steps n busy runs inst way cs hd o asked nx s)
  drops_at state.New e k m d = grind (arith, k, m, d)
  drops_at state.Installed e k m d = grind (arith, k, m, d)
  drops_at state.Starting e k m d = grind (arith, k, m, d)
  drops_at state.Running event.MayBegin k m d = grind (arith, k, m, d)
  drops_at state.Running event.Retry k m d = grind (arith, k, m, d)
  drops_at state.Running event.Launched k m d = grind (arith, k, m, d)
  drops_at state.Running event.Skipped k m d = grind (arith, k, m, d)
  drops_at state.Running (event.Stop x) k m d = grind (arith, k, m, d)
  drops_at state.Running (event.Ended s x) k m d = grind (arith, k, m, d)
  drops_at state.Stopping e k m d = grind (arith, k, m, d)
  drops_at state.Finished e k m d = grind (arith, k, m, d)
  drops_at state.Errored e k m d = grind (arith, k, m, d)
  drops_at state.Broken e k m d = grind (arith, k, m, d)
