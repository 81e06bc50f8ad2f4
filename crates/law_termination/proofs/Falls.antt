-- What falls in one component at each event of the table.
use Rattle.std.proofs.Common.{◌≡◌, ◌≤◌, ◌+◌, ℕ, Bool, true, false, arith, is_some, List, Option}
use Rattle.nuc_base.specs.declared.kinds.Exit.{Exit}
use Rattle.nuc_base.specs.declared.kinds.Step.{Step}
use Rattle.lifecycle.specs.Life.{IsSound}
use Rattle.lifecycle.specs.Table.{table}
use Rattle.lifecycle.specs.declared.kinds.After.{After}
use Rattle.lifecycle.specs.declared.kinds.LifeEvent.{LifeEvent}
use Rattle.lifecycle.specs.declared.kinds.LifeEvent.TheVariants as event
use Rattle.lifecycle.specs.declared.kinds.State.{State}
use Rattle.lifecycle.specs.declared.kinds.State.TheVariants as state
use Rattle.lifecycle.specs.declared.kinds.StepSet.{StepSet}
use Rattle.components.specs.Components.{ComponentState, Child, under_way}
use Rattle.components.specs.Fitted.{Fitted}
use Rattle.components.specs.Lives.{lived}
use Rattle.law_supervisor.specs.Sound.{may_ask}
use Rattle.law_supervisor.proofs.Made.{MayBefall, mk}
use Rattle.law_termination.proofs.Cores.{core, gain}

module _ (f : Fitted) (steps : StepSet) (n : ℕ) (busy : Option Step) (runs inst : Bool) (way : Option After) (cs : List Child) (hd : Bool)
    (o : Option (Step × Exit)) (asked : Option After) (nx : Option (Fitted × ℕ)) where
  -- a component that stands
  abbrev one : State → ComponentState
  one s = mk f steps n busy runs inst way cs hd o asked nx s

  pub falls_at : (s : State) (e : LifeEvent) → IsSound (one s).life → may_ask (under_way (one s).life) asked ≡ true → MayBefall e (one s) →
      is_some (table (one s).life e) ≡ true → core (lived false e (one s)) + gain e (lived false e (one s)).life.busy ≤ core (one s)
  falls_at state.New event.MayBegin k a m t = grind (arith, k, a, m, t)
  falls_at state.New event.Retry k a m t = grind (arith, k, a, m, t)
  falls_at state.New event.Launched k a m t = grind (arith, k, a, m, t)
  falls_at state.New event.Skipped k a m t = grind (arith, k, a, m, t)
  falls_at state.New (event.Stop x) k a m t = grind (arith, k, a, m, t)
  falls_at state.New (event.Ended s x) k a m t = grind (arith, k, a, m, t)
  falls_at state.Installed event.MayBegin k a m t = grind (arith, k, a, m, t)
  falls_at state.Installed event.Retry k a m t = grind (arith, k, a, m, t)
  falls_at state.Installed event.Launched k a m t = grind (arith, k, a, m, t)
  falls_at state.Installed event.Skipped k a m t = grind (arith, k, a, m, t)
  falls_at state.Installed (event.Stop x) k a m t = grind (arith, k, a, m, t)
  falls_at state.Installed (event.Ended s x) k a m t = grind (arith, k, a, m, t)
  falls_at state.Starting event.MayBegin k a m t = grind (arith, k, a, m, t)
  falls_at state.Starting event.Retry k a m t = grind (arith, k, a, m, t)
  falls_at state.Starting event.Launched k a m t = grind (arith, k, a, m, t)
  falls_at state.Starting event.Skipped k a m t = grind (arith, k, a, m, t)
  falls_at state.Starting (event.Stop x) k a m t = grind (arith, k, a, m, t)
  falls_at state.Starting (event.Ended s x) k a m t = grind (arith, k, a, m, t)
  falls_at state.Running event.MayBegin k a m t = grind (arith, k, a, m, t)
  falls_at state.Running event.Retry k a m t = grind (arith, k, a, m, t)
  falls_at state.Running event.Launched k a m t = grind (arith, k, a, m, t)
  falls_at state.Running event.Skipped k a m t = grind (arith, k, a, m, t)
  falls_at state.Running (event.Stop x) k a m t = grind (arith, k, a, m, t)
  falls_at state.Running (event.Ended s x) k a m t = grind (arith, k, a, m, t)
  falls_at state.Stopping event.MayBegin k a m t = grind (arith, k, a, m, t)
  falls_at state.Stopping event.Retry k a m t = grind (arith, k, a, m, t)
  falls_at state.Stopping event.Launched k a m t = grind (arith, k, a, m, t)
  falls_at state.Stopping event.Skipped k a m t = grind (arith, k, a, m, t)
  falls_at state.Stopping (event.Stop x) k a m t = grind (arith, k, a, m, t)
  falls_at state.Stopping (event.Ended s x) k a m t = grind (arith, k, a, m, t)
  falls_at state.Finished event.MayBegin k a m t = grind (arith, k, a, m, t)
  falls_at state.Finished event.Retry k a m t = grind (arith, k, a, m, t)
  falls_at state.Finished event.Launched k a m t = grind (arith, k, a, m, t)
  falls_at state.Finished event.Skipped k a m t = grind (arith, k, a, m, t)
  falls_at state.Finished (event.Stop x) k a m t = grind (arith, k, a, m, t)
  falls_at state.Finished (event.Ended s x) k a m t = grind (arith, k, a, m, t)
  falls_at state.Errored event.MayBegin k a m t = grind (arith, k, a, m, t)
  falls_at state.Errored event.Retry k a m t = grind (arith, k, a, m, t)
  falls_at state.Errored event.Launched k a m t = grind (arith, k, a, m, t)
  falls_at state.Errored event.Skipped k a m t = grind (arith, k, a, m, t)
  falls_at state.Errored (event.Stop x) k a m t = grind (arith, k, a, m, t)
  falls_at state.Errored (event.Ended s x) k a m t = grind (arith, k, a, m, t)
  falls_at state.Broken event.MayBegin k a m t = grind (arith, k, a, m, t)
  falls_at state.Broken event.Retry k a m t = grind (arith, k, a, m, t)
  falls_at state.Broken event.Launched k a m t = grind (arith, k, a, m, t)
  falls_at state.Broken event.Skipped k a m t = grind (arith, k, a, m, t)
  falls_at state.Broken (event.Stop x) k a m t = grind (arith, k, a, m, t)
  falls_at state.Broken (event.Ended s x) k a m t = grind (arith, k, a, m, t)
