-- Whoever leaves does not come up again, whether failures are forgotten or not.
use Rattle.std.proofs.Common.{◌≡◌, ◌≤◌, ◌+◌, ℕ, Bool, true, arith, is_some, List, Option}
use Rattle.nuc_base.specs.declared.kinds.Exit.{Exit}
use Rattle.nuc_base.specs.declared.kinds.Step.{Step}
use Rattle.lifecycle.specs.Life.{IsSound}
use Rattle.lifecycle.specs.Table.{table}
use Rattle.lifecycle.specs.declared.kinds.After.{After}
use Rattle.lifecycle.specs.declared.kinds.LifeEvent.{LifeEvent}
use Rattle.lifecycle.specs.declared.kinds.LifeEvent.TheVariants as event
use Rattle.lifecycle.specs.declared.kinds.State.{State}
use Rattle.lifecycle.specs.declared.kinds.State.TheVariants as state
use Rattle.lifecycle.specs.declared.kinds.StepSet.{StepSet}
use Rattle.components.specs.Components.{Child, is_leaving, under_way}
use Rattle.components.specs.Fitted.{Fitted}
use Rattle.components.specs.Lives.{lived}
use Rattle.law_supervisor.specs.Sound.{may_ask}
use Rattle.law_supervisor.proofs.Made.{MayBefall, mk}
use Rattle.law_termination.proofs.Cores.{core, gain}

module _ (f : Fitted) (steps : StepSet) (n : ℕ) (busy : Option Step) (runs inst : Bool) (way : Option After) (cs : List Child) (hd : Bool)
    (o : Option (Step × Exit)) (asked : Option After) (nx : Option (Fitted × ℕ)) where
  pub leaves_at : (s : State) (e : LifeEvent) → IsSound (mk f steps n busy runs inst way cs hd o asked nx s).life →
      may_ask (under_way (mk f steps n busy runs inst way cs hd o asked nx s).life) asked ≡ true →
      MayBefall e (mk f steps n busy runs inst way cs hd o asked nx s) → is_some (table (mk f steps n busy runs inst way cs hd o asked nx s).life e) ≡ true →
      is_leaving (mk f steps n busy runs inst way cs hd o asked nx s) ≡ true → core (lived true e (mk f steps n busy runs inst way cs hd o asked nx s)) + gain
      e (lived true e (mk f steps n busy runs inst way cs hd o asked nx s)).life.busy ≤ core (mk f steps n busy runs inst way cs hd o asked nx s)
  leaves_at state.New e k a m t l = grind (arith, k, a, m, t, l)
  leaves_at state.Installed e k a m t l = grind (arith, k, a, m, t, l)
  leaves_at state.Starting e k a m t l = grind (arith, k, a, m, t, l)
  leaves_at state.Running event.MayBegin k a m t l = grind (arith, k, a, m, t, l)
  leaves_at state.Running event.Retry k a m t l = grind (arith, k, a, m, t, l)
  leaves_at state.Running event.Launched k a m t l = grind (arith, k, a, m, t, l)
  leaves_at state.Running event.Skipped k a m t l = grind (arith, k, a, m, t, l)
  leaves_at state.Running (event.Stop x) k a m t l = grind (arith, k, a, m, t, l)
  leaves_at state.Running (event.Ended s x) k a m t l = grind (arith, k, a, m, t, l)
  leaves_at state.Stopping event.MayBegin k a m t l = grind (arith, k, a, m, t, l)
  leaves_at state.Stopping event.Retry k a m t l = grind (arith, k, a, m, t, l)
  leaves_at state.Stopping event.Launched k a m t l = grind (arith, k, a, m, t, l)
  leaves_at state.Stopping event.Skipped k a m t l = grind (arith, k, a, m, t, l)
  leaves_at state.Stopping (event.Stop x) k a m t l = grind (arith, k, a, m, t, l)
  leaves_at state.Stopping (event.Ended s x) k a m t l = grind (arith, k, a, m, t, l)
  leaves_at state.Finished e k a m t l = grind (arith, k, a, m, t, l)
  leaves_at state.Errored e k a m t l = grind (arith, k, a, m, t, l)
  leaves_at state.Broken e k a m t l = grind (arith, k, a, m, t, l)
