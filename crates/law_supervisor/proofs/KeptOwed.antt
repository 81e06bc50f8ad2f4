-- Whoever is to be replaced or goes owes nothing.
use Rattle.std.proofs.Common.{◌≡◌, ℕ, Bool, true, false, arith, List, Option, None}
use Rattle.nuc_base.specs.declared.kinds.Step.{Step}
use Rattle.nuc_base.specs.declared.kinds.Exit.{Exit}
use Rattle.lifecycle.specs.declared.kinds.StepSet.{StepSet}
use Rattle.lifecycle.specs.declared.kinds.State.{State}
use Rattle.lifecycle.specs.declared.kinds.State.TheVariants as state
use Rattle.lifecycle.specs.declared.kinds.After.{After}
use Rattle.lifecycle.specs.declared.kinds.LifeEvent.{LifeEvent}
use Rattle.lifecycle.specs.declared.kinds.LifeEvent.TheVariants as event
use Rattle.components.specs.Fitted.{Fitted}
use Rattle.components.specs.Components.{Child, under_way, is_spared}
use Rattle.components.specs.Lives.{lived}
use Rattle.std.specs.Prelude.{not, ◌||◌, is_some}
use Rattle.law_supervisor.specs.Sound.{may_ask}
use Rattle.law_supervisor.proofs.Made.{mk, MayBefall}

module _ (f : Fitted) (steps : StepSet) (n : ℕ) (busy : Option Step) (runs inst : Bool) (way : Option After) (cs : List Child) (hd : Bool)
    (o : Option (Step × Exit)) (asked : Option After) (nx : Option (Fitted × ℕ)) where
  pub owed_at : (s : State) (e : LifeEvent) → may_ask (under_way (mk f steps n busy runs inst way cs hd None asked nx s).life) asked ≡ true →
      MayBefall e (mk f steps n busy runs inst way cs hd None asked nx s) →
      (not (is_spared (lived false e (mk f steps n busy runs inst way cs hd None asked nx s)) ||
      (lived false e (mk f steps n busy runs inst way cs hd None asked nx s)).life.gone) ||
      not (is_some (lived false e (mk f steps n busy runs inst way cs hd None asked nx s)).owed)) ≡ true
  owed_at state.New event.MayBegin a m = grind (arith, a, m)
  owed_at state.New event.Retry a m = grind (arith, a, m)
  owed_at state.New event.Launched a m = grind (arith, a, m)
  owed_at state.New event.Skipped a m = grind (arith, a, m)
  owed_at state.New (event.Stop x) a m = grind (arith, a, m)
  owed_at state.New (event.Ended s x) a m = grind (arith, a, m)
  owed_at state.Installed e a m = grind (arith, a, m)
  owed_at state.Starting event.MayBegin a m = grind (arith, a, m)
  owed_at state.Starting event.Retry a m = grind (arith, a, m)
  owed_at state.Starting event.Launched a m = grind (arith, a, m)
  owed_at state.Starting event.Skipped a m = grind (arith, a, m)
  owed_at state.Starting (event.Stop x) a m = grind (arith, a, m)
  owed_at state.Starting (event.Ended s x) a m = grind (arith, a, m)
  owed_at state.Running event.MayBegin a m = grind (arith, a, m)
  owed_at state.Running event.Retry a m = grind (arith, a, m)
  owed_at state.Running event.Launched a m = grind (arith, a, m)
  owed_at state.Running event.Skipped a m = grind (arith, a, m)
  owed_at state.Running (event.Stop x) a m = grind (arith, a, m)
  owed_at state.Running (event.Ended s x) a m = grind (arith, a, m)
  owed_at state.Stopping e a m = grind (arith, a, m)
  owed_at state.Finished e a m = grind (arith, a, m)
  owed_at state.Errored e a m = grind (arith, a, m)
  owed_at state.Broken e a m = grind (arith, a, m)
