-- What falls in one component at each event but an end of its run child, where no deployment is driven.
use Rattle.std.proofs.Common.{◌≡◌, ◌≤◌, ◌+◌, ℕ, Bool, true, false, arith, is_some, List, Option, refl}
use Rattle.nuc_base.specs.declared.kinds.Exit.{Exit}
use Rattle.nuc_base.specs.declared.kinds.Step.{Step}
use Rattle.nuc_base.specs.declared.kinds.Step.TheVariants as step
use Rattle.lifecycle.specs.Awaits.{is_busy_with}
use Rattle.lifecycle.specs.Life.{IsSound}
use Rattle.lifecycle.specs.Table.{table}
use Rattle.lifecycle.specs.declared.kinds.After.{After}
use Rattle.lifecycle.specs.declared.kinds.After.TheVariants as after
use Rattle.lifecycle.specs.declared.kinds.LifeEvent.{LifeEvent}
use Rattle.lifecycle.specs.declared.kinds.LifeEvent.TheVariants as event
use Rattle.lifecycle.specs.declared.kinds.State.{State}
use Rattle.lifecycle.specs.declared.kinds.State.TheVariants as state
use Rattle.lifecycle.specs.declared.kinds.StepSet.{StepSet}
use Rattle.components.specs.Components.{Child, under_way}
use Rattle.components.specs.Fitted.{Fitted}
use Rattle.components.specs.Lives.{lived, drops}
use Rattle.law_supervisor.specs.Sound.{may_ask}
use Rattle.law_supervisor.proofs.Made.{MayBefall, mk}
use Rattle.law_termination.specs.TurnRank.{core_steady}
use Rattle.law_termination.proofs.Cores.{gain}

-- the event is no end of a step but of the one that it is busy with
abbrev pub is_of_busy : LifeEvent → Option Step → Bool
is_of_busy event.MayBegin b = true
is_of_busy event.Retry b = true
is_of_busy event.Launched b = true
is_of_busy event.Skipped b = true
is_of_busy (event.Stop a) b = true
is_of_busy (event.Ended s x) b = is_busy_with s b

module _ (f : Fitted) (steps : StepSet) (n : ℕ) (busy : Option Step) (runs inst : Bool) (way : Option After) (cs : List Child) (hd : Bool)
    (o : Option (Step × Exit)) (asked : Option After) (nx : Option (Fitted × ℕ)) where
  pub steady_at : (s : State) (e : LifeEvent) → IsSound (mk f steps n busy runs inst way cs hd o asked nx s).life →
      may_ask (under_way (mk f steps n busy runs inst way cs hd o asked nx s).life) asked ≡ true →
      MayBefall e (mk f steps n busy runs inst way cs hd o asked nx s) → is_some (table (mk f steps n busy runs inst way cs hd o asked nx s).life e) ≡ true →
      is_of_busy e busy ≡ true
      → core_steady (lived true e (mk f steps n busy runs inst way cs hd o asked nx s)) + gain e (lived true e (mk f steps n busy runs inst way cs hd o asked
      nx s)).life.busy ≤ core_steady (mk f steps n busy runs inst way cs hd o asked nx s)
  steady_at state.New event.MayBegin k a m t y = grind (arith, k, a, m, t, y)
  steady_at state.New event.Retry k a m t y = grind (arith, k, a, m, t, y)
  steady_at state.New event.Launched k a m t y = grind (arith, k, a, m, t, y)
  steady_at state.New event.Skipped k a m t y = grind (arith, k, a, m, t, y)
  steady_at state.New (event.Stop after.Restart) k a m t y = grind (arith, k, a, m, t, y)
  steady_at state.New (event.Stop after.Again) k a m t y = grind (arith, k, a, m, t, y)
  steady_at state.New (event.Stop after.Gone) k a m t y = grind (arith, k, a, m, t, y)
  steady_at state.New (event.Ended step.Install x) k a m t y = grind (arith, k, a, m, t, y)
  steady_at state.New (event.Ended step.Run x) k a m t y = grind (arith, k, a, m, t, y)
  steady_at state.New (event.Ended step.Startup x) k a m t y = grind (arith, k, a, m, t, y)
  steady_at state.New (event.Ended step.Shutdown x) k a m t y = grind (arith, k, a, m, t, y)
  steady_at state.New (event.Ended step.Recover x) k a m t y = grind (arith, k, a, m, t, y)
  steady_at state.New (event.Ended step.Bootstrap x) k a m t y = grind (arith, k, a, m, t, y)
  steady_at state.Installed event.MayBegin k a m t y = grind (arith, k, a, m, t, y)
  steady_at state.Installed event.Retry k a m t y = grind (arith, k, a, m, t, y)
  steady_at state.Installed event.Launched k a m t y = grind (arith, k, a, m, t, y)
  steady_at state.Installed event.Skipped k a m t y = grind (arith, k, a, m, t, y)
  steady_at state.Installed (event.Stop after.Restart) k a m t y = grind (arith, k, a, m, t, y)
  steady_at state.Installed (event.Stop after.Again) k a m t y = grind (arith, k, a, m, t, y)
  steady_at state.Installed (event.Stop after.Gone) k a m t y = grind (arith, k, a, m, t, y)
  steady_at state.Installed (event.Ended step.Install x) k a m t y = grind (arith, k, a, m, t, y)
  steady_at state.Installed (event.Ended step.Run x) k a m t y = grind (arith, k, a, m, t, y)
  steady_at state.Installed (event.Ended step.Startup x) k a m t y = grind (arith, k, a, m, t, y)
  steady_at state.Installed (event.Ended step.Shutdown x) k a m t y = grind (arith, k, a, m, t, y)
  steady_at state.Installed (event.Ended step.Recover x) k a m t y = grind (arith, k, a, m, t, y)
  steady_at state.Installed (event.Ended step.Bootstrap x) k a m t y = grind (arith, k, a, m, t, y)
  steady_at state.Starting event.MayBegin k a m t y = grind (arith, k, a, m, t, y)
  steady_at state.Starting event.Retry k a m t y = grind (arith, k, a, m, t, y)
  steady_at state.Starting event.Launched k a m t y = grind (arith, k, a, m, t, y)
  steady_at state.Starting event.Skipped k a m t y = grind (arith, k, a, m, t, y)
  steady_at state.Starting (event.Stop after.Restart) k a m t y = grind (arith, k, a, m, t, y)
  steady_at state.Starting (event.Stop after.Again) k a m t y = grind (arith, k, a, m, t, y)
  steady_at state.Starting (event.Stop after.Gone) k a m t y = grind (arith, k, a, m, t, y)
  steady_at state.Starting (event.Ended step.Install x) k a m t y = grind (arith, k, a, m, t, y)
  steady_at state.Starting (event.Ended step.Run x) k a m t y = grind (arith, k, a, m, t, y)
  steady_at state.Starting (event.Ended step.Startup x) k a m t y = grind (arith, k, a, m, t, y)
  steady_at state.Starting (event.Ended step.Shutdown x) k a m t y = grind (arith, k, a, m, t, y)
  steady_at state.Starting (event.Ended step.Recover x) k a m t y = grind (arith, k, a, m, t, y)
  steady_at state.Starting (event.Ended step.Bootstrap x) k a m t y = grind (arith, k, a, m, t, y)
  steady_at state.Running event.MayBegin k a m t y = grind (arith, k, a, m, t, y)
  steady_at state.Running event.Retry k a m t y = grind (arith, k, a, m, t, y)
  steady_at state.Running event.Launched k a m t y = grind (arith, k, a, m, t, y)
  steady_at state.Running event.Skipped k a m t y = grind (arith, k, a, m, t, y)
  steady_at state.Running (event.Stop after.Restart) k a m t y = grind (arith, k, a, m, t, y)
  steady_at state.Running (event.Stop after.Again) k a m t y = grind (arith, k, a, m, t, y)
  steady_at state.Running (event.Stop after.Gone) k a m t y = grind (arith, k, a, m, t, y)
  steady_at state.Running (event.Ended step.Install x) k a m t y = grind (arith, k, a, m, t, y)
  steady_at state.Running (event.Ended step.Run x) k a m t y = grind (arith, k, a, m, t, y)
  steady_at state.Running (event.Ended step.Startup x) k a m t y = grind (arith, k, a, m, t, y)
  steady_at state.Running (event.Ended step.Shutdown x) k a m t y = grind (arith, k, a, m, t, y)
  steady_at state.Running (event.Ended step.Recover x) k a m t y = grind (arith, k, a, m, t, y)
  steady_at state.Running (event.Ended step.Bootstrap x) k a m t y = grind (arith, k, a, m, t, y)
  steady_at state.Stopping event.MayBegin k a m t y = grind (arith, k, a, m, t, y)
  steady_at state.Stopping event.Retry k a m t y = grind (arith, k, a, m, t, y)
  steady_at state.Stopping event.Launched k a m t y = grind (arith, k, a, m, t, y)
  steady_at state.Stopping event.Skipped k a m t y = grind (arith, k, a, m, t, y)
  steady_at state.Stopping (event.Stop after.Restart) k a m t y = grind (arith, k, a, m, t, y)
  steady_at state.Stopping (event.Stop after.Again) k a m t y = grind (arith, k, a, m, t, y)
  steady_at state.Stopping (event.Stop after.Gone) k a m t y = grind (arith, k, a, m, t, y)
  steady_at state.Stopping (event.Ended step.Install x) k a m t y = grind (arith, k, a, m, t, y)
  steady_at state.Stopping (event.Ended step.Run x) k a m t y = grind (arith, k, a, m, t, y)
  steady_at state.Stopping (event.Ended step.Startup x) k a m t y = grind (arith, k, a, m, t, y)
  steady_at state.Stopping (event.Ended step.Shutdown x) k a m t y = grind (arith, k, a, m, t, y)
  steady_at state.Stopping (event.Ended step.Recover x) k a m t y = grind (arith, k, a, m, t, y)
  steady_at state.Stopping (event.Ended step.Bootstrap x) k a m t y = grind (arith, k, a, m, t, y)
  steady_at state.Finished event.MayBegin k a m t y = grind (arith, k, a, m, t, y)
  steady_at state.Finished event.Retry k a m t y = grind (arith, k, a, m, t, y)
  steady_at state.Finished event.Launched k a m t y = grind (arith, k, a, m, t, y)
  steady_at state.Finished event.Skipped k a m t y = grind (arith, k, a, m, t, y)
  steady_at state.Finished (event.Stop after.Restart) k a m t y = grind (arith, k, a, m, t, y)
  steady_at state.Finished (event.Stop after.Again) k a m t y = grind (arith, k, a, m, t, y)
  steady_at state.Finished (event.Stop after.Gone) k a m t y = grind (arith, k, a, m, t, y)
  steady_at state.Finished (event.Ended step.Install x) k a m t y = grind (arith, k, a, m, t, y)
  steady_at state.Finished (event.Ended step.Run x) k a m t y = grind (arith, k, a, m, t, y)
  steady_at state.Finished (event.Ended step.Startup x) k a m t y = grind (arith, k, a, m, t, y)
  steady_at state.Finished (event.Ended step.Shutdown x) k a m t y = grind (arith, k, a, m, t, y)
  steady_at state.Finished (event.Ended step.Recover x) k a m t y = grind (arith, k, a, m, t, y)
  steady_at state.Finished (event.Ended step.Bootstrap x) k a m t y = grind (arith, k, a, m, t, y)
  steady_at state.Errored event.MayBegin k a m t y = grind (arith, k, a, m, t, y)
  steady_at state.Errored event.Retry k a m t y = grind (arith, k, a, m, t, y)
  steady_at state.Errored event.Launched k a m t y = grind (arith, k, a, m, t, y)
  steady_at state.Errored event.Skipped k a m t y = grind (arith, k, a, m, t, y)
  steady_at state.Errored (event.Stop after.Restart) k a m t y = grind (arith, k, a, m, t, y)
  steady_at state.Errored (event.Stop after.Again) k a m t y = grind (arith, k, a, m, t, y)
  steady_at state.Errored (event.Stop after.Gone) k a m t y = grind (arith, k, a, m, t, y)
  steady_at state.Errored (event.Ended step.Install x) k a m t y = grind (arith, k, a, m, t, y)
  steady_at state.Errored (event.Ended step.Run x) k a m t y = grind (arith, k, a, m, t, y)
  steady_at state.Errored (event.Ended step.Startup x) k a m t y = grind (arith, k, a, m, t, y)
  steady_at state.Errored (event.Ended step.Shutdown x) k a m t y = grind (arith, k, a, m, t, y)
  steady_at state.Errored (event.Ended step.Recover x) k a m t y = grind (arith, k, a, m, t, y)
  steady_at state.Errored (event.Ended step.Bootstrap x) k a m t y = grind (arith, k, a, m, t, y)
  steady_at state.Broken event.MayBegin k a m t y = grind (arith, k, a, m, t, y)
  steady_at state.Broken event.Retry k a m t y = grind (arith, k, a, m, t, y)
  steady_at state.Broken event.Launched k a m t y = grind (arith, k, a, m, t, y)
  steady_at state.Broken event.Skipped k a m t y = grind (arith, k, a, m, t, y)
  steady_at state.Broken (event.Stop after.Restart) k a m t y = grind (arith, k, a, m, t, y)
  steady_at state.Broken (event.Stop after.Again) k a m t y = grind (arith, k, a, m, t, y)
  steady_at state.Broken (event.Stop after.Gone) k a m t y = grind (arith, k, a, m, t, y)
  steady_at state.Broken (event.Ended step.Install x) k a m t y = grind (arith, k, a, m, t, y)
  steady_at state.Broken (event.Ended step.Run x) k a m t y = grind (arith, k, a, m, t, y)
  steady_at state.Broken (event.Ended step.Startup x) k a m t y = grind (arith, k, a, m, t, y)
  steady_at state.Broken (event.Ended step.Shutdown x) k a m t y = grind (arith, k, a, m, t, y)
  steady_at state.Broken (event.Ended step.Recover x) k a m t y = grind (arith, k, a, m, t, y)
  steady_at state.Broken (event.Ended step.Bootstrap x) k a m t y = grind (arith, k, a, m, t, y)

  pub no_drop_at : (s : State) (e : LifeEvent) → IsSound (mk f steps n busy runs inst way cs hd o asked nx s).life →
      MayBefall e (mk f steps n busy runs inst way cs hd o asked nx s) → is_some (table (mk f steps n busy runs inst way cs hd o asked nx s).life e) ≡ true →
      is_of_busy e busy ≡ true → drops true e (mk f steps n busy runs inst way cs hd o asked nx s) ≡ false
  no_drop_at state.New e k m t y = refl
  no_drop_at state.Installed e k m t y = refl
  no_drop_at state.Starting e k m t y = refl
  no_drop_at state.Running event.MayBegin k m t y = grind (arith, k, m, t, y)
  no_drop_at state.Running event.Retry k m t y = grind (arith, k, m, t, y)
  no_drop_at state.Running event.Launched k m t y = grind (arith, k, m, t, y)
  no_drop_at state.Running event.Skipped k m t y = grind (arith, k, m, t, y)
  no_drop_at state.Running (event.Stop x) k m t y = grind (arith, k, m, t, y)
  no_drop_at state.Running (event.Ended s x) k m t y = grind (arith, k, m, t, y)
  no_drop_at state.Stopping e k m t y = refl
  no_drop_at state.Finished event.MayBegin k m t y = grind (arith, k, m, t, y)
  no_drop_at state.Finished event.Retry k m t y = grind (arith, k, m, t, y)
  no_drop_at state.Finished event.Launched k m t y = grind (arith, k, m, t, y)
  no_drop_at state.Finished event.Skipped k m t y = grind (arith, k, m, t, y)
  no_drop_at state.Finished (event.Stop x) k m t y = grind (arith, k, m, t, y)
  no_drop_at state.Finished (event.Ended s x) k m t y = grind (arith, k, m, t, y)
  no_drop_at state.Errored e k m t y = refl
  no_drop_at state.Broken e k m t y = refl
