-- Of one that goes nothing is left but children.
use Rattle.std.proofs.Common.{◌≡◌, ℕ, Bool, true, arith, List, Option}
use Rattle.nuc_base.specs.declared.kinds.Step.{Step}
use Rattle.nuc_base.specs.declared.kinds.Step.TheVariants as step
use Rattle.nuc_base.specs.declared.kinds.Exit.{Exit}
use Rattle.lifecycle.specs.declared.kinds.StepSet.{StepSet}
use Rattle.lifecycle.specs.declared.kinds.State.{State}
use Rattle.lifecycle.specs.declared.kinds.State.TheVariants as state
use Rattle.lifecycle.specs.declared.kinds.After.{After}
use Rattle.lifecycle.specs.declared.kinds.After.TheVariants as after
use Rattle.lifecycle.specs.declared.kinds.LifeEvent.{LifeEvent}
use Rattle.lifecycle.specs.declared.kinds.LifeEvent.TheVariants as event
use Rattle.components.specs.Fitted.{Fitted}
use Rattle.components.specs.Components.{Child, under_way}
use Rattle.components.specs.Lives.{lived}
use Rattle.lifecycle.specs.Life.{may_be_busy, may_run}
use Rattle.std.specs.Prelude.{not, ◌||◌}
use Rattle.law_supervisor.specs.Sound.{may_ask, is_bare}
use Rattle.law_supervisor.proofs.Made.{mk, MayBefall}

module _ (f : Fitted) (steps : StepSet) (n : ℕ) (busy : Option Step) (runs inst : Bool) (way : Option After) (cs : List Child) (hd : Bool)
    (o : Option (Step × Exit)) (asked : Option After) (nx : Option (Fitted × ℕ)) where
  pub bare_at : (s : State) (e : LifeEvent) (b : Bool) → may_be_busy s busy ≡ true → may_run s runs ≡ true →
      may_ask (under_way (mk f steps n busy runs inst way cs hd o asked nx s).life) asked ≡ true →
      MayBefall e (mk f steps n busy runs inst way cs hd o asked nx s) → (not (lived b e (mk f steps n busy runs inst way cs hd o asked nx s)).life.gone ||
      is_bare (lived b e (mk f steps n busy runs inst way cs hd o asked nx s))) ≡ true
  bare_at state.New e b k r a m = grind (arith, k, r, a, m)
  bare_at state.Installed e b k r a m = grind (arith, k, r, a, m)
  bare_at state.Starting event.MayBegin b k r a m = grind (arith, k, r, a, m)
  bare_at state.Starting event.Retry b k r a m = grind (arith, k, r, a, m)
  bare_at state.Starting event.Launched b k r a m = grind (arith, k, r, a, m)
  bare_at state.Starting event.Skipped b k r a m = grind (arith, k, r, a, m)
  bare_at state.Starting (event.Stop after.Restart) b k r a m = grind (arith, k, r, a, m)
  bare_at state.Starting (event.Stop after.Again) b k r a m = grind (arith, k, r, a, m)
  bare_at state.Starting (event.Stop after.Gone) b k r a m = grind (arith, k, r, a, m)
  bare_at state.Starting (event.Ended step.Install x) b k r a m = grind (arith, k, r, a, m)
  bare_at state.Starting (event.Ended step.Run x) b k r a m = grind (arith, k, r, a, m)
  bare_at state.Starting (event.Ended step.Startup x) b k r a m = grind (arith, k, r, a, m)
  bare_at state.Starting (event.Ended step.Shutdown x) b k r a m = grind (arith, k, r, a, m)
  bare_at state.Starting (event.Ended step.Recover x) b k r a m = grind (arith, k, r, a, m)
  bare_at state.Starting (event.Ended step.Bootstrap x) b k r a m = grind (arith, k, r, a, m)
  bare_at state.Running e b k r a m = grind (arith, k, r, a, m)
  bare_at state.Stopping e b k r a m = grind (arith, k, r, a, m)
  bare_at state.Finished e b k r a m = grind (arith, k, r, a, m)
  bare_at state.Errored e b k r a m = grind (arith, k, r, a, m)
  bare_at state.Broken e b k r a m = grind (arith, k, r, a, m)
