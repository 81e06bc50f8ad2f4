-- One that is BROKEN failed three times.
use Rattle.std.proofs.Common.{◌≡◌, ℕ, Bool, true, false, arith, List, Option}
use Rattle.nuc_base.specs.declared.kinds.Step.{Step}
use Rattle.nuc_base.specs.declared.kinds.Exit.{Exit}
use Rattle.lifecycle.specs.declared.kinds.StepSet.{StepSet}
use Rattle.lifecycle.specs.declared.kinds.State.{State}
use Rattle.lifecycle.specs.declared.kinds.State.TheVariants as state
use Rattle.lifecycle.specs.declared.kinds.After.{After}
use Rattle.lifecycle.specs.declared.kinds.LifeEvent.{LifeEvent}
use Rattle.components.specs.Fitted.{Fitted}
use Rattle.components.specs.Components.{Child, under_way, is_spared, is_broken}
use Rattle.components.specs.Lives.{lived}
use Rattle.law_supervisor.specs.Sound.{may_ask}
use Rattle.law_supervisor.proofs.Made.{mk, MayBefall}

module _ (f : Fitted) (steps : StepSet) (n : ℕ) (busy : Option Step) (runs inst : Bool) (way : Option After) (cs : List Child) (hd : Bool)
    (o : Option (Step × Exit)) (asked : Option After) (nx : Option (Fitted × ℕ)) where
  pub broken_at : (s : State) (e : LifeEvent) → may_ask (under_way (mk f steps n busy runs inst way cs hd o asked nx s).life) asked ≡ true →
      MayBefall e (mk f steps n busy runs inst way cs hd o asked nx s) → (is_spared (mk f steps n busy runs inst way cs hd o asked nx s) ≡ false →
      is_broken s ≡ true → n ≡ 3) → is_spared (lived false e (mk f steps n busy runs inst way cs hd o asked nx s)) ≡ false →
      (lived false e (mk f steps n busy runs inst way cs hd o asked nx s)).life.gone ≡ false →
      is_broken (lived false e (mk f steps n busy runs inst way cs hd o asked nx s)).life.state ≡ true →
      (lived false e (mk f steps n busy runs inst way cs hd o asked nx s)).life.failures ≡ 3
  broken_at state.New e _ _ _ _ _ y = grind (arith, y)
  broken_at state.Installed e _ _ _ _ _ y = grind (arith, y)
  broken_at state.Starting e _ _ _ _ _ y = grind (arith, y)
  broken_at state.Running e _ _ _ _ _ y = grind (arith, y)
  broken_at state.Stopping e _ _ _ _ _ y = grind (arith, y)
  broken_at state.Finished e _ _ _ _ _ y = grind (arith, y)
  broken_at state.Errored e _ _ _ _ _ y = grind (arith, y)
  broken_at state.Broken e _ m h u v y = grind (arith, m, h, u, v, y)
