-- No event makes one leave or stay.
use Rattle.std.proofs.Common.{◌≡◌, ℕ, Bool, true, arith, List, Option}
use Rattle.nuc_base.specs.declared.kinds.Exit.{Exit}
use Rattle.nuc_base.specs.declared.kinds.Step.{Step}
use Rattle.lifecycle.specs.Life.{IsSound}
use Rattle.lifecycle.specs.declared.kinds.After.{After}
use Rattle.lifecycle.specs.declared.kinds.LifeEvent.{LifeEvent}
use Rattle.lifecycle.specs.declared.kinds.State.{State}
use Rattle.lifecycle.specs.declared.kinds.State.TheVariants as state
use Rattle.lifecycle.specs.declared.kinds.StepSet.{StepSet}
use Rattle.components.specs.Components.{Child, is_leaving, under_way}
use Rattle.components.specs.Fitted.{Fitted}
use Rattle.components.specs.Lives.{lived}
use Rattle.law_supervisor.specs.Sound.{may_ask}
use Rattle.law_supervisor.proofs.Made.{MayBefall, mk}

module _ (f : Fitted) (steps : StepSet) (n : ℕ) (busy : Option Step) (runs inst : Bool) (way : Option After) (cs : List Child) (hd : Bool)
    (o : Option (Step × Exit)) (asked : Option After) (nx : Option (Fitted × ℕ)) where
  pub leaving_at : (s : State) (e : LifeEvent) (b : Bool) → IsSound (mk f steps n busy runs inst way cs hd o asked nx s).life →
      may_ask (under_way (mk f steps n busy runs inst way cs hd o asked nx s).life) asked ≡ true →
      MayBefall e (mk f steps n busy runs inst way cs hd o asked nx s) → is_leaving (lived b e (mk f steps n busy runs inst way cs hd o asked nx s))
      ≡ is_leaving (mk f steps n busy runs inst way cs hd o asked nx s)
  leaving_at state.New e b k a m = grind (arith, k, a, m)
  leaving_at state.Installed e b k a m = grind (arith, k, a, m)
  leaving_at state.Starting e b k a m = grind (arith, k, a, m)
  leaving_at state.Running e b k a m = grind (arith, k, a, m)
  leaving_at state.Stopping e b k a m = grind (arith, k, a, m)
  leaving_at state.Finished e b k a m = grind (arith, k, a, m)
  leaving_at state.Errored e b k a m = grind (arith, k, a, m)
  leaving_at state.Broken e b k a m = grind (arith, k, a, m)
