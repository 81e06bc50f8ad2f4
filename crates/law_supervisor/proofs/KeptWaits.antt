-- An item waits for a stop with Again.
use Rattle.std.proofs.Common.{◌≡◌, ℕ, Bool, true, arith, List, Option}
use Rattle.nuc_base.specs.declared.kinds.Step.{Step}
use Rattle.nuc_base.specs.declared.kinds.Exit.{Exit}
use Rattle.lifecycle.specs.declared.kinds.StepSet.{StepSet}
use Rattle.lifecycle.specs.declared.kinds.State.{State}
use Rattle.lifecycle.specs.declared.kinds.State.TheVariants as state
use Rattle.lifecycle.specs.declared.kinds.After.{After}
use Rattle.lifecycle.specs.declared.kinds.LifeEvent.{LifeEvent}
use Rattle.components.specs.Fitted.{Fitted}
use Rattle.components.specs.Components.{Child, under_way}
use Rattle.components.specs.Lives.{lived}
use Rattle.std.specs.Prelude.{not, ◌||◌}
use Rattle.law_supervisor.specs.Sound.{may_ask, is_waiting, is_to_begin_again}
use Rattle.law_supervisor.proofs.Made.{mk, MayBefall}

module _ (f : Fitted) (steps : StepSet) (n : ℕ) (busy : Option Step) (runs inst : Bool) (way : Option After) (cs : List Child) (hd : Bool)
    (o : Option (Step × Exit)) (asked : Option After) (nx : Option (Fitted × ℕ)) where
  pub waits_at : (s : State) (e : LifeEvent) (b : Bool) → may_ask (under_way (mk f steps n busy runs inst way cs hd o asked nx s).life) asked ≡ true →
      MayBefall e (mk f steps n busy runs inst way cs hd o asked nx s) → (not (is_waiting (mk f steps n busy runs inst way cs hd o asked nx s)) ||
      is_to_begin_again (mk f steps n busy runs inst way cs hd o asked nx s)) ≡ true →
      (not (is_waiting (lived b e (mk f steps n busy runs inst way cs hd o asked nx s))) || is_to_begin_again
      (lived b e (mk f steps n busy runs inst way cs hd o asked nx s))) ≡ true
  waits_at state.New e b a m h = grind (arith, a, m, h)
  waits_at state.Installed e b a m h = grind (arith, a, m, h)
  waits_at state.Starting e b a m h = grind (arith, a, m, h)
  waits_at state.Running e b a m h = grind (arith, a, m, h)
  waits_at state.Stopping e b a m h = grind (arith, a, m, h)
  waits_at state.Finished e b a m h = grind (arith, a, m, h)
  waits_at state.Errored e b a m h = grind (arith, a, m, h)
  waits_at state.Broken e b a m h = grind (arith, a, m, h)
