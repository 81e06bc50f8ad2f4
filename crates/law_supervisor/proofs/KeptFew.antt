-- Three failures are BROKEN.
use Rattle.std.proofs.Common.{◌≡◌, ℕ, Bool, arith, List, Option, ◌<◌}
use Rattle.nuc_base.specs.declared.kinds.Step.{Step}
use Rattle.nuc_base.specs.declared.kinds.Exit.{Exit}
use Rattle.lifecycle.specs.declared.kinds.StepSet.{StepSet}
use Rattle.lifecycle.specs.declared.kinds.State.{State}
use Rattle.lifecycle.specs.declared.kinds.State.TheVariants as state
use Rattle.lifecycle.specs.declared.kinds.After.{After}
use Rattle.lifecycle.specs.declared.kinds.LifeEvent.{LifeEvent}
use Rattle.components.specs.Fitted.{Fitted, name_of}
use Rattle.components.specs.Components.{Child}
use Rattle.components.specs.Lives.{lived}
use Rattle.lifecycle.specs.Life.{MayHave}
use Rattle.std.specs.Option.{IfSome}
use Rattle.law_supervisor.proofs.Made.{mk}

module _ (f : Fitted) (steps : StepSet) (n : ℕ) (busy : Option Step) (runs inst : Bool) (way : Option After) (cs : List Child) (hd : Bool)
    (o : Option (Step × Exit)) (asked : Option After) (nx : Option (Fitted × ℕ)) where
  pub few_at : (s : State) (e : LifeEvent) (b : Bool) → MayHave s n → IfSome nx (λ (z : Fitted × ℕ). (name_of z.0 ≡ name_of f) × (z.1 < 3)) →
      MayHave (lived b e (mk f steps n busy runs inst way cs hd o asked nx s)).life.state
      (lived b e (mk f steps n busy runs inst way cs hd o asked nx s)).life.failures
  few_at state.New e b k c = grind (arith, k, c)
  few_at state.Installed e b k c = grind (arith, k, c)
  few_at state.Starting e b k c = grind (arith, k, c)
  few_at state.Running e b k c = grind (arith, k, c)
  few_at state.Stopping e b k c = grind (arith, k, c)
  few_at state.Finished e b k c = grind (arith, k, c)
  few_at state.Errored e b k c = grind (arith, k, c)
  few_at state.Broken e b k c = grind (arith, k, c)
