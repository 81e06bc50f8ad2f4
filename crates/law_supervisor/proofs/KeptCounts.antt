-- The count is that of the component, but for a failure that is owed.
use Rattle.std.proofs.Common.{◌≡◌, ℕ, Bool, true, false, arith, List, Option, None, Some}
use Rattle.nuc_base.specs.declared.kinds.Step.{Step}
use Rattle.nuc_base.specs.declared.kinds.Exit.{Exit}
use Rattle.lifecycle.specs.declared.kinds.StepSet.{StepSet}
use Rattle.lifecycle.specs.declared.kinds.State.{State}
use Rattle.lifecycle.specs.declared.kinds.State.TheVariants as state
use Rattle.lifecycle.specs.declared.kinds.After.{After}
use Rattle.lifecycle.specs.declared.kinds.LifeEvent.{LifeEvent}
use Rattle.lifecycle.specs.declared.kinds.LifeEvent.TheVariants as event
use Rattle.components.specs.Fitted.{Fitted, name_of}
use Rattle.components.specs.Components.{Child, under_way, is_spared, is_gone, component_name}
use Rattle.components.specs.Lives.{lived}
use Rattle.lifecycle.specs.Life.{MayHave}
use Rattle.std.specs.Prelude.{not, ◌||◌}
use Rattle.std.specs.Option.{IfSome}
use Rattle.law_supervisor.specs.Sound.{may_ask, is_waiting, is_to_begin_again}
use Rattle.law_supervisor.proofs.Made.{mk, MayBefall, ends_fairly, Agrees, bad}

module _ (f : Fitted) (steps : StepSet) (n : ℕ) (busy : Option Step) (runs inst : Bool) (way : Option After) (cs : List Child) (hd : Bool)
    (o : Option (Step × Exit)) (asked : Option After) (nx : Option (Fitted × ℕ)) (C : List ℕ → Option ℕ) where
  pub counts_at : (s : State) (e : LifeEvent) → MayHave s n → may_ask (under_way (mk f steps n busy runs inst way cs hd None asked nx s).life) asked ≡ true →
      MayBefall e (mk f steps n busy runs inst way cs hd None asked nx s) →
      (not (is_to_begin_again (mk f steps n busy runs inst way cs hd None asked nx s)) ||
      (is_waiting (mk f steps n busy runs inst way cs hd None asked nx s) || is_gone asked)) ≡ true →
      ends_fairly e (mk f steps n busy runs inst way cs hd None asked nx s) ≡ true →
      (is_spared (mk f steps n busy runs inst way cs hd None asked nx s) ≡ false → C (name_of f) ≡ Some n) →
      IfSome nx (λ (z : Fitted × ℕ). (name_of z.0 ≡ name_of f) × (C (name_of z.0) ≡ Some z.1)) →
      is_spared (lived false e (mk f steps n busy runs inst way cs hd None asked nx s)) ≡ false →
      (lived false e (mk f steps n busy runs inst way cs hd None asked nx s)).life.gone ≡ false →
      Agrees (C (component_name (lived false e (mk f steps n busy runs inst way cs hd None asked nx s))))
      (lived false e (mk f steps n busy runs inst way cs hd None asked nx s)).life.failures
      (lived false e (mk f steps n busy runs inst way cs hd None asked nx s)).owed
  counts_at state.New event.MayBegin k a m t g w c u v = grind (arith, k, a, m, t, g, w, c, u, v, bad)
  counts_at state.New event.Retry k a m t g w c u v = grind (arith, k, a, m, t, g, w, c, u, v, bad)
  counts_at state.New event.Launched k a m t g w c u v = grind (arith, k, a, m, t, g, w, c, u, v, bad)
  counts_at state.New event.Skipped k a m t g w c u v = grind (arith, k, a, m, t, g, w, c, u, v, bad)
  counts_at state.New (event.Stop x) k a m t g w c u v = grind (arith, k, a, m, t, g, w, c, u, v, bad)
  counts_at state.New (event.Ended s x) k a m t g w c u v = grind (arith, k, a, m, t, g, w, c, u, v, bad)
  counts_at state.Installed e k a m t g w c u v = grind (arith, k, a, m, t, g, w, c, u, v, bad)
  counts_at state.Starting event.MayBegin k a m t g w c u v = grind (arith, k, a, m, t, g, w, c, u, v, bad)
  counts_at state.Starting event.Retry k a m t g w c u v = grind (arith, k, a, m, t, g, w, c, u, v, bad)
  counts_at state.Starting event.Launched k a m t g w c u v = grind (arith, k, a, m, t, g, w, c, u, v, bad)
  counts_at state.Starting event.Skipped k a m t g w c u v = grind (arith, k, a, m, t, g, w, c, u, v, bad)
  counts_at state.Starting (event.Stop x) k a m t g w c u v = grind (arith, k, a, m, t, g, w, c, u, v, bad)
  counts_at state.Starting (event.Ended s x) k a m t g w c u v = grind (arith, k, a, m, t, g, w, c, u, v, bad)
  counts_at state.Running event.MayBegin k a m t g w c u v = grind (arith, k, a, m, t, g, w, c, u, v, bad)
  counts_at state.Running event.Retry k a m t g w c u v = grind (arith, k, a, m, t, g, w, c, u, v, bad)
  counts_at state.Running event.Launched k a m t g w c u v = grind (arith, k, a, m, t, g, w, c, u, v, bad)
  counts_at state.Running event.Skipped k a m t g w c u v = grind (arith, k, a, m, t, g, w, c, u, v, bad)
  counts_at state.Running (event.Stop x) k a m t g w c u v = grind (arith, k, a, m, t, g, w, c, u, v, bad)
  counts_at state.Running (event.Ended s x) k a m t g w c u v = grind (arith, k, a, m, t, g, w, c, u, v, bad)
  counts_at state.Stopping e k a m t g w c u v = grind (arith, k, a, m, t, g, w, c, u, v, bad)
  counts_at state.Finished e k a m t g w c u v = grind (arith, k, a, m, t, g, w, c, u, v, bad)
  counts_at state.Errored e k a m t g w c u v = grind (arith, k, a, m, t, g, w, c, u, v, bad)
  counts_at state.Broken e k a m t g w c u v = grind (arith, k, a, m, t, g, w, c, u, v, bad)
