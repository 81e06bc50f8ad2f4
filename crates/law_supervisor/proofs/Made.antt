-- A component that stands, and what may befall it.
use Rattle.std.proofs.Common.{◌≡◌, ℕ, Bool, true, false, List, Option, Some, None, ◌+◌, ◌<◌, ap}
use Rattle.std.specs.Prelude.{⊤, ◌≢◌, not, ◌&&◌, ◌||◌, pos}
use Rattle.std.specs.Option.{IsSomeAnd}
use Rattle.nuc_base.specs.declared.kinds.Step.{Step}
use Rattle.nuc_base.specs.declared.kinds.Exit.{Exit}
use Rattle.nuc_base.specs.declared.kinds.Step.TheVariants as step
use Rattle.nuc_base.specs.declared.kinds.Exit.TheVariants as exits
use Rattle.lifecycle.specs.Awaits.{is_same_step, is_busy_with}
use Rattle.lifecycle.specs.Table.{is_good}
use Rattle.device.specs.Lawful.{IsWork}
use Rattle.lifecycle.specs.declared.kinds.StepSet.{StepSet}
use Rattle.lifecycle.specs.declared.kinds.State.{State}
use Rattle.lifecycle.specs.declared.kinds.After.{After}
use Rattle.lifecycle.specs.declared.kinds.LifeEvent.{LifeEvent}
use Rattle.lifecycle.specs.declared.kinds.LifeEvent.TheVariants as event
use Rattle.components.specs.Fitted.{Fitted}
use Rattle.components.specs.Components.{ComponentState, Child, is_to_stop}

-- it begins and tries again where it is not to be stopped, and a stop is one that is asked for
abbrev pub MayBefall : LifeEvent → ComponentState → Type 0
MayBefall event.MayBegin p = is_to_stop p ≡ false
MayBefall event.Retry p = is_to_stop p ≡ false
MayBefall (event.Stop a) p = p.stop ≡ Some a
MayBefall event.Launched p = ⊤
MayBefall event.Skipped p = ⊤
MayBefall (event.Ended s x) p = ⊤

abbrev pub begins : LifeEvent → Bool
begins event.MayBegin = true
begins e = false

-- a run that was begun and not answered ends badly alone
abbrev pub ends_fairly : LifeEvent → ComponentState → Bool
ends_fairly (event.Ended s x) p = not (is_same_step s step.Run && is_busy_with step.Run p.life.busy) || not (is_good x)
ends_fairly e p = true

-- the count is that of the component, but for a failure that is not recorded yet
abbrev pub Agrees : Option ℕ → ℕ → Option (Step × Exit) → Type 0
Agrees c failures None = c ≡ Some failures
Agrees c failures (Some f) = IsSomeAnd c (λ m. (failures ≡ m + 1) × (m < 3)) × IsWork f.0 × (f.1 ≢ exits.Code (pos 0))

pub bad : (x : Exit) → is_good x ≡ false → x ≢ exits.Code (pos 0)
bad x e h = let y : is_good x ≡ true = ap is_good h in clash (is_good x) y e
  where
    clash : (b : Bool) → b ≡ true → b ≡ false → ⊥
    clash true e f = absurd (cc)
    clash false e f = absurd (cc)

module _ (f : Fitted) (steps : StepSet) (n : ℕ) (busy : Option Step) (runs inst : Bool) (way : Option After) (cs : List Child) (hd : Bool)
    (o : Option (Step × Exit)) (asked : Option After) (nx : Option (Fitted × ℕ)) where
  -- a component that stands
  abbrev pub mk : State → ComponentState
  mk s = record {
    fitted = f;
    children = cs;
    handed = hd;
    owed = o;
    stop = asked;
    next = nx;
    life = record { steps = steps; state = s; failures = n; busy = busy; runs = runs; install_failed = inst; stop = way; gone = false };
  }
