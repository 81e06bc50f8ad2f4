-- A deployment fails: what its plan wants then, and what the one record of that leaves.
use Rattle.std.specs.Prelude.{◌≡◌, ◌↔◌, ℕ, Bool, true, false, List, None, IsSome, Contains, ⊤}
use Rattle.std.specs.Option.{option_map_or}
use Rattle.nuc_base.specs.declared.kinds.Outcome.{Outcome}
use Rattle.nuc_base.specs.declared.kinds.Outcome.TheVariants as outcomes
use Rattle.nuc_base.specs.declared.kinds.Policy.{Policy}
use Rattle.nuc_base.specs.declared.kinds.Policy.TheVariants as policies
use Rattle.records.specs.Stored.{Record}
use Rattle.device.specs.Devices.{Device}
use Rattle.device.specs.Lawful.{applied}
use Rattle.deploy_state.specs.Fields.{IsBreak}
use Rattle.step_runner.specs.Entries.{Told}
use Rattle.components.specs.Components.{Components, owner}
use Rattle.components.specs.Turns.{IsQuiet}
use Rattle.components.specs.Answers.{living_numbers}
use Rattle.histories.specs.Phases.{duty_of}
use Rattle.histories.specs.States.{SessionState}
use Rattle.histories.specs.Courses.{IsStateOf}
use Rattle.histories.specs.Follows.{MayStopAll}
use Rattle.law_supervisor.specs.Sound.{AreDistinct, IsOrderly}
use Rattle.session_boots.specs.Stands.{generation_of}

-- ---- what the plan wants

abbrev pub is_rollback : Policy → Bool
is_rollback policies.Rollback = true
is_rollback policies.DoNothing = false

-- the pending deployment is to be rolled back where it fails
abbrev pub is_to_roll_back : Device → Bool
is_to_roll_back d = option_map_or (λ q. is_rollback q.plan.policy) d.pending false

-- a deployment that failed closes so
abbrev pub IsFailure : Outcome → Type 0
IsFailure outcomes.Successful = ⊥
IsFailure outcomes.RollbackComplete = ⊥
IsFailure outcomes.RollbackNotRequested = ⊤
IsFailure outcomes.UnableToRollback = ⊤

-- ---- what it leaves

-- one record began the deployment's rollback
abbrev pub DeviceAfterBreak : Device → Device → Type 0
DeviceAfterBreak d e = (r : Record) × IsBreak d r × (e ≡ applied d r)

-- The way back begins: nothing of it was done, no component may act, and all may be stopped.
pub record IsAtRollbackStart (p : SessionState) (d : Device) (world : Components) (told : Told) (living : List ℕ) : Type 0 where
  pub stands : IsStateOf p d world told living
  pub quiet : IsQuiet p.world
  pub orderly : IsOrderly p.world
  pub generation : p.generation ≡ generation_of p.world
  pub clear : MayStopAll (duty_of p.device) (duty_of p.device).phase p.generation p
  pub boot : p.boot ≡ None
  pub boot_end : p.boot_end ≡ None
  pub probed : p.probed ≡ false
  pub over : p.over ≡ false
  pub cut : p.cut ≡ false

-- Where a call gives up that has not yet asked for the moment of its next entry: its children live still, each is one of a
-- component by the supervisor too, and none is cut yet.
pub record IsGivenUp (p : SessionState) (world : Components) (told : Told) (living : List ℕ) : Type 0 where
  pub moment : told.moment ≡ p.world.moment
  pub asked : told.asked ≡ p.fresh
  pub boot : p.boot ≡ None
  pub boot_end : p.boot_end ≡ None
  pub over : p.over ≡ false
  pub cut : p.cut ≡ false
  pub differ : AreDistinct (living_numbers p.world.parts)
  pub owners : (n : ℕ) → owner n world.parts ≡ owner n p.world.parts
  pub children : (n : ℕ) → Contains living n ↔ IsSome (owner n p.world.parts)
