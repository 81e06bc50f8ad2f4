-- Where a call is within the run of one bootstrap.
use Rattle.std.specs.Prelude.{◌≡◌, ◌⊎◌, ℕ, Bool, true, false, List, Some, None}
use Rattle.nuc_base.specs.declared.kinds.Exit.{Exit}
use Rattle.nuc_base.specs.declared.kinds.Step.TheVariants as step
use Rattle.device.specs.Devices.{Device}
use Rattle.recipe_reader.specs.declared.recipe.Skip.{Skip}
use Rattle.recipe_reader.specs.declared.recipe.Skip.TheVariants as skips
use Rattle.step_runner.specs.Entries.{Told}
use Rattle.step_runner.specs.declared.entries.Seen.{Seen}
use Rattle.step_runner.specs.declared.entries.Seen.TheVariants as seen
use Rattle.components.specs.Events.{later}
use Rattle.components.specs.Components.{Components}
use Rattle.components.specs.declared.kinds.Prepared.{Prepared}
use Rattle.histories.specs.Phases.{duty_of, has_boots}
use Rattle.histories.specs.States.{SessionState}
use Rattle.histories.specs.Follows.{MayBoot}
use Rattle.histories.specs.Courses.{IsStateOf}
use Rattle.session_boots.specs.Stands.{IsStill}

-- what is seen of a probe
abbrev pub probe_seen : Skip → Bool → Seen
probe_seen (skips.Exists x) found = seen.Exists x found
probe_seen (skips.OnPath x) found = seen.OnPath x found

-- the bootstrap may be started, once a moment was asked for
pub record MayStep (p : SessionState) (made : Prepared) (told : Told) : Type 0 where
  pub may : MayBoot (duty_of p.device) p made
  pub still : IsStill p
  pub probed : p.probed ≡ false
  pub over : p.over ≡ false
  pub moment : p.world.moment ≡ told.moment

-- the runner tells of the state, and a moment was asked for where one is due
pub record IsUpToDate (p : SessionState) (told : Told) : Type 0 where
  pub moment : told.moment ≡ p.world.moment
  pub asked : told.asked ≡ p.fresh
  pub due : p.due ≡ true → p.fresh ≡ true
  pub over : p.over ≡ false
  pub cut : p.cut ≡ false

-- it may be probed
pub record MayProbe (p : SessionState) (made : Prepared) (told : Told) : Type 0 where
  pub may : MayBoot (duty_of p.device) p made
  pub still : IsStill p
  pub probed : p.probed ≡ false
  pub up_to_date : IsUpToDate p told

-- it needs no probe, or was probed and is not to be skipped
pub record MayStart (p : SessionState) (made : Prepared) (told : Told) : Type 0 where
  pub may : MayBoot (duty_of p.device) p made
  pub still : IsStill p
  pub asked : (made.skip ≡ None) ⊎ (p.probed ≡ true)
  pub up_to_date : IsUpToDate p told

-- it lives, until this deadline at most
pub record IsAlive (p : SessionState) (child deadline : ℕ) (told : Told) : Type 0 where
  pub phase : has_boots (duty_of p.device).phase ≡ true
  pub boot : p.boot ≡ Some (record { number = child; of = step.Bootstrap; deadline = Some deadline })
  pub no_end : p.boot_end ≡ None
  pub still : IsStill p
  pub up_to_date : IsUpToDate p told

-- from p on it ended so, which is still to be recorded
pub record IsEnded (p q : SessionState) (exit : Exit) (told : Told) : Type 0 where
  pub world : q.world ≡ later told.moment p.world
  pub generation : q.generation ≡ p.generation
  pub asked : told.asked ≡ q.fresh
  pub boot : q.boot ≡ None
  pub boot_end : q.boot_end ≡ Some exit
  pub over : q.over ≡ false
  pub cut : q.cut ≡ false

-- from p on the probe was asked
pub record IsProbed (p q : SessionState) (told : Told) : Type 0 where
  pub world : q.world ≡ p.world
  pub generation : q.generation ≡ p.generation
  pub up_to_date : IsUpToDate q told

-- The end of the bootstrap is there, and is to be recorded next.
pub record HasEnd (p : SessionState) (d : Device) (exit : Exit) (world : Components) (told : Told) (living : List ℕ) : Type 0 where
  pub stands : IsStateOf p d world told living
  pub still : IsStill p
  pub boot : p.boot ≡ None
  pub boot_end : p.boot_end ≡ Some exit
  pub over : p.over ≡ false
