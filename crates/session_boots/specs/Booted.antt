-- What the bootstraps of a stage leave.
use Rattle.std.specs.Prelude.{◌≡◌, ℕ, Bool, true, false, List, [], ◌∷◌, ◌++◌, Option, Some, None, is_none, pos, is_some, ◌&&◌, if◌then◌else◌}
use Rattle.std.specs.Ordering.{int_eq}
use Rattle.nuc_base.specs.declared.kinds.Exit.{Exit}
use Rattle.nuc_base.specs.declared.kinds.Exit.TheVariants as exits
use Rattle.records.specs.Stored.{Record, BootEnded}
use Rattle.device.specs.Devices.{Device}
use Rattle.step_runner.specs.Entries.{Told}
use Rattle.components.specs.Components.{Components}
use Rattle.histories.specs.Phases.{duty_of}
use Rattle.histories.specs.States.{SessionState}
use Rattle.deploy_state.specs.Fields.{has_failed}
use Rattle.session_boots.specs.Stands.{IsBetween, IsAtBootStage}
use Rattle.session_boots.specs.declared.ends.Booted.{Booted}
use Rattle.session_boots.specs.declared.ends.Booted.TheVariants as booted

-- The end of the call for which a bootstrap's end asks: by 100 and 101, and by 0 where it is the last.
abbrev pub restart_of : Exit → Bool → Option Booted
restart_of (exits.Code z) last =
    if int_eq z (pos 100) then Some booted.Restart
    else (if int_eq z (pos 101) then Some booted.Reboot
    else (if int_eq z (pos 0) && last then Some booted.Restart else None))
restart_of e last = None

-- the last of the records is that a bootstrap ended so
abbrev pub LastBootEnded : Exit → List Record → Type 0
LastBootEnded exit records = (prefix : List Record) × (name : List ℕ) × (records ≡ prefix ++ BootEnded name exit ∷ [])

-- the last of the records is an end that asks for this
abbrev pub AsksFor : Booted → List Record → Device → Type 0
AsksFor end records d = (exit : Exit) × LastBootEnded exit records × (restart_of exit (is_none (duty_of d).next_bootstrap) ≡ Some end)

-- how a stage's bootstraps ended, by the records and by what the history left
abbrev pub BootsLeft : Booted → List Record → SessionState → Device → Components → Told → List ℕ → Type 0
BootsLeft booted.Through records q d world told living = IsAtBootStage q d world told living × ((duty_of d).next_bootstrap ≡ None) × (has_failed d ≡ false)
BootsLeft booted.Failed records q d world told living = IsAtBootStage q d world told living × (has_failed d ≡ true)
BootsLeft booted.Restart records q d world told living = IsBetween q d world told living × (q.over ≡ true) × AsksFor booted.Restart records d
BootsLeft booted.Reboot records q d world told living = IsBetween q d world told living × (q.over ≡ true) × AsksFor booted.Reboot records d

-- The run of one bootstrap left it so: its end is recorded, and the call is over where that end asks for it.
abbrev pub BootTurnLeft : Exit → List Record → SessionState → Device → Components → Told → List ℕ → Type 0
BootTurnLeft exit records q d world told living = IsBetween q d world told living × (q.over ≡ is_some (restart_of exit (is_none (duty_of d).next_bootstrap))) ×
    LastBootEnded exit records
