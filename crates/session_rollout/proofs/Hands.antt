-- A part that keeps no record, where the device is in hand.
use Rattle.std.specs.Prelude.{ℕ, Bool, List, Option}
use Rattle.std.proofs.Common.{◌≡◌, refl, sym, subst}
use Rattle.disk_model.specs.Disk.{Image, DiskLaws}
use Rattle.gate_log.specs.Journal.{JournalLaws}
use Rattle.device.specs.Devices.{Device}
use Rattle.device.specs.Standing.{StandsFor}
use Rattle.deploy_state.proofs.Steps.{in_hand_stands}
use Rattle.deploy_state.specs.Owned.{OwnsJournal}
use Rattle.deploy_state.specs.States.{OwnsBrokenOff, OwnsLoaded, broken_device, loaded_device}
use Rattle.deploy_state.specs.declared.state.BrokeOff.{BrokeOff}
use Rattle.deploy_state.specs.declared.state.BrokeOff.TheVariants as broken
use Rattle.step_runner.specs.declared.entries.RunnerEntry.{RunnerEntry}
use Rattle.histories.specs.TraceEvents.{TraceEvent}
use Rattle.histories.specs.States.{SessionState}
use Rattle.session_boots.specs.Traces.{ActTrace, IsTrace}
use Rattle.session_boots.proofs.Joins.{acted}

pub acted_held : {J D : Type 0} {is_modelled : Bool} {seen : D → Image} {may_leave : D → Image → Type 0} {moment : D → ℕ} {left_since : D → ℕ → Image → Type 0}
    {files : List ℕ → Type 0} {entries : Image → List (List ℕ) → Type 0} {holds_none : Image → Type 0} {is_damaged : Image → ℕ → Type 0} {stands : J → Image →
    List (List ℕ) → Type 0} {end : J → ℕ}
    → DiskLaws is_modelled seen may_leave moment left_since → JournalLaws files entries holds_none is_damaged stands end
    → (log : J) (disk : D) (a b : Option (List RunnerEntry)) (p : SessionState) (d : Device) (h : List TraceEvent) → p.device ≡ d →
    OwnsJournal is_modelled may_leave stands end log disk d → ActTrace p h a b
    → IsTrace entries files may_leave moment left_since disk disk a b p h
acted_held {files} {entries} disk_laws laws log disk a b p d h is held acts =
    acted entries files disk_laws disk a b p h (λ i left. subst (λ (x : Device). StandsFor entries i x) (sym is)
    (in_hand_stands disk_laws laws log disk d held i left)) acts

module _ {J D : Type 0} (is_modelled : Bool) (may_leave : D → Image → Type 0) (stands : J → Image → List (List ℕ) → Type 0) (end : J → ℕ) where
  -- where the way back has begun
  pub broken_held : (b : BrokeOff J) (disk : D) → OwnsBrokenOff is_modelled may_leave stands end b disk → (log : J) ×
      OwnsJournal is_modelled may_leave stands end log disk (broken_device b)
  broken_held (broken.Backing s) disk h = (s.hand.log, h.0.0)
  broken_held (broken.Rolling s) disk h = (s.hand.log, h.0.0)
