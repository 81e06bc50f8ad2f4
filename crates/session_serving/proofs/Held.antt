-- What is in hand, and for which device the images stand.
use Rattle.std.specs.Prelude.{Option, Some, None, IsSome}
use Rattle.records.specs.declared.record.Origin.{Origin}
use Rattle.std.proofs.Common.{◌≡◌, refl, sym, subst}
use Rattle.disk_model.specs.Disk.{DiskLaws}
use Rattle.disk_model.specs.declared.disk.Disk as a_disk
use Rattle.gate_log.specs.Journal.{JournalLaws}
use Rattle.gate_log.specs.declared.journal.Journal as a_journal
use Rattle.device.specs.Devices.{Device}
use Rattle.deploy_state.specs.States.{OwnsIdle, idle_device}
use Rattle.deploy_state.specs.declared.state.Idle.{Idle}
use Rattle.deploy_state.proofs.Steps.{in_hand_stands}
use Rattle.components.specs.Components.{Components}
use Rattle.deploy_state.specs.Objects.{OwnsOver}
use Rattle.session_serving.specs.Parts.{AllStandFor}
use Rattle.session_serving.specs.States.{AreUp}
use Rattle.session_serving.specs.Turns.{OwnsTurned, UpTurned}
use Rattle.session_serving.specs.declared.turned.Turned.{Turned}
use Rattle.session_serving.specs.declared.turned.Turned.TheVariants as turned

module _ {D J : Type 0} (disk : a_disk.Ghosts D) (journal : a_journal.Ghosts J) where
  module _ (laws : DiskLaws disk.is_modelled disk.seen disk.may_leave disk.moment disk.left_since)
      (own : JournalLaws journal.files journal.entries journal.holds_none journal.is_damaged journal.stands journal.end) where
    pub idle_stands : (s : Idle J) (now : D) → OwnsOver disk journal OwnsIdle s now → (d : Device) → d ≡ idle_device s → AllStandFor disk journal now d
    idle_stands s now held d is =
        subst (λ (x : Device). AllStandFor disk journal now x) (sym is) (λ c left. in_hand_stands laws own s.log now (idle_device s) held.0 c left)

  pub held_on : (r : Turned J) (s : Idle J) (now : D) → r ≡ turned.On s → OwnsOver disk journal OwnsTurned r now → OwnsOver disk journal OwnsIdle s now
  held_on r s now is held = subst (λ (x : Turned J). OwnsOver disk journal OwnsTurned x now) is held

  pub held_shut : (r : Turned J) (s : Idle J) (now : D) → r ≡ turned.Shut s → OwnsOver disk journal OwnsTurned r now → OwnsOver disk journal OwnsIdle s now
  held_shut r s now is held = subst (λ (x : Turned J). OwnsOver disk journal OwnsTurned x now) is held

pub turned_up : {J : Type 0} (r : Turned J) (s : Idle J) (w : Components) → r ≡ turned.On s → UpTurned r w → AreUp (idle_device s) w
turned_up r s w is up = subst (λ (x : Turned _). UpTurned x w) is up

pub shut_up : {J : Type 0} (r : Turned J) (s : Idle J) (w : Components) → r ≡ turned.Shut s → UpTurned r w → AreUp (idle_device s) w
shut_up r s w is up = subst (λ (x : Turned _). UpTurned x w) is up

-- there is an origin
pub origin_of : (o : Option Origin) → IsSome o → (x : Origin) × (o ≡ Some x)
origin_of None some = absurd cc
origin_of (Some x) some = (x, refl)
