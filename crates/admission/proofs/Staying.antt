-- Whatever becomes of the files of artifacts, the journal stays in hand.
use Rattle.std.proofs.Common.{ℕ, List}
use Rattle.std.specs.Prelude.{Bool}
use Rattle.disk_model.specs.Disk.{Image, IsAfter, DiskLaws, HasLeft}
use Rattle.disk_model.specs.Listing.{artifacts, IsBelow}
use Rattle.disk_model.specs.Spares.{IsSameBut}
use Rattle.disk_model.specs.Moments.{now}
use Rattle.gate_log.specs.Journal.{JournalLaws}
use Rattle.device.specs.Devices.{Device}
use Rattle.deploy_state.specs.Owned.{OwnsJournal}
use Rattle.admission.specs.Takes.{LieElsewhere}

module _ {D J : Type 0} {is_modelled : Bool} {seen : D → Image} {may_leave : D → Image → Type 0} {moment : D → ℕ} {left_since : D → ℕ → Image → Type 0}
    (laws : DiskLaws is_modelled seen may_leave moment left_since)
    {files : List ℕ → Type 0} {entries : Image → List (List ℕ) → Type 0} {holds_none : Image → Type 0} {is_damaged : Image → ℕ → Type 0}
    {stands : J → Image → List (List ℕ) → Type 0} {end : J → ℕ} (journal : JournalLaws files entries holds_none is_damaged stands end)
    (apart : LieElsewhere files) where
  pub hand_stays : (log : J) (d : Device) (old new : D) → HasLeft moment left_since old new (IsAfter (may_leave old) (IsSameBut (IsBelow artifacts)))
      → OwnsJournal is_modelled may_leave stands end log old d → OwnsJournal is_modelled may_leave stands end log new d
  hand_stays log d old new leaves hand = record {
    payloads = hand.payloads;
    behind = record {
      each = λ c left.
          let was = now laws old new _ leaves c left in
          journal.depends log was.0 c hand.payloads (λ name is. was.2 name (apart name is)) (hand.behind.each was.0 was.1);
    };
    means = hand.means;
    room = hand.room;
    sound = hand.sound;
    regular = hand.regular;
    origin = hand.origin;
  }
