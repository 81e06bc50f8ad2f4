-- What a crash leaves of a call that drives a deployment, at each of its moments.
use Rattle.std.specs.Prelude.{◌≡◌, ◌⊎◌, ℕ, List}
use Rattle.disk_model.specs.Disk.{Image, HasLeft}
use Rattle.checkpoint_log.specs.Slots.{slots_entries, slots_none}
use Rattle.records.specs.Stored.{Record}
use Rattle.device.specs.Devices.{Device}
use Rattle.artifact_store.specs.Holding.{HoldsDevice}
use Rattle.session_boots.specs.Traces.{StandsForPrefix}
use Rattle.session.specs.Calls.{StandsWhole}
use Rattle.nucleus_top.specs.Opening.{IsImageOf, StandsForNone}

-- an image that the call's start allowed, or one that stands for what a prefix of these records makes of the device
abbrev pub AllowedOrPrefix : (Image → Type 0) → Device → List Record → Image → Type 0
AllowedOrPrefix allowed d records image = allowed image ⊎ StandsForPrefix slots_entries d records image

-- an image that the start allowed, or one that stands for the device for which the journal stands as it read at the start
abbrev pub AllowedOrSame : (Image → Type 0) → Image → Image → Type 0
AllowedOrSame allowed seen image = allowed image ⊎ ((d : Device) × IsImageOf seen d × IsImageOf image d)

-- what the journal of an image says, that of another says too: that it holds no entry, that it stands for no device, or for this one
pub record SaysSame (old new : Image) : Type 0 where
  pub none : slots_none old → slots_none new
  pub no_device : StandsForNone old → StandsForNone new
  pub device : (d : Device) → IsImageOf old d → IsImageOf new d

-- ---- the artifacts

-- each image that is allowed has every artifact of the device for which it stands
abbrev pub AllHoldTheirs : (Image → Type 0) → Type 0
AllHoldTheirs allowed = (c : Image) → allowed c → (d : Device) → IsImageOf c d → HoldsDevice c d

-- an image that the call's start allowed, or one that stands for what a prefix of these records makes of the device, with all
-- artifacts of that
abbrev pub AllowedOrWhole : (Image → Type 0) → Device → List Record → Image → Type 0
AllowedOrWhole allowed d records image = allowed image ⊎ StandsWhole slots_entries d records image

-- an image that the start allowed, or one that stands for the device for which the journal stands as it read at the start, with
-- all of its artifacts
abbrev pub AllowedOrSameWhole : (Image → Type 0) → Image → Image → Type 0
AllowedOrSameWhole allowed seen image = allowed image ⊎ ((d : Device) × IsImageOf seen d × IsImageOf image d × HoldsDevice image d)

-- ---- at each moment

module _ {D : Type 0} (may_leave : D → Image → Type 0) (moment : D → ℕ) (left_since : D → ℕ → Image → Type 0) where
  -- so it is at each moment of a call that keeps these records
  abbrev pub LeavesPrefixes : D → D → Device → List Record → Type 0
  LeavesPrefixes old new d records = HasLeft moment left_since old new (AllowedOrPrefix (may_leave old) d records)

  -- and of one that keeps none
  abbrev pub LeavesSame : (D → Image) → D → D → Type 0
  LeavesSame seen old new = HasLeft moment left_since old new (AllowedOrSame (may_leave old) (seen old))

  -- where the images at the start have their artifacts, so have those of each moment
  abbrev pub KeepsWhole : D → D → Device → List Record → Type 0
  KeepsWhole old new d records = AllHoldTheirs (may_leave old) → HasLeft moment left_since old new (AllowedOrWhole (may_leave old) d records)

  abbrev pub KeepsSameWhole : (D → Image) → D → D → Type 0
  KeepsSameWhole seen old new = AllHoldTheirs (may_leave old) → HasLeft moment left_since old new (AllowedOrSameWhole (may_leave old) (seen old))

-- ---- at the end

-- each image that a crash may leave then says what the journal said as it read at the start
abbrev pub KeepsJournal : {D : Type 0} → (D → Image → Type 0) → (D → Image) → D → D → Type 0
KeepsJournal may_leave seen old new = (c : Image) → may_leave new c → SaysSame (seen old) c

-- so it is, or every file reads as it did
abbrev pub KeepsJournalOrFiles : {D : Type 0} → (D → Image → Type 0) → (D → Image) → D → D → Type 0
KeepsJournalOrFiles may_leave seen old new = KeepsJournal may_leave seen old new ⊎ (seen new ≡ seen old)
