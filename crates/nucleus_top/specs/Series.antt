-- Calls one after another over one store, and what a crash leaves of the last.
use Rattle.std.specs.Prelude.{◌≡◌, ◌⊎◌, ◌≤◌, ℕ, Bool, true, false, IsTrue, List, [], ◌∷◌, ◌++◌, length, ⊤}
use Rattle.std.specs.List.{AllByRecursion}
use Rattle.disk_model.specs.Disk.{Image, HasLeft}
use Rattle.checkpoint_log.specs.Slots.{slots_entries, slots_none}
use Rattle.records.specs.Stored.{Accepted, Genesis, Plan, Record}
use Rattle.records.specs.declared.record.Origin.{Origin}
use Rattle.device.specs.After.{After, course}
use Rattle.device.specs.Devices.{Device, no_device}
use Rattle.device.specs.Grouped.{revision_of}
use Rattle.device.specs.Lawful.{Run}
use Rattle.device.specs.Met.{Met}
use Rattle.device.specs.Sound.{IsSound}
use Rattle.session_boots.specs.Traces.{StandsForMost}
use Rattle.nucleus_top.specs.Begun.{ImageBegun}
use Rattle.nucleus_top.specs.Crashes.{AllowedOrPrefix, KeepsJournal, LeavesPrefixes, LeavesSame}
use Rattle.nucleus_top.specs.Lasting.{IsTaken, AreLasting, LosesNothing}
use Rattle.nucleus_top.specs.Meeting.{StayMet}
use Rattle.nucleus_top.specs.Opening.{IsImageOf}

-- one call: the device for which the journal stood when it began, the records that it kept, and whether it came to its end
pub record MadeCall : Type 0 where
  pub device : Device
  pub records : List Record
  pub ended : Bool

-- the call with this device and these records, at some moment, or at its end
abbrev pub stopped : Device → List Record → MadeCall
stopped d records = record { device = d; records = records; ended = false }

abbrev pub finished : Device → List Record → MadeCall
finished d records = record { device = d; records = records; ended = true }

-- the call with this device that keeps no record
abbrev pub keeps_none : Device → MadeCall
keeps_none d = finished d []

-- What such a call may leave, where these images were there before it. At its end each image stands for the device of all its
-- records, or of all but the last. Inside it is one of those, or stands for what a prefix of the records makes.
abbrev pub LeftAs : Bool → (Image → Type 0) → Device → List Record → Image → Type 0
LeftAs true before d records = StandsForMost slots_entries d records
LeftAs false before d records = AllowedOrPrefix before d records

-- What a crash inside the last of these calls, or its end, may leave. The last one stands first, and before all of them the
-- journal stands for d: for no device where it holds no entry.
abbrev pub LeftBy : Device → List MadeCall → Image → Type 0
LeftBy d [] = λ image. IsImageOf image d
LeftBy d (c ∷ before) = LeftAs c.ended (LeftBy d before) c.device c.records

-- each call began with an image that may have been left by the one before it
abbrev pub IsSeries : Device → List MadeCall → Type 0
IsSeries d [] = ⊤
IsSeries d (c ∷ before) = IsSeries d before × ((image : Image) × LeftBy d before image × IsImageOf image c.device)

-- a prefix of the records of a call, with the rest: where it came to its end, at most the last one is missing
pub record IsPrefixOf (c : MadeCall) (prefix rest : List Record) : Type 0 where
  pub split : c.records ≡ prefix ++ rest
  pub few : IsTrue c.ended → length rest ≤ 1

-- the records kept so far: such a prefix of each call
abbrev pub AreKept : List MadeCall → List Record → Type 0
AreKept [] records = records ≡ []
AreKept (c ∷ before) records = (earlier prefix rest : List Record) × AreKept before earlier × IsPrefixOf c prefix rest × (records ≡ earlier ++ prefix)

-- devices stay met along the records of each call
abbrev pub AllStayMet : List MadeCall → Type 0
AllStayMet calls = AllByRecursion (λ c. StayMet c.device c.records) calls

-- The image stands for the device that the records kept so far make of d. Its set, groups and closed list are those that the
-- accepted plans and their closings give in order, and what was taken in d is taken in it. It is met where d is and devices
-- stay so along each call.
pub record IsReached (d : Device) (calls : List MadeCall) (image : Image) : Type 0 where
  pub kept : List Record
  pub are : AreKept calls kept
  pub device : Device
  pub stands : IsImageOf image device
  pub run : Run d kept device
  pub course_is : course device ≡ After (course d) kept
  pub loses : LosesNothing (course d) (course device)
  pub met : Met d → AllStayMet calls → Met device

-- so it is with every image that calls leave
abbrev pub CallsReach : Type 0
CallsReach = (d : Device) (calls : List MadeCall) (image : Image) → IsSeries d calls → LeftBy d calls image → IsReached d calls image

-- along calls no revision of a group falls
abbrev pub CallsRaise : Type 0
CallsRaise = (d : Device) (calls : List MadeCall) (image : Image) → IsSound d → IsSeries d calls → LeftBy d calls image → (arn : List ℕ) →
    (e : Device) × IsImageOf image e × (revision_of arn d.groups ≤ revision_of arn e.groups)

-- `init` begins where there is no device, and at each moment leaves that or what the first record makes of it, as at its end
abbrev pub InitsBegin : Type 0
InitsBegin = (o : Origin) (old new : Image) → ImageBegun o old new → IsImageOf old no_device × StandsForMost slots_entries no_device (Genesis o ∷ []) new

-- a call that leaves the device as it is keeps no record
abbrev pub OthersGoOn : Type 0
OthersGoOn = (d e : Device) (before : List MadeCall) (old new : Image) → IsSeries d before → LeftBy d before old → IsImageOf old e → IsImageOf new e
    → IsSeries d (keeps_none e ∷ before) × LeftBy d (keeps_none e ∷ before) new

-- ---- the calls of a disk

module _ {D : Type 0} (may_leave : D → Image → Type 0) where
  -- each image of the disk may have been left by these calls
  abbrev pub AreLeftBy : Device → List MadeCall → D → Type 0
  AreLeftBy d before disk = (image : Image) → may_leave disk image → LeftBy d before image

  -- Of a call whose disk is this at its end, and that printed the lines of these records: each plan that was accepted among them is pending or closed in each
  -- image that later calls leave, which begin with an image of that disk.
  abbrev pub AcknowledgedLast : Type 0
  AcknowledgedLast = (disk : D) (records : List Record) → AreLasting (may_leave disk) records → (start : Image) → may_leave disk start → (d : Device) →
      IsImageOf start d → (later : List MadeCall) → IsSeries d later → (image : Image) → LeftBy d later image → (before after : List Record) (plan : Plan) →
      records ≡ before ++ Accepted plan ∷ after → (e : Device) × IsImageOf image e × IsTaken plan.id (course e)

  -- A call begins behind these, on such a disk, and with the device for which one of its images stands.
  pub record BeginsBehind (d : Device) (before : List MadeCall) (e : Device) (disk : D) : Type 0 where
    pub follow : IsSeries d before
    pub left : AreLeftBy d before disk
    pub start : Image
    pub is_one : may_leave disk start
    pub stands : IsImageOf start e

-- The image may have been left by these calls, or by one more that keeps no record: with the device for which this one stands.
abbrev pub IsLeftOn : Device → List MadeCall → Image → Image → Type 0
IsLeftOn d before seen image = LeftBy d before image ⊎ ((e : Device) × IsImageOf seen e × IsSeries d (keeps_none e ∷ before) ×
    LeftBy d (keeps_none e ∷ before) image)

module _ {D : Type 0} (may_leave : D → Image → Type 0) (moment : D → ℕ) (left_since : D → ℕ → Image → Type 0) where
  -- What a call that drives a deployment says of its images makes it one more of these calls, with the records that it keeps.
  abbrev pub DrivesGoOn : Type 0
  DrivesGoOn = (d e : Device) (before : List MadeCall) (records : List Record) (old new : D) → BeginsBehind may_leave d before e old →
      LeavesPrefixes may_leave moment left_since old new e records
      → IsSeries d (stopped e records ∷ before) × HasLeft moment left_since old new (LeftBy d (stopped e records ∷ before))

  -- and what one that is refused says of them, one that keeps no record
  abbrev pub RefusedGoOn : (D → Image) → Type 0
  RefusedGoOn seen = (d : Device) (before : List MadeCall) (old new : D) → IsSeries d before → AreLeftBy may_leave d before old →
      LeavesSame may_leave moment left_since seen old new
      → HasLeft moment left_since old new (IsLeftOn d before (seen old))

module _ {D : Type 0} (may_leave : D → Image → Type 0) where
  -- What a call that drives a deployment says of the images at its end makes it one that came to its end.
  abbrev pub DrivesEnd : Type 0
  DrivesEnd = (d e : Device) (before : List MadeCall) (records : List Record) (old new : D) → BeginsBehind may_leave d before e old
      → ((c : Image) → may_leave new c → StandsForMost slots_entries e records c)
      → IsSeries d (finished e records ∷ before) × AreLeftBy may_leave d (finished e records ∷ before) new

  -- The first of such calls: on a disk none of whose images holds an entry it begins behind no call, without a device.
  abbrev pub FirstBegins : Bool → (D → Image) → Type 0
  FirstBegins is_modelled seen = (disk : D) → IsTrue is_modelled → ((image : Image) → may_leave disk image → slots_none image) →
      BeginsBehind may_leave no_device [] no_device disk

  -- So does what one that is refused says of what the journal says then: with the device for which it stood as it read.
  abbrev pub RefusedEnd : Bool → (D → Image) → Type 0
  RefusedEnd is_modelled seen = (d e : Device) (before : List MadeCall) (old new : D) → IsTrue is_modelled → IsSeries d before →
      AreLeftBy may_leave d before old →
      IsImageOf (seen old) e
      → KeepsJournal may_leave seen old new → IsSeries d (keeps_none e ∷ before) × AreLeftBy may_leave d (keeps_none e ∷ before) new
