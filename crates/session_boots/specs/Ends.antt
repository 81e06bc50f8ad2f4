-- What a part of a session leaves at its end.
use Rattle.std.specs.Prelude.{◌≡◌, ℕ, List, [], ◌∷◌, ◌++◌, Option, None, Result, Ok, Err}
use Rattle.std.specs.List.{AllByRecursion}
use Rattle.std.specs.Io.KnownBytes.{Appends}
use Rattle.disk_model.specs.Disk.{Image}
use Rattle.edges.specs.Pieces.{AppendsPrefix}
use Rattle.records.specs.Stored.{Record}
use Rattle.device.specs.Devices.{Device}
use Rattle.device.specs.Standing.{StandsFor}
use Rattle.histories.specs.Follows.{IsLast}
use Rattle.histories.specs.TraceEvents.{TraceEvent, Recorded, records_of}
use Rattle.histories.specs.States.{SessionState, state_after}
use Rattle.session_boots.specs.Lines.{lines_of}
use Rattle.session_boots.specs.Traces.{StandsForMost}
use Rattle.session_boots.specs.declared.ends.SessionFault.{SessionFault}
use Rattle.session_boots.specs.declared.ends.SessionFault.TheVariants as over

-- this is one record
abbrev pub IsOne : List Record → Type 0
IsOne records = (r : Record) × (records ≡ r ∷ [])

-- The lines of the records are written. Where the disk failed it was at the last of them, whose line is not written; where a
-- line was not written there is a prefix of them.
abbrev pub LinesAt : Option (List ℕ) → Option (List ℕ) → Device → List Record → SessionFault → Type 0
LinesAt old new d records over.Disk = (printed : List Record) × (last : Record) × (records ≡ printed ++ last ∷ []) × Appends old new (lines_of d printed)
LinesAt old new d records over.Output = AppendsPrefix old new (lines_of d records)

-- where the session goes on, all of them are
abbrev pub HasLines : {A : Type 0} → Option (List ℕ) → Option (List ℕ) → Device → List Record → Result A SessionFault → Type 0
HasLines old new d records (Ok x) = Appends old new (lines_of d records)
HasLines old new d records (Err e) = LinesAt old new d records e

-- Behind the last record, which may not be stable, nothing is done but that children are killed and a moment is asked for.
pub record StopsAt (h : List TraceEvent) : Type 0 where
  pub cuts : List TraceEvent
  pub last : Record
  pub before : List TraceEvent
  pub split : h ≡ cuts ++ Recorded last ∷ before
  pub kills : AllByRecursion IsLast cuts

-- Nothing is started behind the last record. Where the disk failed it is in doubt; where a line was not written each end of a
-- bootstrap is recorded, and each image stands for the device of all records.
abbrev pub LeftAt : {D : Type 0} → (Image → List (List ℕ) → Type 0) → (D → Image → Type 0) → D → SessionState → List TraceEvent → SessionFault → Type 0
LeftAt entries may_leave disk p h over.Disk = StopsAt h × ((c : Image) → may_leave disk c → StandsForMost entries p.device (records_of h) c)
LeftAt entries may_leave disk p h over.Output = StopsAt h × ((state_after p h).boot_end ≡ None) ×
    ((c : Image) → may_leave disk c → StandsFor entries c (state_after p h).device)

-- where the session goes on, the value is where the history leaves it
abbrev pub ResultLeft : {A D : Type 0} → (Image → List (List ℕ) → Type 0) → (D → Image → Type 0) → D → SessionState → List TraceEvent →
    (A → SessionState → Type 0) → Result A SessionFault → Type 0
ResultLeft entries may_leave disk p h is (Ok x) = is x (state_after p h)
ResultLeft entries may_leave disk p h is (Err e) = LeftAt entries may_leave disk p h e
