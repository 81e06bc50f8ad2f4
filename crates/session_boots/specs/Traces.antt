-- A part of a session: its history, the images at each of its moments, and what the runner tells of it.
use Rattle.std.specs.Prelude.{◌≡◌, ◌≤◌, ℕ, List, [], ◌++◌, length, Option}
use Rattle.disk_model.specs.Disk.{Image, IsAfter, HasLeft}
use Rattle.gate_log.specs.Journal.{IsChangeIn}
use Rattle.records.specs.Stored.{Record}
use Rattle.device.specs.Devices.{Device}
use Rattle.device.specs.Lawful.{Run}
use Rattle.device.specs.Standing.{StandsFor}
use Rattle.step_runner.specs.Entries.{HasGrownBy}
use Rattle.step_runner.specs.declared.entries.RunnerEntry.{RunnerEntry}
use Rattle.histories.specs.TraceEvents.{TraceEvent, records_of, entries_of}
use Rattle.histories.specs.States.{SessionState, state_after}
use Rattle.histories.specs.Follows.{IsProper}

-- the image stands for the device that a prefix of the records leaves
pub record StandsForPrefix (entries : Image → List (List ℕ) → Type 0) (d : Device) (records : List Record) (image : Image) : Type 0 where
  pub prefix : List Record
  pub rest : List Record
  pub split : records ≡ prefix ++ rest
  pub device : Device
  pub run : Run d prefix device
  pub stands : StandsFor entries image device

-- so it does, and at most the last record is not in that prefix
pub record StandsForMost (entries : Image → List (List ℕ) → Type 0) (d : Device) (records : List Record) (image : Image) : Type 0 where
  pub prefix : List Record
  pub rest : List Record
  pub split : records ≡ prefix ++ rest
  pub few : length rest ≤ 1
  pub device : Device
  pub run : Run d prefix device
  pub stands : StandsFor entries image device

-- A part that keeps no record: from a state on this happened, and the runner tells its entries.
pub record ActTrace (p : SessionState) (h : List TraceEvent) (old new : Option (List RunnerEntry)) : Type 0 where
  pub proper : IsProper p h
  pub none : records_of h ≡ []
  pub list : HasGrownBy old new (entries_of h)
  pub device : (state_after p h).device ≡ p.device

module _ (entries : Image → List (List ℕ) → Type 0) (files : List ℕ → Type 0) {D : Type 0} (may_leave : D → Image → Type 0) (moment : D → ℕ)
    (left_since : D → ℕ → Image → Type 0) where
  -- at each moment of the part each image that a crash may leave stands for what a prefix of the records gives
  abbrev pub HoldsPrefixes : D → D → Device → List Record → Type 0
  HoldsPrefixes old new d records = HasLeft moment left_since old new (IsAfter (may_leave old) (IsChangeIn files (StandsForPrefix entries d records)))

  -- From a state on this happened: each event could follow, each record is lawful in order, a crash leaves what a
  -- prefix of them gives, and the runner tells the entries.
  pub record IsTrace (old new : D) (old_list new_list : Option (List RunnerEntry)) (p : SessionState) (h : List TraceEvent) : Type 0 where
    pub proper : IsProper p h
    pub run : Run p.device (records_of h) (state_after p h).device
    pub course : HoldsPrefixes old new p.device (records_of h)
    pub list : HasGrownBy old_list new_list (entries_of h)
