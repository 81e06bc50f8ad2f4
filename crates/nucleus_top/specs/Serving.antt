-- The command that keeps a set up, and what such a call promises.
use Rattle.std.specs.Prelude.{◌≡◌, ◌≢◌, ◌≤◌, ◌⊎◌, ℕ, ◌+◌, ◌-◌, ◌^◌, min, Bool, true, false, IsTrue, List, [], ◌∷◌, ◌++◌, length}
use Rattle.std.specs.Prelude.{if◌then◌else◌}
use Rattle.std.proofs.Common.{inl, inr}
use Rattle.nuc_base.specs.declared.status.Status.{Status}
use Rattle.nuc_base.specs.declared.status.Status.TheVariants as statuses
use Rattle.disk_model.specs.Disk.{Image}
use Rattle.disk_model.specs.declared.disk.Disk as a_disk
use Rattle.gate_log.specs.declared.journal.Journal as a_journal
use Rattle.checkpoint_log.specs.Slots.{slots_damaged, slots_entries, slots_files, slots_none, slots_put, slots_put_room, slots_room, slots_stands, slots_turn}
use Rattle.checkpoint_log.specs.declared.slots.Slots.{Slots}
use Rattle.artifact_store.specs.Swept.{IsSwept, items_of}
use Rattle.device.specs.Devices.{Device}
use Rattle.records.specs.Stored.{Record}
use Rattle.histories.specs.Courses.{gives_up, is_restart}
use Rattle.histories.specs.States.{SessionState, state_after}
use Rattle.histories.specs.TraceEvents.{TraceEvent, records_of}
use Rattle.session_boots.specs.Traces.{StandsForMost}
use Rattle.session.specs.Calls.{ChangesArtifactsAlone}
use Rattle.session.specs.Parts.{EndsCall}
use Rattle.session_serving.specs.Documents.{IsDeployedThere}
use Rattle.session_serving.specs.Parts.{Outside}
use Rattle.session_serving.specs.Rounds.{LastRound, Round, Shut, Spent, Took, Waited, round_of_last, unprinted_of_last}
use Rattle.session_serving.specs.Served.{IsFinished, IsHalted, IsSetServed, IsWholeCall}
use Rattle.nucleus_top.specs.Answers.{Store}
use Rattle.nucleus_top.specs.Drives.{IsDrivenOn}
use Rattle.nucleus_top.specs.Lasting.{AreLasting}
use Rattle.nucleus_top.specs.Planning.{IsFound}

-- the journal of two files
abbrev pub slots_ghosts : a_journal.Ghosts Slots
slots_ghosts = record {
  files = slots_files;
  entries = slots_entries;
  holds_none = slots_none;
  is_damaged = slots_damaged;
  stands = slots_stands;
  put_there = slots_put;
  end = λ log. log.live.end;
  put_end = λ log. log.put_end;
  room = slots_room;
  put_room = slots_put_room;
  number = λ log. log.number;
  turns = slots_turn;
}

-- what is seen outside once only files of artifacts have changed
abbrev pub on_disk : {D : Type 0} → D → Outside D → Outside D
on_disk from old = record old { disk = from }

-- a call that is refused before it serves changes the disk's count only where it ends with the status of the disk or of an edge
abbrev pub IsQuietBefore : Store → Status → Type 0
IsQuietBefore store result = result ≢ statuses.Disk → result ≢ statuses.Edge → store.faults_after ≡ store.faults_before

-- ---- how the call ends, and how often the library failed

abbrev pub is_library : Status → Bool
is_library statuses.Library = true
is_library _ = false

-- how many of these documents were refused since the library failed
abbrev pub library_refusals : List Round → ℕ
library_refusals [] = 0
library_refusals (Waited ∷ rounds) = library_refusals rounds
library_refusals (Took x ∷ rounds) = (if is_library x.status then 1 else 0) + library_refusals rounds

-- the count rose by so many at least, or stands at its end
abbrev pub RoseBy : ℕ → ℕ → ℕ → Type 0
RoseBy more before now = min (before + more) (2 ^ 64 - 1) ≤ now

-- So the rounds of a call give its status. One round is one answer of the inbox; the last may be that it is closed, or a document that ends
-- the call.
pub record IsInOrder (most : ℕ) (rounds : List Round) (last : LastRound) (status : Status) (before after : ℕ) : Type 0 where
  -- 0 comes exactly where the inbox is closed.
  pub closed : status ≡ statuses.Done → last ≡ Shut
  pub closes : last ≡ Shut → status ≡ statuses.Done
  -- 17 comes exactly where it answered as often as it is to be asked, and never that it is closed; but for the sink that failed at the line of that.
  pub over : status ≡ statuses.TurnsOver → last ≡ Spent
  pub spent : last ≡ Spent → (length rounds ≡ most) × ((status ≡ statuses.TurnsOver) ⊎ (status ≡ statuses.Edge))
  -- With another status the call gives up, or ends for a restart or a reboot.
  pub others : gives_up status ≡ false → is_restart status ≡ false → (last ≡ Shut) ⊎ (last ≡ Spent)
  -- A document is refused for the library at most as often as that failed.
  pub library : RoseBy (library_refusals (rounds ++ round_of_last last)) before after

module _ {D : Type 0} (disk : a_disk.Ghosts D) (most : ℕ) (old new : Outside D) (p : SessionState) (status : Status) where
  -- Either the pending deployment ends the call, or the set is served from where that was finished.
  abbrev pub IsHaltedOrServed : List TraceEvent → Type 0
  IsHaltedOrServed h = (IsHalted disk slots_ghosts old new p h status × (new.answered ≡ old.answered) × (new.waiting ≡ old.waiting) ×
      (new.library ≡ old.library))
      ⊎ ((before g : List TraceEvent) × (to : Outside D) × (h ≡ g ++ before) × (to.answered ≡ old.answered) × (to.waiting ≡ old.waiting)
      × (to.library ≡ old.library) × IsFinished disk slots_ghosts old to p before
      × IsSetServed disk slots_ghosts IsDeployedThere most to new (state_after p before) g status)

  -- the records whose line is perhaps not written
  abbrev pub unprinted_of : (h : List TraceEvent) → IsHaltedOrServed h → List Record
  unprinted_of h (inl halted) = halted.0.first.rest
  unprinted_of h (inr served) = unprinted_of_last served.8.last

  -- By its rounds it ends; or the pending deployment ends it, which gives up, or asks for a restart or a reboot.
  abbrev pub EndsInOrder : (h : List TraceEvent) → IsHaltedOrServed h → Type 0
  EndsInOrder h (inl halted) = EndsCall status
  EndsInOrder h (inr served) = IsInOrder most served.8.rounds served.8.last status old.library.faults new.library.faults

module _ {D : Type 0} (disk : a_disk.Ghosts D) (old new : Outside D) (result : Status) where
  -- From the start of a call with this device that is to take so many turns. Stray files are swept. Then its pending deployment goes on,
  -- where it has one, and either ends the call, or closes and the set is served: it is brought up, and one round after another the inbox
  -- is asked once. Each document is that which came next, and has what is promised of one, for the device of its round; a fault of the disk or want
  -- of memory before its record is its line, the disk's only where its count rose in the round; it is done once
  -- before the next question. The lines of the rounds stand in their order.
  pub record IsServedOn (d : Device) (turns : ℕ) : Type 0 where
    pub state : SessionState
    pub serves : state.serves ≡ true
    pub turns_are : state.turns ≡ turns
    pub history : List TraceEvent
    pub driven : IsDrivenOn disk.may_leave disk.moment disk.left_since old.disk new.disk d state history
    pub from : D
    pub before : ChangesArtifactsAlone disk.may_leave disk.moment disk.left_since old.disk from
    -- no stray file is left then
    pub swept : IsTrue disk.is_modelled → IsSwept (items_of d) (disk.seen from)
    -- at the end each image stands for the device of all records, or of all but the last
    pub most : (c : Image) → disk.may_leave new.disk c → StandsForMost slots_entries d (records_of history) c
    pub call : IsWholeCall disk slots_ghosts IsDeployedThere turns (on_disk from old) new state history result
    pub in_order : EndsInOrder disk turns (on_disk from old) new state result history call.parts
    -- what was printed lasts
    pub printed_records : List Record
    pub printed_are : records_of history ≡ printed_records ++ unprinted_of disk turns (on_disk from old) new state result history call.parts
    pub lasts : AreLasting (disk.may_leave new.disk) printed_records

  -- so it is with the device for which the journal stands, where the disk tells it
  abbrev pub IsServed : Store → ℕ → Type 0
  IsServed store turns = (d : Device) × IsFound store d × IsServedOn d turns
