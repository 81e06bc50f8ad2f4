-- Why a call that serves ends with 5 or 6, by the counts of faults.
use Rattle.std.specs.Prelude.{◌≡◌, ◌≢◌, ◌⊎◌, ◌≤◌, ℕ, Bool, IsTrue, List}
use Rattle.nuc_base.specs.Faults.{Rose}
use Rattle.nuc_base.specs.declared.status.Status.{Status}
use Rattle.nuc_base.specs.declared.status.Status.TheVariants as statuses
use Rattle.disk_model.specs.Disk.{Image}
use Rattle.disk_model.specs.declared.disk.Disk as a_disk
use Rattle.edges.specs.declared.inbox.Inbox as an_inbox
use Rattle.edges.specs.declared.sink.Sink as a_sink
use Rattle.library_core.specs.declared.library.Library as a_library
use Rattle.session.specs.Calls.{AreOthersSame, HasNotFallen}

-- how each file reads at some moment, and how often each object has failed
pub record Observation : Type 0 where
  pub image : Image
  pub disk : ℕ
  pub sink : ℕ
  pub library : ℕ
  pub inbox : ℕ

module _ {D K L I : Type 0} (disk : a_disk.Ghosts D) (sink : a_sink.Ghosts K) (library : a_library.Ghosts L) (inbox : an_inbox.Ghosts I) where
  abbrev pub observation : D → K → L → I → Observation
  observation d k l i =
      record { image = disk.seen d; disk = disk.faults d; sink = sink.faults k; library = library.faults l; inbox = inbox.faults i }

-- The disk's status comes only where the disk's count rose, and the edge's only where that of the sink or of the inbox did. With
-- another status than the edge's these two do not change. No count falls. Every file but the journal's and those of artifacts is as
-- before. In which rounds the disk's count rose the rounds say.
pub record IsCaused (is_modelled : Bool) (files : List ℕ → Type 0) (status : Status) (old new : Observation) : Type 0 where
  pub disk : status ≡ statuses.Disk → Rose old.disk new.disk
  pub edge : status ≡ statuses.Edge → Rose old.sink new.sink ⊎ Rose old.inbox new.inbox
  pub quiet_edges : status ≢ statuses.Edge → (new.sink ≡ old.sink) × (new.inbox ≡ old.inbox)
  pub later : HasNotFallen old.disk new.disk × HasNotFallen old.sink new.sink × HasNotFallen old.inbox new.inbox
  pub library_later : old.library ≤ new.library
  pub others : IsTrue is_modelled → AreOthersSame files old.image new.image
