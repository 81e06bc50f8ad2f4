-- What is said of one deployment, of the objects of a call: each trait is passed whole, and each word computes to one over its members.
use Rattle.std.specs.Prelude.{ℕ, List, Result}
use Rattle.disk_model.specs.declared.disk.Disk as a_disk
use Rattle.gate_log.specs.declared.journal.Journal as a_journal
use Rattle.edges.specs.declared.sink.Sink as a_sink
use Rattle.nuc_base.specs.declared.status.Status.{Status}
use Rattle.records.specs.Stored.{Plan, Record}
use Rattle.records.specs.declared.record.Plan as code
use Rattle.deploy_state.specs.Objects.{entry_start}
use Rattle.deploy_state.specs.States.{idle_device}
use Rattle.deploy_state.specs.declared.state.Idle.{Idle as IdleState}
use Rattle.step_runner.specs.Entries.{Listed}
use Rattle.step_runner.specs.declared.runner.Runner as a_runner
use Rattle.components.specs.Components.{Components}
use Rattle.histories.specs.States.{SessionState}
use Rattle.admission.specs.declared.fault.Declined.{Declined}
use Rattle.session.specs.Calls.{Call}
use Rattle.session.specs.Documents.{AcceptsFrom, AcceptsTaken, DrivesTaken, KeepsArtifacts}
use Rattle.session.specs.Endings.{Ending}
use Rattle.session.specs.Parts.{HasArtifacts, RunsPart, RunsPlan, RunsTaken}
use Rattle.session.specs.declared.ran.Ran.{Ran}

module _ {D J K R : Type 0} (disk : a_disk.Ghosts D) (journal : a_journal.Ghosts J) (sink : a_sink.Ghosts K) (runner : a_runner.Ghosts R) (d e : D)
    (k l : K) (r s : R) (p : SessionState) where
  -- ---- a part of a call, which leaves these components

  module _ (result : Ran J) (world : Components) where
    abbrev pub RunsPartOn : Type 0
    RunsPartOn = RunsPart journal.entries journal.files disk.may_leave disk.moment disk.left_since d e (runner.list r) (runner.list s) (sink.held k)
        (sink.held l) p result world (Listed runner.list runner.told runner.asked s) (runner.living s)

    abbrev pub RunsPlanOn : (ℕ → ℕ) → Plan → Type 0
    RunsPlanOn = RunsPlan journal.entries journal.files disk.may_leave disk.moment disk.left_since d e (runner.list r) (runner.list s) (sink.held k)
        (sink.held l) p result world (Listed runner.list runner.told runner.asked s) (runner.living s)

    abbrev pub RunsTakenOn : (ℕ → ℕ) → Result code.Plan Declined → Type 0
    RunsTakenOn = RunsTaken journal.entries journal.files disk.may_leave disk.moment disk.left_since d e (runner.list r) (runner.list s) (sink.held k)
        (sink.held l) p result world (Listed runner.list runner.told runner.asked s) (runner.living s)

    abbrev pub HasArtifactsOn : RunsPartOn → Type 0
    HasArtifactsOn = HasArtifacts journal.entries journal.files disk.may_leave disk.moment disk.left_since d e (runner.list r) (runner.list s)
        (sink.held k) (sink.held l) p result world (Listed runner.list runner.told runner.asked s) (runner.living s)

  -- ---- a whole call, which answers this status

  module _ (status : Status) where
    abbrev pub CallOn : Type 0
    CallOn = Call journal.entries journal.files disk.may_leave disk.moment disk.left_since d e (runner.list r) (runner.list s) (sink.held k)
        (sink.held l) p status

    abbrev pub DrivesTakenOn : (ℕ → ℕ) → Result code.Plan Declined → Type 0
    DrivesTakenOn = DrivesTaken journal.entries journal.files disk.may_leave disk.moment disk.left_since d e (runner.list r) (runner.list s)
        (sink.held k) (sink.held l) p status

    abbrev pub KeepsArtifactsOn : CallOn → Type 0
    KeepsArtifactsOn = KeepsArtifacts journal.entries journal.files disk.may_leave disk.moment disk.left_since d e (runner.list r) (runner.list s)
        (sink.held k) (sink.held l) p status

-- ---- where the entry of an accepted plan stands

module _ {D J : Type 0} (disk : a_disk.Ghosts D) (journal : a_journal.Ghosts J) (d e : D) (idle : IdleState J) where
  abbrev pub AcceptsFromOn : Plan → Ending → List Record → Type 0
  AcceptsFromOn = AcceptsFrom journal.entries disk.may_leave disk.moment disk.left_since d e (idle_device idle) (entry_start journal idle)

  abbrev pub AcceptsTakenOn : Result code.Plan Declined → Ending → List Record → Type 0
  AcceptsTakenOn = AcceptsTaken journal.entries disk.may_leave disk.moment disk.left_since d e (idle_device idle) (entry_start journal idle)
