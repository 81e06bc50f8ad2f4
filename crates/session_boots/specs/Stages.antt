-- What a call does to the devices that it drives, each passed with all that its trait tells.
use Rattle.std.specs.Prelude.{ℕ, List, Option, Result, OnErr}
use Rattle.disk_model.specs.declared.disk.Disk as a_disk
use Rattle.gate_log.specs.declared.journal.Journal as a_journal
use Rattle.edges.specs.declared.sink.Sink as a_sink
use Rattle.step_runner.specs.Entries.{Listed, Told}
use Rattle.step_runner.specs.declared.entries.RunnerEntry.{RunnerEntry}
use Rattle.step_runner.specs.declared.runner.Runner as a_runner
use Rattle.histories.specs.TraceEvents.{TraceEvent, records_of}
use Rattle.histories.specs.States.{SessionState, state_after}
use Rattle.session_boots.specs.Ends.{ResultLeft, HasLines}
use Rattle.session_boots.specs.Traces.{IsTrace}
use Rattle.session_boots.specs.declared.ends.SessionFault.{SessionFault}

-- it is so of what the runner tells now and of the children that live
abbrev pub AsTold : {R : Type 0} → a_runner.Ghosts R → R → (Told → List ℕ → Type 0) → Type 0
AsTold runner r is = is (Listed runner.list runner.told runner.asked r) (runner.living r)

module _ {D J : Type 0} (disk : a_disk.Ghosts D) (journal : a_journal.Ghosts J) where
  -- this happened from a state of the session on, as the disk and the runner's list show
  abbrev pub IsTraceOver : D → D → Option (List RunnerEntry) → Option (List RunnerEntry) → SessionState → List TraceEvent → Type 0
  IsTraceOver d e list now p h = IsTrace journal.entries journal.files disk.may_leave disk.moment disk.left_since d e list now p h

  -- what it leaves
  abbrev pub LeftOver : {A : Type 0} → D → SessionState → List TraceEvent → (A → SessionState → Type 0) → Result A SessionFault → Type 0
  LeftOver e p h is result = ResultLeft journal.entries disk.may_leave e p h is result

module _ {D J K R : Type 0} (disk : a_disk.Ghosts D) (journal : a_journal.Ghosts J) (sink : a_sink.Ghosts K) (runner : a_runner.Ghosts R) where
  -- From a state of the session on there is a trace that all four show. Where the call goes on its value is where the trace
  -- leaves it, and where it stops this holds of the state that it leaves.
  abbrev pub HasTrace : {A : Type 0} → D → D → K → K → R → R → SessionState → (A → List TraceEvent → SessionState → Type 0) → (SessionState → Type 0) →
      Result A SessionFault → Type 0
  HasTrace d e k l r s p is stops result = (h : List TraceEvent)
      × IsTrace journal.entries journal.files disk.may_leave disk.moment disk.left_since d e (runner.list r) (runner.list s) p h
      × HasLines (sink.held k) (sink.held l) p.device (records_of h) result
      × ResultLeft journal.entries disk.may_leave e p h (λ x q. is x h q) result
      × OnErr result (stops (state_after p h))
