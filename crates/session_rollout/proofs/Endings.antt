-- A part of a course behind which nothing comes but kills.
use Rattle.std.specs.Prelude.{ℕ, List, [], ◌++◌, Option, Ok}
use Rattle.std.specs.Io.KnownBytes.{Appends}
use Rattle.std.proofs.Common.{◌≡◌, ◌≤◌, sym, subst, arith}
use Rattle.disk_model.specs.Disk.{Image}
use Rattle.records.specs.Stored.{Record}
use Rattle.device.specs.Devices.{Device}
use Rattle.step_runner.specs.declared.entries.RunnerEntry.{RunnerEntry}
use Rattle.histories.specs.Courses.{IsBare}
use Rattle.histories.specs.TraceEvents.{TraceEvent, records_of}
use Rattle.histories.specs.States.{SessionState, state_after}
use Rattle.histories.proofs.Joined.{left-append}
use Rattle.session_boots.specs.Lines.{lines_of}
use Rattle.session_boots.specs.Traces.{ActTrace, IsTrace}
use Rattle.session_boots.proofs.Joins.{records_opened}
use Rattle.session_rollout.specs.Driven.{DrivenCourse}
use Rattle.session_rollout.proofs.Joining.{went_acting}

module _ (entries : Image → List (List ℕ) → Type 0) (files : List ℕ → Type 0) {D : Type 0} {may_leave : D → Image → Type 0} {moment : D → ℕ} {left_since : D →
    ℕ → Image → Type 0} where
  pub ended : {A : Type 0} (old new : D) (a b : Option (List RunnerEntry)) (u v : Option (List ℕ)) (p : SessionState) (h : List TraceEvent) (x : A)
      (is : A → List TraceEvent → SessionState → Type 0)
      → IsTrace entries files may_leave moment left_since old new a b p h → Appends u v (lines_of p.device (records_of h)) → is x h (state_after p h)
      → DrivenCourse entries files may_leave moment left_since old new a b u v p (Ok x) is
  ended old new a b u v p h x is trace told left = record { history = h; trace = trace; lines = told; left = left; bare = tt }
