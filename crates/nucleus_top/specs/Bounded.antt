-- How far a journal that can turn goes behind a plan that is accepted.
use Rattle.std.specs.Prelude.{◌≡◌, ◌⊎◌, ◌≤◌, ◌+◌, ◌*◌, ◌++◌, max, ℕ, IsTrue, List, [], ◌∷◌, Option, ⊤}
use Rattle.std.proofs.Common.{inl, inr}
use Rattle.std.specs.Ordering.{is_lt, nat_cmp}
use Rattle.disk_model.specs.Disk.{Image}
use Rattle.disk_model.specs.declared.disk.Disk as a_disk
use Rattle.nuc_base.specs.Faults.{Rose}
use Rattle.nuc_base.specs.declared.status.Status.{Status}
use Rattle.checkpoint_log.specs.Slots.{slots_entries, slots_turn}
use Rattle.records.specs.Stored.{Accepted, Plan, Record}
use Rattle.device.specs.Devices.{Device}
use Rattle.deploy_state.specs.Turning.{can_turn, front_bytes, plan_bytes}
use Rattle.step_runner.specs.declared.entries.RunnerEntry.{RunnerEntry}
use Rattle.histories.specs.TraceEvents.{TraceEvent, records_of}
use Rattle.histories.specs.States.{SessionState}
use Rattle.admission.specs.Requests.{AskOutcome}
use Rattle.admission.specs.declared.ask.Ask.{Ask}
use Rattle.session.specs.Documents.{HasAcceptedTo}
use Rattle.session.specs.Endings.{ByDiskFault}
use Rattle.nucleus_top.specs.Answers.{Printed, Shelf}
use Rattle.nucleus_top.specs.Drives.{IsDeployedOn, StartsFrom}
use Rattle.nucleus_top.specs.Serving.{IsServedOn, IsHaltedOrServed, on_disk, slots_ghosts}
use Rattle.session_serving.specs.Parts.{Outside, StartsIn}
use Rattle.session_serving.specs.Rounds.{AreStarted, Handled, round_of_last}

-- twice the front with which it begins anew and 1,048,576 bytes more, or that front and the plan's entry with a closed gate behind it
abbrev pub most_behind : ℕ → ℕ → ℕ
most_behind front size = max (2 * front + 1048576) (front + 6 + size)

module _ {D : Type 0} (may_leave : D → Image → Type 0) (moment : D → ℕ) (left_since : D → ℕ → Image → Type 0) (faults : D → ℕ) where
  -- Where the journal can turn in which the call began, the live entries end within that once a plan is accepted, unless the disk failed as its
  -- entry was added.
  abbrev pub AcceptsWithin : Type 0
  AcceptsWithin = (old new : D) (old_list new_list : Option (List RunnerEntry)) (printed : Printed) (result : Status) (d : Device) (start : ℕ → ℕ)
      (library : Shelf) (what : Ask) (bytes : List ℕ)
      → (h : IsDeployedOn may_leave moment left_since faults old new old_list new_list printed result d start library (AskOutcome what bytes))
      → (image : Image) (s : StartsFrom image d start) → IsTrue (can_turn (is_lt (nat_cmp s.number 18446744073709551615)) s.number)
      → (plan : Plan) (rest : List Record) → records_of h.call.0.history ≡ Accepted plan ∷ rest
      → ((h.call.0.ending ≡ ByDiskFault) × (rest ≡ []))
      ⊎ ((end : ℕ) × (end ≤ most_behind (front_bytes (s.number + 1) d) (plan_bytes plan)) ×
      HasAcceptedTo slots_entries may_leave moment left_since old new d plan end)

-- ---- a call that serves

module _ {D : Type 0} (disk : a_disk.Ghosts D) where
  -- So it is with the plan of a document of such a call, between these two moments: an image that a crash may have left between them has the
  -- journal from which the document went on, and where that can turn the live entries end within those bounds once its plan is accepted.
  abbrev pub IsAcceptedWithin : D → D → Handled → Type 0
  IsAcceptedWithin old new x = IsTrue disk.is_modelled → (c : Image) × disk.left_since new (disk.moment old) c ×
      (s : StartsIn disk slots_ghosts c x.device x.start) ×
      (IsTrue (can_turn (slots_turn s.log) s.log.number) → (plan : Plan) (rest : List Record) → x.records ≡ Accepted plan ∷ rest
      → ((rest ≡ []) × Rose x.disk_before x.disk_after)
      ⊎ ((end : ℕ) × (end ≤ most_behind (front_bytes (s.log.number + 1) x.device) (plan_bytes plan)) ×
      HasAcceptedTo slots_entries disk.may_leave disk.moment disk.left_since old new x.device plan end))

  -- and with each that is handled
  abbrev pub AreAcceptedWithin : (most : ℕ) (old new : Outside D) (p : SessionState) (status : Status) (h : List TraceEvent) →
      IsHaltedOrServed disk most old new p status h → Type 0
  AreAcceptedWithin most old new p status h (inl halted) = ⊤
  AreAcceptedWithin most old new p status h (inr served) =
      AreStarted (IsAcceptedWithin served.2.disk new.disk) (served.8.rounds ++ round_of_last served.8.last)

  abbrev pub ServesWithin : Type 0
  ServesWithin = (old new : Outside D) (result : Status) (d : Device) (turns : ℕ)
      (s : IsServedOn disk old new result d turns)
      → AreAcceptedWithin turns (on_disk s.from old) new s.state result s.history s.call.parts
