-- When the refusals of a call come that drives a deployment.
use Rattle.std.proofs.Common.{◌≡◌, ◌∙◌, ◌⊎◌, ⊎_elim, inl, inr, ℕ, List, Bool, true, false, IsTrue, Option, Some, None, refl, sym, ap}
use Rattle.std.proofs.lemmas.Bool.{false≢true, true≢false}
use Rattle.std.specs.Option.{IsSomeAnd}
use Rattle.nuc_base.specs.declared.kinds.Outcome.TheVariants as outcome
use Rattle.nuc_base.specs.declared.status.Status.{Status}
use Rattle.nuc_base.specs.declared.status.Status.TheVariants as status
use Rattle.disk_model.specs.Disk.{Image}
use Rattle.checkpoint_log.specs.Slots.{slots_none}
use Rattle.plan_core.specs.declared.fault.Refusal.{Refusal}
use Rattle.refusal_lines.specs.Statuses.{status_of_refusal}
use Rattle.device.specs.Devices.{Device, Pending as PendingPlan, no_device}
use Rattle.artifact_store.specs.declared.fault.StageFault.TheVariants as stage
use Rattle.step_runner.specs.declared.entries.RunnerEntry.{RunnerEntry}
use Rattle.admission.specs.declared.fault.Declined.TheVariants.{Refused, Unstaged, Unasked}
use Rattle.admission.specs.declared.ask.Ask.{Ask}
use Rattle.admission.specs.declared.unasked.Unasked.TheVariants as unasked
use Rattle.disk_model.specs.declared.disk.Disk as a_disk
use Rattle.library_core.specs.Library.{Content}
use Rattle.histories.specs.States.{SessionState}
use Rattle.histories.specs.TraceEvents.{TraceEvent}
use Rattle.session.specs.Calls.{IsOrEdge, IsPendingAs}
use Rattle.session.specs.Parts.{EndsCall}
use Rattle.session_serving.specs.Documents.{IsOwnOrEdge, IsDeployedThere}
use Rattle.session_serving.specs.Parts.{Outside}
use Rattle.session_serving.specs.Rounds.{Handled, LastRound, Round}
use Rattle.session_serving.specs.Rounds as last
use Rattle.session_serving.specs.Served.{EndsAs, IsWholeCall}
use Rattle.nucleus_top.specs.Serving.{IsServed, on_disk, slots_ghosts}
use Rattle.session.specs.Endings.{Ending, ByClose, ByRestart, ByReboot, ByDiskFault, BySinkFault, WantAfter, WantBefore, ByDecline, Full, Idle}
use Rattle.session.specs.Endings.{status_of_ending}
use Rattle.nucleus_top.specs.Answers.{Store, Input, Shelf, Printed, IsPrinted, HasPrinted, IsOrFault, none_line, damaged_line, pending_line}
use Rattle.nucleus_top.specs.Drives.{IsDeployed, IsResumed, PendingParts, RefusedParts, MayNotDeploy, MayNotOpen}
use Rattle.nucleus_top.specs.Inits.{IsRefusedAt}
use Rattle.nucleus_top.specs.Opening.{IsImageOf, StandsForNone}
use Rattle.nucleus_top.specs.Planning.{IsFound, IsPending}
use Rattle.nucleus_top.specs.declared.answer.Answer.{Answer}
use Rattle.nucleus_top.specs.declared.answer.Answer.TheVariants.{Unplanned, Pending, DiskFailed, SourceFailed, NotInitialised, Damaged, Unreadable, NoMemory}
use Rattle.nucleus_top.proofs.Standing.{none_stands, same_device}
use Rattle.nucleus_top.proofs.Unrefused.{may_refuse, of_refusal}

-- ---- the statuses with which a deployment ends

-- 4, 8 and 9 are none of them
abbrev pub may_end : Status → Bool
may_end status.PendingStands = false
may_end status.NotInitialised = false
may_end status.Damaged = false
may_end _ = true

ends_refused : (s : Status) → may_refuse s ≡ true → may_end s ≡ true
ends_refused status.PendingStands may = absurd (false≢true may)
ends_refused status.NotInitialised may = absurd (false≢true may)
ends_refused status.Damaged may = absurd (false≢true may)
ends_refused s may = refl

of_ending : (e : Ending) → may_end (status_of_ending e) ≡ true
of_ending (ByClose outcome.Successful) = refl
of_ending (ByClose outcome.RollbackComplete) = refl
of_ending (ByClose outcome.RollbackNotRequested) = refl
of_ending (ByClose outcome.UnableToRollback) = refl
of_ending (ByRestart id) = refl
of_ending (ByReboot id) = refl
of_ending ByDiskFault = refl
of_ending BySinkFault = refl
of_ending WantAfter = refl
of_ending WantBefore = refl
of_ending (ByDecline (Refused r)) = ends_refused (status_of_refusal r) (of_refusal r)
of_ending (ByDecline (Unstaged stage.Disk)) = refl
of_ending (ByDecline (Unstaged stage.Library)) = refl
of_ending (ByDecline (Unstaged (stage.Missing file))) = refl
of_ending (ByDecline (Unstaged (stage.TooLarge file bytes))) = refl
of_ending (ByDecline (Unstaged (stage.Mismatch file digest))) = refl
of_ending (ByDecline (Unstaged stage.NoMemory)) = refl
of_ending (ByDecline (Unasked (unasked.Local fault))) = refl
of_ending (ByDecline (Unasked (unasked.NotLocal name))) = refl
of_ending (ByDecline (Unasked (unasked.TooManyLocal count))) = refl
of_ending (ByDecline (Unasked (unasked.Unlisted name))) = refl
of_ending (ByDecline (Unasked (unasked.NoComponent name))) = refl
of_ending (ByDecline (Unasked (unasked.NotListed name))) = refl
of_ending (Full at) = refl
of_ending Idle = refl

answered : (e : Ending) (result : Status) → IsOrEdge result (status_of_ending e) → may_end result ≡ true
answered e result (inl is) = ap may_end is ∙ of_ending e
answered e result (inr is) = ap may_end is

-- ---- a call that goes on

-- with the device for which the journal stands it ends with none of them
pub record IsOn (store : Store) (result : Status) : Type 0 where
  pub device : Device
  pub found : IsFound store device
  pub ends : may_end result ≡ true

module _ {D : Type 0} (may_leave : D → Image → Type 0) (moment : D → ℕ) (left_since : D → ℕ → Image → Type 0) (faults : D → ℕ) (old new : D)
    (old_list new_list : Option (List RunnerEntry)) (printed : Printed) (result : Status) (store : Store) where
  pub deployed_is_on : (what : Ask) (input : Input) (library : Shelf) → IsDeployed may_leave moment left_since faults old new old_list new_list printed result
      what store input library
      → (on : IsOn store result) × (on.device.pending ≡ None)
  deployed_is_on what input library trace =
      let on = trace.4.2 in (
        record {
          device = trace.0;
          found = trace.2;
          ends = answered on.call.0.ending result on.call.0.answers;
        },
        on.idle,
      )

  pub resumed_is_on : IsResumed may_leave moment left_since faults old new old_list new_list printed result store → IsOn store result
  resumed_is_on trace = record { device = trace.0; found = trace.1; ends = answered trace.2.call.ending result trace.2.call.answers }

-- a status with which such a call ends at once
ends_call : (s : Status) → EndsCall s → may_end s ≡ true
ends_call status.PendingStands ends = absurd (⊎_elim (λ is. false≢true is) (λ is. false≢true is) ends)
ends_call status.NotInitialised ends = absurd (⊎_elim (λ is. false≢true is) (λ is. false≢true is) ends)
ends_call status.Damaged ends = absurd (⊎_elim (λ is. false≢true is) (λ is. false≢true is) ends)
ends_call s ends = refl

ends_with : (own s : Status) → IsOwnOrEdge own s → may_end s ≡ true
ends_with own s (inl is) = ap may_end is.0 ∙ ends_call own is.1
ends_with own s (inr is) = ap may_end is

-- and one with which a call ends that serves
module _ {D : Type 0} (Clause : Handled → Type 0) (most : ℕ) (rounds : List Round) (s : Status) (old new : Outside D) (d : Device) where
  ends_as : (last : LastRound) → EndsAs Clause most rounds last s old new d → may_end s ≡ true
  ends_as last.Spent why = ⊎_elim (λ is. ap may_end is) (λ is. ap may_end is) why.1
  ends_as last.Shut why = ap may_end why.0
  ends_as (last.StoppedBy x) why = ends_with x.status s why.with_status
  ends_as last.SweepFailed why = ⊎_elim (λ is. ap may_end is) (λ is. ap may_end is) why.0
  ends_as last.InboxFailed why = ap may_end why.0
  ends_as last.WantOfMemory why = ap may_end why.0

module _ {D : Type 0} (disk : a_disk.Ghosts D) (old new : Outside D) (result : Status) where
  whole_ends : (most : ℕ) (from : Outside D) (p : SessionState) (h : List TraceEvent)
      → IsWholeCall disk slots_ghosts IsDeployedThere most from new p h result → may_end result ≡ true
  whole_ends most from p h call =
      ⊎_elim (λ halted. ends_with (status_of_ending halted.0.ending) result halted.0.with_status)
      (λ served. let s = served.8 in ends_as IsDeployedThere most s.rounds result s.to new s.behind s.last s.ends) call.parts

  pub served_is_on : (store : Store) (turns : ℕ) → IsServed disk old new result store turns → IsOn store result
  served_is_on store turns served = record {
    device = served.0;
    found = served.1;
    ends = whole_ends turns (on_disk served.2.from old) served.2.state served.2.history served.2.call;
  }

-- ---- a call that is refused

abbrev pub IsTurnedAway : Store → Input → Printed → Status → Type 0
IsTurnedAway store input printed result = (a : Answer) × MayNotDeploy store input a × IsPrinted printed result a

pub withholds_refused : (store : Store) (input : Input) (a : Answer) → MayNotOpen store a → MayNotDeploy store input a
withholds_refused store input (Pending id) why = absurd why
withholds_refused store input SourceFailed why = absurd why
withholds_refused store input a why = why

module _ (store : Store) (input : Input) (printed : Printed) (result : Status) where
  none : (a : Answer) → MayNotDeploy store input a → IsPrinted printed result a → result ≡ status.NotInitialised →
      (IsTrue store.is_modelled → slots_none store.before) × HasPrinted printed none_line
  none NotInitialised why (inl told) is = (why.1, told.1)
  none (Unplanned r text) why (inl told) is = absurd why
  none a why (inl told) is = cc
  none a why (inr told) is = cc

  none_comes : (a : Answer) → MayNotDeploy store input a → IsPrinted printed result a → IsTrue store.is_modelled → slots_none store.before →
      IsOrFault result status.NotInitialised
  none_comes a why (inr told) is_modelled holds_none = inr (inr (inl told.0))
  none_comes DiskFailed why (inl told) is_modelled holds_none = inl told.0
  none_comes SourceFailed why (inl told) is_modelled holds_none = inr (inr (inl told.0))
  none_comes NotInitialised why (inl told) is_modelled holds_none = inr (inl told.0)
  none_comes (Damaged place) why (inl told) is_modelled holds_none = absurd ((why.1.2 is_modelled).none no_device (none_stands store.before holds_none))
  none_comes NoMemory why (inl told) is_modelled holds_none = inr (inr (inr told.0))
  none_comes (Pending id) why (inl told) is_modelled holds_none = absurd ((why.0.1 is_modelled).0 holds_none)
  none_comes a why (inl told) is_modelled holds_none = absurd why

  damaged : (a : Answer) → MayNotDeploy store input a → IsPrinted printed result a → result ≡ status.Damaged → (place : List ℕ) × IsRefusedAt store place ×
      HasPrinted printed (damaged_line place)
  damaged (Damaged place) why (inl told) is = (place, why, told.1)
  damaged (Unreadable text) why (inl told) is = absurd why
  damaged (Unplanned r text) why (inl told) is = absurd why
  damaged a why (inl told) is = cc
  damaged a why (inr told) is = cc

  damaged_comes : (a : Answer) → MayNotDeploy store input a → IsPrinted printed result a → IsTrue store.is_modelled → StandsForNone store.before →
      IsOrFault result status.Damaged
  damaged_comes a why (inr told) is_modelled refuses = inr (inr (inl told.0))
  damaged_comes DiskFailed why (inl told) is_modelled refuses = inl told.0
  damaged_comes SourceFailed why (inl told) is_modelled refuses = inr (inr (inl told.0))
  damaged_comes NotInitialised why (inl told) is_modelled refuses = absurd (refuses no_device (none_stands store.before (why.1 is_modelled)))
  damaged_comes (Damaged place) why (inl told) is_modelled refuses = inr (inl told.0)
  damaged_comes NoMemory why (inl told) is_modelled refuses = inr (inr (inr told.0))
  damaged_comes (Pending id) why (inl told) is_modelled refuses = absurd (refuses why.0.0 (why.0.1 is_modelled).1)
  damaged_comes a why (inl told) is_modelled refuses = absurd why

  pending_in : (d : Device) (id : List ℕ) → IsFound store d → IsPendingAs id d → IsTrue store.is_modelled → IsPending store.before id
  pending_in d id found is is_modelled = by d.pending refl is
    where
      by : (x : Option PendingPlan) → d.pending ≡ x → IsSomeAnd x (λ q. q.plan.id ≡ id) → IsPending store.before id
      by None same none = absurd none
      by (Some q) same named = record { some = (found is_modelled).0; device = d; stands = (found is_modelled).1; plan = q; pending = same; id_is = sym named }

  pending : (a : Answer) → MayNotDeploy store input a → IsPrinted printed result a → result ≡ status.PendingStands
      → (id : List ℕ) × (IsTrue store.is_modelled → IsPending store.before id) × (input.rest ≡ input.document) × HasPrinted printed (pending_line id)
  pending (Pending id) why (inl told) is = (id, pending_in why.0.0 id why.0.1 why.0.2, why.1, told.1)
  pending (Unplanned r text) why (inl told) is = absurd why
  pending a why (inl told) is = cc
  pending a why (inr told) is = cc

  -- a device without a pending deployment is not the one that the journal stands for
  busy : (d e : Device) (q : PendingPlan) → IsTrue store.is_modelled → IsFound store e → e.pending ≡ None → IsImageOf store.before d → d.pending ≡ Some q → ⊥
  busy d e q is_modelled found idle stands is =
      let same : d ≡ e = same_device store.before d e stands (found is_modelled).1 in
      let none : d.pending ≡ None = ap (λ (x : Device). x.pending) same ∙ idle in
      let clash : None ≡ Some q = sym none ∙ is in cc

  -- nor is the one before its first record
  pub busy_none : (d : Device) (q : PendingPlan) → slots_none store.before → IsImageOf store.before d → d.pending ≡ Some q → ⊥
  busy_none d q holds_none stands is =
      let same : d ≡ no_device = same_device store.before d no_device stands (none_stands store.before holds_none) in
      let clash : None ≡ Some q = sym (ap (λ (x : Device). x.pending) same) ∙ is in cc

  pending_comes : (a : Answer) → MayNotDeploy store input a → IsPrinted printed result a → IsTrue store.is_modelled → (d : Device) → IsImageOf store.before d
      → (q : PendingPlan) → d.pending ≡ Some q → IsOrFault result status.PendingStands
  pending_comes a why (inr told) is_modelled d stands q is = inr (inr (inl told.0))
  pending_comes DiskFailed why (inl told) is_modelled d stands q is = inl told.0
  pending_comes SourceFailed why (inl told) is_modelled d stands q is = inr (inr (inl told.0))
  pending_comes NotInitialised why (inl told) is_modelled d stands q is = absurd (busy_none d q (why.1 is_modelled) stands is)
  pending_comes (Damaged place) why (inl told) is_modelled d stands q is = absurd ((why.1.2 is_modelled).none d stands)
  pending_comes NoMemory why (inl told) is_modelled d stands q is = inr (inr (inr told.0))
  pending_comes (Pending id) why (inl told) is_modelled d stands q is = inr (inl told.0)
  pending_comes a why (inl told) is_modelled d stands q is = absurd why

  -- ---- both

  other : (s : Status) → may_end s ≡ false → may_end result ≡ true → result ≡ s → ⊥
  other s never ends is = true≢false (sym ends ∙ ap may_end is ∙ never)

  pub refused_parts : IsTurnedAway store input printed result ⊎ IsOn store result → RefusedParts store printed result
  refused_parts (inl away) = record {
    none = none away.0 away.1 away.2;
    none_comes = none_comes away.0 away.1 away.2;
    damaged = damaged away.0 away.1 away.2;
    damaged_comes = damaged_comes away.0 away.1 away.2;
  }
  refused_parts (inr on) = record {
    none = λ is. absurd (other status.NotInitialised refl on.ends is);
    none_comes = λ is_modelled holds_none. absurd ((on.found is_modelled).0 holds_none);
    damaged = λ is. absurd (other status.Damaged refl on.ends is);
    damaged_comes = λ is_modelled refuses. absurd (refuses on.device (on.found is_modelled).1);
  }

  pub pending_parts : IsTurnedAway store input printed result ⊎ ((on : IsOn store result) × (on.device.pending ≡ None)) →
      PendingParts store input printed result
  pending_parts (inl away) = record { pending = pending away.0 away.1 away.2; pending_comes = pending_comes away.0 away.1 away.2 }
  pending_parts (inr on) = record {
    pending = λ is. absurd (other status.PendingStands refl on.0.ends is);
    pending_comes = λ is_modelled d stands q is. absurd (busy d on.0.device q is_modelled on.0.found on.1 stands is);
  }

-- nothing is done where memory for the words is refused
pub starved : (store : Store) (input : Input) (printed : Printed) → MayNotDeploy store input NoMemory → IsPrinted printed status.Memory NoMemory →
    IsTurnedAway store input printed status.Memory
starved store input printed why told = (NoMemory, why, told)
