-- No stray file of an artifact is left with the status of a close.
use Rattle.std.specs.Prelude.{ℕ, Bool, false, IsTrue, List, Result, Ok, Err, IfOk}
use Rattle.std.proofs.Common.{◌≡◌, ◌⊎◌, ◌∙◌, inl, inr, refl, sym, subst}
use Rattle.disk_model.specs.Disk.{DiskLaws, Image}
use Rattle.gate_log.specs.Journal.{JournalLaws}
use Rattle.nuc_base.specs.declared.kinds.Outcome.{Outcome}
use Rattle.nuc_base.specs.declared.status.Status.{Status}
use Rattle.nuc_base.specs.declared.status.Status.TheVariants as statuses
use Rattle.device.specs.Devices.{Device}
use Rattle.device.specs.Standing.{StandsFor}
use Rattle.device.proofs.OneDevice.{same_device_for}
use Rattle.artifact_store.specs.Swept.{IsSwept, items_of}
use Rattle.artifact_store.specs.declared.fault.StageFault.{StageFault}
use Rattle.artifact_store.specs.declared.fault.StageFault.TheVariants as stage
use Rattle.refusal_lines.specs.Statuses.{status_of_outcome}
use Rattle.deploy_state.specs.Owned.{OwnsJournal}
use Rattle.deploy_state.proofs.Steps.{in_hand_stands}
use Rattle.session_boots.specs.declared.ends.SessionFault.{SessionFault}
use Rattle.session_boots.specs.declared.ends.SessionFault.TheVariants as over
use Rattle.admission.specs.Takes.{IsRefused, LieElsewhere}
use Rattle.admission.specs.declared.fault.Declined.{Declined}
use Rattle.admission.specs.declared.fault.Declined.TheVariants.{Refused, Unstaged, Unasked}
use Rattle.admission.proofs.Staying.{hand_stays}
use Rattle.session_rollout.specs.Driven.{OwnsDriven, driven_device}
use Rattle.session_rollout.specs.declared.driven.Driven.{Driven}
use Rattle.session_rollout.specs.declared.driven.Driven.TheVariants as driven
use Rattle.session.specs.Calls.{DrivenStatus, IsOrEdge, ChangesArtifactsAlone}
use Rattle.session.specs.Declines.{status_of_declined}
use Rattle.session.specs.Sweeping.{LeavesNoStray}
use Rattle.session.proofs.Resuming.{loaded_hand}
use Rattle.session.proofs.Statuses.{closes, no_outcome}

-- the status of a close is that of the outcome
pub close_is : (a o : Outcome) (status : Status) → (status ≡ status_of_outcome a) ⊎ (status ≡ statuses.Memory) ⊎ (status ≡ statuses.Disk) ⊎
    (status ≡ statuses.Edge)
    → status ≡ status_of_outcome o → status ≡ status_of_outcome a
close_is a o status (inl given) is = given
close_is a o status (inr (inl given)) is = absurd (no_outcome o statuses.Memory refl (sym is ∙ given))
close_is a o status (inr (inr (inl given))) is = absurd (no_outcome o statuses.Disk refl (sym is ∙ given))
close_is a o status (inr (inr (inr given))) is = absurd (no_outcome o statuses.Edge refl (sym is ∙ given))

-- no close has another status, or that of a line that could not be written
pub no_close : (o : Outcome) (status s : Status) → closes s ≡ false → IsOrEdge status s → status ≡ status_of_outcome o → ⊥
no_close o status s never (inl given) is = no_outcome o s never (sym is ∙ given)
no_close o status s never (inr edge) is = no_outcome o statuses.Edge refl (sym is ∙ edge)

-- a file that is not taken in has no status of a close
unstaged_never : (f : StageFault) → closes (status_of_declined (Unstaged f)) ≡ false
unstaged_never stage.Disk = refl
unstaged_never stage.Library = refl
unstaged_never (stage.Missing file) = refl
unstaged_never (stage.TooLarge file bytes) = refl
unstaged_never (stage.Mismatch file digest) = refl
unstaged_never stage.NoMemory = refl

no_unstaged : (f : StageFault) (o : Outcome) (status : Status) → (status ≡ status_of_declined (Unstaged f)) ⊎ (status ≡ statuses.Memory) ⊎
    (status ≡ statuses.Edge) → status ≡ status_of_outcome o → ⊥
no_unstaged f o status (inl given) is = no_outcome o (status_of_declined (Unstaged f)) (unstaged_never f) (sym is ∙ given)
no_unstaged f o status (inr (inl given)) is = no_outcome o statuses.Memory refl (sym is ∙ given)
no_unstaged f o status (inr (inr given)) is = no_outcome o statuses.Edge refl (sym is ∙ given)

-- a call with another status
pub never_closes : (is_modelled : Bool) (entries : Image → List (List ℕ) → Type 0) (status s : Status) (image : Image) → closes s ≡ false →
    IsOrEdge status s → LeavesNoStray is_modelled entries status image
never_closes is_modelled entries status s image never answers told o is e there = absurd (no_close o status s never answers is)

module _ {D J : Type 0} {is_modelled : Bool} {seen : D → Image} {may_leave : D → Image → Type 0} {moment : D → ℕ} {left_since : D → ℕ → Image → Type 0}
    (laws : DiskLaws is_modelled seen may_leave moment left_since)
    {files : List ℕ → Type 0} {entries : Image → List (List ℕ) → Type 0} {holds_none : Image → Type 0} {is_damaged : Image → ℕ → Type 0}
    {stands : J → Image → List (List ℕ) → Type 0} {end : J → ℕ} (journal : JournalLaws files entries holds_none is_damaged stands end) where
  -- as the disk reads it stands for the device for which each image does
  same_now : (disk : D) (d e : Device) → ((c : Image) → may_leave disk c → StandsFor entries c d) → IsTrue is_modelled → StandsFor entries (seen disk) e → e ≡ d
  same_now disk d e each told there = same_device_for journal (seen disk) e d there (each (seen disk) (laws.reads disk told))

  -- nothing was done, and no stray file was there
  pub none_closes : (disk : D) (d : Device) (status : Status) → ((c : Image) → may_leave disk c → StandsFor entries c d) →
      (IsTrue is_modelled → IsSwept (items_of d) (seen disk)) → LeavesNoStray is_modelled entries status (seen disk)
  none_closes disk d status each clean told o is e there = subst (λ (z : Device). IsSwept (items_of z) (seen disk)) (sym (same_now disk d e each told there))
      (clean told)

  -- a document was not taken: with the status of a close it is refused, and no file was touched
  pub declined_sweeps : (old new : D) (d : Device) (why : Declined) (status : Status) → (status ≡ status_of_declined why) ⊎ (status ≡ statuses.Memory) ⊎
      (status ≡ statuses.Edge)
      → (IsRefused (Err why) → new ≡ old) → ((c : Image) → may_leave new c → StandsFor entries c d) → (IsTrue is_modelled → IsSwept (items_of d) (seen old)) →
      LeavesNoStray is_modelled entries status (seen new)
  declined_sweeps old new d (Refused r) status answers same each clean told o is e there =
      none_closes new d status each (λ now. subst (λ (z : D). IsSwept (items_of d) (seen z)) (sym (same tt)) (clean now)) told o is e there
  declined_sweeps old new d (Unstaged f) status answers same each clean told o is e there = absurd (no_unstaged f o status answers is)
  declined_sweeps old new d (Unasked u) status answers same each clean told o is e there =
      none_closes new d status each (λ now. subst (λ (z : D). IsSwept (items_of d) (seen z)) (sym (same tt)) (clean now)) told o is e there

  driven_in : (x : Driven J) (disk : D) → OwnsDriven is_modelled may_leave stands end x disk → (log : J) ×
      OwnsJournal is_modelled may_leave stands end log disk (driven_device x)
  driven_in (driven.Closed s o w) disk hand = (s.log, hand.0)
  driven_in (driven.Restart s) disk hand = loaded_hand is_modelled may_leave stands end s disk hand
  driven_in (driven.Reboot s) disk hand = loaded_hand is_modelled may_leave stands end s disk hand

  -- a deployment was driven, and files are swept behind it
  pub driven_sweeps : LieElsewhere files → (r : Result (Driven J) SessionFault) (to new : D) (status : Status) →
      IfOk r (λ x. OwnsDriven is_modelled may_leave stands end x to)
      → ChangesArtifactsAlone may_leave moment left_since to new → DrivenStatus r status →
      (IsTrue is_modelled → IfOk r (λ x. (o : Outcome) → status ≡ status_of_outcome o → IsSwept (items_of (driven_device x)) (seen new)))
      → LeavesNoStray is_modelled entries status (seen new)
  driven_sweeps apart (Ok x) to new status held spared answers swept told o is e there =
      let hand = driven_in x to held in
      let left = driven_device x in
      let same = same_now new left e (λ c may. in_hand_stands laws journal hand.0 new left (hand_stays laws journal apart hand.0 left to new spared hand.1) c
      may) told there in
      subst (λ (z : Device). IsSwept (items_of z) (seen new)) (sym same) (swept told o is)
  driven_sweeps apart (Err over.Disk) to new status held spared answers swept told o is e there = absurd (no_close o status statuses.Disk refl answers is)
  driven_sweeps apart (Err over.Output) to new status held spared answers swept told o is e there = absurd (no_outcome o statuses.Edge refl (sym is ∙ answers))
