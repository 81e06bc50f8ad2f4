-- What requests made at the device add to a deployment.
use Rattle.std.proofs.Common.{◌≡◌, ◌⊎◌, ◌∙◌, inl, inr, ℕ, Bool, true, false, List, [], ◌∷◌, Some, Ok, Err, refl, sym, ap, subst, arith}
use Rattle.std.proofs.lemmas.Bool.{false≢true}
use Rattle.std.specs.Prelude.{Result}
use Rattle.disk_model.specs.Disk.{Image}
use Rattle.nuc_base.specs.declared.kinds.Outcome.TheVariants as outcome
use Rattle.nuc_base.specs.declared.status.Status.{Status}
use Rattle.nuc_base.specs.declared.status.Status.TheVariants as status
use Rattle.records.specs.Stored.{Plan, Record, Accepted, plan_view}
use Rattle.records.specs.declared.record.Plan as code
use Rattle.records.specs.declared.record.Origin.{Origin}
use Rattle.device.specs.Devices.{Device}
use Rattle.device.specs.Lawful.{Run}
use Rattle.plan_core.specs.declared.fault.PlanFault.TheVariants as planning
use Rattle.plan_core.specs.declared.fault.Refusal.TheVariants as refusal
use Rattle.artifact_store.specs.declared.fault.StageFault.TheVariants as stage
use Rattle.histories.specs.TraceEvents.{records_of}
use Rattle.admission.specs.Requests.{AskOutcome, TakesBy}
use Rattle.admission.specs.Takes.{HasLibraryFailed}
use Rattle.admission.specs.declared.ask.Ask.TheVariants as ask
use Rattle.admission.specs.declared.fault.Declined.{Declined}
use Rattle.admission.specs.declared.fault.Declined.TheVariants.{Refused, Unstaged, Unasked}
use Rattle.admission.specs.declared.unasked.Unasked.TheVariants as unasked
use Rattle.law_whole.specs.Requested.{ChangesKeepAll, IsChangePlan, KeepsAll, LocalsMoveOneList}
use Rattle.session.proofs.Accepted.{taken_as}
use Rattle.session.specs.Calls.{IsOrEdge}
use Rattle.session.specs.Declines.{status_of_declined}
use Rattle.session.specs.Documents.{TakenEnding, IsPutOff}
use Rattle.session.specs.Endings.{Ending, ByClose, ByRestart, ByReboot, ByDiskFault, BySinkFault, WantAfter, WantBefore, ByDecline, Full, Idle}
use Rattle.session.specs.Endings.{IsBegun, status_of_ending}
use Rattle.nucleus_top.specs.Requested.{ChangesMoveOneItem, LocalsMoveOneGroup, NeverAnswers}

-- ---- which statuses never come

abbrev three : Status → Bool
three status.NoVersion = true
three status.Library = true
three status.Artifact = true
three s = false

of_begun : (e : Ending) → IsBegun e → three (status_of_ending e) ≡ false
of_begun (ByClose outcome.Successful) begun = refl
of_begun (ByClose outcome.RollbackComplete) begun = refl
of_begun (ByClose outcome.RollbackNotRequested) begun = refl
of_begun (ByClose outcome.UnableToRollback) begun = refl
of_begun (ByRestart id) begun = refl
of_begun (ByReboot id) begun = refl
of_begun ByDiskFault begun = refl
of_begun BySinkFault begun = refl
of_begun WantAfter begun = refl
of_begun WantBefore begun = absurd begun
of_begun (ByDecline x) begun = absurd begun
of_begun (Full at) begun = absurd begun
of_begun Idle begun = absurd begun

of_off : (start : ℕ → ℕ) (plan : Plan) (e : Ending) → IsPutOff start plan e → three (status_of_ending e) ≡ false
of_off start plan WantBefore off = refl
of_off start plan ByDiskFault off = refl
of_off start plan (Full at) off = refl
of_off start plan e off = absurd off

module _ (d : Device) (o : Origin) (name bytes : List ℕ) where
  of_declined : (x : Declined) → KeepsAll d o name bytes (Err x) → (HasLibraryFailed (Err x) → ⊥) → three (status_of_declined x) ≡ false
  of_declined (Refused (refusal.Document fault)) keeps never = refl
  of_declined (Refused (refusal.Repeated id outcome.Successful)) keeps never = refl
  of_declined (Refused (refusal.Repeated id outcome.RollbackComplete)) keeps never = refl
  of_declined (Refused (refusal.Repeated id outcome.RollbackNotRequested)) keeps never = refl
  of_declined (Refused (refusal.Repeated id outcome.UnableToRollback)) keeps never = refl
  of_declined (Refused (refusal.Stale id revision)) keeps never = refl
  of_declined (Refused (refusal.Candidates fault)) keeps never = absurd keeps
  of_declined (Refused (refusal.Plan planning.NoVersion)) keeps never = absurd keeps
  of_declined (Refused (refusal.Plan (planning.TooManyClosed n))) keeps never = refl
  of_declined (Refused (refusal.Plan (planning.TooManyGroups n))) keeps never = refl
  of_declined (Refused (refusal.Plan (planning.TooManyComponents n))) keeps never = refl
  of_declined (Refused (refusal.Plan (planning.ConfigTooLarge c n))) keeps never = refl
  of_declined (Refused (refusal.Plan planning.NoMemory)) keeps never = refl
  of_declined (Refused refusal.NoMemory) keeps never = refl
  of_declined (Unstaged stage.Disk) keeps never = refl
  of_declined (Unstaged stage.Library) keeps never = absurd (never refl)
  of_declined (Unstaged (stage.Missing file)) (inl is) never = cc
  of_declined (Unstaged (stage.Missing file)) (inr (inl is)) never = cc
  of_declined (Unstaged (stage.Missing file)) (inr (inr is)) never = cc
  of_declined (Unstaged (stage.TooLarge file n)) keeps never = refl
  of_declined (Unstaged (stage.Mismatch file digest)) (inl is) never = cc
  of_declined (Unstaged (stage.Mismatch file digest)) (inr (inl is)) never = cc
  of_declined (Unstaged (stage.Mismatch file digest)) (inr (inr is)) never = cc
  of_declined (Unstaged stage.NoMemory) keeps never = refl
  of_declined (Unasked (unasked.Local fault)) keeps never = refl
  of_declined (Unasked (unasked.NotLocal c)) keeps never = refl
  of_declined (Unasked (unasked.TooManyLocal n)) keeps never = refl
  of_declined (Unasked (unasked.Unlisted c)) keeps never = refl
  of_declined (Unasked (unasked.NoComponent c)) keeps never = refl
  of_declined (Unasked (unasked.NotListed c)) keeps never = refl

  of_taken : (start : ℕ → ℕ) (taken : Result code.Plan Declined) (ending : Ending) (records : List Record) → TakenEnding start taken ending records
      → KeepsAll d o name bytes taken → (HasLibraryFailed taken → ⊥) → three (status_of_ending ending) ≡ false
  of_taken start (Ok plan) ending records (inl off) keeps never = of_off start (plan_view plan) ending off.0
  of_taken start (Ok plan) ending records (inr on) keeps never = of_begun ending on.0
  of_taken start (Err x) ending records (inl declines, none) keeps never =
      ap (λ (e : Ending). three (status_of_ending e)) declines ∙ of_declined x keeps never
  of_taken start (Err x) ending records (inr starves, none) keeps never = ap (λ (e : Ending). three (status_of_ending e)) starves

of_result : (result : Status) (ending : Ending) → IsOrEdge result (status_of_ending ending) → three (status_of_ending ending) ≡ false → three result ≡ false
of_result result ending (inl is) other = ap three is ∙ other
of_result result ending (inr edge) other = ap three edge

never_three : (result : Status) → three result ≡ false → NeverAnswers result
never_three result other = record {
  version = λ is. false≢true (sym other ∙ ap three is);
  library = λ is. false≢true (sym other ∙ ap three is);
  artifact = λ is. false≢true (sym other ∙ ap three is);
}

-- ---- the two laws

module _ {D : Type 0} (may_leave : D → Image → Type 0) (moment : D → ℕ) (left_since : D → ℕ → Image → Type 0) (faults : D → ℕ) where
  pub locals_move_one_group : LocalsMoveOneList → LocalsMoveOneGroup may_leave moment left_since faults
  locals_move_one_group law old new old_list new_list printed result d start library bytes h plan rest is =
      let t = taken_as start h.call.0.ending (records_of h.call.0.history) rest plan is h.taken h.call.1 in
      let takes = subst (λ (r : Result code.Plan Declined). TakesBy (AskOutcome ask.Local bytes) d h.origin library.content library.faults_before
      library.faults_after r) t.taken_is h.takes in
      let moves = law d h.origin library.content library.faults_before library.faults_after bytes t.plan takes in
      record {
        request = moves.0;
        on = moves.1;
        document = moves.2.0;
        is_document = moves.2.1;
        taken = t.plan;
        takes = moves.2.2;
        plan_is = t.plan_is;
        leaves = λ e more runs accepts. moves.3 e more (subst (λ (p : Plan). Run d (Accepted p ∷ more) e) t.plan_is runs) accepts;
      }

  pub changes_move_one_item : ChangesKeepAll → ChangesMoveOneItem may_leave moment left_since faults
  changes_move_one_item law old new old_list new_list printed result d start name bytes h whole =
      let keeps = law d h.origin name bytes h.taken h.driven.sound whole h.origin_is h.takes in (
        never_three result (of_result result h.call.0.ending h.call.0.answers
            (of_taken d h.origin name bytes start h.taken h.call.0.ending (records_of h.call.0.history) h.call.1 keeps
            (λ failed. omega (arith, h.library_cause failed)))),
        λ plan rest is.
            let t = taken_as start h.call.0.ending (records_of h.call.0.history) rest plan is h.taken h.call.1 in
            let kept = subst (KeepsAll d h.origin name bytes) t.taken_is keeps in
            (kept.0, kept.1, subst (λ (p : Plan). IsChangePlan d h.origin name kept.0 p) (sym t.plan_is) kept.2),
      )
