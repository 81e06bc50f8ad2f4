-- From what comes of a document to the answer of `plan`.
use Rattle.std.proofs.Common.{◌≡◌, ◌∙◌, inl, inr, ℕ, ◌<◌, List, length, take, refl, sym, ap, subst, arith, Result, Ok, Err, Some, None, IfSome}
use Rattle.std.proofs.lemmas.Bool.{cases_lt, false≢true}
use Rattle.std.proofs.lemmas.List.{take_all, length-take}
use Rattle.std.specs.Option.{IsSome}
use Rattle.std.specs.Result.{IsErrOf}
use Rattle.std.specs.declared.option.Option.{Option}
use Rattle.nuc_base.specs.Faults.{Rose}
use Rattle.nuc_base.specs.declared.status.Status.TheVariants as status
use Rattle.tree_core.specs.Reading.{IsFirstFault}
use Rattle.tree_core.specs.declared.fault.TreeFault.{TreeFault}
use Rattle.tree_core.specs.declared.fault.TreeFault.TheVariants as tree
use Rattle.library_core.specs.Library.{Content}
use Rattle.library_core.specs.declared.fault.CandidatesFault.TheVariants as gather
use Rattle.records.specs.declared.record.Origin.{Origin}
use Rattle.records.specs.declared.record.Draft.{Draft}
use Rattle.device.specs.Devices.{Device, Pending as PendingPlan}
use Rattle.deployment_doc.specs.Reads.{IsFault}
use Rattle.deployment_doc.specs.declared.fault.DocFault.{DocFault}
use Rattle.plan_core.specs.Checks.{Facts, facts, DraftOfChecks, read_checks, ProposesRead}
use Rattle.plan_core.specs.declared.fault.Refusal.{Refusal}
use Rattle.plan_core.specs.declared.fault.Refusal.TheVariants.{Candidates}
use Rattle.refusal_lines.specs.Statuses.{status_of_refusal}
use Rattle.nucleus_top.specs.Answers.{Store, Input, Shelf, IsUnchanged, IsStill}
use Rattle.nucleus_top.specs.Planning.{IsProposed, ProposalAnswer, NamesPending, PlanAnswerOn, IsFound, PlanAnswer}
use Rattle.nucleus_top.specs.declared.answer.Answer.{Answer}
use Rattle.nucleus_top.specs.declared.answer.Answer.TheVariants.{Planned, Unplanned, Pending, DiskFailed, LibraryFailed, NotInitialised, Damaged, NoMemory}
use Rattle.nucleus_top.proofs.Unrefused.{only_library}

-- ---- a longer text reads as its prefix

module _ (whole prefix : List ℕ) (is : prefix ≡ take 524289 whole) (long : 524288 < length whole) where
  pub prefix_is_long : 524288 < length prefix
  prefix_is_long = omega (arith, ap length is, length-take 524289 whole)

  pub tree_too_long : (t : TreeFault) → (t ≡ tree.NoMemory → ⊥) → IsFirstFault prefix 524288 t → IsFirstFault whole 524288 t
  tree_too_long tree.TooLarge other fault = long
  tree_too_long tree.NotJson other fault = absurd (omega (arith, prefix_is_long, fault.0))
  tree_too_long tree.TooDeep other fault = absurd (omega (arith, prefix_is_long, fault.0))
  tree_too_long tree.NotWhole other fault = absurd (omega (arith, prefix_is_long, fault.0))
  tree_too_long tree.NoMemory other fault = absurd (other refl)

  pub too_long : (f : DocFault) → IsFault prefix f → IsFault whole f
  too_long f (inl fault) = inl (fault.0, fault.1, tree_too_long fault.0 fault.3 fault.2, fault.3)
  too_long f (inr fault) = absurd (omega (arith, prefix_is_long, fault.1.within))

  comes_of_long : (f : Facts) (result : Result Draft Refusal) → DraftOfChecks f (read_checks prefix) result → DraftOfChecks f (read_checks whole) result
  comes_of_long f (Ok draft) comes = absurd (omega (arith, prefix_is_long, comes.1.0.1.within))
  comes_of_long f (Err a) (inl memory) = inl memory
  comes_of_long f (Err a) (inr (inl fails)) = inr (inl (fails.0, too_long fails.0 fails.1, fails.2))
  comes_of_long f (Err a) (inr (inr passes)) = absurd (omega (arith, prefix_is_long, passes.0.1.within))

module _ (d : Device) (origin : Origin) (content : Content) (before after : ℕ) (result : Result Draft Refusal) where
  -- the first 524,289 bytes are enough
  whole_comes : (whole prefix : List ℕ) → prefix ≡ take 524289 whole → ProposesRead d origin content before after prefix result → ProposesRead d origin
      content before after whole result
  whole_comes whole prefix is comes =
      elim (cases_lt 524288 (length whole)) [
        | inl long ↦ (
          comes.0,
          comes.1,
          comes.2,
          comes_of_long whole prefix is long
              (facts d origin content before after comes.0 comes.1 comes.2) result comes.3,
        )
        | inr short ↦ subst (λ (bytes : List ℕ). ProposesRead d origin content before after bytes result) (is ∙ take_all 524289 whole (omega (arith, short)))
            comes
      ]

  -- the whole document, where the source tells it, or what was read
  pub document_comes : (left : Option (List ℕ)) (prefix : List ℕ) → IfSome left (λ whole. prefix ≡ take 524289 whole) → ProposesRead d origin
      content before after prefix result
      → (bytes : List ℕ) × ((whole : List ℕ) → left ≡ Some whole → bytes ≡ whole) × ProposesRead d origin content before after bytes result
  document_comes None prefix is comes = (prefix, λ whole told. cc, comes)
  document_comes (Some document) prefix is comes = (document, λ whole told. cc, whole_comes document prefix is comes)

-- ---- a device without a pending deployment

pub some_of : (x : Option Origin) → IsSome x → (o : Origin) × (x ≡ Some o)
some_of None some = absurd (false≢true some)
some_of (Some o) some = (o, refl)

pub proposed : (d : Device) (input : Input) (library : Shelf) (prefix : List ℕ) (result : Result Draft Refusal)
    → IsSome d.origin → d.pending ≡ None
    → IfSome input.document (λ whole. prefix ≡ take 524289 whole)
    → ((o : Origin) → d.origin ≡ Some o → ProposesRead d o library.content library.faults_before library.faults_after prefix result)
    → IsProposed d input library result
proposed d input library prefix result some idle is comes =
    let origin = some_of d.origin some in
    let document = document_comes d origin.0 library.content library.faults_before library.faults_after result input.document prefix is
    (comes origin.0 origin.1) in
    record {
      idle = idle;
      origin = origin.0;
      origin_is = origin.1;
      bytes = document.0;
      document = document.1;
      comes = document.2;
    }

-- the answer that tells what comes
pub told_on : (d : Device) (input : Input) (library : Shelf) (result : Result Draft Refusal) (a : Answer) → IsProposed d input library result
    → (IsErrOf result (Candidates gather.Library) → Rose library.faults_before library.faults_after) → ProposalAnswer result a → PlanAnswerOn d input library a
told_on d input library (Ok draft) (Planned text) proposal cause is_modelled = (draft, proposal, is_modelled)
told_on d input library (Ok draft) NoMemory proposal cause is_modelled = tt
told_on d input library (Ok draft) a proposal cause is_modelled = absurd is_modelled
told_on d input library (Err refusal) (Unplanned r text) proposal cause is_modelled =
    subst (λ (x : Refusal). PlanAnswerOn d input library (Unplanned x text)) (sym is_modelled.0) (proposal, is_modelled.1, is_modelled.2)
told_on d input library (Err refusal) LibraryFailed proposal cause is_modelled =
    let is : refusal ≡ Candidates gather.Library = only_library refusal is_modelled in
    (subst (λ (x : Refusal). IsProposed d input library (Err x)) is proposal, cause (cc))
told_on d input library (Err refusal) NoMemory proposal cause is_modelled = tt
told_on d input library (Err refusal) a proposal cause is_modelled = absurd is_modelled

failed : (refusal : Refusal) (result : Result Draft Refusal) → result ≡ Err refusal → IsErrOf result (Candidates gather.Library) →
    status_of_refusal refusal ≡ status.Library
failed refusal result refused is = let same : refusal ≡ Candidates gather.Library = cc in ap status_of_refusal same

pub told_still : (library : Shelf) (result : Result Draft Refusal) (a : Answer) → ProposalAnswer result a
    → (¬ (IsErrOf result (Candidates gather.Library)) → library.faults_after ≡ library.faults_before) → IsStill library a
told_still library (Ok draft) a is_modelled quiet = λ other. quiet (λ is. cc)
told_still library (Err refusal) (Unplanned r text) is_modelled quiet = λ other. quiet (λ is. is_modelled.2 (failed refusal (Err refusal) refl is))
told_still library (Err refusal) LibraryFailed is_modelled quiet = λ other. absurd (other refl)
told_still library (Err refusal) NoMemory is_modelled quiet = λ other. quiet (λ is. is_modelled (failed refusal (Err refusal) refl is))
told_still library (Err refusal) a is_modelled quiet = absurd is_modelled

-- ---- any device

pub pending_on : (d : Device) (input : Input) (library : Shelf) (q : PendingPlan) (a : Answer) → d.pending ≡ Some q → input.rest ≡ input.document →
    NamesPending q.plan.id a → PlanAnswerOn d input library a
pending_on d input library q (Pending id) is same names = (same, (q, is, names))
pending_on d input library q NoMemory is same names = tt
pending_on d input library q a is same names = absurd names

pub found_comes : (store : Store) (input : Input) (library : Shelf) (d : Device) (a : Answer) → IsUnchanged store → IsFound store d →
    PlanAnswerOn d input library a → PlanAnswer store input library a
found_comes store input library d DiskFailed same found on = absurd on
found_comes store input library d NotInitialised same found on = absurd on
found_comes store input library d (Damaged place) same found on = absurd on
found_comes store input library d NoMemory same found on = same
found_comes store input library d a same found on = (same, (d, found, on))
