-- The checks of a document, as the calls make them.
use Rattle.std.proofs.Common.{◌≡◌, ◌⊎◌, ℕ, List, [], ◌∷◌, refl, sym, ap, subst, inl, inr}
use Rattle.std.specs.Prelude.{Result, Ok, Err}
use Rattle.std.specs.Result.{IsErrAnd}
use Rattle.nuc_base.specs.Faults.{Rose}
use Rattle.nuc_base.specs.declared.kinds.Policy.TheVariants as policies
use Rattle.recipe_reader.specs.declared.candidate.Candidate.{Candidate}
use Rattle.library_core.specs.Library.{Content}
use Rattle.library_core.specs.Faults.{Gathered}
use Rattle.library_core.specs.declared.fault.CandidatesFault.{CandidatesFault}
use Rattle.library_core.specs.declared.fault.CandidatesFault.TheVariants as gather
use Rattle.records.specs.Stored.{Draft}
use Rattle.records.specs.declared.record.Draft as code
use Rattle.records.specs.declared.record.Origin.{Origin}
use Rattle.device.specs.Devices.{Device}
use Rattle.deployment_doc.specs.Reads.{ReadsDocument, IsFault}
use Rattle.deployment_doc.specs.declared.document.Document.{Document}
use Rattle.deployment_doc.specs.declared.fault.DocFault.{DocFault}
use Rattle.deployment_doc.specs.declared.fault.DocFault.TheVariants as doc
use Rattle.plan_core.specs.Checks.{Check, Reading, Opening, Ageing, Gathering, Room, Planning}
use Rattle.plan_core.specs.Checks.{Facts, facts, RefusalOf, DraftOfChecks, DeviceChecks}
use Rattle.plan_core.specs.Checks.{DraftOfDocument, ProposesRead, AreCandidatesOf, IsGatherFault, plan_checks, read_checks}
use Rattle.plan_core.specs.Checks.{document_refusal, gather_refusal, plan_refusal}
use Rattle.plan_core.specs.Plans.{IsRefused}
use Rattle.plan_core.specs.Ready.{IsOpen, IsFresh}
use Rattle.plan_core.specs.declared.fault.PlanFault.{PlanFault}
use Rattle.plan_core.specs.declared.fault.PlanFault.TheVariants as plan
use Rattle.plan_core.specs.declared.fault.Refusal.{Refusal}

-- what stands for a draft and a document that were not made
pub no_draft : Draft
no_draft = record { id = []; group = []; revision = 0; policy = policies.Rollback; requirements = []; items = []; boots = [] }

pub no_document : Document
no_document = record { id = []; group = []; revision = 0; policy = policies.Rollback; roots = [] }

comes_err : (f : Facts) (checks : List Check) (a : Refusal) (result : Result code.Draft Refusal) → IsErrAnd result (λ e. e ≡ a) → RefusalOf f checks a →
    DraftOfChecks f checks result
comes_err f checks a (Ok draft) h s = absurd h
comes_err f checks a (Err e) h s = subst (RefusalOf f checks) (sym h) s

module _ (d : Device) (o : Origin) (content : Content) (before after : ℕ) (document : Document) where
  pub open_stops : (checks : List Check) (cs : List Candidate) (draft : Draft) (a : Refusal) → DeviceChecks d document (Err a) →
      RefusalOf (facts d o content before after document cs draft) (Opening ∷ Ageing ∷ checks) a
  open_stops checks cs draft a (inl memory) = inl memory
  open_stops checks cs draft a (inr (inl repeated)) = inr (inl repeated)
  open_stops checks cs draft a (inr (inr stale)) = inr (inr (stale.0, inr (inl (stale.1, stale.2))))

  pub not_open : (a : Refusal) (result : Result code.Draft Refusal) → IsErrAnd result (λ e. e ≡ a) → DeviceChecks d document (Err a) →
      DraftOfDocument d o content before after document result
  not_open a result h opens = (
    [],
    no_draft,
    comes_err (facts d o content before after document [] no_draft) plan_checks a result h
        (open_stops (Gathering ∷ Room ∷ Planning ∷ []) [] no_draft a opens),
  )

  pub gather_stops : (checks : List Check) (cs : List Candidate) (draft : Draft) (fault : CandidatesFault) → IsOpen d document → IsFresh d document
      → IsGatherFault (facts d o content before after document cs draft) fault
      → RefusalOf (facts d o content before after document cs draft) (Opening ∷ Ageing ∷ Gathering ∷ checks) (gather_refusal fault)
  gather_stops checks cs draft fault is_open fresh failed = inr (inr (is_open, inr (inr (fresh, inr (inl (fault, failed, refl))))))

  pub not_gathered : (fault : CandidatesFault) (result : Result code.Draft Refusal) → IsErrAnd result (λ e. e ≡ gather_refusal fault) → IsOpen d document →
      IsFresh d document
      → IsGatherFault (facts d o content before after document [] no_draft) fault →
      DraftOfDocument d o content before after document result
  not_gathered fault result h is_open fresh failed = (
    [],
    no_draft,
    comes_err (facts d o content before after document [] no_draft) plan_checks (gather_refusal fault) result h
        (gather_stops (Room ∷ Planning ∷ []) [] no_draft fault is_open fresh failed),
  )

  refused_stops : (cs : List Candidate) (draft : Draft) (f : PlanFault) → IsOpen d document → IsFresh d document →
      AreCandidatesOf (facts d o content before after document cs draft)
      → (f ≡ plan.NoMemory) ⊎ IsRefused d cs document f → RefusalOf (facts d o content before after document cs draft) plan_checks (plan_refusal f)
  refused_stops cs draft f is_open fresh gathered (inl memory) = inl (ap plan_refusal memory)
  refused_stops cs draft f is_open fresh gathered (inr (inl first)) = inr (inr (is_open, inr (inr (fresh, inr (inr (gathered, inr (inl (f, first, refl))))))))
  refused_stops cs draft f is_open fresh gathered (inr (inr (inl none))) =
      inr (inr (is_open, inr (inr (fresh, inr (inr (gathered, inr (inr (none.0, inr (inl (f, inr (inl none), refl))))))))))
  refused_stops cs draft f is_open fresh gathered (inr (inr (inr large))) =
      inr (inr (is_open, inr (inr (fresh, inr (inr (gathered, inr (inr (large.0, inr (inl (f, inr (inr large), refl))))))))))

  pub not_planned : (cs : List Candidate) (f : PlanFault) (result : Result code.Draft Refusal) → IsErrAnd result (λ e. e ≡ plan_refusal f) →
      IsOpen d document → IsFresh d document
      → AreCandidatesOf (facts d o content before after document cs no_draft) → (f ≡ plan.NoMemory) ⊎ IsRefused d cs document f →
      DraftOfDocument d o content before after document result
  not_planned cs f result h is_open fresh gathered refused = (
    cs,
    no_draft,
    comes_err (facts d o content before after document cs no_draft) plan_checks (plan_refusal f) result h
        (refused_stops cs no_draft f is_open fresh gathered refused),
  )

  -- behind a document that was read
  read_on : (bytes : List ℕ) (cs : List Candidate) (draft : Draft) (result : Result code.Draft Refusal) → ReadsDocument bytes (Ok document)
      → DraftOfChecks (facts d o content before after document cs draft) plan_checks result → DraftOfChecks (facts d o content before after document cs draft)
      (read_checks bytes) result
  read_on bytes cs draft (Ok made) reads comes = (comes.0, (reads, comes.1))
  read_on bytes cs draft (Err a) reads stops = inr (inr (reads, stops))

  pub read_first : (bytes : List ℕ) (result : Result code.Draft Refusal) → ReadsDocument bytes (Ok document)
      → DraftOfDocument d o content before after document result
      → ProposesRead d o content before after bytes result
  read_first bytes result reads p = (document, p.0, p.1, read_on bytes p.0 p.1 result reads p.2)

pub unread_stops : (f : Facts) (bytes : List ℕ) (checks : List Check) (fault : DocFault) → (fault ≡ doc.NoMemory) ⊎ IsFault bytes fault →
    RefusalOf f (Reading bytes ∷ checks) (document_refusal fault)
unread_stops f bytes checks fault (inl memory) = inl (ap document_refusal memory)
unread_stops f bytes checks fault (inr first) = inr (inl (fault, first, refl))

pub not_read : (d : Device) (o : Origin) (content : Content) (before after : ℕ) (bytes : List ℕ) (fault : DocFault) (result : Result code.Draft Refusal)
    → IsErrAnd result (λ e. e ≡ document_refusal fault) → (fault ≡ doc.NoMemory) ⊎ IsFault bytes fault → ProposesRead d o content before after bytes result
not_read d o content before after bytes fault result h first = (
  no_document,
  [],
  no_draft,
  comes_err (facts d o content before after no_document [] no_draft) (read_checks bytes) (document_refusal fault) result h
      (unread_stops (facts d o content before after no_document [] no_draft) bytes plan_checks fault first),
)
