-- The checks of what a document asks, as the calls make them.
use Rattle.std.proofs.Common.{◌≡◌, ◌⊎◌, ℕ, List, [], ◌∷◌, refl, sym, subst, inl, inr}
use Rattle.std.specs.Prelude.{Result, Ok, Err}
use Rattle.std.specs.Result.{IsErrAnd}
use Rattle.nuc_base.specs.Faults.{Rose}
use Rattle.nuc_base.specs.Tables.{IsFirst}
use Rattle.recipe_reader.specs.declared.candidate.Candidate.{Candidate}
use Rattle.library_core.specs.Library.{Content}
use Rattle.library_core.specs.Faults.{Gathered}
use Rattle.library_core.specs.declared.fault.CandidatesFault.{CandidatesFault}
use Rattle.library_core.specs.declared.fault.CandidatesFault.TheVariants as gather
use Rattle.records.specs.declared.record.Origin.{Origin}
use Rattle.device.specs.Devices.{Device}
use Rattle.deployment_doc.specs.Reads.{ReadsDocument, IsFault}
use Rattle.deployment_doc.specs.declared.document.Document.{Document}
use Rattle.deployment_doc.specs.declared.fault.DocFault.{DocFault}
use Rattle.deployment_doc.specs.declared.fault.DocFault.TheVariants as doc
use Rattle.plan_core.specs.Checks.{Facts, Check, Gathering, Room, facts}
use Rattle.plan_core.specs.Checks.{RefusalOf, DeviceChecks, AreCandidatesOf, IsGatherFault, document_refusal, gather_refusal, plan_refusal}
use Rattle.plan_core.specs.Plans.{room_lines}
use Rattle.plan_core.specs.Questions.{QuestionOfChecks, QuestionOfDocument, QuestionsRead, question_checks, question_read_checks}
use Rattle.plan_core.specs.Ready.{IsOpen, IsFresh}
use Rattle.plan_core.specs.declared.fault.PlanFault.{PlanFault}
use Rattle.plan_core.specs.declared.fault.Refusal.{Refusal}
use Rattle.plan_core.specs.declared.fault.Refusal.TheVariants as refusal
use Rattle.plan_core.specs.declared.questions.Question.{Question}
use Rattle.plan_core.proofs.Proposing.{no_draft, no_document, open_stops, gather_stops, unread_stops}

asks_err : (f : Facts) (checks : List Check) (a : Refusal) (result : Result Question Refusal) → IsErrAnd result (λ e. e ≡ a) → RefusalOf f checks a →
    QuestionOfChecks f checks result
asks_err f checks a (Ok q) h s = absurd h
asks_err f checks a (Err e) h s = subst (RefusalOf f checks) (sym h) s

module _ (d : Device) (o : Origin) (content : Content) (before after : ℕ) (document : Document) where
  pub not_open : (a : Refusal) (result : Result Question Refusal) → IsErrAnd result (λ e. e ≡ a) → DeviceChecks d document (Err a) →
      QuestionOfDocument d o content before after document result
  not_open a result h opens = (
    [],
    no_draft,
    asks_err (facts d o content before after document [] no_draft) question_checks a result h
        (open_stops d o content before after document (Gathering ∷ Room ∷ []) [] no_draft a opens),
  )

  pub not_gathered : (fault : CandidatesFault) (result : Result Question Refusal) → IsErrAnd result (λ e. e ≡ gather_refusal fault) → IsOpen d document →
      IsFresh d document
      → IsGatherFault (facts d o content before after document [] no_draft) fault →
      QuestionOfDocument d o content before after document result
  not_gathered fault result h is_open fresh failed = (
    [],
    no_draft,
    asks_err (facts d o content before after document [] no_draft) question_checks (gather_refusal fault) result h
        (gather_stops d o content before after document (Room ∷ []) [] no_draft fault is_open fresh failed),
  )

  pub no_room : (cs : List Candidate) (f : PlanFault) (result : Result Question Refusal) → IsErrAnd result (λ e. e ≡ plan_refusal f) → IsOpen d document →
      IsFresh d document
      → AreCandidatesOf (facts d o content before after document cs no_draft) → IsFirst (room_lines d document) f →
      QuestionOfDocument d o content before after document result
  no_room cs f result h is_open fresh gathered first = (
    cs,
    no_draft,
    asks_err (facts d o content before after document cs no_draft) question_checks (plan_refusal f) result h
        (inr (inr (is_open, inr (inr (fresh, inr (inr (gathered, inr (inl (f, first, refl))))))))),
  )

  pub unwanted : (result : Result Question Refusal) → IsErrAnd result (λ e. e ≡ refusal.NoMemory) → QuestionOfDocument d o content before after document result
  unwanted result h = ([], no_draft, asks_err (facts d o content before after document [] no_draft) question_checks refusal.NoMemory result h (inl refl))

  -- behind a document that was read
  read_on : (bytes : List ℕ) (f : Facts) (result : Result Question Refusal) → ReadsDocument bytes (Ok f.document) → QuestionOfChecks f question_checks result →
      QuestionOfChecks f (question_read_checks bytes) result
  read_on bytes f (Ok q) reads asks = (asks.0, asks.1, (reads, asks.2))
  read_on bytes f (Err a) reads stops = inr (inr (reads, stops))

  pub read_first : (bytes : List ℕ) (result : Result Question Refusal) → ReadsDocument bytes (Ok document)
      → QuestionOfDocument d o content before after document result
      → QuestionsRead d o content before after bytes result
  read_first bytes result reads q = (document, q.0, q.1, read_on bytes (facts d o content before after document q.0 q.1) result reads q.2)

pub not_read : (d : Device) (o : Origin) (content : Content) (before after : ℕ) (bytes : List ℕ) (fault : DocFault) (result : Result Question Refusal)
    → IsErrAnd result (λ e. e ≡ document_refusal fault) → (fault ≡ doc.NoMemory) ⊎ IsFault bytes fault → QuestionsRead d o content before after bytes result
not_read d o content before after bytes fault result h first = (
  no_document,
  [],
  no_draft,
  asks_err (facts d o content before after no_document [] no_draft) (question_read_checks bytes) (document_refusal fault) result h
      (unread_stops (facts d o content before after no_document [] no_draft) bytes question_checks fault first),
)
