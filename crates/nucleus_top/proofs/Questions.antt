-- From what a document asks to the answer of `why`.
use Rattle.std.proofs.Common.{◌≡◌, ◌≢◌, ◌∙◌, inl, inr, ℕ, ◌+◌, ◌<◌, List, [], ◌∷◌, length}
use Rattle.std.proofs.Common.{take, refl, sym, ap, subst, arith, Result, Ok, Err, Some, None, IfSome}
use Rattle.std.proofs.lemmas.Bool.{cases_lt}
use Rattle.std.proofs.lemmas.List.{take_all}
use Rattle.std.specs.Option.{IsSome}
use Rattle.std.specs.Result.{IsErrOf}
use Rattle.std.specs.declared.option.Option.{Option}
use Rattle.nuc_base.specs.Faults.{Rose}
use Rattle.nuc_base.specs.declared.status.Status.TheVariants as status
use Rattle.library_core.specs.Library.{Content}
use Rattle.library_core.specs.declared.fault.CandidatesFault.{CandidatesFault}
use Rattle.library_core.specs.declared.fault.CandidatesFault.TheVariants as gather
use Rattle.records.specs.declared.record.Origin.{Origin}
use Rattle.nuc_base.specs.Tables.{IsFirst}
use Rattle.device.specs.Devices.{Device, Pending as PendingPlan}
use Rattle.device.specs.Limits.{most_closed, most_groups}
use Rattle.deployment_doc.specs.declared.document.Document.{Document}
use Rattle.deployment_doc.specs.declared.fault.DocFault.{DocFault}
use Rattle.deployment_doc.specs.declared.fault.DocFault.TheVariants as doc
use Rattle.plan_core.specs.Checks.{Facts, Ageing, Gathering, Room, RefusalOf, facts, document_refusal, gather_refusal, plan_refusal}
use Rattle.plan_core.specs.Plans.{room_lines}
use Rattle.plan_core.specs.Questions.{QuestionOfChecks, QuestionsRead, question_checks, question_read_checks}
use Rattle.plan_core.specs.declared.fault.PlanFault.{PlanFault}
use Rattle.plan_core.specs.declared.fault.PlanFault.TheVariants as plan
use Rattle.plan_core.specs.declared.fault.Refusal.{Refusal}
use Rattle.plan_core.specs.declared.fault.Refusal.TheVariants.{Candidates, Plan}
use Rattle.plan_core.specs.declared.questions.Question.{Question}
use Rattle.refusal_lines.specs.Lines.{refusal_line}
use Rattle.refusal_lines.specs.Statuses.{status_of_refusal}
use Rattle.nucleus_top.specs.Answers.{Store, Input, Shelf, IsStill}
use Rattle.nucleus_top.specs.Planning.{NamesPending, TellsRefusal}
use Rattle.nucleus_top.specs.Why.{IsQuestioned, TellsAsked, TellsWhy, WhyAnswerOn}
use Rattle.nucleus_top.specs.declared.answer.Answer.{Answer}
use Rattle.nucleus_top.specs.declared.answer.Answer.TheVariants.{Possible, Impossible, Pending, Unplanned, LibraryFailed, SourceFailed, NoMemory}
use Rattle.nucleus_top.proofs.Looked.{TellsNone}
use Rattle.nucleus_top.proofs.Proposals.{prefix_is_long, some_of, too_long}
use Rattle.nucleus_top.proofs.Unrefused.{only_library}

-- ---- a longer text asks as its prefix

asks_of_long : (whole prefix : List ℕ) (is : prefix ≡ take 524289 whole) (long : 524288 < length whole) (f : Facts) (result : Result Question Refusal)
    → QuestionOfChecks f (question_read_checks prefix) result → QuestionOfChecks f (question_read_checks whole) result
asks_of_long whole prefix is long f (Ok q) asks = absurd (omega (arith, prefix_is_long whole prefix is long, asks.2.0.1.within))
asks_of_long whole prefix is long f (Err a) (inl memory) = inl memory
asks_of_long whole prefix is long f (Err a) (inr (inl fails)) = inr (inl (fails.0, too_long whole prefix is long fails.0 fails.1, fails.2))
asks_of_long whole prefix is long f (Err a) (inr (inr passes)) = absurd (omega (arith, prefix_is_long whole prefix is long, passes.0.1.within))

module _ (d : Device) (origin : Origin) (content : Content) (before after : ℕ) (result : Result Question Refusal) where
  -- the first 524,289 bytes are enough
  whole_asks : (whole prefix : List ℕ) → prefix ≡ take 524289 whole → QuestionsRead d origin content before after prefix result → QuestionsRead d origin
      content before after whole result
  whole_asks whole prefix is asks =
      elim (cases_lt 524288 (length whole)) [
        | inl long ↦ (asks.0, asks.1, asks.2, asks_of_long whole prefix is long (facts d origin content before after asks.0 asks.1 asks.2) result asks.3)
        | inr short ↦ subst (λ (bytes : List ℕ). QuestionsRead d origin content before after bytes result) (is ∙ take_all 524289 whole (omega (arith, short)))
            asks
      ]

  -- the whole document, where the source tells it, or what was read
  document_asks : (left : Option (List ℕ)) (prefix : List ℕ) → IfSome left (λ whole. prefix ≡ take 524289 whole) → QuestionsRead d origin
      content before after prefix result
      → (bytes : List ℕ) × ((whole : List ℕ) → left ≡ Some whole → bytes ≡ whole) × QuestionsRead d origin content before after bytes result
  document_asks None prefix is asks = (prefix, λ whole told. cc, asks)
  document_asks (Some document) prefix is asks = (document, λ whole told. cc, whole_asks document prefix is asks)

pub questioned : (d : Device) (input : Input) (library : Shelf) (prefix : List ℕ) (result : Result Question Refusal)
    → IsSome d.origin → d.pending ≡ None
    → IfSome input.document (λ whole. prefix ≡ take 524289 whole)
    → ((o : Origin) → d.origin ≡ Some o → QuestionsRead d o library.content library.faults_before library.faults_after prefix result)
    → IsQuestioned d input library result
questioned d input library prefix result some idle is asks =
    let origin = some_of d.origin some in
    let document = document_asks d origin.0 library.content library.faults_before library.faults_after result input.document prefix is
    (asks origin.0 origin.1) in
    record {
      idle = idle;
      origin = origin.0;
      origin_is = origin.1;
      bytes = document.0;
      document = document.1;
      comes = document.2;
    }

-- ---- the answer that tells it

module _ (d : Device) (input : Input) (library : Shelf) where
  told_why : (question : Question) (a : Answer) → IsQuestioned d input library (Ok question) → TellsWhy question a → WhyAnswerOn d input library a
  told_why question Possible asked tells = record { question = question; questioned = asked; set = tells.0; valid = tells.1 }
  told_why question (Impossible e) asked tells = record { question = question; questioned = asked; explained = tells }
  told_why question NoMemory asked tells = tt
  told_why question a asked tells = absurd tells

  told_refusal : (refusal : Refusal) (a : Answer) → IsQuestioned d input library (Err refusal)
      → (refusal ≡ Candidates gather.Library → Rose library.faults_before library.faults_after) → TellsRefusal refusal a → WhyAnswerOn d input library a
  told_refusal refusal (Unplanned r text) asked cause tells =
      record {
        questioned = subst (λ (x : Refusal). IsQuestioned d input library (Err x)) (sym tells.0) asked;
        text_is = subst (λ (x : Refusal). text ≡ refusal_line x) (sym tells.0) tells.1;
        not_library = subst (λ (x : Refusal). status_of_refusal x ≢ status.Library) (sym tells.0) tells.2;
      }
  told_refusal refusal LibraryFailed asked cause tells =
      let is : refusal ≡ Candidates gather.Library = only_library refusal tells in
      (subst (λ (x : Refusal). IsQuestioned d input library (Err x)) is asked, cause is)
  told_refusal refusal NoMemory asked cause tells = tt
  told_refusal refusal a asked cause tells = absurd tells

  pub told_asked : (result : Result Question Refusal) (a : Answer) → IsQuestioned d input library result
      → (IsErrOf result (Candidates gather.Library) → Rose library.faults_before library.faults_after) → TellsAsked result a
      → WhyAnswerOn d input library a
  told_asked (Ok question) a asked cause tells = told_why question a asked tells
  told_asked (Err refusal) a asked cause tells = told_refusal refusal a asked (λ is. cause (cc)) tells

  pub pending_why : (q : PendingPlan) (a : Answer) → d.pending ≡ Some q → input.rest ≡ input.document → NamesPending q.plan.id a → WhyAnswerOn d input library a
  pending_why q (Pending id) is same names = (same, (q, is, names))
  pending_why q NoMemory is same names = tt
  pending_why q a is same names = absurd names

still_refusal : (library : Shelf) (refusal : Refusal) (a : Answer) → TellsRefusal refusal a
    → (¬ (refusal ≡ Candidates gather.Library) → library.faults_after ≡ library.faults_before) → IsStill library a
still_refusal library refusal (Unplanned r text) tells quiet = λ other. quiet (λ is. tells.2 (ap status_of_refusal is))
still_refusal library refusal LibraryFailed tells quiet = λ other. absurd (other refl)
still_refusal library refusal NoMemory tells quiet = λ other. quiet (λ is. tells (ap status_of_refusal is))
still_refusal library refusal a tells quiet = absurd tells

pub told_asked_still : (library : Shelf) (result : Result Question Refusal) (a : Answer) → TellsAsked result a
    → (¬ (IsErrOf result (Candidates gather.Library)) → library.faults_after ≡ library.faults_before) → IsStill library a
told_asked_still library (Ok question) a tells quiet = λ other. quiet (λ is. cc)
told_asked_still library (Err refusal) a tells quiet = still_refusal library refusal a tells (λ other. quiet (λ is. other (cc)))

-- the source does not fail once it was read
pub told_asked_read : (result : Result Question Refusal) (a : Answer) → TellsAsked result a → a ≡ SourceFailed → ⊥
told_asked_read (Ok question) Possible tells is = cc
told_asked_read (Ok question) (Impossible e) tells is = cc
told_asked_read (Ok question) NoMemory tells is = cc
told_asked_read (Ok question) a tells is = absurd tells
told_asked_read (Err refusal) (Unplanned r text) tells is = cc
told_asked_read (Err refusal) LibraryFailed tells is = cc
told_asked_read (Err refusal) NoMemory tells is = cc
told_asked_read (Err refusal) a tells is = absurd tells

pub whys_none : (input : Input) (library : Shelf) (store : Store) → TellsNone (λ d. WhyAnswerOn d input library) store
whys_none input library store = record { disk_fails = λ d on. on; no_entry = λ d on. on; harmed = λ d place on. on }

-- ---- no refusal of it says that no version exists

document_is_other : (f : DocFault) (p : PlanFault) → Plan p ≡ document_refusal f → ⊥
document_is_other doc.NoMemory p is = cc
document_is_other f p is = cc

gather_is_other : (f : CandidatesFault) (p : PlanFault) → Plan p ≡ gather_refusal f → ⊥
gather_is_other gather.NoMemory p is = cc
gather_is_other f p is = cc

room_is_other : (d : Device) (document : Document) (p : PlanFault) → IsFirst (room_lines d document) p → Plan plan.NoVersion ≡ plan_refusal p → ⊥
room_is_other d document p (inl closed) is =
    let other : Plan plan.NoVersion ≡ Plan (plan.TooManyClosed most_closed) = is ∙ ap plan_refusal closed.1 in cc
room_is_other d document p (inr (some, inl groups)) is =
    let other : Plan plan.NoVersion ≡ Plan (plan.TooManyGroups (most_groups + 1)) = is ∙ ap plan_refusal groups.1 in cc
room_is_other d document p (inr (some, inr rest)) is = absurd rest.1

module _ (f : Facts) where
  room_other : RefusalOf f (Room ∷ []) (Plan plan.NoVersion) → ⊥
  room_other (inl memory) = cc
  room_other (inr (inl fails)) = room_is_other f.device f.document fails.0 fails.1 fails.2
  room_other (inr (inr rest)) = absurd rest.1

  gather_other : RefusalOf f (Gathering ∷ Room ∷ []) (Plan plan.NoVersion) → ⊥
  gather_other (inl memory) = cc
  gather_other (inr (inl fails)) = gather_is_other fails.0 plan.NoVersion fails.2
  gather_other (inr (inr rest)) = room_other rest.1

  age_other : RefusalOf f (Ageing ∷ Gathering ∷ Room ∷ []) (Plan plan.NoVersion) → ⊥
  age_other (inl memory) = cc
  age_other (inr (inl fails)) = let is = fails.1 in cc
  age_other (inr (inr rest)) = gather_other rest.1

  open_other : RefusalOf f question_checks (Plan plan.NoVersion) → ⊥
  open_other (inl memory) = cc
  open_other (inr (inl fails)) = let is = fails.2 in cc
  open_other (inr (inr rest)) = age_other rest.1

  read_other : (bytes : List ℕ) → RefusalOf f (question_read_checks bytes) (Plan plan.NoVersion) → ⊥
  read_other bytes (inl memory) = cc
  read_other bytes (inr (inl fails)) = document_is_other fails.0 plan.NoVersion fails.2
  read_other bytes (inr (inr rest)) = open_other rest.1

pub not_declined : (d : Device) (input : Input) (library : Shelf) → IsQuestioned d input library (Err (Plan plan.NoVersion)) → ⊥
not_declined d input library asked =
    read_other (facts d asked.origin library.content library.faults_before library.faults_after asked.comes.0 asked.comes.1 asked.comes.2) asked.bytes
    asked.comes.3
