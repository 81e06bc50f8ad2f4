-- What a document asks of the candidates that a device has with a library: the checks of a plan, up to the set.
use Rattle.std.specs.Prelude.{◌≡◌, ℕ, List, [], ◌∷◌, Result, Ok, Err}
use Rattle.recipe_reader.specs.Sets.{asked}
use Rattle.recipe_reader.specs.declared.candidate.Candidate.{Candidate}
use Rattle.library_core.specs.Library.{Content}
use Rattle.records.specs.Stored.{Draft}
use Rattle.records.specs.declared.record.Origin.{Origin}
use Rattle.device.specs.Devices.{Device}
use Rattle.deployment_doc.specs.declared.document.Document.{Document}
use Rattle.plan_core.specs.Checks.{Facts, facts, Check, Reading, Opening, Ageing, Gathering, Room, PassesAll, RefusalOf}
use Rattle.plan_core.specs.Requests.{wanted_of}
use Rattle.plan_core.specs.declared.fault.Refusal.{Refusal}
use Rattle.plan_core.specs.declared.questions.Question.{Question}

-- of a document that was read
abbrev pub question_checks : List Check
question_checks = Opening ∷ Ageing ∷ Gathering ∷ Room ∷ []

-- of the bytes of one
abbrev pub question_read_checks : List ℕ → List Check
question_read_checks bytes = Reading bytes ∷ question_checks

-- every check passes, these are the candidates and this is wanted of them; or the first check that fails answers
abbrev pub QuestionOfChecks : Facts → List Check → Result Question Refusal → Type 0
QuestionOfChecks f checks (Ok q) = (q.candidates ≡ f.candidates) × (asked q.wanted ≡ wanted_of f.device.groups f.document) × PassesAll f checks
QuestionOfChecks f checks (Err a) = RefusalOf f checks a

-- what a document asks, by some candidates. No check looks at the draft.
abbrev pub QuestionOfDocument : Device → Origin → Content → ℕ → ℕ → Document → Result Question Refusal → Type 0
QuestionOfDocument d origin content before after document result =
    (cs : List Candidate) × (draft : Draft) × QuestionOfChecks (facts d origin content before after document cs draft) question_checks result

-- what the bytes of a document ask, by what they read as besides
abbrev pub QuestionsRead : Device → Origin → Content → ℕ → ℕ → List ℕ → Result Question Refusal → Type 0
QuestionsRead d origin content before after bytes result =
    (document : Document) × (cs : List Candidate) × (draft : Draft) × QuestionOfChecks (facts d origin content before after document cs draft)
    (question_read_checks bytes) result
