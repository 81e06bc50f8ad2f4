-- Telling an answer gives its status, or 6.
use Rattle.std.proofs.Common.{◌≡◌, ◌⊎◌, inl, inr}
use Rattle.nuc_base.specs.declared.status.Status.{Status}
use Rattle.nuc_base.specs.declared.status.Status.TheVariants as status
use Rattle.nucleus_top.specs.Answers.{Printed, IsPrinted, status_of}
use Rattle.nucleus_top.specs.declared.answer.Answer.{Answer}

pub answer_or_edge : (Comes : Answer → Type 0) (printed : Printed) (result : Status) (a : Answer) → Comes a → IsPrinted printed result a
    → (result ≡ status.Edge) ⊎ ((answer : Answer) × Comes answer × (result ≡ status_of answer))
answer_or_edge Comes printed result a comes (inl told) = inr (a, comes, told.0)
answer_or_edge Comes printed result a comes (inr told) = inl told.0
