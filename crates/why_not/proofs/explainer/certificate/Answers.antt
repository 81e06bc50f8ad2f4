use Rattle.std.proofs.Common.{List, ◌∙◌, subst}
use Rattle.std.specs.Prelude.{IfSome}
use Rattle.recipe_reader.specs.Members.{members}
use Rattle.recipe_reader.specs.Sets.{asked}
use Rattle.recipe_reader.specs.declared.candidate.Candidate.{Candidate}
use Rattle.recipe_reader.specs.declared.wanted.Wanted.{Wanted}
use Rattle.why_not.specs.Plain.{HasNoSet}
use Rattle.why_not.proofs.explainer.certificate.Goals as goal

pub returns-clause-none : goal.returns-clause-none
returns-clause-none c =
    subst (λ (l : List Candidate). IfSome c.in_ok-found.found (λ _. HasNoSet (members l) (asked c.args.wanted.now))) (c.as_slice.ensures ∙ c.list.ensures.value)
    (subst (λ (w : List Wanted). IfSome c.in_ok-found.found (λ _. HasNoSet (members c.as_slice.result.now) (asked w))) c.as_slice-2.ensures
    c.in_ok-found.ensures.none)
