use Rattle.std.proofs.Common.{List, [], ◌∷◌, ◌++◌, ap, sym, subst, ◌∙◌}
use Rattle.recipe_reader.specs.Candidates.{AreCandidates}
use Rattle.recipe_reader.specs.declared.candidate.Candidate.{Candidate}
use Rattle.recipe_reader.proofs.BuiltIn.{alone}
use Rattle.recipe_reader.proofs.candidates.Candidates.with_nucleus.Goals as goal

pub invariant_of-result : goal.invariant_of-result
invariant_of-result c =
    let one = c.in_ok-nucleus_of.field-0 in
    let is = c.in_ok-push.ensures.ok ∙ ap (λ (cs : List Candidate). cs ++ one ∷ []) c.empty-list.ensures in
    subst AreCandidates (sym is) (alone c.args.version.now one c.in_ok-nucleus_of.ensures)

pub returns : goal.returns
returns c =
    let one = c.in_ok-nucleus_of.field-0 in
    (one, c.in_ok-push.ensures.ok ∙ ap (λ (cs : List Candidate). cs ++ one ∷ []) c.empty-list.ensures, c.in_ok-nucleus_of.ensures)
