use Rattle.std.proofs.Common.{◌≡◌, ◌∙◌, List, [], ◌∷◌, ◌++◌, map, sym, ap, subst}
use Rattle.std.specs.List.{IsDistinct}
use Rattle.std.specs.Str.{bytes_eq}
use Rattle.nuc_base.specs.declared.artifact.Artifact.{Artifact}
use Rattle.recipe_reader.specs.Sound.{artifact_file}
use Rattle.test_host.proofs.artifacts.draft_item.Goals as goal

one_file : (a : Artifact) → IsDistinct bytes_eq (map artifact_file (a ∷ []))
unfolding IsDistinct
one_file a = (tt, tt)

-- one artifact behind none
one_differs : (a : Artifact) → (before behind : List Artifact) → before ≡ [] → behind ≡ before ++ a ∷ [] → IsDistinct bytes_eq (map artifact_file behind)
one_differs a before behind none is =
    let only : behind ≡ a ∷ [] = is ∙ ap (λ (xs : List Artifact). xs ++ a ∷ []) none in
    subst (λ (xs : List Artifact). IsDistinct bytes_eq (map artifact_file xs)) (sym only) (one_file a)

pub returns-clause-differ : goal.returns-clause-differ
returns-clause-differ c = one_differs _ c.empty-artifacts.result c.push.new.self c.empty-artifacts.ensures c.in_ok-push.ensures.ok
