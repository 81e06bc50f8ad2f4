use Rattle.std.proofs.Common.{◌≡◌, ◌∙◌, ℕ, List, [], ◌∷◌, ◌++◌, map, sym, ap, subst}
use Rattle.std.specs.List.{IsDistinct}
use Rattle.std.specs.Prelude.{codes, false}
use Rattle.std.specs.Str.{bytes_eq}
use Rattle.nuc_base.specs.declared.artifact.Artifact.{Artifact}
use Rattle.recipe_reader.specs.Sound.{artifact_file}
use Rattle.test_artifacts.proofs.files.draft_item.Goals as goal

-- the files `f` and `g` are two
two_files : (a b : Artifact) → a.file ≡ codes "f" → b.file ≡ codes "g" → IsDistinct bytes_eq (map artifact_file (a ∷ b ∷ []))
unfolding IsDistinct
two_files a b first second =
    let apart : bytes_eq a.file b.file ≡ false = ap (λ (x : List ℕ). bytes_eq x b.file) first ∙ ap (λ (y : List ℕ). bytes_eq (codes "f") y) second in
    ((apart, tt), (tt, tt))

pub returns-clause-differ : goal.returns-clause-differ
returns-clause-differ c =
    let a = c.in_ok-artifact.field-0 in
    let b = c.in_ok-artifact-2.field-0 in
    let both : c.push-2.new.self ≡ a ∷ b ∷ [] = c.in_ok-push-2.ensures.ok ∙ ap (λ (xs : List Artifact). xs ++ b ∷ [])
    (c.in_ok-push.ensures.ok ∙ ap (λ (xs : List Artifact). xs ++ a ∷ []) c.empty-artifacts.ensures) in
    subst (λ (xs : List Artifact). IsDistinct bytes_eq (map artifact_file xs)) (sym both) (two_files a b c.in_ok-artifact.ensures c.in_ok-artifact-2.ensures)
