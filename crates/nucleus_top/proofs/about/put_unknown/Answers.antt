use Rattle.std.proofs.Common.{◌≡◌, ◌∙◌, ◌++◌, ◌∷◌, [], ℕ, List, ap₂, subst}
use Rattle.std.specs.Prelude.{OnOk, codes}
use Rattle.status_text.specs.Status.{line}
use Rattle.nucleus_top.proofs.about.put_unknown.Goals as goal

pub returns : goal.returns
returns c =
    let kind = c.as_str.ensures.value ∙ c.in_ok-kind.ensures in
    let place = c.as_str-2.ensures.value ∙ c.in_ok-place.ensures.ok in
    subst (λ (l : List ℕ). OnOk c.put_line.result (c.put_line.new.out ≡ c.args.out.now ++ l))
    (ap₂ (λ (k p : List ℕ). line (codes "unknown record") (k ∷ codes "at" ∷ p ∷ [])) kind place) c.put_line.ensures
