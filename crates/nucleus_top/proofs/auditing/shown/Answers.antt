use Rattle.std.proofs.Common.{◌≡◌, ◌∙◌, ℕ, List, ap, drop}
use Rattle.nucleus_top.proofs.auditing.shown.Goals as goal

pub returns-in-Some : goal.returns-in-Some
returns-in-Some c = λ rest is.
    let found = c.in-Some.ensures.cases in
    let same : c.as_str-name.result.now ≡ c.args.file.now = c.as_str-name.ensures in
    found.2 ∙ ap (λ (k : ℕ). drop k c.as_str-name.result.now) found.1.0 ∙ ap (λ (s : List ℕ). drop 19 s) (same ∙ is)

pub returns-in-None : goal.returns-in-None
returns-in-None c = λ rest is.
    let same : c.as_str-name.result.now ≡ c.args.file.now = c.as_str-name.ensures in
    absurd (c.in-None.ensures.cases rest (same ∙ is))
