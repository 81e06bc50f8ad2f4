use Rattle.std.specs.Prelude.{ℕ, List, ◌++◌, codes}
use Rattle.std.proofs.Common.{ap, ◌∙◌}
use Rattle.session.proofs.Printing.{says_as}
use Rattle.session.specs.Declines.{file_text, large_line}
use Rattle.session.proofs.declines.say_large.Goals as goal

pub returns-clause-says : goal.returns-clause-says
returns-clause-says g c =
    let shown = c.shown.result.now in
    let digits = c.format.result.now in
    says_as (g.K.Sink.held c.args.sink.now) (g.K.Sink.held c.say.new.sink) c.say.result
    (codes "refused 14 ArtifactTooLarge " ++ (shown ++ (codes " " ++ (digits ++ codes "\n")))) (large_line c.args.file.now c.args.bytes)
    (ap (λ (l : List ℕ). codes "refused 14 ArtifactTooLarge " ++ (l ++ (codes " " ++ (digits ++ codes "\n")))) c.shown.ensures
    ∙ ap (λ (l : List ℕ). codes "refused 14 ArtifactTooLarge " ++ (file_text c.args.file.now ++ (codes " " ++ (l ++ codes "\n")))) c.format.ensures.text)
    c.say.ensures.says
