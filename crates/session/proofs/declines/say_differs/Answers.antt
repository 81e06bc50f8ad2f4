use Rattle.std.specs.Prelude.{ℕ, List, ◌++◌, codes}
use Rattle.std.proofs.Common.{◌≡◌, ◌∙◌, ap, arith, inl}
use Rattle.hex.specs.Hex.{encode_lower}
use Rattle.session.specs.Declines.{file_text, mismatch_line}
use Rattle.session.proofs.Printing.{says_as}
use Rattle.session.proofs.declines.say_differs.Goals as goal

pub returns-clause-says : goal.returns-clause-says
returns-clause-says g c =
    let shown = c.shown.result.now in
    let digits = c.as_str.result.now in
    let spelled : digits ≡ encode_lower c.args.digest.now = grind (
      arith,
      c.as_str.ensures.value,
      c.in-Ok.ensures,
      c.in-Ok.is,
      c.as_slice.ensures,
      c.encode.ensures,
    ) in
    inl (
      says_as (g.K.Sink.held c.args.sink.now) (g.K.Sink.held c.say.new.sink) c.say.result
          (codes "refused 13 Mismatch " ++ (shown ++ (codes " " ++ (digits ++ codes "\n")))) (mismatch_line c.args.file.now c.args.digest.now)
          (ap (λ (l : List ℕ). codes "refused 13 Mismatch " ++ (l ++ (codes " " ++ (digits ++ codes "\n")))) c.shown.ensures
          ∙ ap (λ (l : List ℕ). codes "refused 13 Mismatch " ++ (file_text c.args.file.now ++ (codes " " ++ (l ++ codes "\n")))) spelled) c.say.ensures.says,
      c.say.ensures.answers,
    )
