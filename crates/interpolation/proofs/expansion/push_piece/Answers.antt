use Rattle.std.proofs.Common.{◌++◌, ◌∷◌, [], ap, ◌∙◌, append_assoc}
use Rattle.std.proofs.lemmas.Result.{on_ok_weaker}
use Rattle.interpolation.specs.Values.{replaced}
use Rattle.interpolation.proofs.Cuttings.{prefix_ended, prefix_plain}
use Rattle.interpolation.proofs.expansion.push_piece.Goals as goal

pub returns-in_ok-push_str-in-Some : goal.returns-in_ok-push_str-in-Some
returns-in_ok-push_str-in-Some c =
    let plain = c.in-Some.plain.now in
    let word = c.in-Some.word.now in
    on_ok_weaker c.push_variable.result
    (λ more. (
      plain ++ replaced c.args.scope.now word,
      more ∙ ap (λ l. l ++ replaced c.args.scope.now word) c.in_ok-push_str-in-Some.ensures.ok
          ∙ append_assoc c.args.expanded.now plain (replaced c.args.scope.now word),
      prefix_ended c.args.scope.now c.args.piece.now plain word c.requires.piece c.in-Some.ensures,
    ))
    c.push_variable.ensures

pub returns-in_ok-push_str-in-None : goal.returns-in_ok-push_str-in-None
returns-in_ok-push_str-in-None c =
    let piece = c.args.piece.now in
    on_ok_weaker c.push_str-in-None-2.result
    (λ more. (
      piece ++ (125 ∷ []),
      more ∙ ap (λ l. l ++ (125 ∷ [])) c.in_ok-push_str-in-None.ensures.ok ∙ append_assoc c.args.expanded.now piece (125 ∷ []),
      prefix_plain c.args.scope.now piece c.requires.piece c.in-None.ensures,
    ))
    c.push_str-in-None-2.ensures.ok
