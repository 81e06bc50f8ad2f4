use Rattle.std.proofs.Common.{arith}
use Rattle.session.proofs.Printing.{large_says, mismatch_says}
use Rattle.session.proofs.Statuses.{unasked_inside}
use Rattle.session.proofs.declines.say_declined.Goals as goal

pub returns-in-Unstaged-Mismatch-clause-says : goal.returns-in-Unstaged-Mismatch-clause-says
returns-in-Unstaged-Mismatch-clause-says g c =
    mismatch_says {x = c.in-Unstaged-Mismatch.file} {y = c.in-Unstaged-Mismatch.digest} c.args.declined.now (g.K.Sink.held c.args.sink.now)
    (g.K.Sink.held c.say_differs.new.sink) c.say_differs.result c.say_differs.ensures.says
    (grind (arith, c.in-Unstaged-Mismatch.is, c.in-Unstaged-Mismatch.field-0-is, c.in-Unstaged-Mismatch.file-is, c.in-Unstaged-Mismatch.digest-is))

pub returns-in-Unstaged-TooLarge-clause-says : goal.returns-in-Unstaged-TooLarge-clause-says
returns-in-Unstaged-TooLarge-clause-says g c =
    large_says {x = c.in-Unstaged-TooLarge.file} {y = c.in-Unstaged-TooLarge.bytes} c.args.declined.now (g.K.Sink.held c.args.sink.now)
    (g.K.Sink.held c.say_large.new.sink) c.say_large.result
    c.say_large.ensures.says c.say_large.ensures.answers
    (grind (arith, c.in-Unstaged-TooLarge.is, c.in-Unstaged-TooLarge.field-0-is, c.in-Unstaged-TooLarge.file-is, c.in-Unstaged-TooLarge.bytes-is))

pub returns-in-Unasked-clause-outside : goal.returns-in-Unasked-clause-outside
returns-in-Unasked-clause-outside g c = λ fails. absurd (unasked_inside c.args.declined.now _ c.in-Unasked.is fails)
