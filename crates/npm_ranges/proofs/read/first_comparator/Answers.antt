use Rattle.std.proofs.Common.{sym}
use Rattle.npm_ranges.specs.Grammar.{words_of}
use Rattle.npm_ranges.proofs.Reading.{lone_last}
use Rattle.npm_ranges.proofs.read.first_comparator.Goals as goal

pub returns-in_default : goal.returns-in_default
returns-in_default c = lone_last c.args.word.now (words_of c.args.after.now) c.in-Some.sign (sym c.in-Some.ensures) c.in_default.ensures
