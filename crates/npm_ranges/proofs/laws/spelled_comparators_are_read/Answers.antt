use Rattle.std.proofs.Common.{refl, arith}
use Rattle.semver.specs.Parse.{digits_from}
use Rattle.npm_ranges.specs.Grammar.{number_of, partial_of, parts_partial, sets_of, sign_of, words_of, written}
use Rattle.npm_ranges.proofs.Spellings.{spelled_is_read}
use Rattle.npm_ranges.proofs.laws.spelled_comparators_are_read.Goals as goal

pub returns-clause-spelled : goal.returns-clause-spelled
returns-clause-spelled c = spelled_is_read

pub returns-clause-any : goal.returns-clause-any
unfolding written sets_of words_of sign_of partial_of parts_partial number_of digits_from
returns-clause-any c = record { readable = record { short = omega arith; read = refl }; few = omega arith }
