use Rattle.interpolation.specs.Values.{value}
use Rattle.interpolation.proofs.Words.{long_none}
use Rattle.interpolation.proofs.values.short_value.Goals as goal

pub returns-in-Err-TooLong : goal.returns-in-Err-TooLong
returns-in-Err-TooLong c = long_none (value c.args.scope.now c.args.word.now) (rw c.in-Err-TooLong.field-0-is at c.in-Err-TooLong.ensures)
