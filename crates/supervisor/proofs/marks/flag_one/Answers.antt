use Rattle.std.proofs.Common.{length, rules}
use Rattle.supervisor.proofs.Flags.{flag_at_one}
use Rattle.supervisor.proofs.marks.flag_one.Goals as goal

pub returns-clause-one : goal.returns-clause-one
returns-clause-one c = λ ps e. rw (c.fill.ensures.after (λ y h. search rules)) (flag_at_one ps (length c.args.flags.now) c.args.at e)
