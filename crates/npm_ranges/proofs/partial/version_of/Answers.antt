use Rattle.npm_ranges.proofs.Partials.{not_a_version}
use Rattle.npm_ranges.proofs.partial.version_of.Goals as goal

pub returns-in_default : goal.returns-in_default
returns-in_default c = not_a_version c.args.bytes.now c.in_default.ensures.cases.0
