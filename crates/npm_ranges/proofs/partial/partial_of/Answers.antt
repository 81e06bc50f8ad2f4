use Rattle.std.proofs.Common.{◌∙◌}
use Rattle.semver.specs.Identifiers.{parts_of}
use Rattle.npm_ranges.proofs.Partials.{partial_full, partial_open}
use Rattle.npm_ranges.proofs.partial.partial_of.Goals as goal

pub returns-in-Some : goal.returns-in-Some
returns-in-Some c = partial_full c.args.word.now c.bare-word.result.now (parts_of c.in-Some.version) c.bare-word.ensures
    (rw c.in-Some.is at c.in_ok-version.ensures)

pub returns-in-None : goal.returns-in-None
returns-in-None c = c.parts_partial.ensures ∙ partial_open c.args.word.now c.bare-word.result.now c.bare-word.ensures
    (rw c.in-None.is at c.in_ok-version.ensures)
