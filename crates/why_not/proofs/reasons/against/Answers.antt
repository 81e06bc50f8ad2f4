use Rattle.recipe_reader.specs.Members.{members}
use Rattle.recipe_reader.specs.Sets.{asked}
use Rattle.why_not.proofs.Firsts.{first_loop}
use Rattle.why_not.proofs.reasons.against.Goals as goal

pub returns-in_ok-used-in-Some-2-clause-first : goal.returns-in_ok-used-in-Some-2-clause-first
returns-in_ok-used-in-Some-2-clause-first c =
    first_loop (members c.args.candidates.now) (asked c.args.wanted.now) c.args.taken.now c.args.place c.in-Some-2.places (rw c.in_default.is at
    c.in_ok-part.ensures.found)
