use Rattle.recipe_reader.specs.Members.{members}
use Rattle.recipe_reader.specs.Sets.{asked}
use Rattle.why_not.specs.Fronts.{listed}
use Rattle.why_not.proofs.Fronting.{front_start}
use Rattle.why_not.proofs.front.Front.new.Goals as goal

pub returns : goal.returns
returns c = front_start (members c.args.candidates.now) (asked c.args.wanted.now) (listed c.in_ok-wanted_names.field-0.items) c.in_ok-wanted_names.ensures
