use Rattle.dep_order.proofs.Marked.{tidy_start}
use Rattle.dep_order.proofs.places.Places.new.Goals as goal

pub returns-clause-tidy : goal.returns-clause-tidy
returns-clause-tidy c = tidy_start (record { list = c.new.result; marks = c.loop-place.marks }) c.new.ensures.items c.loop-place.invariant.each
