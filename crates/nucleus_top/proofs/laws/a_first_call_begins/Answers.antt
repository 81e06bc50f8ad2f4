use Rattle.nucleus_top.proofs.Acknowledged.{first_begun}
use Rattle.nucleus_top.proofs.laws.a_first_call_begins.Goals as goal

pub returns : goal.returns
returns c = record { begins = first_begun c.calls_go_on.ensures.begins c.new.result c.new.ensures.settled }
