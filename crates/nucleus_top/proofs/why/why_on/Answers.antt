use Rattle.std.proofs.Common.{ap, option_map, refl}
use Rattle.device.specs.Devices.{device_view, pending_view}
use Rattle.nucleus_top.specs.Answers.{Input, Shelf, input_of, shelf_of}
use Rattle.nucleus_top.proofs.Questions.{pending_why}
use Rattle.nucleus_top.proofs.why.why_on.Goals as goal

pub returns-in-Some-clause-comes : goal.returns-in-Some-clause-comes
returns-in-Some-clause-comes g c =
    let input : Input = input_of g.S.Source.left g.S.Source.faults c.args.source.now c.args.source.now in
    let library : Shelf = shelf_of g.L.Library.content g.L.Library.faults c.args.library.now c.args.library.now in
    pending_why (device_view c.args.device.now) input library _ c.pending.result
    (ap (option_map pending_view) c.in-Some.is) refl c.pending.ensures
