use Rattle.std.proofs.Common.{List, ℕ, ap, subst, option_map}
use Rattle.device.specs.Devices.{device_view, pending_view}
use Rattle.plan_core.specs.Checks.{ProposesRead}
use Rattle.nucleus_top.specs.Answers.{Input, Shelf, input_of, shelf_of}
use Rattle.nucleus_top.proofs.Proposals.{proposed, told_on, told_still}
use Rattle.nucleus_top.proofs.planning.plan_idle.Goals as goal

pub returns-clause-comes : goal.returns-clause-comes
returns-clause-comes g c =
    let d = device_view c.args.device.now in
    let input : Input = input_of g.S.Source.left g.S.Source.faults c.args.source.now c.read_up_to.new.source in
    let library : Shelf = shelf_of g.L.Library.content g.L.Library.faults c.args.library.now c.propose_read-proposal.new.library in
    let result = c.propose_read-proposal.result in
    told_on d input library result c.told.result
    (proposed d input library c.in-Ok.bytes result c.requires.origin (ap (option_map pending_view) c.requires.idle)
    c.in-Ok.ensures.bytes
    (λ o is. subst (λ (bytes : List ℕ). ProposesRead d o library.content library.faults_before library.faults_after bytes result) c.as_slice.ensures
    (c.propose_read-proposal.ensures.proposes o is)))
    c.propose_read-proposal.ensures.cause c.told.ensures

pub returns-clause-still : goal.returns-clause-still
returns-clause-still g c =
    let library : Shelf = shelf_of g.L.Library.content g.L.Library.faults c.args.library.now c.propose_read-proposal.new.library in
    told_still library c.propose_read-proposal.result c.told.result c.told.ensures c.propose_read-proposal.ensures.quiet
