use Rattle.std.proofs.Common.{refl, Err, ap}
use Rattle.command_words.specs.declared.order.Order.TheVariants as order
use Rattle.deploy_state.specs.States.{loaded_device}
use Rattle.nucleus_top.specs.Answers.{Store, Input, Shelf, store_of, input_of, shelf_of}
use Rattle.nucleus_top.specs.Why.{WhyAnswerOn}
use Rattle.nucleus_top.proofs.Faults.{refuses, refused_keeps, other_fault}
use Rattle.nucleus_top.proofs.Looked.{found_looks, refused_looks}
use Rattle.nucleus_top.proofs.Questions.{whys_none}
use Rattle.nucleus_top.proofs.why.why.Goals as goal

pub why_stored-requires : goal.why_stored-requires
why_stored-requires g c = record { ready = c.in-Ok.ensures.ready }

pub returns-in-Ok-clause-comes : goal.returns-in-Ok-clause-comes
returns-in-Ok-clause-comes g c =
    let store : Store = store_of g.D.Disk.is_modelled g.D.Disk.seen g.D.Disk.faults c.args.disk.now c.open.new.disk in
    let input : Input = input_of g.S.Source.left g.S.Source.faults c.args.source.now c.why_stored.new.source in
    let library : Shelf = shelf_of g.L.Library.content g.L.Library.faults c.args.library.now c.why_stored.new.library in
    found_looks (λ d. WhyAnswerOn d input library) store (whys_none input library store) (loaded_device c.in-Ok.state) c.why_stored.result
    c.open.ensures.seen c.in-Ok.ensures.told c.why_stored.ensures.comes

pub returns-in-Ok-clause-quiet : goal.returns-in-Ok-clause-quiet
returns-in-Ok-clause-quiet g c = record { disk = λ other. c.in-Ok.ensures.quiet (λ is. cc); source = c.why_stored.ensures.quiet }

pub returns-in-Ok-clause-still : goal.returns-in-Ok-clause-still
returns-in-Ok-clause-still g c = c.why_stored.ensures.still

pub returns-in-Ok-clause-moments : goal.returns-in-Ok-clause-moments
returns-in-Ok-clause-moments g c = c.open.ensures.moments

pub returns-in-Ok-clause-keeps : goal.returns-in-Ok-clause-keeps
returns-in-Ok-clause-keeps g c = λ done. c.in-Ok.ensures.settled (λ is. cc)

pub returns-in-Ok-clause-seen : goal.returns-in-Ok-clause-seen
returns-in-Ok-clause-seen g c = c.open.ensures.seen

pub returns-in-Err-clause-comes : goal.returns-in-Err-clause-comes
returns-in-Err-clause-comes g c =
    let store : Store = store_of g.D.Disk.is_modelled g.D.Disk.seen g.D.Disk.faults c.args.disk.now c.open.new.disk in
    let input : Input = input_of g.S.Source.left g.S.Source.faults c.args.source.now c.args.source.now in
    let library : Shelf = shelf_of g.L.Library.content g.L.Library.faults c.args.library.now c.args.library.now in
    refused_looks (λ d. WhyAnswerOn d input library) store c.refused.result (refuses store c.in-Err.fault c.refused.result c.refused.ensures c.open.ensures.seen
    c.in-Err.ensures.told (λ is. c.in-Err.ensures.cause (ap Err is)))

pub returns-in-Err-clause-quiet : goal.returns-in-Err-clause-quiet
returns-in-Err-clause-quiet g c = record {
  disk = λ other. c.in-Err.ensures.quiet (λ is. other_fault c.in-Err.fault c.refused.result c.refused.ensures other (cc));
  source = λ other. refl;
}

pub returns-in-Err-clause-moments : goal.returns-in-Err-clause-moments
returns-in-Err-clause-moments g c = c.open.ensures.moments

pub returns-in-Err-clause-keeps : goal.returns-in-Err-clause-keeps
returns-in-Err-clause-keeps g c =
    refused_keeps order.Why (g.D.Disk.may_leave c.open.new.disk) (g.D.Disk.seen c.open.new.disk) c.in-Err.fault c.refused.result c.refused.ensures

pub returns-in-Err-clause-seen : goal.returns-in-Err-clause-seen
returns-in-Err-clause-seen g c = c.open.ensures.seen
