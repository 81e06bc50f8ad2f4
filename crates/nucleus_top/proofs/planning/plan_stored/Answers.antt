use Rattle.std.proofs.Common.{subst, sym}
use Rattle.std.specs.Option.{IsSome}
use Rattle.device.specs.Devices.{Device, IsRegularDevice}
use Rattle.device.specs.Sound.{IsSound}
use Rattle.nucleus_top.specs.Answers.{Input, Shelf, input_of, shelf_of}
use Rattle.nucleus_top.specs.Planning.{PlanAnswerOn}
use Rattle.nucleus_top.proofs.planning.plan_stored.Goals as goal

pub plan_on-requires-clause-origin : goal.plan_on-requires-clause-origin
plan_on-requires-clause-origin g c = subst (λ (d : Device). IsSome d.origin) (sym c.stored.ensures) c.requires.ready.0

pub plan_on-requires-clause-sound : goal.plan_on-requires-clause-sound
plan_on-requires-clause-sound g c = subst IsSound (sym c.stored.ensures) c.requires.ready.2

pub plan_on-requires-clause-regular : goal.plan_on-requires-clause-regular
plan_on-requires-clause-regular g c = subst IsRegularDevice (sym c.stored.ensures) c.requires.ready.1

pub returns-clause-comes : goal.returns-clause-comes
returns-clause-comes g c =
    let input : Input = input_of g.S.Source.left g.S.Source.faults c.args.source.now c.plan_on.new.source in
    let library : Shelf = shelf_of g.L.Library.content g.L.Library.faults c.args.library.now c.plan_on.new.library in
    subst (λ (d : Device). PlanAnswerOn d input library c.plan_on.result) c.stored.ensures c.plan_on.ensures.comes

pub returns-clause-still : goal.returns-clause-still
returns-clause-still g c = c.plan_on.ensures.still

pub returns-clause-kept : goal.returns-clause-kept
returns-clause-kept g c = c.plan_on.ensures.kept

pub returns-clause-quiet : goal.returns-clause-quiet
returns-clause-quiet g c = c.plan_on.ensures.quiet
