use Rattle.std.proofs.Common.{subst, sym}
use Rattle.std.specs.Option.{IsSome}
use Rattle.device.specs.Devices.{Device}
use Rattle.device.specs.Sound.{IsSound}
use Rattle.nucleus_top.specs.Answers.{Input, Shelf, input_of, shelf_of}
use Rattle.nucleus_top.specs.Why.{WhyAnswerOn}
use Rattle.nucleus_top.proofs.why.why_stored.Goals as goal

pub why_on-requires-clause-origin : goal.why_on-requires-clause-origin
why_on-requires-clause-origin g c = subst (λ (d : Device). IsSome d.origin) (sym c.stored.ensures) c.requires.ready.0

pub why_on-requires-clause-sound : goal.why_on-requires-clause-sound
why_on-requires-clause-sound g c = subst IsSound (sym c.stored.ensures) c.requires.ready.2

pub returns-clause-comes : goal.returns-clause-comes
returns-clause-comes g c =
    let input : Input = input_of g.S.Source.left g.S.Source.faults c.args.source.now c.why_on.new.source in
    let library : Shelf = shelf_of g.L.Library.content g.L.Library.faults c.args.library.now c.why_on.new.library in
    subst (λ (d : Device). WhyAnswerOn d input library c.why_on.result) c.stored.ensures c.why_on.ensures.comes

pub returns-clause-still : goal.returns-clause-still
returns-clause-still g c = c.why_on.ensures.still

pub returns-clause-kept : goal.returns-clause-kept
returns-clause-kept g c = c.why_on.ensures.kept

pub returns-clause-quiet : goal.returns-clause-quiet
returns-clause-quiet g c = c.why_on.ensures.quiet
