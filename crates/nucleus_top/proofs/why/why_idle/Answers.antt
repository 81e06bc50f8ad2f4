use Rattle.std.proofs.Common.{List, ℕ, ap, subst, option_map}
use Rattle.device.specs.Devices.{device_view, pending_view}
use Rattle.plan_core.specs.Questions.{QuestionsRead}
use Rattle.nucleus_top.specs.Answers.{Input, Shelf, input_of, shelf_of}
use Rattle.nucleus_top.proofs.Questions.{questioned, told_asked, told_asked_still}
use Rattle.nucleus_top.proofs.why.why_idle.Goals as goal

pub returns-clause-comes : goal.returns-clause-comes
returns-clause-comes g c =
    let d = device_view c.args.device.now in
    let input : Input = input_of g.S.Source.left g.S.Source.faults c.args.source.now c.read_up_to.new.source in
    let library : Shelf = shelf_of g.L.Library.content g.L.Library.faults c.args.library.now c.ask_read-asked.new.library in
    let result = c.ask_read-asked.result in
    told_asked d input library result c.told.result
    (questioned d input library c.in-Ok.bytes result c.requires.origin (ap (option_map pending_view) c.requires.idle)
    c.in-Ok.ensures.bytes
    (λ o is. subst (λ (bytes : List ℕ). QuestionsRead d o library.content library.faults_before library.faults_after bytes result) c.as_slice.ensures
    (c.ask_read-asked.ensures.asks o is)))
    c.ask_read-asked.ensures.cause c.told.ensures

pub returns-clause-still : goal.returns-clause-still
returns-clause-still g c =
    let library : Shelf = shelf_of g.L.Library.content g.L.Library.faults c.args.library.now c.ask_read-asked.new.library in
    told_asked_still library c.ask_read-asked.result c.told.result c.told.ensures c.ask_read-asked.ensures.quiet
