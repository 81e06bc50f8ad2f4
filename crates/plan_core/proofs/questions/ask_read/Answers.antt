use Rattle.device.specs.Devices.{device_view}
use Rattle.library_core.proofs.Telling.{stays_same}
use Rattle.plan_core.proofs.Questioning.{not_read, read_first}
use Rattle.plan_core.proofs.questions.ask_read.Goals as goal

pub returns-in_err-document-clause-asks : goal.returns-in_err-document-clause-asks
returns-in_err-document-clause-asks g c = λ o is.
    not_read (device_view c.args.device.now) o (g.L.Library.content c.args.library.now) (g.L.Library.faults c.args.library.now)
    (g.L.Library.faults c.args.library.now) c.args.bytes.now
    c.in_err-document.field-0.0 c.from_residual.result c.from_residual.ensures.1 c.in_err-document.ensures.exact

pub returns-clause-asks : goal.returns-clause-asks
returns-clause-asks g c = λ o is.
    read_first (device_view c.args.device.now) o (g.L.Library.content c.ask.new.library) (g.L.Library.faults c.args.library.now)
    (g.L.Library.faults c.ask.new.library) c.in_ok-document.document
    c.args.bytes.now c.ask.result c.in_ok-document.ensures.exact (c.ask.ensures.asks o is)

pub returns-in_err-document-clause-kept : goal.returns-in_err-document-clause-kept
returns-in_err-document-clause-kept g c = stays_same g.L.Library.content g.L.Library.coming c.args.library.now
