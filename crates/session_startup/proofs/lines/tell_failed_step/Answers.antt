use Rattle.edges.proofs.Sent.{handed_on}
use Rattle.session_boots.specs.Lines.{failed_line}
use Rattle.edges.proofs.Sent.{prefix_longer, written_on}
use Rattle.session_startup.proofs.Written.{end_text, failed_prefix, failed_joined}
use Rattle.session_startup.proofs.lines.tell_failed_step.Goals as goal

pub returns-in_err-write_pieces-clause-line : goal.returns-in_err-write_pieces-clause-line
returns-in_err-write_pieces-clause-line g c =
    let id = c.args.id.now in
    let name = c.args.name.now in
    let step = c.args.step in
    let exit = c.args.exit in
    handed_on (g.K.Sink.held c.args.sink.now) (g.K.Sink.held c.write_pieces.new.sink) (failed_line id name step exit) c.from_residual.result
    c.in_err-write_pieces.field-0.0 c.from_residual.ensures.1
    (prefix_longer (g.K.Sink.held c.args.sink.now) (g.K.Sink.held c.write_pieces.new.sink) (failed_line id name step exit) (failed_prefix id name)
    (end_text step exit) (failed_joined id name step exit)
    (rw (← c.as_str.ensures.value, ← c.as_str-2.ensures.value) c.in_err-write_pieces.ensures.bytes))

pub returns-clause-line : goal.returns-clause-line
returns-clause-line g c =
    let id = c.args.id.now in
    let name = c.args.name.now in
    let step = c.args.step in
    let exit = c.args.exit in
    written_on (g.K.Sink.held c.args.sink.now) (g.K.Sink.held c.write_pieces.new.sink) (g.K.Sink.held c.tell_end.new.sink) (failed_line id name step exit)
    (failed_prefix id name) (end_text step exit) c.tell_end.result (failed_joined id name step exit)
    (rw (← c.as_str.ensures.value, ← c.as_str-2.ensures.value) c.in_ok-write_pieces.ensures.bytes) c.tell_end.ensures.line
