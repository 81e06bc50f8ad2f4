use Rattle.std.specs.Prelude.{codes, ◌++◌}
use Rattle.edges.proofs.Sent.{handed_on}
use Rattle.session_boots.specs.Lines.{exit_text, failed_line}
use Rattle.nuc_base.specs.declared.kinds.Step.TheVariants as steps
use Rattle.edges.proofs.Sent.{prefix_longer, written_on}
use Rattle.session_boots.proofs.Written.{failed_prefix, failed_joined}
use Rattle.session_boots.proofs.lines.tell_failed_boot.Goals as goal

pub returns-in_err-write_pieces-clause-line : goal.returns-in_err-write_pieces-clause-line
returns-in_err-write_pieces-clause-line g c =
    let id = c.args.id.now in
    let name = c.args.name.now in
    handed_on (g.K.Sink.held c.args.sink.now) (g.K.Sink.held c.write_pieces.new.sink) (failed_line id name steps.Bootstrap c.args.exit) c.from_residual.result
    c.in_err-write_pieces.field-0.0 c.from_residual.ensures.1
    (prefix_longer (g.K.Sink.held c.args.sink.now) (g.K.Sink.held c.write_pieces.new.sink) (failed_line id name steps.Bootstrap c.args.exit)
    (failed_prefix id name) (exit_text c.args.exit ++ codes "\n") (failed_joined id name c.args.exit)
    (rw (← c.as_str.ensures.value, ← c.as_str-2.ensures.value) c.in_err-write_pieces.ensures.bytes))

pub returns-clause-line : goal.returns-clause-line
returns-clause-line g c =
    let id = c.args.id.now in
    let name = c.args.name.now in
    written_on (g.K.Sink.held c.args.sink.now) (g.K.Sink.held c.write_pieces.new.sink) (g.K.Sink.held c.tell_exit.new.sink)
    (failed_line id name steps.Bootstrap c.args.exit) (failed_prefix id name) (exit_text c.args.exit ++ codes "\n") c.tell_exit.result
    (failed_joined id name c.args.exit)
    (rw (← c.as_str.ensures.value, ← c.as_str-2.ensures.value) c.in_ok-write_pieces.ensures.bytes) c.tell_exit.ensures.line
