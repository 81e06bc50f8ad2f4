use Rattle.std.specs.Prelude.{codes, ◌++◌}
use Rattle.edges.proofs.Sent.{handed_on}
use Rattle.session_boots.specs.Lines.{closed_line}
use Rattle.edges.proofs.Sent.{prefix_longer, written_on}
use Rattle.status_text.specs.Words.{outcome_text}
use Rattle.session_startup.proofs.Written.{closed_prefix, closed_joined}
use Rattle.session_startup.proofs.lines.tell_closed.Goals as goal

pub returns-in_err-write_pieces-clause-line : goal.returns-in_err-write_pieces-clause-line
returns-in_err-write_pieces-clause-line g c =
    let id = c.args.id.now in
    let o = c.args.outcome in
    handed_on (g.K.Sink.held c.args.sink.now) (g.K.Sink.held c.write_pieces.new.sink) (closed_line id o) c.from_residual.result
    c.in_err-write_pieces.field-0.0 c.from_residual.ensures.1
    (prefix_longer (g.K.Sink.held c.args.sink.now) (g.K.Sink.held c.write_pieces.new.sink) (closed_line id o) (closed_prefix id) (outcome_text o ++ codes "\n")
    (closed_joined id o)
    (rw (← c.as_str.ensures.value) c.in_err-write_pieces.ensures.bytes))

pub returns-clause-line : goal.returns-clause-line
returns-clause-line g c =
    let id = c.args.id.now in
    let o = c.args.outcome in
    written_on (g.K.Sink.held c.args.sink.now) (g.K.Sink.held c.write_pieces.new.sink) (g.K.Sink.held c.tell_outcome.new.sink) (closed_line id o)
    (closed_prefix id) (outcome_text o ++ codes "\n") c.tell_outcome.result (closed_joined id o)
    (rw (← c.as_str.ensures.value) c.in_ok-write_pieces.ensures.bytes) c.tell_outcome.ensures.line
