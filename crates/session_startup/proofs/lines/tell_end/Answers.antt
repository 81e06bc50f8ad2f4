use Rattle.std.specs.Prelude.{codes, ◌++◌, []}
use Rattle.edges.proofs.Sent.{handed_on}
use Rattle.session_boots.specs.Lines.{exit_text, step_text}
use Rattle.edges.proofs.Sent.{prefix_longer, written_on}
use Rattle.session_startup.proofs.Written.{end_joined, end_text}
use Rattle.session_startup.proofs.lines.tell_end.Goals as goal

pub returns-in_err-write_pieces-clause-line : goal.returns-in_err-write_pieces-clause-line
returns-in_err-write_pieces-clause-line g c =
    let step = c.args.step in
    let exit = c.args.exit in
    handed_on (g.K.Sink.held c.args.sink.now) (g.K.Sink.held c.write_pieces.new.sink) (end_text step exit) c.from_residual.result
    c.in_err-write_pieces.field-0.0 c.from_residual.ensures.1
    (prefix_longer (g.K.Sink.held c.args.sink.now) (g.K.Sink.held c.write_pieces.new.sink) (end_text step exit) (step_text step ++ (codes " " ++ []))
    (exit_text exit ++ codes "\n") (end_joined step exit)
    (rw (← c.step_word.ensures) c.in_err-write_pieces.ensures.bytes))

pub returns-clause-line : goal.returns-clause-line
returns-clause-line g c =
    let step = c.args.step in
    let exit = c.args.exit in
    written_on (g.K.Sink.held c.args.sink.now) (g.K.Sink.held c.write_pieces.new.sink) (g.K.Sink.held c.tell_exit.new.sink) (end_text step exit)
    (step_text step ++ (codes " " ++ [])) (exit_text exit ++ codes "\n") c.tell_exit.result (end_joined step exit)
    (rw (← c.step_word.ensures) c.in_ok-write_pieces.ensures.bytes) c.tell_exit.ensures.line
