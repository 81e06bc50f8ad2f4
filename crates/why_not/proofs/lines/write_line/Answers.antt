use Rattle.std.proofs.Common.{◌∷◌, ◌++◌, [], refl, append_assoc}
use Rattle.edges.specs.Pieces.{joined}
use Rattle.edges.proofs.Sent.{appends_more, appends_none, written_on}
use Rattle.why_not.specs.Texts.{indent, line}
use Rattle.why_not.proofs.Sending.{fault_within}
use Rattle.why_not.proofs.lines.write_line.Goals as goal

pub returns-in_err-write_indent-clause-bytes : goal.returns-in_err-write_indent-clause-bytes
returns-in_err-write_indent-clause-bytes g c =
    let old = g.K.Sink.held c.args.sink.now in
    let text = joined c.args.pieces.now in
    fault_within old old (g.K.Sink.held c.write_indent.new.sink) (line c.args.level text) [] (indent c.args.level) (text ++ 10 ∷ [])
    c.from_residual.result c.in_err-write_indent.field-0.0 c.from_residual.ensures.1
    (append_assoc (indent c.args.level) text (10 ∷ [])) (appends_none old) c.in_err-write_indent.ensures.bytes

pub returns-in_err-write_pieces-clause-bytes : goal.returns-in_err-write_pieces-clause-bytes
returns-in_err-write_pieces-clause-bytes g c =
    let text = joined c.args.pieces.now in
    fault_within (g.K.Sink.held c.args.sink.now) (g.K.Sink.held c.write_indent.new.sink) (g.K.Sink.held c.write_pieces.new.sink) (line c.args.level text)
    (indent c.args.level) text (10 ∷ []) c.from_residual-in_err-write_pieces.result c.in_err-write_pieces.field-0.0
    c.from_residual-in_err-write_pieces.ensures.1 refl c.in_ok-write_indent.ensures.bytes
    c.in_err-write_pieces.ensures.bytes

pub returns-clause-bytes : goal.returns-clause-bytes
returns-clause-bytes g c =
    let old = g.K.Sink.held c.args.sink.now in
    let mid = g.K.Sink.held c.write_pieces.new.sink in
    let text = joined c.args.pieces.now in
    written_on old mid (g.K.Sink.held c.write_pieces-2.new.sink) (line c.args.level text) (indent c.args.level ++ text) (10 ∷ []) c.write_pieces-2.result refl
    (appends_more old (g.K.Sink.held c.write_indent.new.sink) mid (indent c.args.level) text c.in_ok-write_indent.ensures.bytes
    c.in_ok-write_pieces.ensures.bytes)
    c.write_pieces-2.ensures.bytes
