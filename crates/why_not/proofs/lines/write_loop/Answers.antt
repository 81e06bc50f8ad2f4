use Rattle.std.proofs.Common.{List, ℕ, ◌∷◌, ◌++◌, [], ◌∙◌, codes, append_assoc}
use Rattle.std.specs.List.{flat_map}
use Rattle.edges.proofs.Sent.{appends_more, appends_none, written_on}
use Rattle.recipe_reader.specs.Members.{members}
use Rattle.why_not.specs.Texts.{indent, name_text, loop_line}
use Rattle.why_not.proofs.Sending.{fault_within}
use Rattle.why_not.proofs.Writing.{four_parts}
use Rattle.why_not.proofs.lines.write_loop.Goals as goal

pub returns-in_err-write_indent-clause-bytes : goal.returns-in_err-write_indent-clause-bytes
returns-in_err-write_indent-clause-bytes g c =
    let old = g.K.Sink.held c.args.sink.now in
    let ms = members c.args.candidates.now in
    let names : List ℕ = flat_map (λ p. 32 ∷ name_text ms p) c.args.places.now in
    fault_within old old (g.K.Sink.held c.write_indent.new.sink) (loop_line ms c.args.level c.args.places.now) [] (indent c.args.level)
    ((codes "loop" ++ names) ++ 10 ∷ []) c.from_residual.result c.in_err-write_indent.field-0.0 c.from_residual.ensures.1
    (append_assoc (indent c.args.level) (codes "loop" ++ names) (10 ∷ [])) (appends_none old)
    c.in_err-write_indent.ensures.bytes

pub returns-in_err-write_pieces-clause-bytes : goal.returns-in_err-write_pieces-clause-bytes
returns-in_err-write_pieces-clause-bytes g c =
    let ms = members c.args.candidates.now in
    let names : List ℕ = flat_map (λ p. 32 ∷ name_text ms p) c.args.places.now in
    fault_within (g.K.Sink.held c.args.sink.now) (g.K.Sink.held c.write_indent.new.sink) (g.K.Sink.held c.write_pieces.new.sink)
    (loop_line ms c.args.level c.args.places.now) (indent c.args.level) (codes "loop") (names ++ 10 ∷ []) c.from_residual-in_err-write_pieces.result
    c.in_err-write_pieces.field-0.0 c.from_residual-in_err-write_pieces.ensures.1
    (four_parts (indent c.args.level) (codes "loop") names (10 ∷ []) ∙ append_assoc (indent c.args.level ++ codes "loop") names (10 ∷ []))
    c.in_ok-write_indent.ensures.bytes c.in_err-write_pieces.ensures.bytes

pub returns-in_err-write_names-clause-bytes : goal.returns-in_err-write_names-clause-bytes
returns-in_err-write_names-clause-bytes g c =
    let old = g.K.Sink.held c.args.sink.now in
    let mid = g.K.Sink.held c.write_pieces.new.sink in
    let ms = members c.args.candidates.now in
    let names : List ℕ = flat_map (λ p. 32 ∷ name_text ms p) c.args.places.now in
    fault_within old mid (g.K.Sink.held c.write_names.new.sink) (loop_line ms c.args.level c.args.places.now) (indent c.args.level ++ codes "loop") names
    (10 ∷ []) c.from_residual-in_err-write_names.result c.in_err-write_names.field-0.0 c.from_residual-in_err-write_names.ensures.1
    (four_parts (indent c.args.level) (codes "loop") names (10 ∷ []))
    (appends_more old (g.K.Sink.held c.write_indent.new.sink) mid (indent c.args.level) (codes "loop") c.in_ok-write_indent.ensures.bytes
    c.in_ok-write_pieces.ensures.bytes)
    c.in_err-write_names.ensures.bytes

pub returns-clause-bytes : goal.returns-clause-bytes
returns-clause-bytes g c =
    let old = g.K.Sink.held c.args.sink.now in
    let mid = g.K.Sink.held c.write_pieces.new.sink in
    let behind = g.K.Sink.held c.write_names.new.sink in
    let ms = members c.args.candidates.now in
    let level = indent c.args.level in
    let names : List ℕ = flat_map (λ p. 32 ∷ name_text ms p) c.args.places.now in
    written_on old behind (g.K.Sink.held c.write_pieces-2.new.sink) (loop_line ms c.args.level c.args.places.now) ((level ++ codes "loop") ++ names) (10 ∷ [])
    c.write_pieces-2.result (four_parts level (codes "loop") names (10 ∷ []))
    (appends_more old mid behind (level ++ codes "loop") names
    (appends_more old (g.K.Sink.held c.write_indent.new.sink) mid level (codes "loop") c.in_ok-write_indent.ensures.bytes c.in_ok-write_pieces.ensures.bytes)
    c.in_ok-write_names.ensures.bytes)
    c.write_pieces-2.ensures.bytes
