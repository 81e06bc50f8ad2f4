use Rattle.std.proofs.Common.{Some, None, lit<, rules}
use Rattle.interpolation.proofs.Pieces.{first_cut}
use Rattle.interpolation.proofs.Cuttings.{piece_step, piece_last}
use Rattle.interpolation.proofs.expansion.expand.Goals as goal

pub push_piece-requires-clause-piece : goal.push_piece-requires-clause-piece
push_piece-requires-clause-piece c =
    (first_cut 125 c.pieces.rest.now (Some (c.in-Some.piece, c.in-Some.after)) c.in-Some.ensures.cases (lit< tt)).1

pub pieces-preserved : goal.pieces-preserved
pieces-preserved c =
    let cut = first_cut 125 c.pieces.rest.now (Some (c.in-Some.piece, c.in-Some.after)) c.in-Some.ensures.cases (lit< tt) in
    let made = c.in_ok-push_piece.ensures in
    record {
      so_far = piece_step c.args.scope.now c.args.text.now c.pieces.rest.now c.in-Some.piece.now c.in-Some.after.now c.pieces.expanded made.0
          c.push_piece.new.expanded
          c.pieces.invariant.so_far cut.0 made.1 made.2;
      utf8 = search rules;
    }

pub returns : goal.returns
returns c =
    let none = first_cut 125 c.pieces.rest.now None c.in_default.ensures.cases (lit< tt) in
    piece_last c.args.scope.now c.args.text.now c.pieces.rest.now c.pieces.expanded c.push_str.new.self c.pieces.invariant.so_far none
    c.in_ok-push_str.ensures.ok
