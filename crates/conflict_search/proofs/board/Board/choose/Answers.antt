use Rattle.std.proofs.Common.{length, refl}
use Rattle.conflict_search.proofs.Indexing.{indexed_choose}
use Rattle.conflict_search.proofs.board.Board.choose.Goals as goal

pub returns-clause-indexed : goal.returns-clause-indexed
returns-clause-indexed c =
    indexed_choose (length c.args.self.now.chosen.items) c.args.self.now _ c.args.number c.args.place c.requires.indexed c.requires.number
    refl refl refl c.remove_number.ensures
