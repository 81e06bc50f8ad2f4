use Rattle.std.proofs.Common.{◌≡◌, ◌+◌, ◌≤◌, ap, length, arith}
use Rattle.conflict_search.proofs.Learning.{term_room}
use Rattle.conflict_search.proofs.library.Library.term_in.Goals as goal

pub copy_from-requires : goal.copy_from-requires
copy_from-requires c =
    let room = term_room c.args.self.now.candidates.now c.in_ok-term.term c.in_ok-term.ensures.term in
    let count = ap length c.deref_mut.ensures.value in
    let row = c.requires.row in
    record { room = omega (arith, room, count, row) }
