use Rattle.std.proofs.Common.{◌≡◌, ℕ, ◌++◌, length, Some, sym, ap, ◌∙◌, subst}
use Rattle.std.proofs.lemmas.List.{length-set}
use Rattle.conflict_search.specs.Boards.{IsIndexed}
use Rattle.conflict_search.specs.Stands.{members_in, wanted_in}
use Rattle.conflict_search.proofs.Boarding.{board_take}
use Rattle.conflict_search.proofs.library.Library.take.Goals as goal

pub returns-clause-board : goal.returns-clause-board
returns-clause-board c =
    let old = c.args.board.now in
    let board = c.requires.board in
    let index = board.indexed in
    let mid = c.choose.new.self in
    let count : length mid.chosen.items ≡ length (members_in c.args.self.now) = ap length c.in_ok-choose.ensures.chosen
    ∙ length-set old.chosen.items c.args.number (Some c.args.place) ∙ index.chosen_count in
    board_take (members_in c.args.self.now) (wanted_in c.args.self.now) old c.ask_all.new.self c.args.place c.args.number c.args.demands.now board
    c.requires.next c.requires.place c.requires.demands
    (c.ask_all.ensures.places ∙ c.in_ok-choose.ensures.places)
    (c.in_ok-ask_all.ensures.asked ∙ ap (λ l. l ++ c.args.demands.now) c.choose.ensures.asked)
    (c.ask_all.ensures.chosen ∙ c.in_ok-choose.ensures.chosen)
    (subst (λ n. IsIndexed n c.ask_all.new.self) count c.in_ok-ask_all.ensures.indexed)
