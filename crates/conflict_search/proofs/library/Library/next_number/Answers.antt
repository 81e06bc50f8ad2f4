use Rattle.std.proofs.Common.{◌≡◌, ◌≤◌, ℕ, List, Option, None, Some}
use Rattle.std.specs.Prelude.{MatchOption}
use Rattle.std.specs.List.{Contains}
use Rattle.recipe_reader.specs.Members.{Need, members, IsRising}
use Rattle.recipe_reader.specs.Sets.{IsComplete}
use Rattle.recipe_reader.specs.declared.candidate.Candidate.{Candidate}
use Rattle.conflict_search.specs.Numbers.{IsNextNumber}
use Rattle.conflict_search.specs.Boards.{IsBoard}
use Rattle.conflict_search.specs.Stands.{wanted_in}
use Rattle.conflict_search.specs.declared.board.Board.{Board}
use Rattle.conflict_search.proofs.Boarding.{all_taken, next_found}
use Rattle.conflict_search.proofs.library.Library.next_number.Goals as goal

first_waiting : (o : Option ℕ) (cs : List Candidate) (wanted : List Need) (board : Board) → IsRising (members cs) → IsBoard (members cs) wanted board
    → MatchOption o ((k : ℕ) → Contains board.waiting.keys k → ⊥) (λ n. Contains board.waiting.keys n × ((k : ℕ) → Contains board.waiting.keys k → n ≤ k))
    → MatchOption o (IsComplete (members cs) wanted board.places.items) (IsNextNumber (members cs) wanted board.places.items)
first_waiting None cs wanted board up h none = all_taken (members cs) wanted board h none
first_waiting (Some k) cs wanted board up h first = next_found cs wanted board k up h first.0 first.1

pub returns : goal.returns
returns c = first_waiting c.first_waiting.result c.args.self.now.candidates.now (wanted_in c.args.self.now) c.args.board.now c.requires.rising
    c.requires.board c.first_waiting.ensures
