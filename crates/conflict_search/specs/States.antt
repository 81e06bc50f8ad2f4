-- What a search keeps.
use Rattle.std.specs.Prelude.{◌≡◌, ◌<◌, ℕ, List, [], length}
use Rattle.recipe_reader.specs.Searches.{HasNone}
use Rattle.conflict_search.specs.Conflicts.{IsPrefix, AreInRange}
use Rattle.conflict_search.specs.Boards.{IsBoard}
use Rattle.conflict_search.specs.Stands.{members_in, wanted_in}
use Rattle.conflict_search.specs.Terms.{AreNogoods, IsNogoodRow, IsSound, AreOthersWithin, GoesOn}
use Rattle.conflict_search.specs.declared.library.Library.{Library}
use Rattle.conflict_search.specs.declared.conflicts.Learned.{Learned}
use Rattle.conflict_search.specs.declared.conflicts.Learned.TheVariants.{Nogood, NoneLeft}
use Rattle.conflict_search.specs.declared.spread.Heard.{Heard}
use Rattle.conflict_search.specs.declared.spread.Heard.TheVariants.{Conflict}
use Rattle.conflict_search.specs.declared.spread.Says.{Says}
use Rattle.conflict_search.specs.declared.spread.Says.TheVariants.{Take}
use Rattle.conflict_search.specs.declared.state.State.{State}
use Rattle.conflict_search.specs.declared.terms.Term.{Term}

-- what holds at the start of each attempt: what is known, and what is left before any place is taken
pub record IsRooted (library : Library) (state : State) : Type 0 where
  pub nogoods : AreNogoods (members_in library) (wanted_in library) state.nogoods
  pub root : IsSound (members_in library) (wanted_in library) [] state.trail.root.items
  pub root_count : length state.trail.root.items ≡ length library.candidates.now
  pub full_count : length state.full.items ≡ length library.candidates.now

-- and that no value is gone but for the places of no walk: nothing is decided
pub record IsReady (library : Library) (state : State) : Type 0 where
  pub rooted : IsRooted library state
  pub sound : IsSound (members_in library) (wanted_in library) [] state.trail.domains.items
  pub domains_count : length state.trail.domains.items ≡ length library.candidates.now

-- and within an attempt: what is left is sound for the places of the walk, which goes on as the best one does
pub record IsSearchState (library : Library) (state : State) : Type 0 where
  pub rooted : IsRooted library state
  pub sound : IsSound (members_in library) (wanted_in library) state.board.places.items state.trail.domains.items
  pub domains_count : length state.trail.domains.items ≡ length library.candidates.now
  pub board : IsBoard (members_in library) (wanted_in library) state.board
  pub in_range : AreInRange (members_in library) (wanted_in library) state.board.places.items
  pub prefix : IsPrefix (members_in library) (wanted_in library) state.board.places.items
  pub on : GoesOn (members_in library) (wanted_in library) state.board.places.items

-- what a nogood says of a row: at a term that is to be taken, all others are met
abbrev pub IsSaid : List ℕ → List Term → Says → Type 0
IsSaid row terms (Take at) = (at < length terms) × AreOthersWithin row terms at
IsSaid row terms _ = Unit {0}

-- what came of a nogood
abbrev pub IsHeard : Library → State → Heard → Type 0
IsHeard library state (Conflict draft) = IsRooted library state × IsNogoodRow (members_in library) (wanted_in library) draft.items
IsHeard library state _ = IsSearchState library state

-- what came of a conflict
abbrev pub IsLearned : Library → State → Learned → Type 0
IsLearned library state Nogood = IsReady library state
IsLearned library state NoneLeft = HasNone (members_in library) (wanted_in library) []
