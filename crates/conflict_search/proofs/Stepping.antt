-- What stands against a walk stands at places of the candidates; and the state of the search after a step.
use Rattle.std.proofs.Common.{◌≡◌, ◌+◌, ◌<◌, ℕ, List, [], ◌∷◌, ◌++◌, length, get_or, Option, Some, None, refl, sym, ap, ◌∙◌, subst, inl, inr}
use Rattle.std.specs.List.{All, Contains}
use Rattle.std.proofs.lemmas.List.{length-map}
use Rattle.std.proofs.lemmas.List.Elements.{All-contains, Contains-append_left, Contains-push_cases}
use Rattle.std.proofs.lemmas.Option.{same_Some}
use Rattle.nuc_base.proofs.Lists.{all_from_in}
use Rattle.recipe_reader.specs.Members.{Need, Member, member, IsRising}
use Rattle.recipe_reader.specs.Sets.{name_of}
use Rattle.recipe_reader.proofs.Searching.{within_from_name}
use Rattle.conflict_search.specs.Conflicts.{IsConflict, IsConflictWith, IsPrefix, AreInRange, IsInRangeWith}
use Rattle.conflict_search.specs.Numbers.{IsNumberAt, IsNextNumber}
use Rattle.conflict_search.specs.Boards.{IsBoard}
use Rattle.conflict_search.specs.Stands.{members_in, wanted_in}
use Rattle.conflict_search.specs.Terms.{IsSound, GoesOn, IsGreatestLeft}
use Rattle.conflict_search.specs.States.{IsSearchState}
use Rattle.conflict_search.specs.declared.board.Board.{Board}
use Rattle.conflict_search.specs.declared.library.Library.{Library}
use Rattle.conflict_search.specs.declared.state.State.{State}
use Rattle.conflict_search.proofs.Shrinking.{steps_soundly, goes_on_by_greatest}
use Rattle.conflict_search.proofs.Prefixes.{prefix_push}
use Rattle.conflict_search.proofs.Trying.{in_range_push}

module _ (library : Library) where
  abbrev ms : List Member
  ms = members_in library

  abbrev wanted : List Need
  wanted = wanted_in library

  count : length ms ≡ length library.candidates.now
  count = length-map library.candidates.now member

  pub within_candidates : (p : ℕ) → p < length ms → p < length library.candidates.now
  within_candidates p lt = subst (λ n. p < n) count lt

  pub number_within : (p k : ℕ) → IsNumberAt ms p k → p < length library.candidates.now
  number_within p k at = within_candidates p (within_from_name ms p at.name at.named)

  -- places of the walk are places of the candidates
  pub taken_inside : (taken : List ℕ) → All (λ p. p < length ms) taken → All (λ p. p < length library.candidates.now) taken
  taken_inside taken inside = all_from_in (λ p. p < length library.candidates.now) taken
      (λ x i. within_candidates x (All-contains (λ p. p < length ms) taken x inside i))

  pub conflict_inside : (taken places : List ℕ) → All (λ p. p < length ms) taken → IsConflict ms wanted taken places →
      All (λ p. p < length library.candidates.now) places
  conflict_inside taken places inside h = all_from_in (λ p. p < length library.candidates.now) places
      (λ x i. within_candidates x (All-contains (λ p. p < length ms) taken x inside (h.within x i)))

  pub refused_inside : (taken places : List ℕ) (p k : ℕ) → All (λ p. p < length ms) taken → IsNumberAt ms p k → IsConflictWith ms wanted taken p places →
      All (λ p. p < length library.candidates.now) places
  refused_inside taken places p k inside at h = all_from_in (λ p. p < length library.candidates.now) places
      (λ x i. elim (Contains-push_cases taken p x (h.within x i)) [
        | inl j ↦ within_candidates x (All-contains (λ p. p < length ms) taken x inside j)
        | inr e ↦ subst (λ z. z < length library.candidates.now) e (number_within p k at)
      ])

  -- the walk takes the greatest place that is left of the next name
  pub stepped : (old : State) (board : Board) (number place : ℕ) → IsRising ms → IsSearchState library old →
      IsNextNumber ms wanted old.board.places.items number → IsNumberAt ms place number →
      IsGreatestLeft ms old.trail.domains.items number place → IsInRangeWith ms wanted old.board.places.items place →
      IsBoard ms wanted board → board.places.items ≡ old.board.places.items ++ place ∷ [] →
      IsSearchState library (record { board = board; nogoods = old.nogoods; trail = old.trail; watches = old.watches; full = old.full; room = old.room })
  stepped old board number place up h next at greatest fits is places =
      let taken = old.board.places.items in
      let a = at.is in
      let b = next.is in
      let name : at.name ≡ next.name = same_Some at.name next.name (sym a.named ∙ b.named) in
      let named : name_of ms place ≡ Some next.name = at.named ∙ ap Some name in
      record {
        rooted = record { nogoods = h.rooted.nogoods; root = h.rooted.root; root_count = h.rooted.root_count; full_count = h.rooted.full_count };
        sound = subst (λ l. IsSound ms wanted l old.trail.domains.items) (sym places)
            (steps_soundly ms wanted taken (taken ++ place ∷ []) old.trail.domains.items h.sound (λ x i. Contains-append_left taken (place ∷ []) x i));
        domains_count = h.domains_count;
        board = is;
        in_range = subst (AreInRange ms wanted) (sym places) (in_range_push ms wanted taken place h.in_range fits);
        prefix = subst (IsPrefix ms wanted) (sym places) (prefix_push ms wanted taken place next.name h.prefix next.next named);
        on = subst (GoesOn ms wanted) (sym places)
            (goes_on_by_greatest ms wanted taken old.trail.domains.items next.name place number up h.sound h.prefix h.on next.next next.is named greatest);
      }
