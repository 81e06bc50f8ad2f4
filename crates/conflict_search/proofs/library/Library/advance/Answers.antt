use Rattle.std.proofs.Common.{◌≡◌, ◌++◌, ◌∷◌, [], ℕ, Vec, Global, sym, subst}
use Rattle.std.specs.List.{Contains}
use Rattle.std.proofs.lemmas.List.Elements.{Contains-push}
use Rattle.std.proofs.lemmas.Option.{MatchOption-at_none}
use Rattle.conflict_search.specs.Conflicts.{CannotStand}
use Rattle.conflict_search.specs.Stands.{members_in, wanted_in}
use Rattle.conflict_search.specs.Terms.{IsLeft, IsNogoodRow}
use Rattle.conflict_search.specs.States.{IsRooted, IsSearchState}
use Rattle.conflict_search.proofs.Shrinking.{none_left}
use Rattle.conflict_search.proofs.library.Library.advance.Goals as goal

pub draft_against-requires-clause-conflict : goal.draft_against-requires-clause-conflict
draft_against-requires-clause-conflict c =
    let ms = members_in c.args.self.now in
    let wanted = wanted_in c.args.self.now in
    let h = c.requires.state in
    let next = c.requires.next in
    subst (CannotStand ms wanted) (sym c.as_slice-places.ensures.value)
    (none_left ms wanted c.args.state.now.board.places.items c.args.state.now.trail.domains.items next.name c.args.number h.sound next.next next.is
    (λ q at left. c.in_default.ensures q at (subst (λ l. IsLeft ms l q) (sym c.as_slice.ensures.value) left)))

pub step-requires-clause-greatest : goal.step-requires-clause-greatest
step-requires-clause-greatest c = λ q at less left.
    c.in-Some.ensures.1 q at less (subst (λ l. IsLeft (members_in c.args.self.now) l q) (sym c.as_slice.ensures.value) left)

pub decide-requires-clause-place : goal.decide-requires-clause-place
decide-requires-clause-place c =
    let library = c.args.self.now in
    let old = c.args.state.now.board.places.items in
    let place = c.in-Some.place in
    let new = c.step.new.state in
    let took = MatchOption-at_none (IsSearchState library new × (new.board.places.items ≡ old ++ place ∷ []))
    (λ (draft : Vec ℕ Global). IsRooted library new × IsNogoodRow (members_in library) (wanted_in library) draft.items) c.in_default-2.is
    c.in_ok-draft-2.ensures.found in
    subst (λ l. Contains l place) (sym took.1) (Contains-push old place)
