use Rattle.std.proofs.Common.{◌≡◌, ◌<◌, ℕ, None, Some, length, sym, ◌∙◌, subst}
use Rattle.std.specs.Prelude.{IfSome, slice_index_or}
use Rattle.std.proofs.lemmas.List.{length-map}
use Rattle.std.proofs.lemmas.List.Elements.{All-contains}
use Rattle.std.proofs.lemmas.Option.{same_Some, none-some}
use Rattle.npm_ranges.specs.Ranges.{IsInRange}
use Rattle.recipe_reader.specs.Members.{member}
use Rattle.conflict_search.specs.declared.demands.Demand.{Demand}
use Rattle.conflict_search.specs.Stands.{members_in, IsMetIn}
use Rattle.conflict_search.proofs.Each.{each_more, each_all}
use Rattle.conflict_search.proofs.library.Library.first_unfit.Goals as goal
use Rattle.conflict_search.proofs.library.Library.first_unfit.Goals.{in-Some+else-not-holds, in_default}

pub version_at-requires : goal.version_at-requires
version_at-requires c =
    let board = c.requires.board in
    let is = board.chosen in
    let there = is.only c.in-Some.chosen c.demand-item.result.number (sym c.chosen_of.ensures ∙ c.in-Some.is) in
    subst (λ n. c.in-Some.chosen < n) (length-map c.args.self.now.candidates.now member) (All-contains (λ p. p < length (members_in c.args.self.now))
    c.args.board.now.places.items c.in-Some.chosen board.inside there.0)

pub loop-demand-preserved : goal.loop-demand-preserved
loop-demand-preserved c = λ d q i e.
    let ms = members_in c.args.self.now in
    let chosen = c.args.board.now.chosen.items in
    each_more (λ (d : Demand). (q : ℕ) → slice_index_or chosen d.number None ≡ Some q → IsMetIn ms d.range.now q) c.args.demands.now
    c.loop-demand.demand-index c.demand-item.result c.loop-demand-test.true
    (λ d i q e. c.loop-demand.invariant d q i e)
    (subst (λ (d : Demand). (q : ℕ) → slice_index_or chosen d.number None ≡ Some q → IsMetIn ms d.range.now q) c.demand-item.is
    (elim c.match-chosen_of.branch [
      | in-Some+else-not-holds w ↦ λ q e.
          (let same = same_Some w.in-Some.chosen q (sym w.in-Some.is ∙ c.chosen_of.ensures ∙ e) in
          subst (IsMetIn ms c.demand-item.result.range.now) same
          (subst (λ o. IfSome o (λ v. IsInRange v c.demand-item.result.range.now)) (sym w.version_at.ensures) (w.holds.ensures.0 w.if-not-holds.false)))
      | in_default w ↦ λ q e. absurd (none-some q (sym w.in_default.is ∙ c.chosen_of.ensures ∙ e))
    ])) d i q e

pub returns : goal.returns
returns c = λ d q i e.
    each_all (λ (d : Demand). (q : ℕ) → slice_index_or c.args.board.now.chosen.items d.number None ≡ Some q →
    IsMetIn (members_in c.args.self.now) d.range.now q) c.args.demands.now c.loop-demand.demand-index c.loop-demand-test.false
    (λ d i q e. c.loop-demand.invariant d q i e) d i q e
