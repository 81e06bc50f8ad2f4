use Rattle.std.proofs.Common.{ℕ, ◌<◌, ◌+◌, ◌∷◌, List, length, map, drop, get_or, sym, ap, subst, ◌∙◌}
use Rattle.std.proofs.lemmas.List.{drop_more, drop_all}
use Rattle.std.specs.List.{All}
use Rattle.std.proofs.lemmas.Bool.{false≢true}
use Rattle.std.proofs.lemmas.List.Elements.{All-get_or}
use denote.Bor.{Bor}
use Rattle.recipe_reader.specs.declared.candidate.Candidate.{Candidate}
use Rattle.dep_order.specs.Orders.{IsWholeOrder}
use Rattle.records.specs.Stored.{item_view}
use Rattle.plan_core.specs.Boots.{edges_of, ArePicked, IsDue}
use Rattle.plan_core.specs.Looks.{candidates_of}
use Rattle.plan_core.proofs.Changing.{chosen_there}
use Rattle.plan_core.proofs.Facts.{Picks, picks_due, picks_other, picks_end}
use Rattle.plan_core.proofs.boots.boots_of.Goals.{then-branch+in_ok-copy+in_ok-push, else-branch}
use Rattle.plan_core.proofs.boots.boots_of.Goals as goal

pub loop-place-preserved : goal.loop-place-preserved
loop-place-preserved c =
    let Due = IsDue c.args.origin.now (map item_view c.args.set.now) (candidates_of c.args.choice.now) (map item_view c.args.items.now) in
    let cs = candidates_of c.args.choice.now in
    let xs = c.as_slice-place-items.result.now in
    let i = c.loop-place.place-index in
    let place = get_or xs i 0 in
    let below = c.loop-place-test.true in
    let done = c.loop-place.boots.items in
    let places : All (λ p. p < length c.args.choice.now) xs = subst (All (λ p. p < length c.args.choice.now)) (sym c.as_slice-place-items.ensures)
    c.in_ok-places.ensures.places in
    let left : Picks Due cs xs (place ∷ drop (i + 1) xs) done = subst (λ (r : List ℕ). Picks Due cs xs r done) (drop_more xs i 0 below) c.loop-place.invariant
    in
    elim c.if-branch.branch [
      | then-branch+in_ok-copy+in_ok-push w ↦ (let b = w.index-choice-place.result in
          rw w.boots-is (rw w.in_ok-push.ensures.items
          (picks_due Due cs xs (drop (i + 1) xs) done place w.in_ok-copy.field-0 (c.in_ok-is_due.ensures.0 w.if-branch.true) (
            b.now,
            chosen_there c.args.choice.now place b (All-get_or (λ p. p < length c.args.choice.now) xs i 0 below places) w.index-choice-place.is,
            ap (λ (y : Bor Candidate). y.now.recipe.name) w.index-choice-place.is ∙ sym w.in_ok-copy.ensures,
          ) left)))
      | else-branch w ↦ rw w.boots-is (picks_other Due cs xs (drop (i + 1) xs) done place
          (λ d. false≢true (sym w.if-branch.false ∙ c.in_ok-is_due.ensures.1 d)) left)
    ]

pub returns : goal.returns
returns c =
    let Due = IsDue c.args.origin.now (map item_view c.args.set.now) (candidates_of c.args.choice.now) (map item_view c.args.items.now) in
    let cs = candidates_of c.args.choice.now in
    let xs = c.as_slice-place-items.result.now in (
      xs,
      subst (IsWholeOrder (edges_of cs)) (sym c.as_slice-place-items.ensures) c.in_ok-places.ensures.order,
      subst (ArePicked Due cs xs) (sym c.new.ensures) (picks_end Due cs xs c.loop-place.boots.items
          (subst (λ (r : List ℕ). Picks Due cs xs r c.loop-place.boots.items) (drop_all c.loop-place.place-index xs c.loop-place-test.false)
          c.loop-place.invariant)),
    )
