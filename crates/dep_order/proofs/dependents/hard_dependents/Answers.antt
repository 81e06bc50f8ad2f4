use Rattle.std.proofs.Common.{◌↔◌, ℕ, eqb, subst, sym, refl}
use Rattle.std.specs.List.{Contains}
use Rattle.std.specs.List.Sorted.{IsStrictlyIncreasing}
use Rattle.std.proofs.lemmas.List.Sorted.{IsNonDecreasingBy-from_sort, IsPermutation-sym, Contains-permutation}
use Rattle.std.proofs.lemmas.Map.Keys.{IsDistinct-IsPermutation, IsStrictlyIncreasing-from_distinct}
use Rattle.nuc_base.specs.Leads.{HasPath}
use Rattle.nuc_base.proofs.Lists.{eqb_flips}
use Rattle.dep_order.specs.Orders.{NeedsHard}
use Rattle.dep_order.proofs.HardRows.{found_from}
use Rattle.dep_order.proofs.dependents.hard_dependents.Goals as goal

pub returns-clause-rising : goal.returns-clause-rising
returns-clause-rising c =
    let tidy = c.in_ok-found.ensures.tidy in
    let sorted = c.sort_unstable.new.self.items in
    subst IsStrictlyIncreasing (sym c.new.ensures)
    (IsStrictlyIncreasing-from_distinct sorted
    (IsNonDecreasingBy-from_sort (λ (x : ℕ). x) sorted c.sort_unstable.ensures.sorted)
    (IsDistinct-IsPermutation eqb eqb_flips c.in_ok-found.found.list.items sorted c.sort_unstable.ensures.permutation tidy.distinct))

pub returns-clause-exact : goal.returns-clause-exact
returns-clause-exact c = λ p.
    let moved = c.sort_unstable.ensures.permutation in
    let list = c.in_ok-found.found.list.items in
    let sorted = c.sort_unstable.new.self.items in
    let exact : Contains sorted p ↔ HasPath (NeedsHard c.args.edges.now) p c.args.of = (
      λ i. c.in_ok-found.ensures.found p (Contains-permutation sorted list p (IsPermutation-sym list sorted moved) i),
      λ r. Contains-permutation list sorted p moved (found_from c.args.edges.now c.args.of list c.in_ok-found.ensures.closed r refl),
    ) in
    subst (λ l. Contains l p ↔ HasPath (NeedsHard c.args.edges.now) p c.args.of) (sym c.new.ensures) exact
