use Rattle.std.proofs.Common.{rules, subst}
use Rattle.std.specs.List.Sorted.{IsPermutation}
use Rattle.std.proofs.lemmas.List.Sorted.{IsNonDecreasingBy-from_sort_by_key}
use Rattle.dep_order.proofs.rows.rows_of.Goals as goal

pub returns : goal.returns
returns c = record {
  same = subst (λ l. IsPermutation l c.sort_unstable_by_key.new.self.items) c.in_ok-rows.ensures.items c.sort_unstable_by_key.ensures.permutation;
  rising = IsNonDecreasingBy-from_sort_by_key (λ e. e.to) _ c.sort_unstable_by_key.ensures.sorted (λ a r q k. search rules);
}
