use Rattle.std.proofs.Common.{◌≡◌, ◌<◌, length, get_or, rules, subst, ◌∙◌}
use Rattle.std.specs.List.{HoldsAt}
use Rattle.std.specs.List.Sorted.{IsPartitionPoint}
use Rattle.std.specs.declared.cmp.Ordering.{Ordering}
use Rattle.std.specs.declared.cmp.Ordering.TheVariants.{Less, Equal, Greater}
use Rattle.std.proofs.lemmas.Fn.{always_returns_same}
use Rattle.std.proofs.lemmas.List.{get_or_default}
use Rattle.npm_ranges.specs.Versions.{IsVersion}
use Rattle.recipe_reader.specs.Members.{member}
use Rattle.recipe_reader.specs.Candidates.{member_order}
use Rattle.recipe_reader.specs.declared.candidate.Candidate.{Candidate}
use Rattle.recipe_reader.proofs.Orders.{equal_parts, same_names, searchable, less_is_before, greater_is_after}
use Rattle.recipe_reader.proofs.candidates.place_of.Goals as goal

pub returns-in-Ok-clause-place : goal.returns-in-Ok-clause-place
returns-in-Ok-clause-place c =
    let cs = c.args.candidates.now in
    let one = c.args.candidate.now in
    let at = c.in-Ok.at in
    let order : Candidate → Ordering = λ d. member_order (member d) (member one) in
    let within : at < length cs = rw c.in-Ok.is at c.binary_search_by-place.ensures.bound in
    let v : IsVersion c.index-candidates-at.result.recipe.version = search (rules, c.text.ensures.rule) in
    let w : IsVersion one.recipe.version = search (rules, c.text-in-Ok.ensures.rule) in
    let found : HoldsAt (λ (d : Candidate). order d ≡ Equal) cs at = rw c.in-Ok.is at (c.binary_search_by-place.ensures.position order (always_returns_same _
    _ _ (λ a r f called. (search rules, search rules)))) in
    λ d.
    let e = equal_parts _ _ (found d) in
    let here : c.index-candidates-at.result ≡ get_or cs at d = c.index-candidates-at.is ∙ get_or_default cs at c.index-candidates-at.result d within in
    record {
      name = same_names (member (get_or cs at d)) (member one) e.0;
      version = c.order_of_versions.ensures.tells_apart _ _ (subst (λ (x : Candidate). IsVersion x.recipe.version) here v) w e.1;
    }

pub returns-in-Err-clause-place : goal.returns-in-Err-clause-place
returns-in-Err-clause-place c =
    let cs = c.args.candidates.now in
    let one = c.args.candidate.now in
    let order : Candidate → Ordering = λ d. member_order (member d) (member one) in
    let found = rw c.in-Err.is at (c.binary_search_by-place.ensures.position order (always_returns_same _ _ _ (λ a r f called. (
      search rules,
      search rules,
    )))) in
    let parted : IsPartitionPoint (λ (d : Candidate). order d ≡ Less) (λ (d : Candidate). order d ≡ Greater) cs c.in-Err.at =
    found (searchable cs one c.requires) in (
      λ k d low high. less_is_before (member (get_or cs k d)) (member one) (parted.0 k d low high),
      λ k d low high. greater_is_after (member (get_or cs k d)) (member one) (parted.1 k d low high),
    )
