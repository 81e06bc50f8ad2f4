use Rattle.std.proofs.Common.{◌≡◌, ℕ, List, subst, sym, ap, ◌∙◌}
use Rattle.std.proofs.lemmas.List.Sorted.{IsNonDecreasingBy-from_sort}
use Rattle.recipe_reader.specs.Members.{members}
use Rattle.recipe_reader.specs.Sets.{asked, IsPreferred, IsValid}
use Rattle.recipe_reader.specs.declared.candidate.Candidate.{Candidate}
use Rattle.recipe_reader.specs.declared.wanted.Wanted.{Wanted}
use Rattle.recipe_reader.proofs.Preferring.{preferred_of}
use Rattle.conflict_search.proofs.searches.search.Goals as goal

pub returns-in-Ok-Some-clause-preferred : goal.returns-in-Ok-Some-clause-preferred
returns-in-Ok-Some-clause-preferred c =
    let ms = members c.as_slice-members.result.now in
    let wanted = asked c.as_slice.result.now in
    let path = c.in-Ok-Some.path.items in
    let s = c.sort_unstable.new.self.items in
    let best = rw c.in-Ok-Some.field-0-is at c.in-Ok-Some.ensures.found in
    let preferred = preferred_of ms wanted path s best c.sort_unstable.ensures.permutation (IsNonDecreasingBy-from_sort (λ (x : ℕ). x) s
    c.sort_unstable.ensures.sorted) in
    let there = subst (λ (cs : List Candidate). IsPreferred (members cs) wanted s) (c.as_slice-members.ensures ∙ c.list.ensures.value) preferred in
    let here = subst (λ (ws : List Wanted). IsPreferred (members c.args.candidates.now) (asked ws) s) c.as_slice.ensures there in
    subst (IsPreferred (members c.args.candidates.now) (asked c.args.wanted.now)) (sym c.new-in-Ok-Some.ensures) here

pub returns-in-Ok-None-clause-none : goal.returns-in-Ok-None-clause-none
returns-in-Ok-None-clause-none c = λ _ s v.
    let none = rw c.in-Ok-None.field-0-is at c.in-Ok-None.ensures.found in
    let there = subst (λ (cs : List Candidate). IsValid (members cs) (asked c.args.wanted.now) s) (sym (c.as_slice-members.ensures ∙ c.list.ensures.value)) v in
    none s (subst (λ (ws : List Wanted). IsValid (members c.as_slice-members.result.now) (asked ws) s) (sym c.as_slice.ensures) there)
