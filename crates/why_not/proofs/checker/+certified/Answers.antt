use Rattle.std.proofs.Common.{ℕ, List, ◌∙◌, ap, map, subst}
use Rattle.std.proofs.lemmas.Bool.{false≢true}
use Rattle.recipe_reader.specs.Members.{members}
use Rattle.recipe_reader.specs.Sets.{asked}
use Rattle.why_not.specs.Certificates.{IsOpen}
use Rattle.why_not.specs.declared.why.Why.{Why}
use Rattle.why_not.proofs.Seen.{not_all, split_if, loop_if}
use Rattle.why_not.proofs.checker.+certified.Goals as goal

pub is_certified-returns-then-not-are_all_of-clause-yes :
    goal.is_certified-returns-then-not-are_all_of-clause-yes
is_certified-returns-then-not-are_all_of-clause-yes t c = (
  λ e. absurd (false≢true e),
  λ h. absurd (not_all (members c.args.candidates.now) (asked c.args.wanted.now) c.args.taken.now.items c.args.why.now c.in-Split.name c.in-Split.branches
      c.as_slice-in-Split-2.result.now c.in-Split.is
      (c.as_slice-in-Split-2.ensures.value ∙ c.in_ok-places-in-Split.ensures ∙ ap (λ (bs : List (ℕ × Why)). map (λ b. b.0) bs)
      c.as_slice-in-Split.ensures.value)
      (λ a. false≢true (c.if-not-are_all_of.ensures.1 a)) h),
)

pub is_certified-returns-else-not-are_all_of-clause-yes :
    goal.is_certified-returns-else-not-are_all_of-clause-yes
is_certified-returns-else-not-are_all_of-clause-yes t c =
    let ms = members c.args.candidates.now in
    let ws = asked c.args.wanted.now in
    split_if ms ws c.args.taken.now.items c.args.why.now c.in-Split.name c.in-Split.branches
    c.as_slice-in-Split-2.result.now c.are_certified.result c.in-Split.is
    (c.as_slice-in-Split-2.ensures.value ∙ c.in_ok-places-in-Split.ensures ∙ ap (λ (bs : List (ℕ × Why)). map (λ b. b.0) bs) c.as_slice-in-Split.ensures.value)
    (subst (λ taken. IsOpen ms ws taken c.in-Split.name) c.as_slice.ensures.value (c.is_open.ensures.yes c.if-not-is_open.false))
    (c.are_all_of.ensures.0 c.if-not-are_all_of.false) c.are_certified.ensures.yes

pub is_certified-returns-in-Loop-clause-yes : goal.is_certified-returns-in-Loop-clause-yes
is_certified-returns-in-Loop-clause-yes t c =
    loop_if (members c.args.candidates.now) (asked c.args.wanted.now) c.args.taken.now.items c.args.why.now c.in-Loop.places
    c.as_slice-in-Loop-2.result.now c.as_slice-in-Loop.result.now c.is_loop.result c.in-Loop.is c.as_slice-in-Loop-2.ensures.value
    c.as_slice-in-Loop.ensures.value c.is_loop.ensures
