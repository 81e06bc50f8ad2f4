use Rattle.std.proofs.Common.{inr, refl, subst, sym}
use Rattle.recipe_reader.specs.Members.{members}
use Rattle.recipe_reader.specs.Sets.{IsValid}
use Rattle.plan_core.proofs.plan.set_of.Goals as goal

-- src/plan.rt:34:1
pub returns-in-Err-NoVersion : goal.returns-in-Err-NoVersion
returns-in-Err-NoVersion c = inr (
  refl,
  λ set valid. c.search.ensures.none (cc) set (subst (λ w. IsValid (members c.args.candidates.now) w set) (sym c.in_ok-wanted.ensures) valid),
)
