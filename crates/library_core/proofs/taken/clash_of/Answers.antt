use Rattle.std.proofs.Common.{sym, ◌∙◌, inl, inr}
use Rattle.std.proofs.lemmas.Bool.{false≢true}
use Rattle.library_core.specs.declared.fault.CandidatesFault.TheVariants.{RecipeDiffers, TwoRecipes}
use Rattle.library_core.proofs.Sifting.{keeps_found, keeps_shown}
use Rattle.library_core.proofs.taken.clash_of.Goals as goal

pub returns-then-is_kept : goal.returns-then-is_kept
returns-then-is_kept c = inl (
  keeps_found c.args.kept.now c.args.candidate (sym c.keeps-is_kept.ensures ∙ c.if-is_kept.true),
  λ i. RecipeDiffers (c.name_of-name.ensures.name i) (c.name_of-name.ensures.version i),
)

pub returns-else-is_kept : goal.returns-else-is_kept
returns-else-is_kept c = inr (
  λ k. false≢true (sym c.if-is_kept.false ∙ c.keeps-is_kept.ensures ∙ keeps_shown c.args.kept.now c.args.candidate k),
  λ i. TwoRecipes (c.name_of-name.ensures.name i) (c.name_of-name.ensures.version i),
)
