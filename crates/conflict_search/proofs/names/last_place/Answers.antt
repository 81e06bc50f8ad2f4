use Rattle.std.proofs.Common.{◌≡◌, ℕ, List, Some, sym, ◌∙◌, subst}
use Rattle.std.proofs.lemmas.Option.{same_Some}
use Rattle.recipe_reader.specs.Members.{members}
use Rattle.conflict_search.specs.Numbers.{IsNumber}
use Rattle.conflict_search.proofs.names.last_place.Goals as goal

pub returns-in-Some : goal.returns-in-Some
returns-in-Some c = λ n e. subst (λ m. IsNumber (members c.args.candidates.now) m c.in-Some.number) (same_Some c.name_at.result.now n (sym c.name_at.ensures ∙ e)) c.in-Some.ensures

pub returns-in-None : goal.returns-in-None
returns-in-None c = λ n e. absurd (c.in-None.ensures c.args.place c.name_at.ensures)
