use Rattle.std.proofs.Common.{◌≡◌, true, false, ℕ, zero, suc, [], ◌∷◌, Some, slice_get, refl, subst, arith}
use Rattle.std.proofs.lemmas.Option.{slice_get_within}
use Rattle.std.specs.Str.{bytes_eq}
use Rattle.nuc_base.specs.declared.kinds.Step.TheVariants as step
use Rattle.records.specs.Stored.{Item}
use Rattle.records.specs.declared.record.Origin.{Origin}
use Rattle.components.specs.Made.{IsStepAt}
use Rattle.history_rows.specs.Rows.{Recipes, read_as, boot_of, a, b}
use Rattle.history_rows.specs.BootCallRows.{item_a, both}
use Rattle.history_rows.proofs.boot_call_rows.boot_texts_row.Goals as goal

same : (o x : Origin) → Some o ≡ Some x → x ≡ o
same o x is = cc

only : (r : Recipes) (at : ℕ) (i : Item) → slice_get (read_as r (item_a ∷ [])) at ≡ Some i → at ≡ 0
only r at i is = let within = slice_get_within (read_as r (item_a ∷ [])) at i is in omega (arith, within)

names : (x i : Item) → Some x ≡ Some i → Some b ≡ Some i.name → b ≡ x.name
names x i is is_next = cc

no : true ≡ false → ⊥
no e = cc

other : b ≡ a → ⊥
other e = no (subst (λ x. bytes_eq x a ≡ false) e refl)

second : (r : Recipes) (at : ℕ) (i : Item) → slice_get (read_as r both) at ≡ Some i → Some b ≡ Some i.name → at ≡ 1
second r zero i is is_next = absurd (other (names (record item_a { recipe = r item_a }) i is is_next))
second r (suc zero) i is is_next = refl
second r (suc (suc n)) i is is_next = let within = slice_get_within (read_as r both) (suc (suc n)) i is in absurd (omega (arith, within))

pub returns-clause-newer : goal.returns-clause-newer
returns-clause-newer c = λ o r command no may.
    let m = may.0.0.0 in
    no (subst (λ x. IsStepAt x (read_as r (item_a ∷ [])) 0 step.Bootstrap (Some (boot_of command))) (same o m.origin m.of_device)
    (subst (λ k. IsStepAt m.origin (read_as r (item_a ∷ [])) k step.Bootstrap (Some (boot_of command))) (only r m.at m.item m.there) m.prepared))

pub returns-clause-earlier : goal.returns-clause-earlier
returns-clause-earlier c = λ o r command no may.
    let m = may.0.0.0 in
    no (subst (λ x. IsStepAt x (read_as r both) 1 step.Bootstrap (Some (boot_of command))) (same o m.origin m.of_device)
    (subst (λ k. IsStepAt m.origin (read_as r both) k step.Bootstrap (Some (boot_of command))) (second r m.at m.item m.there m.next) m.prepared))
