-- A bootstrap step that was made ready has a limit, of 1,000,000 seconds at most.
use Rattle.std.specs.Prelude.{ℕ, ◌*◌, List, Option, Some, None}
use Rattle.std.specs.Option.{IfSome, IsSomeAnd}
use Rattle.std.proofs.Common.{◌≡◌, ◌≤◌, ◌∙◌, sym, ap, subst}
use Rattle.serde_json.specs.Data.{Data}
use Rattle.nuc_base.specs.declared.kinds.Step.TheVariants as step
use Rattle.interpolation.specs.declared.scope.Scope.{Scope}
use Rattle.records.specs.Stored.{Item}
use Rattle.records.specs.declared.record.Origin.{Origin}
use Rattle.recipe_reader.specs.Environment.{Variable}
use Rattle.recipe_reader.specs.Sound.{IsShort, ReadsSound}
use Rattle.recipe_reader.specs.Steps.{IsLimit, IsStep, step_of}
use Rattle.recipe_reader.specs.declared.recipe.StepDef.{StepDef}
use Rattle.components.specs.Made.{IsPrepared, IsStepAt}
use Rattle.components.specs.declared.kinds.Prepared.{Prepared}

abbrev IsNear : Option ℕ → Type 0
IsNear limit = IsSomeAnd limit (λ l. l ≤ 1000000000)

has_limit : (o : Option Data) (limit : Option ℕ) → IsLimit step.Bootstrap o limit → (n : ℕ) × (limit ≡ Some n)
has_limit None limit is = (120000, is)
has_limit (Some v) limit is = (is.0 * 1000, is.2)

near : (limit : Option ℕ) (n : ℕ) → limit ≡ Some n → IfSome limit (λ l. l ≤ 1000000000) → IsNear limit
near None n is short = absurd cc
near (Some l) n is short = short

same_made : (m p : Prepared) → Some m ≡ Some p → m ≡ p
same_made m p is = cc

limited : (scope : Scope) (outer : List Variable) (m : Prepared) (o : Option Data) (def : Option StepDef) → IsStep step.Bootstrap outer o def →
    IfSome def IsShort → IsPrepared scope def (Some m) → IsNear m.limit_ms
limited scope outer m o None is short made = absurd cc
limited scope outer m None (Some def) is short made = absurd is
limited scope outer m (Some v) (Some def) is short made =
    let limit = has_limit _ def.limit_ms is.limit in
    let same : m.limit_ms ≡ def.limit_ms = ap (λ (p : Prepared). p.limit_ms) (same_made m made.0 made.1) ∙ made.2.limit in
    subst (λ (l : Option ℕ). IsNear l) (sym same) (near def.limit_ms limit.0 limit.1 short)

pub boot_limit : ReadsSound → (o : Origin) (items : List Item) (at : ℕ) (m : Prepared) → IsStepAt o items at step.Bootstrap (Some m) →
    IsSomeAnd m.limit_ms (λ l. l ≤ 1000000000)
boot_limit sound o items at m is =
    let scope = is.is_scope in
    let recipe = scope.recipe in
    limited is.scope scope.reads.3.steps.outer m _ (step_of recipe step.Bootstrap) (scope.reads.3.steps.steps step.Bootstrap)
    ((sound scope.item.recipe o.platform recipe scope.reads).limits step.Bootstrap) is.prepared
