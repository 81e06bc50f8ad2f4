-- What is made ready of an item whose texts have no variable.
use Rattle.std.proofs.Common.{◌≡◌, ◌≢◌, ℕ, zero, suc, List, [], ◌∷◌, Option, Some, None, slice_get, refl, sym, subst, ap, ◌∙◌}
use Rattle.nuc_base.specs.declared.kinds.Step.{Step}
use Rattle.nuc_base.specs.declared.kinds.Step.TheVariants as step
use Rattle.interpolation.specs.declared.scope.Scope.{Scope}
use Rattle.interpolation.specs.Values.{folder_of_work}
use Rattle.interpolation.specs.Variables.{HasNoVariable, Expanded}
use Rattle.records.specs.Stored.{Item}
use Rattle.records.specs.declared.record.Origin.{Origin}
use Rattle.recipe_reader.specs.Steps.{step_of}
use Rattle.recipe_reader.specs.declared.recipe.StepDef.{StepDef}
use Rattle.device.specs.Scopes.{IsScopeOf}
use Rattle.components.specs.Fitted.{Fitted, prepared_of}
use Rattle.components.specs.Made.{IsPrepared, IsPreparedFrom, IsStepAt, IsFittedAt, AreFitted, hard_names, soft_names}
use Rattle.histories.specs.Ready.{plain_def, RunsOnly, plain_step, running_item}

-- a text without a variable stays as it is
expanded : (scope : Scope) (text : List ℕ) → HasNoVariable text → Expanded scope text text
expanded scope text plain = (record { parts = []; last = text }, record { cut = record { whole = refl; parts = tt; last = plain }; values = refl })

same_item : (i j : Item) → Some i ≡ Some j → j ≡ i
same_item i j e = cc

-- the folder by the scope is the one by the item
folder : (o : Origin) (i : Item) (scope : Scope) → scope.root ≡ o.root → scope.own.name ≡ i.name →
    folder_of_work o.root i.name ≡ folder_of_work scope.root scope.own.name
folder o i scope root name = rw (root, name) refl

prepared : (o : Origin) (i : Item) (scope : Scope) (text : List ℕ) (limit : Option ℕ) → scope.root ≡ o.root → scope.own.name ≡ i.name → HasNoVariable text →
    IsPrepared scope (Some (plain_def text limit)) (Some (plain_step o i text limit))
prepared o i scope text limit root name plain = (
  plain_step o i text limit,
  refl,
  record { command = record { script = expanded scope text plain; env = tt; folder = folder o i scope root name }; skip = refl; limit = refl },
)

named : (o : Origin) (i : Item) (scope : Scope) (is : IsScopeOf o (i ∷ []) 0 scope) → scope.own.name ≡ i.name
named o i scope is = is.own.name ∙ ap (λ (j : Item). j.name) (same_item i is.item is.there)

pub booted : (o : Origin) (i : Item) (text : List ℕ) (scope : Scope) (is : IsScopeOf o (i ∷ []) 0 scope) → HasNoVariable text →
    is.recipe.bootstrap ≡ Some (plain_def text (Some 120000))
    → IsStepAt o (i ∷ []) 0 step.Bootstrap (Some (plain_step o i text (Some 120000)))
booted o i text scope is plain e = record {
  scope = scope;
  is_scope = is;
  prepared = subst (λ (d : Option StepDef). IsPrepared scope d (Some (plain_step o i text (Some 120000)))) (sym e)
      (prepared o i scope text (Some 120000) is.root (named o i scope is) plain);
}

none : (scope : Scope) (d : Option StepDef) → d ≡ None → IsPrepared scope d None
none scope d e = subst (λ (x : Option StepDef). IsPrepared scope x None) (sym e) refl

steps : (o : Origin) (i : Item) (text : List ℕ) (scope : Scope) (is : IsScopeOf o (i ∷ []) 0 scope) → RunsOnly is.recipe text
    → (s : Step) → s ≢ step.Bootstrap → IsPrepared scope (step_of is.recipe s) (prepared_of (running_item o i text) s)
steps o i text scope is only step.Install other = none scope is.recipe.install only.install
steps o i text scope is only step.Run other =
    subst (λ (d : Option StepDef). IsPrepared scope d (Some (plain_step o i text None))) (sym only.run)
    (prepared o i scope text None is.root (named o i scope is) only.plain)
steps o i text scope is only step.Startup other = none scope is.recipe.startup only.startup
steps o i text scope is only step.Shutdown other = none scope is.recipe.shutdown only.shutdown
steps o i text scope is only step.Recover other = none scope is.recipe.recover only.recover
steps o i text scope is only step.Bootstrap other = absurd (other refl)

at_first : (o : Origin) (i : Item) (text : List ℕ) (scope : Scope) (is : IsScopeOf o (i ∷ []) 0 scope) → RunsOnly is.recipe text →
    IsFittedAt o (i ∷ []) 0 (running_item o i text)
at_first o i text scope is only = record {
  scope = scope;
  is_scope = is;
  item = sym (same_item i is.item is.there);
  hard = sym (ap hard_names only.dependencies);
  soft = sym (ap soft_names only.dependencies);
  steps = steps o i text scope is only;
}

same_fitted : (f g : Fitted) → Some f ≡ Some g → f ≡ g
same_fitted f g e = cc

each : (o : Origin) (i : Item) (text : List ℕ) (scope : Scope) (is : IsScopeOf o (i ∷ []) 0 scope) → RunsOnly is.recipe text
    → (at : ℕ) (f : Fitted) → slice_get (running_item o i text ∷ []) at ≡ Some f → IsFittedAt o (i ∷ []) at f
each o i text scope is only zero f e = subst (IsFittedAt o (i ∷ []) 0) (same_fitted (running_item o i text) f e) (at_first o i text scope is only)
each o i text scope is only (suc n) f e = absurd cc

pub fitted : (o : Origin) (i : Item) (text : List ℕ) (scope : Scope) (is : IsScopeOf o (i ∷ []) 0 scope) → RunsOnly is.recipe text →
    AreFitted o (i ∷ []) (running_item o i text ∷ [])
fitted o i text scope is only = record { many = refl; each = each o i text scope is only }
