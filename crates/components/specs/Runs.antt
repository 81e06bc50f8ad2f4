-- What every item that is ready to run keeps, and what every component keeps.
use Rattle.std.specs.Prelude.{◌≡◌, ◌<◌, ◌≤◌, ◌&&◌, ℕ, Bool, true, false, Option, Some, None, IfSome, is_some}
use Rattle.lifecycle.specs.Life.{Life}
use Rattle.lifecycle.specs.Laws.{has_step}
use Rattle.recipe_reader.specs.declared.recipe.Recipe.{Recipe}
use Rattle.components.specs.declared.kinds.Prepared.{Prepared}
use Rattle.interpolation.specs.declared.scope.Scope.{Scope}
use Rattle.records.specs.Stored.{Item}
use Rattle.components.specs.Fitted.{Fitted, limit_of, steps_of}
use Rattle.components.specs.Made.{IsPrepared, hard_names, soft_names}
use Rattle.components.specs.Components.{ComponentState}

-- the longest that a step may take, in milliseconds
abbrev pub longest : ℕ
longest = 1000000000

abbrev pub IsShort : Option ℕ → Type 0
IsShort limit = IfSome limit (λ m. m ≤ 1000000000)

-- not both of run and startup, and no step takes longer than the longest
pub record AreFit (install run startup shutdown recover : Option Prepared) : Type 0 where
  pub main : (is_some run && is_some startup) ≡ false
  pub install_short : IsShort (limit_of install)
  pub run_short : IsShort (limit_of run)
  pub startup_short : IsShort (limit_of startup)
  pub shutdown_short : IsShort (limit_of shutdown)
  pub recover_short : IsShort (limit_of recover)

abbrev pub IsFit : Fitted → Type 0
IsFit f = AreFit f.install f.run f.startup f.shutdown f.recover

-- the steps are made ready by this recipe over this scope
pub record AreFirst (scope : Scope) (recipe : Recipe) (install run startup : Option Prepared) : Type 0 where
  pub install_is : IsPrepared scope recipe.install install
  pub run_is : IsPrepared scope recipe.run run
  pub startup_is : IsPrepared scope recipe.startup startup

pub record AreLast (scope : Scope) (recipe : Recipe) (shutdown recover : Option Prepared) : Type 0 where
  pub shutdown_is : IsPrepared scope recipe.shutdown shutdown
  pub recover_is : IsPrepared scope recipe.recover recover

-- the item is made ready by this recipe over this scope
pub record IsFittedBy (scope : Scope) (recipe : Recipe) (item : Item) (f : Fitted) : Type 0 where
  pub item_is : f.item ≡ item
  pub hard_are : f.hard ≡ hard_names recipe.dependencies
  pub soft_are : f.soft ≡ soft_names recipe.dependencies
  pub first_are : AreFirst scope recipe f.install f.run f.startup
  pub last_are : AreLast scope recipe f.shutdown f.recover

-- the step that it is busy with is one that it has
abbrev pub is_own : Life → Bool
is_own c = elim c.busy [ None ↦ true | Some s ↦ has_step s c.steps ]

-- what a component keeps
pub record IsKeptPart (p : ComponentState) : Type 0 where
  pub steps : p.life.steps ≡ steps_of p.fitted
  pub own : is_own p.life ≡ true
  pub coming : IfSome p.next (λ n. n.1 < 3)
