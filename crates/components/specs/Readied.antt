-- What a later change takes, and what a supervisor keeps.
use Rattle.std.specs.Prelude.{◌≡◌, ◌==◌, ◌<◌, ◌≤◌, ◌+◌, ◌^◌, ℕ, true, false, List, [], ◌∷◌, length, map, IfSome, ⊤}
use Rattle.std.specs.List.{AllByRecursion, Contains, list_any}
use Rattle.std.specs.Str.{bytes_eq}
use Rattle.components.specs.Changes.{Coming, fresh_part}
use Rattle.components.specs.Fitted.{Fitted, name_of, steps_of, prepared_of, limit_of, is_same_item}
use Rattle.components.specs.Components.{Components, ComponentState, Child, At, component_name}
use Rattle.components.specs.Runs.{IsShort}
use Rattle.components.specs.declared.kinds.Event.{Event}
use Rattle.components.specs.declared.kinds.Event.TheVariants.{Started, Refused, Skipped, Ended, Passed}
use Rattle.components.specs.Answers.{living_numbers}

-- items that were made ready, and for how many components that stand there is room
pub record Readied : Type 0 where
  pub coming : List Fitted
  pub room : ℕ

-- An item that a component has already has the steps that it had: one recipe says one thing on one platform.
abbrev pub KeepSteps : List Fitted → List ComponentState → Type 0
KeepSteps coming parts = (f : Fitted) (p : ComponentState) → Contains coming f → Contains parts p → is_same_item f.item p.fitted.item ≡ true →
    steps_of f ≡ steps_of p.fitted

-- and the hard needs that it had
abbrev pub KeepNeeds : List Fitted → List ComponentState → Type 0
KeepNeeds coming parts = (f : Fitted) (p : ComponentState) → Contains coming f → Contains parts p → is_same_item f.item p.fitted.item ≡ true →
    f.hard ≡ p.fitted.hard

-- the item of a component and its failures
abbrev pub coming_of : ComponentState → Coming
coming_of p = (p.fitted, p.life.failures)

-- it is as one that did not stand before
pub record IsFresh (p : ComponentState) : Type 0 where
  pub is : p ≡ fresh_part (coming_of p)
  pub few : p.life.failures < 3

abbrev pub AreFresh : List ComponentState → Type 0
AreFresh ps = AllByRecursion IsFresh ps

-- a deadline is at most the longest time ahead
abbrev pub IsNear : ℕ → Child → Type 0
IsNear moment c = IfSome c.deadline (λ d. d ≤ moment + 1000000000)

abbrev pub AreNear : ℕ → List ComponentState → Type 0
AreNear moment parts = AllByRecursion (λ (p : ComponentState). AllByRecursion (IsNear moment) p.children) parts

-- no number stands twice
abbrev pub AreApart : List ℕ → Type 0
AreApart [] = ⊤
AreApart (n ∷ ns) = (list_any (λ m. m == n) ns ≡ false) × AreApart ns

-- no name stands twice
abbrev pub AreNamesApart : List (List ℕ) → Type 0
AreNamesApart [] = ⊤
AreNamesApart (n ∷ ns) = (list_any (bytes_eq n) ns ≡ false) × AreNamesApart ns

-- what takes its place has its name
abbrev pub IsNamed : ComponentState → Type 0
IsNamed p = IfSome p.next (λ n. name_of n.0 ≡ component_name p)

-- each has a name of its own, also once another item takes its place
pub record HaveNames (parts : List ComponentState) : Type 0 where
  pub apart : AreNamesApart (map component_name parts)
  pub named : AllByRecursion IsNamed parts

-- what a supervisor keeps
pub record IsKept (w : Components) : Type 0 where
  pub few : length w.parts < 2 ^ 32
  pub time : w.moment < 2 ^ 62
  pub near : AreNear w.moment w.parts
  pub apart : AreApart (living_numbers w.parts)
  pub names : AreNamesApart (map component_name w.parts)
  pub named : AllByRecursion IsNamed w.parts

-- a step that is started has no longer limit than the longest
abbrev pub StartsShort : Event → List ComponentState → Type 0
StartsShort (Started k s n) parts = At k (λ p. IsShort (limit_of (prepared_of p.fitted s))) parts
StartsShort (Refused k s) parts = ⊤
StartsShort (Skipped k s) parts = ⊤
StartsShort (Ended n e) parts = ⊤
StartsShort Passed parts = ⊤
