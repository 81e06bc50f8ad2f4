-- What is kept of components that all leave, whatever befalls them.
use Rattle.std.specs.Prelude.{◌≡◌, true, None}
use Rattle.std.specs.List.{AllByRecursion}
use Rattle.components.specs.Components.{Components, ComponentState, is_leaving}
use Rattle.law_supervisor.specs.Sound.{IsOrderly}

-- It goes away, so that it fails no more, and no item takes its place.
abbrev pub IsLeavingPart : ComponentState → Type 0
IsLeavingPart p = (is_leaving p ≡ true) × (p.owed ≡ None) × (p.next ≡ None)

pub record AreLeaving (w : Components) : Type 0 where
  pub orderly : IsOrderly w
  pub each : AllByRecursion IsLeavingPart w.parts
