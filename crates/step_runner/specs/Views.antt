-- What is shown of components.
use Rattle.std.specs.Prelude.{◌≡◌, List, Option, Some, None}
use Rattle.std.specs.List.{filter_map}
use Rattle.step_runner.specs.declared.shown.ShownComponent.{ShownComponent}
use Rattle.step_runner.specs.declared.view.ViewedComponent.{ViewedComponent}

abbrev pub shown_as : ViewedComponent → ShownComponent
shown_as c = record { name = c.name.now; version = c.version.now; state = c.state; failures = c.failures; is_to_stop = c.is_to_stop }

-- of places, what stands there
abbrev pub those_shown : List (Option ShownComponent) → List ShownComponent
those_shown places = filter_map (λ c. c) places

-- what was shown last, where that is told, is this
abbrev pub WasShown : Option (List ShownComponent) → List (Option ShownComponent) → Type 0
WasShown None places = Unit {0}
WasShown (Some shown) places = shown ≡ those_shown places
