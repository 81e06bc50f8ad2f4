-- Components and those that come for them, by name.
use Rattle.std.specs.Prelude.{ℕ, Bool, not, List, [], ◌∷◌, filter, if◌then◌else◌}
use Rattle.std.specs.List.{list_any}
use Rattle.std.specs.Str.{bytes_eq}
use Rattle.components.specs.Components.{ComponentState, component_name}

abbrev pub has_name : List ℕ → ComponentState → Bool
has_name name p = bytes_eq name (component_name p)

-- without the first one of this name
abbrev pub without : List ℕ → List ComponentState → List ComponentState
without name [] = []
without name (p ∷ ps) = if has_name name p then ps else p ∷ without name ps

-- those whose name none of the components has
abbrev pub unmet : List ComponentState → List ComponentState → List ComponentState
unmet ps coming = filter (λ q. not (list_any (λ p. has_name (component_name p) q) ps)) coming
