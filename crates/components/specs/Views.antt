-- What is shown of the components.
use Rattle.std.specs.Prelude.{List, Option, Some, None, map, if◌then◌else◌}
use Rattle.step_runner.specs.declared.shown.ShownComponent.{ShownComponent}
use Rattle.components.specs.Changes.{standing}
use Rattle.components.specs.Components.{Components, ComponentState, component_name, is_over, is_to_stop}

-- a component, as it is shown
abbrev pub shown_part : ComponentState → ShownComponent
shown_part p = record {
  name = component_name p;
  version = p.fitted.item.version;
  state = p.life.state;
  failures = p.life.failures;
  is_to_stop = is_to_stop p;
}

-- nothing is shown of one that stands no more
abbrev pub shown_at : ComponentState → Option ShownComponent
shown_at p = if is_over p then None else Some (shown_part p)

abbrev pub places_of : Components → List (Option ShownComponent)
places_of w = map shown_at w.parts

-- all that stand, in the order of their names
abbrev pub view_of : Components → List ShownComponent
view_of w = map shown_part (standing w.parts)
