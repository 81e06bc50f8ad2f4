-- The views that a runner in memory was shown.
use Rattle.std.specs.Prelude.{List, Option, Some, None, if◌then◌else◌}
use Rattle.std.specs.List.{last_or}
use Rattle.step_runner.specs.declared.shown.ShownComponent.{ShownComponent}
use Rattle.step_runner.specs.declared.views.KeptViews.{KeptViews}

-- those for which there was memory up to the first one without it
abbrev pub views_kept : KeptViews → List (List ShownComponent)
views_kept k = k.views

abbrev pub views_told : KeptViews → Option (List (List ShownComponent))
views_told k = if k.is_told then Some (views_kept k) else None

-- the last of them, where they are told
abbrev pub last_view : Option (List (List ShownComponent)) → Option (List ShownComponent)
last_view None = None
last_view (Some views) = last_or None views
