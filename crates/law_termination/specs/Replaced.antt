-- A small world in which one component is replaced, and another needs it.
use Rattle.std.specs.Prelude.{ℕ, true, false, List, [], ◌∷◌, None}
use Rattle.nuc_base.specs.declared.kinds.Step.TheVariants as step
use Rattle.lifecycle.specs.Life.{begun}
use Rattle.lifecycle.specs.declared.kinds.LifeEvent.TheVariants as event
use Rattle.lifecycle.specs.declared.kinds.State.TheVariants as state
use Rattle.components.specs.Changes.{changed_to}
use Rattle.components.specs.Components.{ComponentState, Components}
use Rattle.components.specs.Events.{handed_at, killed}
use Rattle.components.specs.Fitted.{Fitted, steps_of}
use Rattle.components.specs.Lives.{lived_at}
use Rattle.components.specs.declared.kinds.Prepared.{Prepared}
use Rattle.law_termination.specs.Circle.{name, runs}

abbrev pub fitted_a : ℕ → Prepared → Fitted
fitted_a version m = runs 97 version [] None None m

abbrev pub fitted_b : Prepared → Fitted
fitted_b m = runs 98 49 (name 97 ∷ []) None None m

abbrev pub running : Fitted → ℕ → ComponentState
running f n = record {
  fitted = f;
  life = record (begun (steps_of f) 0) { state = state.Running; runs = true };
  children = record { number = n; of = step.Run; deadline = None } ∷ [];
  handed = false;
  owed = None;
  stop = None;
  next = None;
}

-- b needs a, and both run
abbrev pub both_up : Prepared → Components
both_up m = record { parts = running (fitted_a 49 m) 1 ∷ running (fitted_b m) 2 ∷ []; moment = 0; steady = false }

-- a has another version
abbrev pub newer : Prepared → List Fitted
newer m = fitted_a 50 m ∷ fitted_b m ∷ []

abbrev pub replaced : Prepared → Components
replaced m = changed_to (newer m) [] false (both_up m)

abbrev pub one_stopped : Prepared → Components
one_stopped m = killed 2 (replaced m)

abbrev pub taken : Prepared → Components
taken m = killed 1 (one_stopped m)

abbrev pub begun_again : Prepared → Components
begun_again m = lived_at 0 event.MayBegin (lived_at 0 event.MayBegin (taken m))

abbrev pub handed : Prepared → Components
handed m = handed_at 0 (begun_again m)
