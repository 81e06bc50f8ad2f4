-- That the run child of a component that has one lives, and how much is still to be done with nothing outside.
use Rattle.std.specs.Prelude.{◌≡◌, ◌+◌, ℕ, Bool, true, not, ◌||◌, List, [], ◌∷◌, is_some, if◌then◌else◌}
use Rattle.std.specs.List.{AllByRecursion, list_any}
use Rattle.nuc_base.specs.declared.kinds.Step.TheVariants as step
use Rattle.lifecycle.specs.Awaits.{is_same_step}
use Rattle.lifecycle.specs.Life.{Life, may_run}
use Rattle.lifecycle.specs.declared.kinds.State.{State}
use Rattle.lifecycle.specs.declared.kinds.State.TheVariants as state
use Rattle.components.specs.Components.{ComponentState, Child}

abbrev pub has_run_child : List Child → Bool
has_run_child cs = list_any (λ (c : Child). is_same_step step.Run c.of) cs

-- its run child is one of these
abbrev pub keeps_run : Life → List Child → Bool
keeps_run c cs = not c.runs || (c.gone || has_run_child cs)

pub record IsWhole (p : ComponentState) : Type 0 where
  pub may : may_run p.life.state p.life.runs ≡ true
  pub run : keeps_run p.life p.children ≡ true

abbrev pub AreWhole : List ComponentState → Type 0
AreWhole ps = AllByRecursion IsWhole ps

-- ---- how much is still to be done with nothing outside

abbrev pub state_work : State → ℕ
state_work state.New = 2
state_work state.Installed = 1
state_work state.Errored = 3
state_work s = 0

-- a state that waits for nothing outside
abbrev pub life_work : Life → ℕ
life_work c = if is_some c.busy then 0 else state_work c.state

-- a stop that is asked for is more than that
abbrev pub part_work : ComponentState → ℕ
part_work p = (if is_some p.stop then 4 else 0) + life_work p.life

abbrev pub work : List ComponentState → ℕ
work [] = 0
work (p ∷ ps) = part_work p + work ps
