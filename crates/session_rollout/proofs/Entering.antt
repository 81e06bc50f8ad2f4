-- The items of a stage take their places.
use Rattle.std.specs.Prelude.{ℕ, List}
use Rattle.std.proofs.Common.{◌≡◌, ◌⊎◌, sym, subst}
use Rattle.device.specs.Devices.{Device}
use Rattle.device.specs.declared.staged.Stage.TheVariants as stages
use Rattle.deploy_state.specs.States.{IsIn}
use Rattle.step_runner.specs.Entries.{Told}
use Rattle.components.specs.Components.{Components}
use Rattle.law_supervisor.specs.Sound.{IsOrderly}
use Rattle.histories.specs.TraceEvents.{TraceEvent}
use Rattle.histories.specs.States.{SessionState, state_after}
use Rattle.session_boots.specs.Stands.{IsAtBootStage, IsOpened}
use Rattle.session_boots.specs.Traces.{ActTrace}
use Rattle.session_startup.specs.Runs.{IsAtTurnStart}
use Rattle.session_transitions.specs.Enters.{MayEnter}
use Rattle.session_transitions.proofs.Rising.{may_enter, opened_enters}

-- what a change to other items made of the world, for the device that was read
abbrev pub Enters : Device → Components → Components → Type 0
Enters x world new = (p : SessionState) (told : Told) (living : List ℕ) → MayEnter p x world told living → (h : List TraceEvent) ×
    ActTrace p h told.list told.list × IsAtTurnStart (state_after p h) x new told living

-- where nothing stands
pub entered : (p : SessionState) (d x : Device) (world new : Components) (told : Told) (living : List ℕ) → x ≡ d → IsAtBootStage p d world told living →
    IsOrderly world → IsIn stages.Activating d ⊎ IsIn stages.Rolling d → Enters x world new
    → (h : List TraceEvent) × ActTrace p h told.list told.list × IsAtTurnStart (state_after p h) d new told living
entered p d x world new told living is at_stage orderly stage enters =
    let g = enters p told living (subst (λ (y : Device). MayEnter p y world told living) (sym is) (may_enter p d world told living at_stage orderly stage)) in
    (g.0, g.1, subst (λ (y : Device). IsAtTurnStart (state_after p g.0) y new told living) is g.2)

-- the plan's items, while those of before stand
pub opened_entered : (p : SessionState) (d x : Device) (world new : Components) (told : Told) (living : List ℕ) → x ≡ d → IsOpened p d world told living →
    IsOrderly world → IsIn stages.Activating d → Enters x world new
    → (h : List TraceEvent) × ActTrace p h told.list told.list × IsAtTurnStart (state_after p h) d new told living
opened_entered p d x world new told living is opened orderly stage enters =
    let may = opened_enters p d world told living opened orderly stage in
    let g = enters p told living (subst (λ (y : Device). MayEnter p y world told living) (sym is) may) in
    (g.0, g.1, subst (λ (y : Device). IsAtTurnStart (state_after p g.0) y new told living) is g.2)
