-- A number that falls at whatever happens while no failure is forgotten, however many components there are.
use Rattle.std.specs.Prelude.{◌+◌, ◌*◌, ◌-◌, ◌^◌, ℕ, suc, zero, length, List, [], ◌∷◌, Option, Some, None, ◌||◌, ◌&&◌, if◌then◌else◌, is_some}
use Rattle.std.specs.List.{list_any}
use Rattle.nuc_base.specs.declared.kinds.Exit.{Exit}
use Rattle.nuc_base.specs.declared.kinds.Step.{Step}
use Rattle.lifecycle.specs.Awaits.{is_same_step, is_stopping}
use Rattle.lifecycle.specs.declared.kinds.State.{State}
use Rattle.lifecycle.specs.declared.kinds.State.TheVariants as state
use Rattle.components.specs.Components.{Components, ComponentState, Child, is_again, is_gone, under_way}
use Rattle.components.specs.Fitted.{Fitted}

-- how far a component is from being up, where no stop is asked for
abbrev pub way_weight : State → Option Step → ℕ
way_weight state.New None = 30
way_weight state.New (Some s) = 25
way_weight state.Installed s = 20
way_weight state.Starting s = 15
way_weight state.Running s = 10
way_weight state.Stopping s = 50
way_weight state.Finished s = 9
way_weight state.Errored None = 40
way_weight state.Errored (Some s) = 35
way_weight state.Broken s = 0

-- whoever is to be stopped does not begin again before
abbrev pub state_weight : ComponentState → ℕ
state_weight p =
    if p.life.gone then 0
    else (if is_some p.stop then (if is_stopping p.life.state then 160 else 100) else way_weight p.life.state p.life.busy)
    + (if is_stopping p.life.state && p.life.runs then 5 else 0)

-- a start that is still to be made
abbrev pub start_weight : Option Step → List Child → ℕ
start_weight None cs = 0
start_weight (Some s) cs = if list_any (λ (c : Child). is_same_step s c.of) cs then 0 else 4

abbrev pub owed_weight : Option (Step × Exit) → ℕ
owed_weight None = 0
owed_weight (Some x) = 1

abbrev pub left_of : Option (Fitted × ℕ) → ℕ
left_of None = 3
left_of (Some n) = 3 - n.1

-- how often it may still fail. Who goes fails no more, and who is replaced begins with the count of its new item.
abbrev pub left : ComponentState → ℕ
left p =
    if p.life.gone || (is_gone p.stop || is_gone (under_way p.life)) then 0
    else (if is_again p.stop || is_again (under_way p.life) then left_of p.next else 3 - p.life.failures)

-- ---- of all of them

abbrev pub times : ℕ → ℕ → ℕ
times zero c = 0
times (suc n) c = c + times n c

abbrev pub sum_by : (ComponentState → ℕ) → List ComponentState → ℕ
sum_by f [] = 0
sum_by f (p ∷ ps) = f p + sum_by f ps

-- what does not rest on its children, where a failure that is still to come weighs so much
abbrev pub core_by : ℕ → ComponentState → ℕ
core_by c p = state_weight p + owed_weight p.owed + times (left p) c

abbrev pub weight_by : ℕ → ComponentState → ℕ
weight_by c p = core_by c p + (start_weight p.life.busy p.children + 3 * length p.children)

-- A failure pays for the marks of all others. No event but a change to other items makes them more.
abbrev pub one_failure : List ComponentState → ℕ
one_failure ps = 1000 + 200 * length ps

-- the number of the components
abbrev pub rank : Components → ℕ
rank w = sum_by (weight_by (one_failure w.parts)) w.parts

-- the number of a loop that drives components until a moment that is out of range
abbrev pub measure : Components → ℕ
measure w = rank w * 2 ^ 62 + (2 ^ 62 - w.moment)
