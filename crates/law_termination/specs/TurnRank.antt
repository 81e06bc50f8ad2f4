-- A number that falls at whatever comes between two waits while no deployment is driven.
use Rattle.std.specs.Prelude.{◌+◌, ◌*◌, ◌-◌, ℕ, length, List, [], ◌∷◌, ◌||◌, if◌then◌else◌, is_some}
use Rattle.components.specs.Components.{Child, ComponentState, Components, is_again, is_gone, is_up, under_way}
use Rattle.components.specs.Deadlines.{has_passed}
use Rattle.law_termination.specs.Rank.{left_of, owed_weight, start_weight, state_weight, sum_by, times}

-- One that is up, and is not to be stopped, may forget its failures and fails no more by itself. One that is to be
-- restarted may forget them before it is.
abbrev pub left_steady : ComponentState → ℕ
left_steady p =
    if p.life.gone || (is_gone p.stop || is_gone (under_way p.life)) then 0
    else (if is_again p.stop || is_again (under_way p.life) then left_of p.next
    else (if is_up p.life.state then (if is_some p.stop then 3 else 0)
    else (if is_some p.stop then 6 - p.life.failures else 3 - p.life.failures)))

abbrev pub core_steady : ComponentState → ℕ
core_steady p = state_weight p + owed_weight p.owed + 200 * left_steady p

-- how many children are late
abbrev pub late_count : ℕ → List Child → ℕ
late_count m [] = 0
late_count m (c ∷ cs) = (if has_passed m c.deadline then 1 else 0) + late_count m cs

-- a late child pays for the marks of all others
abbrev pub one_late : List ComponentState → ℕ
one_late ps = 3000 + 1400 * length ps

abbrev pub weight_steady : ℕ → ℕ → ComponentState → ℕ
weight_steady m c p = core_steady p + (start_weight p.life.busy p.children + 3 * length p.children) + times (late_count m p.children) c

abbrev pub turn_rank : Components → ℕ
turn_rank w = sum_by (weight_steady w.moment (one_late w.parts)) w.parts
