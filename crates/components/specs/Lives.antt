-- What an event of the table makes of a component, and of those that need it.
use Rattle.std.specs.Prelude.{ℕ, Bool, false, not, ◌&&◌, ◌||◌, Option, Some, None, slice_get, if◌then◌else◌}
use Rattle.nuc_base.specs.declared.kinds.Step.TheVariants as step
use Rattle.lifecycle.specs.Life.{Life}
use Rattle.lifecycle.specs.Table.{table}
use Rattle.lifecycle.specs.Awaits.{is_busy_with, is_stopping}
use Rattle.lifecycle.specs.declared.kinds.After.{After}
use Rattle.lifecycle.specs.declared.kinds.LifeEvent.{LifeEvent}
use Rattle.lifecycle.specs.declared.kinds.LifeEvent.TheVariants as event
use Rattle.lifecycle.specs.declared.kinds.LifeAct.{LifeAct}
use Rattle.lifecycle.specs.declared.kinds.LifeAct.TheVariants as act
use Rattle.components.specs.Fitted.{steps_of}
use Rattle.components.specs.Components.{Components, ComponentState, changed_at, is_again, is_spared, is_to_stop, is_up, is_finished, is_running, is_starting}
use Rattle.components.specs.Marks.{flagged_at, restarted, may_restart}

-- ---- what is put right after a row of the table, in this order

-- its life is as the row has it
abbrev pub after_row : Life → ComponentState → ComponentState
after_row d p = record p { life = d }

-- RUNNING by startup, or FINISHED
abbrev pub succeeds : Life → Life → Bool
succeeds c d = (is_finished d.state && not (is_finished c.state))
    || (is_starting c.state && (is_running d.state && is_busy_with step.Startup c.busy))

-- where no deployment is driven, a success forgets the failures
abbrev pub with_failures_forgotten : Bool → Life → ComponentState → ComponentState
with_failures_forgotten steady before p = if steady && succeeds before p.life then record p { life = record p.life { failures = 0 } } else p

-- a failure is owed; who is to be stopped with Again or Gone fails no more
abbrev pub with_failure_owed : LifeAct → ComponentState → ComponentState
with_failure_owed act.Nothing p = p
with_failure_owed (act.Begin s) p = p
with_failure_owed act.Kill p = p
with_failure_owed (act.Failed s e) p = if is_spared p then p else record p { owed = Some (s, e) }
with_failure_owed (act.Broke s e) p = if is_spared p then p else record p { owed = Some (s, e) }

-- a stop that is given is asked for no more
abbrev pub with_stop_given : LifeEvent → ComponentState → ComponentState
with_stop_given (event.Stop a) p = record p { stop = None }
with_stop_given e p = p

abbrev pub stop_in : LifeEvent → Option After
stop_in (event.Stop a) = Some a
stop_in e = None

-- the stop that an event completes: it was under way, or it is given and done at once
abbrev pub completed : LifeEvent → Life → Life → Option After
completed e before d = if is_stopping d.state then None else (if is_stopping before.state then before.stop else stop_in e)

-- it takes the item that replaces its own
abbrev pub replaced : ComponentState → ComponentState
replaced p = elim p.next [ None ↦ p | Some n ↦ record p { fitted = n.0; life = record p.life { steps = steps_of n.0; failures = n.1 }; next = None } ]

-- so does one that is stopped with Again
abbrev pub with_new_item : LifeEvent → Life → ComponentState → ComponentState
with_new_item e before p = if is_again (completed e before p.life) then replaced p else p

-- a component after an event; where the table has no row, as it was
abbrev pub lived : Bool → LifeEvent → ComponentState → ComponentState
lived steady e p = elim (table p.life e) [
  | None ↦ p
  | Some r ↦ with_new_item e p.life (with_stop_given e (with_failure_owed r.0 (with_failures_forgotten steady p.life (after_row r.1 p))))
]

-- it leaves RUNNING or FINISHED by an error
abbrev pub drops : Bool → LifeEvent → ComponentState → Bool
drops steady e p = is_up p.life.state && (not (is_up (lived steady e p).life.state) && not (is_to_stop p))

abbrev pub drops_at : ℕ → Components → LifeEvent → Bool
drops_at k w e = elim (slice_get w.parts k) [ None ↦ false | Some p ↦ drops w.steady e p ]

-- an event of one component; where it drops, those that reach it by hard needs and are starting, running or finished are to be stopped
abbrev pub lived_at : ℕ → LifeEvent → Components → Components
lived_at k e w = record w {
  parts =
      if drops_at k w e then restarted may_restart (flagged_at k (changed_at k (lived w.steady e) w.parts))
      else changed_at k (lived w.steady e) w.parts;
}
