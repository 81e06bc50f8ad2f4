-- The parts of what an event of the table makes of a component, by what is held of it before.
use Rattle.std.specs.Prelude.{◌≡◌, MatchOption, Bool, true, not, ◌&&◌, ◌||◌, Option, Some, None, if◌then◌else◌, ℕ, false}
use Rattle.nuc_base.specs.declared.kinds.Step.{Step}
use Rattle.nuc_base.specs.declared.kinds.Step.TheVariants as step
use Rattle.nuc_base.specs.declared.kinds.Exit.{Exit}
use Rattle.lifecycle.specs.Life.{Life, begun}
use Rattle.components.specs.Fitted.{Fitted, steps_of}
use Rattle.lifecycle.specs.Awaits.{is_busy_with, is_stopping, is_awaited}
use Rattle.lifecycle.specs.declared.kinds.State.{State}
use Rattle.lifecycle.specs.declared.kinds.After.{After}
use Rattle.lifecycle.specs.declared.kinds.LifeEvent.{LifeEvent}
use Rattle.lifecycle.specs.declared.kinds.LifeEvent.TheVariants as event
use Rattle.lifecycle.specs.declared.kinds.LifeAct.{LifeAct}
use Rattle.lifecycle.specs.declared.kinds.LifeAct.TheVariants as act
use Rattle.components.specs.Turns.{is_unstarted}
use Rattle.components.specs.Components.{ComponentState, has_orphan, is_to_stop, is_again, is_gone, is_finished, is_running, is_starting, stops_for_good}
use Rattle.components.specs.Lives.{stop_in}

-- from a state, with that step busy, to a state
abbrev pub succeeds_from : State → Option Step → State → Bool
succeeds_from was busy now = (is_finished now && not (is_finished was)) || (is_starting was && (is_running now && is_busy_with step.Startup busy))

-- who is to be stopped with Again or Gone
abbrev pub is_spared_by : Option After → Life → Bool
is_spared_by stop c = (is_again stop || is_gone stop) || stops_for_good c

abbrev pub owed_after : LifeAct → Bool → Option (Step × Exit) → Option (Step × Exit)
owed_after act.Nothing spared owed = owed
owed_after (act.Begin s) spared owed = owed
owed_after act.Kill spared owed = owed
owed_after (act.Failed s e) spared owed = if spared then owed else Some (s, e)
owed_after (act.Broke s e) spared owed = if spared then owed else Some (s, e)

abbrev pub stop_after : LifeEvent → Option After → Option After
stop_after event.MayBegin stop = stop
stop_after event.Launched stop = stop
stop_after event.Skipped stop = stop
stop_after (event.Ended s e) stop = stop
stop_after (event.Stop a) stop = None
stop_after event.Retry stop = stop

-- the stop that an event completes, from a state with that stop under way to a state
abbrev pub completed_from : LifeEvent → State → Option After → State → Option After
completed_from e was way now = if is_stopping now then None else (if is_stopping was then way else stop_in e)

-- its stop may be given, but for those that need it
abbrev pub is_stop_ready : ComponentState → Bool
is_stop_ready p = elim p.stop [ None ↦ false | Some a ↦ is_awaited (event.Stop a) p.life && not (has_orphan p || is_unstarted p) ]

-- it may begin, but for what it needs
abbrev pub is_begin_ready : ComponentState → Bool
is_begin_ready p = is_awaited event.MayBegin p.life && not (is_to_stop p)

-- the item, and the failures, that one with this item takes once it is stopped with Again; None is its own item
abbrev pub taken_item : Fitted → Option Fitted → Fitted
taken_item f None = f
taken_item f (Some g) = g

abbrev pub next_of : Fitted → Option (Option Fitted × ℕ) → Option (Fitted × ℕ)
next_of f None = None
next_of f (Some n) = Some (taken_item f n.0, n.1)

-- one that was stopped with Again takes the item that replaces its own
pub record ItemAfterStop (again : Bool) (f f2 : Fitted) (c c2 : Life) (n n2 : Option (Fitted × ℕ)) : Type 0 where
  pub taken : again ≡ true → MatchOption n ((f2 ≡ f) × (c2 ≡ c)) (λ x. (f2 ≡ x.0) × (c2 ≡ begun (steps_of x.0) x.1)) × (n2 ≡ None)
  pub kept : again ≡ false → (f2 ≡ f) × (c2 ≡ c) × (n2 ≡ n)
