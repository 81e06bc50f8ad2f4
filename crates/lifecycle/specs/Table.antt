-- The table by which a component moves: from a life, at an event, to an act and the life after it.
use Rattle.std.specs.Prelude.{Bool, true, false, Option, Some, None, if◌then◌else◌, IsSome, ◌==◌, pos, negsuc}
use Rattle.nuc_base.specs.declared.kinds.Step.{Step}
use Rattle.nuc_base.specs.declared.kinds.Step.TheVariants.{Install, Run, Startup, Shutdown, Recover}
use Rattle.nuc_base.specs.declared.kinds.Exit.{Exit}
use Rattle.nuc_base.specs.declared.kinds.Exit.TheVariants.{Code, Signal, TimedOut, NotStarted, Lost}
use Rattle.lifecycle.specs.Life.{Life, stopped, retried, failed}
use Rattle.lifecycle.specs.declared.kinds.State.{State}
use Rattle.lifecycle.specs.declared.kinds.State.TheVariants.{New, Installed, Starting, Running, Stopping, Finished, Errored}
use Rattle.lifecycle.specs.declared.kinds.LifeEvent.{LifeEvent}
use Rattle.lifecycle.specs.declared.kinds.LifeEvent.TheVariants.{MayBegin, Launched, Skipped, Ended, Stop, Retry}
use Rattle.lifecycle.specs.declared.kinds.LifeAct.{LifeAct}
use Rattle.lifecycle.specs.declared.kinds.LifeAct.TheVariants.{Nothing, Begin, Kill, Failed, Broke}

-- what a row gives, or none where there is no row
abbrev pub Row : Type 0
Row = Option (LifeAct × Life)

abbrev pub gives : LifeAct → Life → Row
gives act c = Some (act, c)

-- nothing is to be done, and no step is busy
abbrev pub moves : State → Life → Row
moves state c = gives Nothing (record c { state = state; busy = None })

-- a step begins
abbrev pub begins : Step → State → Life → Row
begins step state c = gives (Begin step) (record c { state = state; busy = Some step })

-- a failure: the third one breaks
abbrev pub failure : Step → Exit → Life → LifeAct
failure step exit c = if c.failures == 2 then Broke step exit else Failed step exit

abbrev pub fails : Step → Exit → Life → Row
fails step exit c = gives (failure step exit c) (failed step c)

abbrev pub is_good : Exit → Bool
is_good (Code n) = elim n [ pos k ↦ (k == 0) | negsuc k ↦ false ]
is_good Signal = false
is_good TimedOut = false
is_good NotStarted = false
is_good Lost = false

-- an end that leads on where it is good
abbrev pub ends_in : State → Step → Exit → Life → Row
ends_in state step exit c = if is_good exit then gives Nothing (record c { state = state; busy = None; runs = false }) else fails step exit c

-- the act where a component is stopped
abbrev pub kill_of : Life → LifeAct
kill_of c = if c.runs then Kill else elim c.busy [ None ↦ Nothing | Some step ↦ Kill ]

-- the end of a shutdown
abbrev pub shut_down : Life → Row
shut_down c = elim c.stop [ None ↦ None | Some after ↦ gives (if c.runs then Kill else Nothing) (stopped after c) ]

-- the rows: in this state, at this event, with this step busy
abbrev pub rows : State → LifeEvent → Option Step → Life → Row
rows New MayBegin None c = if c.steps.install then begins Install New c else moves Installed c
rows New Skipped (Some Install) c = moves Installed c
rows New (Ended Install exit) (Some Install) c = ends_in Installed Install exit c
rows Installed MayBegin None c = if c.steps.startup then begins Startup Starting c else (if c.steps.run then begins Run Starting c else moves Finished c)
rows Starting Skipped (Some Startup) c = moves Running c
rows Starting (Ended Startup exit) (Some Startup) c = ends_in Running Startup exit c
rows Starting Launched (Some Run) c = gives Nothing (record c { state = Running; busy = None; runs = true })
rows Starting Skipped (Some Run) c = moves Finished c
-- a start of run that was refused
rows Starting (Ended Run exit) (Some Run) c = fails Run exit c
rows Running (Ended Run exit) busy c = if c.runs then ends_in Finished Run exit c else None
rows Errored Retry None c = if c.steps.recover then begins Recover Errored c else gives Nothing (retried c)
rows Errored Skipped (Some Recover) c = gives Nothing (retried c)
rows Errored (Ended Recover exit) (Some Recover) c = gives Nothing (retried c)
rows Running (Stop after) busy c = if c.steps.shutdown then begins Shutdown Stopping (record c { stop = Some after }) else gives (kill_of c) (stopped after c)
rows Stopping Skipped (Some Shutdown) c = shut_down c
rows Stopping (Ended Shutdown exit) (Some Shutdown) c = shut_down c
rows Stopping (Ended Run exit) busy c = if c.runs then gives Nothing (record c { runs = false }) else None
rows Stopping (Stop after) busy c = None
rows state (Stop after) busy c = gives (kill_of c) (stopped after c)
rows state event busy c = None

-- what is gone is no component, and has no row
abbrev pub table : Life → LifeEvent → Row
table c event = if c.gone then None else rows c.state event c.busy c

abbrev pub HasRow : Life → LifeEvent → Type 0
HasRow c event = IsSome (table c event)
