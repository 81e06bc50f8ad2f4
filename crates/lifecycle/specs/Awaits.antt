-- For which events the table has a row.
use Rattle.std.specs.Prelude.{Bool, true, false, not, ◌&&◌, ◌||◌, Option, Some, None, is_some, is_none}
use Rattle.nuc_base.specs.declared.kinds.Step.{Step}
use Rattle.nuc_base.specs.declared.kinds.Step.TheVariants.{Install, Run, Startup, Shutdown, Recover, Bootstrap}
use Rattle.lifecycle.specs.Life.{Life}
use Rattle.lifecycle.specs.declared.kinds.State.{State}
use Rattle.lifecycle.specs.declared.kinds.State.TheVariants.{New, Installed, Stopping, Errored}
use Rattle.lifecycle.specs.declared.kinds.LifeEvent.{LifeEvent}
use Rattle.lifecycle.specs.declared.kinds.LifeEvent.TheVariants.{MayBegin, Launched, Skipped, Ended, Stop, Retry}

abbrev pub is_same_step : Step → Step → Bool
is_same_step Install Install = true
is_same_step Run Run = true
is_same_step Startup Startup = true
is_same_step Shutdown Shutdown = true
is_same_step Recover Recover = true
is_same_step Bootstrap Bootstrap = true
is_same_step step other = false

abbrev pub is_busy_with : Step → Option Step → Bool
is_busy_with step None = false
is_busy_with step (Some other) = is_same_step step other

-- in NEW and INSTALLED a component waits for what it needs
abbrev pub is_waiting : State → Bool
is_waiting New = true
is_waiting Installed = true
is_waiting state = false

abbrev pub is_stopping : State → Bool
is_stopping Stopping = true
is_stopping state = false

abbrev pub is_errored : State → Bool
is_errored Errored = true
is_errored state = false

-- A component begins and is retried where no step is busy; a step that is busy is skipped or ends, and a run child
-- ends; a stop comes in any state but STOPPING. Whoever is gone awaits nothing.
abbrev pub awaits : LifeEvent → Life → Bool
awaits MayBegin c = is_waiting c.state && is_none c.busy
awaits Launched c = is_busy_with Run c.busy
awaits Skipped c = is_some c.busy
awaits (Ended step exit) c = is_busy_with step c.busy || (is_same_step step Run && c.runs)
awaits (Stop after) c = not (is_stopping c.state)
awaits Retry c = is_errored c.state && is_none c.busy

abbrev pub is_awaited : LifeEvent → Life → Bool
is_awaited event c = not c.gone && awaits event c
