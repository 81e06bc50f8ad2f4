-- One component as contracts see it.
use Rattle.std.specs.Prelude.{◌≡◌, ℕ, ◌<◌, ◌≤◌, ◌+◌, ◌==◌, Bool, true, false, not, ◌&&◌, Option, Some, None, if◌then◌else◌}
use Rattle.nuc_base.specs.declared.kinds.Step.{Step}
use Rattle.nuc_base.specs.declared.kinds.Step.TheVariants.{Install, Run, Startup, Shutdown, Recover}
use Rattle.lifecycle.specs.declared.kinds.State.{State}
use Rattle.lifecycle.specs.declared.kinds.State.TheVariants.{New, Installed, Starting, Running, Stopping, Errored, Broken}
use Rattle.lifecycle.specs.declared.kinds.After.{After}
use Rattle.lifecycle.specs.declared.kinds.After.TheVariants.{Restart, Again, Gone}
use Rattle.lifecycle.specs.declared.kinds.StepSet.{StepSet}

pub record Life : Type 0 where
  pub steps : StepSet
  pub state : State
  pub failures : ℕ
  pub busy : Option Step  -- the step whose child lives or whose start was handed out
  pub runs : Bool  -- whether a run child lives
  pub install_failed : Bool  -- whether the last failure was of install
  pub stop : Option After  -- the stop that a shutdown is for
  pub gone : Bool  -- it was stopped and is a component no longer

-- one that nothing has befallen yet
abbrev pub begun : StepSet → ℕ → Life
begun steps failures = record { steps = steps; state = New; failures = failures; busy = None; runs = false; install_failed = false; stop = None; gone = false }

-- where a failure leads back to
abbrev pub back : Life → State
back c = if c.install_failed then New else Installed

-- where a stop with Restart leads to
abbrev pub rested : State → Life → State
rested Broken c = Broken
rested New c = New
rested Errored c = back c
rested state c = Installed

-- what is left where a stop is done
abbrev pub stopped : After → Life → Life
stopped Restart c = record c { state = rested c.state c; busy = None; runs = false; stop = None }
stopped Again c = begun c.steps 0
stopped Gone c = record c { state = rested c.state c; busy = None; runs = false; stop = None; gone = true }

-- after a retry without a recover step, and after a recover step
abbrev pub retried : Life → Life
retried c = record c { state = back c; busy = None }

abbrev pub is_install : Step → Bool
is_install Install = true
is_install step = false

-- after a failure of a step: the third one breaks
abbrev pub failed : Step → Life → Life
failed step c = record c {
  state = if c.failures == 2 then Broken else Errored;
  failures = c.failures + 1;
  busy = None;
  runs = false;
  install_failed =
      is_install step;
}

-- What each component keeps.

-- which step may be busy in a state
abbrev pub may_be_busy : State → Option Step → Bool
may_be_busy Starting None = false
may_be_busy Stopping None = false
may_be_busy state None = true
may_be_busy New (Some Install) = true
may_be_busy Starting (Some Startup) = true
may_be_busy Starting (Some Run) = true
may_be_busy Stopping (Some Shutdown) = true
may_be_busy Errored (Some Recover) = true
may_be_busy state (Some step) = false

-- whether a run child may live
abbrev pub may_run : State → Bool → Bool
may_run Running runs = true
may_run Stopping runs = true
may_run state runs = not runs

-- a stop is under way in STOPPING alone
abbrev pub may_stop : State → Option After → Bool
may_stop Stopping None = false
may_stop Stopping (Some after) = true
may_stop state None = true
may_stop state (Some after) = false

-- only one that is broken has three failures
abbrev pub MayHave : State → ℕ → Type 0
MayHave Broken n = n ≤ 3
MayHave state n = n < 3

-- no component has both of run and startup
abbrev pub HasOneMain : StepSet → Type 0
HasOneMain steps = (steps.run && steps.startup) ≡ false

pub record IsSound (c : Life) : Type 0 where
  pub main : HasOneMain c.steps
  pub failures : MayHave c.state c.failures
  pub busy : may_be_busy c.state c.busy ≡ true
  pub runs : may_run c.state c.runs ≡ true
  pub stop : may_stop c.state c.stop ≡ true
