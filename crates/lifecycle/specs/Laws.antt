-- Laws of the table, in terms of what befalls a component and of the children that live.
use Rattle.std.specs.Prelude.{◌≡◌, ◌<◌, ◌+◌, Bool, true, false, not, ◌&&◌, ◌||◌, Option, Some, None, is_some, IfSome, ◌⊎◌}
use Rattle.nuc_base.specs.declared.kinds.Step.{Step}
use Rattle.nuc_base.specs.declared.kinds.Step.TheVariants.{Install, Run, Startup, Shutdown, Recover, Bootstrap}
use Rattle.lifecycle.specs.Life.{Life, IsSound, begun}
use Rattle.lifecycle.specs.Table.{table}
use Rattle.lifecycle.specs.Awaits.{is_awaited, is_same_step, is_busy_with}
use Rattle.lifecycle.specs.declared.kinds.State.TheVariants.{Errored, Broken}
use Rattle.lifecycle.specs.declared.kinds.StepSet.{StepSet}
use Rattle.lifecycle.specs.declared.kinds.LifeEvent.{LifeEvent}
use Rattle.lifecycle.specs.declared.kinds.LifeEvent.TheVariants.{Launched, Skipped, Ended}
use Rattle.lifecycle.specs.declared.kinds.LifeAct.{LifeAct}
use Rattle.lifecycle.specs.declared.kinds.LifeAct.TheVariants.{Begin, Kill, Failed, Broke}

-- for each state and event the table has a row, or has none
abbrev pub IsExhaustive : Type 0
IsExhaustive = (c : Life) (event : LifeEvent) → IsSound c → is_some (table c event) ≡ is_awaited event c

-- what each row keeps: from a life, at an event, with an act, to the life after it
abbrev pub EachRow : (Life → LifeEvent → LifeAct → Life → Type 0) → Type 0
EachRow P = (c : Life) (event : LifeEvent) → IsSound c → IfSome (table c event) (λ r. P c event r.0 r.1)

-- what each component keeps is kept by each row
abbrev pub KeepsSound : Type 0
KeepsSound = EachRow (λ c event act d. IsSound d)

abbrev pub has_step : Step → StepSet → Bool
has_step Install steps = steps.install
has_step Run steps = steps.run
has_step Startup steps = steps.startup
has_step Shutdown steps = steps.shutdown
has_step Recover steps = steps.recover
has_step Bootstrap steps = false

-- a step that begins is one that the component has, and it is busy with that step
abbrev pub begins_own : LifeAct → Life → Bool
begins_own (Begin step) d = has_step step d.steps && is_busy_with step d.busy
begins_own act d = true

abbrev pub BeginsItsSteps : Type 0
BeginsItsSteps = EachRow (λ c event act d. (d.steps ≡ c.steps) × (begins_own act d ≡ true))

-- each failure is counted, the third breaks, and nothing but a stop with Again takes failures away
abbrev pub AreFailuresCounted : LifeAct → Life → Life → Type 0
AreFailuresCounted (Failed step exit) c d = (d.state ≡ Errored) × (d.failures ≡ c.failures + 1) × (d.failures < 3)
AreFailuresCounted (Broke step exit) c d = (d.state ≡ Broken) × (c.failures ≡ 2) × (d.failures ≡ 3)
AreFailuresCounted act c d = (d.failures ≡ c.failures) ⊎ (d ≡ begun c.steps 0)

abbrev pub CountsFailures : Type 0
CountsFailures = EachRow (λ c event act d. AreFailuresCounted act c d)

abbrev pub is_kill : LifeAct → Bool
is_kill Kill = true
is_kill act = false

abbrev pub ends : Step → LifeEvent → Bool
ends step (Ended other exit) = is_same_step step other
ends step event = false

-- a step is busy no more once it ended, was skipped, or its run child was started
abbrev pub settles : Step → LifeEvent → Bool
settles step (Ended other exit) = is_same_step step other
settles step Skipped = true
settles step Launched = true
settles step event = false

abbrev pub keeps_busy : Option Step → LifeEvent → LifeAct → Life → Bool
keeps_busy None event act d = true
keeps_busy (Some step) event act d = settles step event || is_kill act || is_busy_with step d.busy

-- a child that lives is not forgotten: it ended, or all are killed, or it lives on
abbrev pub ForgetsNoChild : Type 0
ForgetsNoChild = EachRow (λ c event act d. ((not c.runs || ends Run event || is_kill act || d.runs) ≡ true) × (keeps_busy c.busy event act d ≡ true))

-- after a kill no child is left, and nothing is killed where none lives
abbrev pub KillsItsChildren : Type 0
KillsItsChildren = EachRow (λ c event act d. act ≡ Kill → (d.busy ≡ None) × (d.runs ≡ false) × ((c.runs || is_some c.busy) ≡ true))
