-- What a component weighs but for its children, where a failure weighs more than all else: in the rows of the table.
use Rattle.std.specs.Prelude.{◌+◌, ◌*◌, ℕ, Option, Some, None}
use Rattle.nuc_base.specs.declared.kinds.Step.{Step}
use Rattle.lifecycle.specs.declared.kinds.LifeEvent.{LifeEvent}
use Rattle.lifecycle.specs.declared.kinds.LifeEvent.TheVariants as event
use Rattle.components.specs.Components.{ComponentState}
use Rattle.law_termination.specs.Rank.{left, owed_weight, state_weight}

abbrev pub core : ComponentState → ℕ
core p = state_weight p + owed_weight p.owed + 50000 * left p

-- what an event takes away besides what it makes of the children: enough for a start where a step is busy after it
abbrev pub gain : LifeEvent → Option Step → ℕ
gain event.MayBegin busy = 5
gain event.Retry busy = 5
gain (event.Stop a) busy = 5
gain e None = 0
gain e (Some s) = 5
