-- What a history keeps of the components.
use Rattle.std.specs.Prelude.{◌≡◌, true, List, Some}
use Rattle.records.specs.declared.record.Origin.{Origin}
use Rattle.device.specs.Lawful.{Run}
use Rattle.components.specs.Platforms.{AllRunFor}
use Rattle.histories.specs.Follows.{IsProper}
use Rattle.histories.specs.Phases.{duty_of, is_idle}
use Rattle.histories.specs.States.{SessionState, state_after}
use Rattle.histories.specs.TraceEvents.{TraceEvent, records_of}

-- each runs its item as the item's recipe says for the platform of the device, which stays
abbrev pub ComponentsRunTheirItems : Type 0
ComponentsRunTheirItems = (p : SessionState) (h : List TraceEvent) (o : Origin) → p.device.origin ≡ Some o → AllRunFor o.platform p.world.parts → IsProper p h →
    Run p.device (records_of h) (state_after p h).device → ((state_after p h).device.origin ≡ Some o) × AllRunFor o.platform (state_after p h).world.parts

-- no deployment is driven where nothing is pending
abbrev pub IsSteadyIdle : SessionState → Type 0
IsSteadyIdle p = is_idle (duty_of p.device).phase ≡ true → p.world.steady ≡ true

abbrev pub IdleIsSteady : Type 0
IdleIsSteady = (p : SessionState) (h : List TraceEvent) → IsSteadyIdle p → IsProper p h → Run p.device (records_of h) (state_after p h).device →
    IsSteadyIdle (state_after p h)
