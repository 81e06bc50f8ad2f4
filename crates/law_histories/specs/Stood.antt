-- The history of a call, and what stands in it.
use Rattle.std.specs.Prelude.{◌≡◌, List, ◌∷◌, ◌++◌}
use Rattle.records.specs.Stored.{Record}
use Rattle.device.specs.Lawful.{Run}
use Rattle.histories.specs.Courses.{IsStart}
use Rattle.histories.specs.TraceEvents.{TraceEvent, Recorded, records_of}
use Rattle.histories.specs.States.{SessionState, state_after}
use Rattle.histories.specs.Follows.{IsProper}

-- This happened since a call began: nothing stood then, each event could follow where it did, and each record was lawful
-- in its turn.
pub record IsHistory (p : SessionState) (h : List TraceEvent) : Type 0 where
  pub start : IsStart p
  pub proper : IsProper p h
  pub run : Run p.device (records_of h) (state_after p h).device

-- This stands in the history, and that happened before it.
pub record HasHappened (h : List TraceEvent) (e : TraceEvent) (before : List TraceEvent) : Type 0 where
  pub later : List TraceEvent
  pub split : h ≡ later ++ e ∷ before

-- Each record of a history stands in it behind those that were kept before.
abbrev pub RecordsStand : Type 0
RecordsStand = (h : List TraceEvent) (earlier after : List Record) (r : Record) → records_of h ≡ earlier ++ r ∷ after
    → (before : List TraceEvent) × HasHappened h (Recorded r) before × (records_of before ≡ earlier)
