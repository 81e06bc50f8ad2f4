-- What happened while acts were taken and nothing is pending: whether failures were handed out, and that no items were changed.
use Rattle.std.specs.Prelude.{Bool, true, false, List}
use Rattle.std.specs.List.{list_any}
use Rattle.histories.specs.TraceEvents.{TraceEvent, Changed, Heard}

abbrev pub is_heard : TraceEvent → Bool
is_heard (Heard k) = true
is_heard e = false

-- a failure was handed out
abbrev pub hears : List TraceEvent → Bool
hears h = list_any is_heard h

abbrev pub is_change : TraceEvent → Bool
is_change (Changed f c b) = true
is_change e = false

-- other items, or the same once more, are to run
abbrev pub changes : List TraceEvent → Bool
changes h = list_any is_change h
