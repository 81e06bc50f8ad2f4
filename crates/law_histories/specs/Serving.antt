-- A call that serves takes one document at most between two questions to its inbox.
use Rattle.std.specs.Prelude.{◌≡◌, true, List, is_none, ⊤}
use Rattle.std.specs.List.{AllByRecursion}
use Rattle.histories.specs.TraceEvents.{TraceEvent, InboxAsked, records_of}
use Rattle.histories.specs.Once.{TakesOnce}
use Rattle.histories.specs.States.{SessionState}
use Rattle.histories.specs.Follows.{IsProper}

-- the inbox is not asked
abbrev pub IsUnasked : TraceEvent → Type 0
IsUnasked (InboxAsked a) = ⊥
IsUnasked e = ⊤

-- While the inbox is not asked one document at most is taken, and none where no answer stands open.
abbrev pub ServesTakeOnce : Type 0
ServesTakeOnce = (p : SessionState) (h : List TraceEvent) → p.serves ≡ true → AllByRecursion IsUnasked h → IsProper p h →
    TakesOnce (is_none p.answer) (records_of h)

-- Behind the last of the turns the inbox is not asked.
abbrev pub LastIsUnasked : Type 0
LastIsUnasked = (p : SessionState) (h : List TraceEvent) → p.turns ≡ 0 → IsProper p h → AllByRecursion IsUnasked h
