-- A call that does not serve takes one document at most.
use Rattle.std.specs.Prelude.{◌≡◌, Bool, true, false, ◌||◌, List, [], ◌∷◌, ⊤}
use Rattle.records.specs.Stored.{Record}
use Rattle.histories.specs.TraceEvents.{TraceEvent, records_of}
use Rattle.histories.specs.States.{SessionState, takes_document}
use Rattle.histories.specs.Follows.{IsProper}

-- Of these records one at most takes a document, and none where one was taken before.
abbrev pub TakesOnce : Bool → List Record → Type 0
TakesOnce taken [] = ⊤
TakesOnce taken (r ∷ records) = (takes_document r ≡ true → taken ≡ false) × TakesOnce (taken || takes_document r) records

-- So it is with the records of such a call.
abbrev pub CallsTakeOnce : Type 0
CallsTakeOnce = (p : SessionState) (h : List TraceEvent) → p.serves ≡ false → IsProper p h → TakesOnce p.taken (records_of h)
