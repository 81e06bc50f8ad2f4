-- What happens in a fleet, with what documents say in place of their bytes.
use Rattle.std.specs.Prelude.{◌≡◌, ℕ, ◌<◌, ◌≤◌, List, [], ◌∷◌, ◌++◌, length}
use Rattle.deployment_doc.specs.OneDocument.{IsDocumentOf}
use Rattle.deployment_doc.specs.declared.document.Document.{Document}
use Rattle.fleet_core.specs.declared.packet.Packet.{Packet}

-- A packet was sent; one arrived, by its number; one was lost; a device restarted; a device sent a report; one arrived.
pub data Event : Type 0 where
  Sending : (packet : Packet) → Event
  Delivery : (number : ℕ) → Event
  Loss : (number : ℕ) → Event
  Restarting : (device : ℕ) → Event
  Reporting : (device : ℕ) → Event
  Hearing : (number : ℕ) → Event

-- what each event of a list gives, where some events came before the list
abbrev pub each : {X : Type 0} → (List Event → Event → List X) → List Event → List Event → List X
each f past [] = []
each f past (e ∷ es) = f past e ++ each f (past ++ e ∷ []) es

-- what each event of the list gives by those before it, one after another
abbrev pub along : {X : Type 0} → (List Event → Event → List X) → List Event → List X
along f past = each f [] past
