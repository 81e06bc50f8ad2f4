-- Laws of whole lists: over a network that loses, repeats and reorders, no device goes back.
use Rattle.std.specs.Prelude.{◌≡◌, ℕ, ◌<◌, ◌≤◌, List, [], ◌∷◌, ◌++◌, ◌==◌, ◌&&◌, Some, if◌then◌else◌, slice_get, ⊤}
use Rattle.std.specs.List.{AllByRecursion}
use Rattle.std.specs.Str.{bytes_eq}
use Rattle.fleet_core.specs.declared.packet.Packet.{Packet}
use Rattle.fleet_core.specs.declared.happening.Reply.{Reply}
use Rattle.fleet_core.specs.declared.happening.Reply.TheVariants.{Sent, Taken, Stale, Again, Gone, Lost, Restarted, Reported, Known}
use Rattle.fleet_core.specs.Events.{Event}
use Rattle.fleet_core.specs.Meaning.{packets, kept, newest, known}
use Rattle.fleet_core.specs.Replies.{IsReply}

-- the replies to a list of events, where some events came before it
abbrev pub AreRepliesAfter : List Event → List Event → List Reply → Type 0
AreRepliesAfter past [] [] = ⊤
AreRepliesAfter past [] (r ∷ rs) = ⊥
AreRepliesAfter past (e ∷ es) [] = ⊥
AreRepliesAfter past (e ∷ es) (r ∷ rs) = IsReply past e r × AreRepliesAfter (past ++ e ∷ []) es rs

-- the replies to the events of a whole list
abbrev pub AreReplies : List Event → List Reply → Type 0
AreReplies events replies = AreRepliesAfter [] events replies

-- the revision that a device took of a group, where the reply says so
abbrev pub taken_by : ℕ → List ℕ → Reply → List ℕ
taken_by device group (Sent n) = []
taken_by device group (Taken d g revision) = if (d == device) && bytes_eq g group then revision ∷ [] else []
taken_by device group (Stale d g revision) = []
taken_by device group (Again d g revision) = []
taken_by device group (Gone n) = []
taken_by device group (Lost n) = []
taken_by device group (Restarted d) = []
taken_by device group (Reported n) = []
taken_by device group (Known d list) = []

-- the revisions that a device took of a group, by the replies
abbrev pub taken : ℕ → List ℕ → List Reply → List ℕ
taken device group [] = []
taken device group (r ∷ rs) = taken_by device group r ++ taken device group rs

-- each number is above the one before it, the first above this one
abbrev pub RisesFrom : ℕ → List ℕ → Type 0
RisesFrom low [] = ⊤
RisesFrom low (x ∷ xs) = (low < x) × RisesFrom x xs

-- what a reply says was taken is one of these packets
abbrev pub WasSent : List Packet → Reply → Type 0
WasSent ps (Sent n) = ⊤
WasSent ps (Taken d g revision) = (n : ℕ) × (slice_get ps n ≡ Some (record { device = d; group = g; revision = revision }))
WasSent ps (Stale d g revision) = ⊤
WasSent ps (Again d g revision) = ⊤
WasSent ps (Gone n) = ⊤
WasSent ps (Lost n) = ⊤
WasSent ps (Restarted d) = ⊤
WasSent ps (Reported n) = ⊤
WasSent ps (Known d list) = ⊤

-- The revisions that one device takes of one group rise strictly.
abbrev pub TakenRevisionsRise : Type 0
TakenRevisionsRise = (events : List Event) (replies : List Reply) (device : ℕ) (group : List ℕ) → AreReplies events replies →
    RisesFrom 0 (taken device group replies)

-- Each document that a device takes was sent to it.
abbrev pub TakenWasSent : Type 0
TakenWasSent = (events : List Event) (replies : List Reply) → AreReplies events replies → AllByRecursion (WasSent (packets events)) replies

-- The controller knows no more than the device keeps.
abbrev pub KnownIsKept : Type 0
KnownIsKept = (events : List Event) (device : ℕ) (group : List ℕ) → known events device group ≤ kept events device group

-- A device keeps nothing newer than what was sent to it.
abbrev pub KeptIsSent : Type 0
KeptIsSent = (events : List Event) (device : ℕ) (group : List ℕ) → kept events device group ≤ newest events device group

-- What a device keeps never falls, whatever happens later, a restart among it.
abbrev pub KeptStays : Type 0
KeptStays = (events more : List Event) (device : ℕ) (group : List ℕ) → kept events device group ≤ kept (events ++ more) device group

-- What the controller knows never falls.
abbrev pub KnownStays : Type 0
KnownStays = (events more : List Event) (device : ℕ) (group : List ℕ) → known events device group ≤ known (events ++ more) device group
