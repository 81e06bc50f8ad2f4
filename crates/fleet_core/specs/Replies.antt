-- What is replied to a happening, and when it is refused.
use Rattle.std.specs.Prelude.{◌≡◌, ◌⊎◌, ℕ, ◌<◌, ◌≤◌, List, [], ◌∷◌, ◌++◌, Some, None, Bool, true, false, nat_lt, if◌then◌else◌, length, map, slice_get, ⊤}
use Rattle.std.specs.Bool.{MatchBool}
use Rattle.std.specs.Map.{lookup}
use Rattle.std.specs.Str.{bytes_eq}
use Rattle.std.specs.Cmp.Lexicographic.{slice_cmp}
use Rattle.std.specs.Ordering.{nat_cmp}
use Rattle.std.specs.List.Sorted.{IsStrictlySortedBy}
use Rattle.deployment_doc.specs.OneDocument.{IsDocumentOf}
use Rattle.deployment_doc.specs.Reads.{IsFault}
use Rattle.deployment_doc.specs.declared.document.Document.{Document}
use Rattle.fleet_core.specs.declared.packet.Packet.{Packet}
use Rattle.fleet_core.specs.declared.happening.Happening.{Happening}
use Rattle.fleet_core.specs.declared.happening.Happening.TheVariants.{Send, Deliver, Lose, Restart, Report as SendReport, Hear}
use Rattle.fleet_core.specs.declared.happening.Reply.{Reply}
use Rattle.fleet_core.specs.declared.happening.Reply.TheVariants.{Sent, Taken, Stale, Again, Gone, Lost, Restarted, Reported, Known}
use Rattle.fleet_core.specs.declared.happening.StepFault.{StepFault}
use Rattle.fleet_core.specs.declared.happening.StepFault.TheVariants.{NoDevice, NoPacket, NoReport, Document as NoDocument, NoRevision, Full, NoMemory}
use Rattle.fleet_core.specs.Events.{Event}
use Rattle.fleet_core.specs.Events.Event.{Sending, Delivery, Loss, Restarting, Reporting, Hearing}
use Rattle.fleet_core.specs.Meaning.{packets, is_lost, kept, Report, reports, known}

-- as many packets are sent at most, and as many reports
abbrev pub most : ℕ
most = 65536

-- ---- what happens

-- The document that is sent names a revision, and this is its packet.
abbrev pub IsPacketOf : ℕ → List ℕ → Packet → Type 0
IsPacketOf device bytes packet =
    (document : Document) × IsDocumentOf bytes document × (0 < document.revision) ×
    (packet ≡ record { device = device; group = document.group; revision = document.revision })

-- The happening is one that may come behind these events, in a fleet of so many devices, and it is this event.
abbrev pub MayHappenAs : ℕ → List Event → Happening → Event → Type 0
MayHappenAs devices past (Send d bytes) event = (d < devices) × (length (packets past) < most) ×
    ((packet : Packet) × IsPacketOf d bytes packet × (event ≡ Sending packet))
MayHappenAs devices past (Deliver n) event = (n < length (packets past)) × (event ≡ Delivery n)
MayHappenAs devices past (Lose n) event = (n < length (packets past)) × (event ≡ Loss n)
MayHappenAs devices past (Restart d) event = (d < devices) × (event ≡ Restarting d)
MayHappenAs devices past (SendReport d) event = (d < devices) × (length (reports past) < most) × (event ≡ Reporting d)
MayHappenAs devices past (Hear n) event = (n < length (reports past)) × (event ≡ Hearing n)

-- ---- what is refused

-- why the bytes are no packet's
abbrev pub IsUnread : List ℕ → StepFault → Type 0
IsUnread bytes (NoDocument fault) = IsFault bytes fault
IsUnread bytes NoRevision = (document : Document) × IsDocumentOf bytes document × (document.revision ≡ 0)
IsUnread bytes NoMemory = ⊤
IsUnread bytes NoDevice = ⊥
IsUnread bytes NoPacket = ⊥
IsUnread bytes NoReport = ⊥
IsUnread bytes Full = ⊥

abbrev pub IsSendRefused : ℕ → List Event → ℕ → List ℕ → StepFault → Type 0
IsSendRefused devices past d bytes NoDevice = devices ≤ d
IsSendRefused devices past d bytes (NoDocument fault) = (d < devices) × IsUnread bytes (NoDocument fault)
IsSendRefused devices past d bytes NoRevision = (d < devices) × IsUnread bytes NoRevision
IsSendRefused devices past d bytes Full = (d < devices) × (most ≤ length (packets past)) × ((packet : Packet) × IsPacketOf d bytes packet)
IsSendRefused devices past d bytes NoMemory = ⊤
IsSendRefused devices past d bytes NoPacket = ⊥
IsSendRefused devices past d bytes NoReport = ⊥

abbrev pub IsReportRefused : ℕ → List Event → ℕ → StepFault → Type 0
IsReportRefused devices past d NoDevice = devices ≤ d
IsReportRefused devices past d Full = (d < devices) × (most ≤ length (reports past))
IsReportRefused devices past d NoMemory = ⊤
IsReportRefused devices past d (NoDocument fault) = ⊥
IsReportRefused devices past d NoRevision = ⊥
IsReportRefused devices past d NoPacket = ⊥
IsReportRefused devices past d NoReport = ⊥

-- The fault is the first that the happening has behind these events. Want of memory is free.
abbrev pub IsRefused : ℕ → List Event → Happening → StepFault → Type 0
IsRefused devices past (Send d bytes) fault = IsSendRefused devices past d bytes fault
IsRefused devices past (Deliver n) fault = (fault ≡ NoMemory) ⊎ (fault ≡ NoPacket) × (length (packets past) ≤ n)
IsRefused devices past (Lose n) fault = (fault ≡ NoMemory) ⊎ (fault ≡ NoPacket) × (length (packets past) ≤ n)
IsRefused devices past (Restart d) fault = (fault ≡ NoMemory) ⊎ (fault ≡ NoDevice) × (devices ≤ d)
IsRefused devices past (SendReport d) fault = IsReportRefused devices past d fault
IsRefused devices past (Hear n) fault = (fault ≡ NoMemory) ⊎ (fault ≡ NoReport) × (length (reports past) ≤ n)

-- ---- what is replied

-- what a device says to a packet that arrives, where it keeps this revision of the group
abbrev pub verdict : Packet → ℕ → Reply
verdict packet level =
    if nat_lt level packet.revision then Taken packet.device packet.group packet.revision
    else if nat_lt packet.revision level then Stale packet.device packet.group level else Again packet.device packet.group level

-- the groups with a level above 0, in byte order, each with its level
pub record IsListing (level : List ℕ → ℕ) (list : List (List ℕ × ℕ)) : Type 0 where
  pub ordered : IsStrictlySortedBy (slice_cmp nat_cmp) (map (λ e. e.0) list)
  pub levels : (group : List ℕ) → lookup (bytes_eq group) list ≡ (if nat_lt 0 (level group) then Some (level group) else None)

-- the reply to an event behind these events
abbrev pub IsReply : List Event → Event → Reply → Type 0
IsReply past (Sending packet) reply = reply ≡ Sent (length (packets past))
IsReply past (Delivery n) reply = MatchBool (is_lost past n) (reply ≡ Gone n)
    ((packet : Packet) × (slice_get (packets past) n ≡ Some packet) × (reply ≡ verdict packet (kept past packet.device packet.group)))
IsReply past (Loss n) reply = reply ≡ Lost n
IsReply past (Restarting d) reply = reply ≡ Restarted d
IsReply past (Reporting d) reply = reply ≡ Reported (length (reports past))
IsReply past (Hearing n) reply =
    (report : Report) × (list : List (List ℕ × ℕ)) × (slice_get (reports past) n ≡ Some report) × (reply ≡ Known report.device list)
    × IsListing (known (past ++ Hearing n ∷ []) report.device) list
