-- What a whole list of events means: which packets and reports were sent, what each device keeps, and what the controller
-- knows of it.
use Rattle.std.specs.Prelude.{◌≡◌, ℕ, ◌<◌, List, [], ◌∷◌, ◌++◌, ◌==◌, ◌&&◌, Bool, true, false, nat_lt, max, if◌then◌else◌, slice_get}
use Rattle.std.specs.Option.{option_to_list}
use Rattle.std.specs.List.{list_any}
use Rattle.std.specs.Str.{bytes_eq}
use Rattle.fleet_core.specs.declared.packet.Packet.{Packet}
use Rattle.fleet_core.specs.Events.{Event, each, along}
use Rattle.fleet_core.specs.Events.Event.{Sending, Delivery, Loss, Restarting, Reporting, Hearing}

-- ---- packets

abbrev pub sent_by : List Event → Event → List Packet
sent_by past (Sending packet) = packet ∷ []
sent_by past (Delivery n) = []
sent_by past (Loss n) = []
sent_by past (Restarting d) = []
sent_by past (Reporting d) = []
sent_by past (Hearing n) = []

-- the packets that were sent, numbered from 0
abbrev pub packets : List Event → List Packet
packets = along sent_by

abbrev pub loses : ℕ → Event → Bool
loses n (Sending packet) = false
loses n (Delivery m) = false
loses n (Loss m) = n == m
loses n (Restarting d) = false
loses n (Reporting d) = false
loses n (Hearing m) = false

-- the packet with this number was lost
abbrev pub is_lost : List Event → ℕ → Bool
is_lost past n = list_any (loses n) past

-- a packet that arrives, where it was not lost before
abbrev pub arrived_by : List Event → Event → List Packet
arrived_by past (Sending packet) = []
arrived_by past (Delivery n) = if is_lost past n then [] else option_to_list (slice_get (packets past) n)
arrived_by past (Loss n) = []
arrived_by past (Restarting d) = []
arrived_by past (Reporting d) = []
arrived_by past (Hearing n) = []

-- the packets that arrived, each as often as it did
abbrev pub arrivals : List Event → List Packet
arrivals = along arrived_by

-- ---- revisions

abbrev pub is_to : ℕ → List ℕ → Packet → Bool
is_to device group packet = (packet.device == device) && bytes_eq packet.group group

-- the greatest revision of the group to the device, 0 where there is none
abbrev pub highest : ℕ → List ℕ → List Packet → ℕ
highest device group [] = 0
highest device group (p ∷ ps) = if is_to device group p then max p.revision (highest device group ps) else highest device group ps

-- what the device keeps of the group: the greatest revision that arrived
abbrev pub kept : List Event → ℕ → List ℕ → ℕ
kept past device group = highest device group (arrivals past)

-- the greatest revision of the group that was sent to the device
abbrev pub newest : List Event → ℕ → List ℕ → ℕ
newest past device group = highest device group (packets past)

-- ---- reports

-- a report of a device tells what the device kept when it was sent: behind these events
pub record Report : Type 0 where
  pub device : ℕ
  pub past : List Event

abbrev pub reported_by : List Event → Event → List Report
reported_by past (Sending packet) = []
reported_by past (Delivery n) = []
reported_by past (Loss n) = []
reported_by past (Restarting d) = []
reported_by past (Reporting d) = record { device = d; past = past } ∷ []
reported_by past (Hearing n) = []

-- the reports that were sent, numbered from 0
abbrev pub reports : List Event → List Report
reports = along reported_by

abbrev pub heard_by : List Event → Event → List Report
heard_by past (Sending packet) = []
heard_by past (Delivery n) = []
heard_by past (Loss n) = []
heard_by past (Restarting d) = []
heard_by past (Reporting d) = []
heard_by past (Hearing n) = option_to_list (slice_get (reports past) n)

-- the reports that were heard, each as often as it was
abbrev pub hearings : List Event → List Report
hearings = along heard_by

-- the greatest revision of the group in reports of the device, 0 where there is none
abbrev pub told : ℕ → List ℕ → List Report → ℕ
told device group [] = 0
told device group (r ∷ rs) = if r.device == device then max (kept r.past device group) (told device group rs) else told device group rs

-- what the controller knows of the device: the greatest revision of the group in the reports that it heard
abbrev pub known : List Event → ℕ → List ℕ → ℕ
known past device group = told device group (hearings past)
