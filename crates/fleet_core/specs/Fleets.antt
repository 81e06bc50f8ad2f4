-- A fleet as its maps, packets and reports, and the list of events for which it stands.
use Rattle.std.specs.Prelude.{◌≡◌, ℕ, ◌+◌, ◌<◌, ◌≤◌, List, [], ◌∷◌, ◌++◌, Some, false, length, map, slice_get, Result, MatchResult}
use Rattle.fleet_core.specs.declared.packet.Sent.{Sent}
use Rattle.fleet_core.specs.declared.happening.Happening.{Happening}
use Rattle.fleet_core.specs.declared.happening.Reply.{Reply}
use Rattle.fleet_core.specs.declared.happening.StepFault.{StepFault}
use Rattle.fleet_core.specs.Events.{Event}
use Rattle.fleet_core.specs.Meaning.{packets, is_lost, kept, Report, reports, known}
use Rattle.fleet_core.specs.Replies.{MayHappenAs, IsRefused, IsReply, most}
use Rattle.fleet_core.specs.Takings.{level}
use Rattle.fleet_core.specs.Keeping.{Keeping, takings_of, IsBy}

-- the devices, the packets that were sent, and the device of each report that was sent
pub record FleetState : Type 0 where
  pub devices : List Keeping
  pub sent : List Sent
  pub reports : List ℕ

abbrev pub device_count : FleetState → ℕ
device_count fleet = length fleet.devices

-- devices that took nothing yet
abbrev pub AreFresh : List Keeping → Type 0
AreFresh devices = (d : ℕ) (device : Keeping) → slice_get devices d ≡ Some device → (device.groups ≡ []) × (device.heard ≡ 0)

-- each packet and report is of a device, and no device took anything later than now
pub record IsSound (fleet : FleetState) : Type 0 where
  pub packets : (n : ℕ) (s : Sent) → slice_get fleet.sent n ≡ Some s → s.packet.device < length fleet.devices
  pub reports : (n d : ℕ) → slice_get fleet.reports n ≡ Some d → d < length fleet.devices
  pub few_packets : length fleet.sent ≤ most
  pub few_reports : length fleet.reports ≤ most
  pub by : (d : ℕ) (device : Keeping) → slice_get fleet.devices d ≡ Some device → IsBy (length fleet.reports) device

-- its maps, its packets and its reports are those that the events give
pub record StandsFor (fleet : FleetState) (past : List Event) : Type 0 where
  pub sent : map (λ s. s.packet) fleet.sent ≡ packets past
  pub lost : (n : ℕ) (s : Sent) → slice_get fleet.sent n ≡ Some s → s.is_lost ≡ is_lost past n
  pub unsent : (n : ℕ) → length fleet.sent ≤ n → is_lost past n ≡ false
  pub reporters : fleet.reports ≡ map (λ r. r.device) (reports past)
  pub keeps : (d k : ℕ) (device : Keeping) (group : List ℕ) → slice_get fleet.devices d ≡ Some device → length fleet.reports < k
      → level k (takings_of device group) ≡ kept past d group
  pub reported : (n : ℕ) (r : Report) (device : Keeping) (group : List ℕ) → slice_get (reports past) n ≡ Some r → slice_get fleet.devices r.device ≡ Some device
      → level (n + 1) (takings_of device group) ≡ kept r.past r.device group
  pub knows : (d : ℕ) (device : Keeping) (group : List ℕ) → slice_get fleet.devices d ≡ Some device
      → level device.heard (takings_of device group) ≡ known past d group
  pub hears : (d : ℕ) (device : Keeping) → slice_get fleet.devices d ≡ Some device → device.heard ≤ length fleet.reports

-- the happening came behind these events, and this is its reply; or it is refused by this fault
abbrev pub Stepped : FleetState → List Event → Happening → Result Reply StepFault → FleetState → Type 0
Stepped old past happening result new = MatchResult result
    (λ reply. (event : Event) × MayHappenAs (device_count old) past happening event × IsReply past event reply × StandsFor new (past ++ event ∷ []))
    (λ fault. IsRefused (device_count old) past happening fault)
