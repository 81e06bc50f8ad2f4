-- Devices that stay met along the records of a call.
use Rattle.std.specs.Prelude.{◌≡◌, List, ◌++◌}
use Rattle.records.specs.Stored.{Record}
use Rattle.device.specs.Devices.{Device}
use Rattle.device.specs.Lawful.{Run}
use Rattle.device.specs.Met.{BringMet, Met}

-- each device that a prefix of the records makes of this one is met, where this one is
abbrev pub StayMet : Device → List Record → Type 0
StayMet d records = Met d → (prefix rest : List Record) (e : Device) → records ≡ prefix ++ rest → Run d prefix e → Met e

-- so it is where each plan that the records bring meets what all groups then ask
abbrev pub BroughtStayMet : Type 0
BroughtStayMet = (d : Device) (records : List Record) → BringMet d records → StayMet d records
