-- What one bootstrap step changes of a device.
use Rattle.std.specs.Prelude.{◌≡◌, ℕ, ◌+◌, ◌-◌, List, Some, length, if◌then◌else◌}
use Rattle.std.specs.Option.{option_map_or}
use Rattle.nuc_base.specs.declared.kinds.Exit.{Exit}
use Rattle.records.specs.Stored.{BootBegun, BootEnded}
use Rattle.device.specs.Devices.{Device}
use Rattle.device.specs.Lawful.{applied, boots_of}
use Rattle.histories.specs.Phases.{duty_of}

-- the one that is next begins; where it was begun before, nothing changes
abbrev pub DeviceAfterBegin : Device → Device → Type 0
DeviceAfterBegin d e = (name : List ℕ) × ((duty_of d).next_bootstrap ≡ Some name) × (e ≡ applied d (BootBegun name))

-- the one that is next ends so
abbrev pub DeviceAfterEnd : Device → Exit → Device → Type 0
DeviceAfterEnd d exit e = (name : List ℕ) × ((duty_of d).next_bootstrap ≡ Some name) × (e ≡ applied d (BootEnded name exit))

-- it begins and ends
abbrev pub DeviceAfterBoot : Device → Exit → Device → Type 0
DeviceAfterBoot d exit e = (begun : Device) × DeviceAfterBegin d begun × DeviceAfterEnd begun exit e

-- so many steps are left at most; none is after one that failed
abbrev pub steps_left : Device → ℕ
steps_left d = option_map_or (λ q. if q.boot_failed then 0 else 1 + (length (boots_of q) - q.ended)) d.pending 0
