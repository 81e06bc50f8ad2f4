-- What a command answers that looks at the device for which the journal stands, and writes nothing.
use Rattle.std.specs.Prelude.{ℕ, List}
use Rattle.device.specs.Devices.{Device}
use Rattle.nucleus_top.specs.Answers.{Store, IsUnchanged}
use Rattle.nucleus_top.specs.Planning.{IsFound}
use Rattle.nucleus_top.specs.Refusing.{NoDeviceAnswer}
use Rattle.nucleus_top.specs.declared.answer.Answer.{Answer}
use Rattle.nucleus_top.specs.declared.answer.Answer.TheVariants.{DiskFailed, NotInitialised, Damaged, NoMemory}

-- An answer comes by what it says of that device, or the journal gives none, or memory ran out. Every file reads as before.
abbrev pub LookAnswer : Store → (Device → Answer → Type 0) → Answer → Type 0
LookAnswer store On DiskFailed = NoDeviceAnswer store DiskFailed
LookAnswer store On NotInitialised = NoDeviceAnswer store NotInitialised
LookAnswer store On (Damaged place) = NoDeviceAnswer store (Damaged place)
LookAnswer store On NoMemory = NoDeviceAnswer store NoMemory
LookAnswer store On answer = IsUnchanged store × ((d : Device) × IsFound store d × On d answer)
