-- What is answered where the journal gives no device.
use Rattle.std.specs.Prelude.{◌≡◌, IsTrue, ⊤}
use Rattle.std.specs.Fmt.{decimal}
use Rattle.checkpoint_log.specs.Slots.{slots_none}
use Rattle.deploy_state.specs.declared.fault.LoadFault.{LoadFault}
use Rattle.deploy_state.specs.declared.fault.LoadFault.TheVariants as load
use Rattle.nucleus_top.specs.Answers.{Store, IsUnchanged, HasRisen}
use Rattle.nucleus_top.specs.Inits.{IsRefusedAt}
use Rattle.nucleus_top.specs.declared.answer.Answer.{Answer}
use Rattle.nucleus_top.specs.declared.answer.Answer.TheVariants.{DiskFailed, NotInitialised, Damaged, NoMemory}

-- the answer that tells this fault, or want of memory
abbrev pub TellsFault : LoadFault → Answer → Type 0
TellsFault load.Disk DiskFailed = ⊤
TellsFault load.NotInitialised NotInitialised = ⊤
TellsFault (load.Damaged at) (Damaged place) = place ≡ decimal at
TellsFault (load.Damaged at) NoMemory = ⊤
TellsFault load.NoMemory NoMemory = ⊤
TellsFault _ _ = ⊥

-- why such an answer comes; every file reads as before
abbrev pub NoDeviceAnswer : Store → Answer → Type 0
NoDeviceAnswer store DiskFailed = IsUnchanged store × HasRisen store
NoDeviceAnswer store NotInitialised = IsUnchanged store × (IsTrue store.is_modelled → slots_none store.before)
NoDeviceAnswer store (Damaged place) = IsRefusedAt store place
NoDeviceAnswer store NoMemory = IsUnchanged store
NoDeviceAnswer store _ = ⊥
