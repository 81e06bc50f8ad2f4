-- Faults that are passed on.
use Rattle.disk_model.specs.declared.disk.ListFault.{ListFault}
use Rattle.disk_model.specs.declared.disk.ListFault.TheVariants as list
use Rattle.library_core.specs.declared.library.LibraryFault.{LibraryFault}
use Rattle.library_core.specs.declared.library.LibraryFault.TheVariants as library
use Rattle.artifact_store.specs.declared.fault.StageFault.{StageFault}
use Rattle.artifact_store.specs.declared.fault.StageFault.TheVariants as stage
use Rattle.artifact_store.specs.declared.fault.SweepFault.{SweepFault}
use Rattle.artifact_store.specs.declared.fault.SweepFault.TheVariants as sweep

abbrev pub fault_of : LibraryFault → StageFault
fault_of library.Failed = stage.Library
fault_of library.NoMemory = stage.NoMemory

abbrev pub swept_of : ListFault → SweepFault
swept_of list.Disk = sweep.Disk
swept_of list.NoMemory = sweep.NoMemory
