use Rattle.std.proofs.Common.{Result, Ok, Err}
use Rattle.disk_model.specs.Disk.{Image}
use Rattle.checkpoint_log.specs.Slots.{slots_entries, slots_none, slots_damaged}
use Rattle.checkpoint_log.specs.declared.slots.Slots.{Slots}
use Rattle.deploy_state.specs.Loading.{LoadOutcome}
use Rattle.deploy_state.specs.States.{loaded_device}
use Rattle.deploy_state.specs.declared.fault.LoadFault.{LoadFault}
use Rattle.deploy_state.specs.declared.fault.LoadFault.TheVariants as load
use Rattle.deploy_state.specs.declared.state.Loaded.{Loaded}
use Rattle.nucleus_top.specs.Opening.{OpenAnswer}
use Rattle.nucleus_top.proofs.Origins.{has_entry}
use Rattle.nucleus_top.proofs.opening.open.Goals as goal

opens : (image : Image) (result : Result (Loaded Slots) LoadFault) → LoadOutcome slots_entries slots_none slots_damaged image result → OpenAnswer image result
opens image (Ok s) loads = (has_entry image (loaded_device s) loads.0 loads.1, loads.0)
opens image (Err load.Disk) loads = tt
opens image (Err load.NotInitialised) loads = loads
opens image (Err (load.Damaged at)) loads = loads
opens image (Err load.NoMemory) loads = tt

pub returns-clause-told : goal.returns-clause-told
returns-clause-told g c = λ is_modelled. opens (g.D.Disk.seen c.args.disk.now) c.load.result (c.load.ensures.told is_modelled)

pub returns-clause-held : goal.returns-clause-held
returns-clause-held g c = c.load.ensures.held

pub returns-clause-ready : goal.returns-clause-ready
returns-clause-ready g c = c.load.ensures.ready

pub returns-clause-settled : goal.returns-clause-settled
returns-clause-settled g c = c.load.ensures.settled

pub returns-clause-seen : goal.returns-clause-seen
returns-clause-seen g c = c.load.ensures.seen

pub returns-clause-moments : goal.returns-clause-moments
returns-clause-moments g c = c.load.ensures.moments

pub returns-clause-cause : goal.returns-clause-cause
returns-clause-cause g c = c.load.ensures.cause

pub returns-clause-quiet : goal.returns-clause-quiet
returns-clause-quiet g c = c.load.ensures.quiet

pub returns-clause-later : goal.returns-clause-later
returns-clause-later g c = c.load.ensures.later
