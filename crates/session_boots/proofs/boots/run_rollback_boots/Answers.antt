use Rattle.std.proofs.Common.{subst}
use Rattle.device.specs.Devices.{Device}
use Rattle.deploy_state.specs.States.{backed_device, backing_device, device_of}
use Rattle.step_runner.specs.Entries.{Listed}
use Rattle.histories.specs.TraceEvents.{records_of}
use Rattle.session_boots.specs.Booted.{BootsLeft}
use Rattle.session_boots.specs.Staged.{backed_hand}
use Rattle.session_boots.proofs.Staged.{left_as, same_device, stage_backing}
use Rattle.session_boots.proofs.boots.run_rollback_boots.Goals as goal

pub run_stage-requires-clause-made : goal.run_stage-requires-clause-made
run_stage-requires-clause-made g c = stage_backing (backing_device c.args.state) c.args.made.now c.requires.held.1 c.requires.made

pub returns-clause-trace : goal.returns-clause-trace
returns-clause-trace g c = λ p world at_stage.
    let t = c.run_stage.ensures.trace p world at_stage in
    let told = Listed g.R.Runner.list g.R.Runner.told g.R.Runner.asked c.run_stage.new.runner in
    let living = g.R.Runner.living c.run_stage.new.runner in (
      t.0,
      t.1,
      t.2,
      left_as g.J.Journal.entries g.D.Disk.may_leave c.run_stage.new.disk p t.0
          (λ x q. BootsLeft x.1 (records_of t.0) q (device_of (backed_hand x.0)) world told living)
          (λ x q. BootsLeft x.1 (records_of t.0) q (backed_device x.0) world told living)
          (λ x q left. subst (λ (d : Device). BootsLeft x.1 (records_of t.0) q d world told living) (same_device x.0) left) c.run_stage.result t.3,
      t.4,
    )
