use Rattle.deploy_state.specs.States.{booting_device}
use Rattle.session_boots.proofs.Staged.{stage_booting}
use Rattle.session_boots.proofs.boots.run_boots.Goals as goal

pub run_stage-requires-clause-made : goal.run_stage-requires-clause-made
run_stage-requires-clause-made g c = stage_booting (booting_device c.args.state) c.args.made.now c.requires.held.1 c.requires.made
