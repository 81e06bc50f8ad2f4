use Rattle.deploy_state.specs.States.{device_of}
use Rattle.session_boots.specs.Staged.{backed_hand}
use Rattle.session_boots.proofs.Staged.{none_ends, rolling_is}
use Rattle.session_boots.proofs.stage.BackedBootStage.ended.Goals as goal

pub unreachable-requires : goal.unreachable-requires
unreachable-requires g c =
    none_ends (device_of (backed_hand c.args.self)) c.args.exit (rolling_is c.args.self _ c.in-Rolling.is c.requires.held.1) c.requires.may
