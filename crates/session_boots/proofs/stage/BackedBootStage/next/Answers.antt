use Rattle.std.proofs.Common.{sym}
use Rattle.deploy_state.specs.States.{device_of}
use Rattle.session_boots.specs.Staged.{backed_hand}
use Rattle.session_boots.proofs.Staged.{none_named, rolling_is}
use Rattle.session_boots.proofs.stage.BackedBootStage.next.Goals as goal

pub returns-in-Rolling : goal.returns-in-Rolling
returns-in-Rolling g c = sym (none_named (device_of (backed_hand c.args.self.now)) (rolling_is c.args.self.now _ c.in-Rolling.is c.requires))
