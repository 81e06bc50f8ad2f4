use Rattle.std.proofs.Common.{subst}
use Rattle.device.specs.Devices.{Device}
use Rattle.deploy_state.specs.Fields.{IsBegun}
use Rattle.deploy_state.specs.States.{backing_device}
use Rattle.test_states.proofs.Tested.{can_end}
use Rattle.test_states.proofs.driving.back_next.Goals as goal

pub ended-requires-clause-may : goal.ended-requires-clause-may
ended-requires-clause-may g c =
    can_end (backing_device c.args.backing) c.args.exit c.requires.next c.requires.well
    (subst (λ (d : Device). IsBegun d) c.device.ensures (c.is_begun.ensures c.if-not-is_begun.false))
