use Rattle.std.proofs.Common.{◌≡◌, IfOk, subst}
use Rattle.nuc_base.specs.declared.kinds.Outcome.{Outcome}
use Rattle.disk_model.specs.Disk.{HasLeft}
use Rattle.records.specs.Stored as stored
use Rattle.device.specs.Lawful.{applied}
use Rattle.deploy_state.specs.Owned.{LeavesEither}
use Rattle.deploy_state.specs.States.{device_of, idle_device}
use Rattle.deploy_state.proofs.Steps.{may_roll}
use Rattle.deploy_state.proofs.state.Rolling.close.Goals as goal

pub close-requires-clause-may : goal.close-requires-clause-may
close-requires-clause-may g c = rw c.outcome_in-outcome.ensures (may_roll (device_of c.args.self.hand) c.requires.held.1)

pub returns-clause-moments : goal.returns-clause-moments
returns-clause-moments g c =
    let d = device_of c.args.self.hand in
    subst (λ (o : Outcome). HasLeft g.D.Disk.moment g.D.Disk.left_since c.args.disk.now c.close.new.disk
    (LeavesEither g.D.Disk.may_leave g.J.Journal.files g.J.Journal.entries c.args.disk.now d (applied d (stored.Closed o))))
    c.outcome_in-outcome.ensures c.close.ensures.moments

pub returns-clause-taken : goal.returns-clause-taken
returns-clause-taken g c =
    let d = device_of c.args.self.hand in
    subst (λ (o : Outcome). IfOk c.close.result (λ s. idle_device s ≡ applied d (stored.Closed o))) c.outcome_in-outcome.ensures c.close.ensures.taken
