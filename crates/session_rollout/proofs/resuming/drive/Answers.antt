use Rattle.std.proofs.Common.{subst}
use Rattle.deploy_state.specs.States.{OwnsLoaded, activating_device, loaded_device, rolling_device}
use Rattle.deploy_state.specs.declared.state.Loaded.{Loaded}
use Rattle.session_admission.specs.Readied.{AreReadiedFor}
use Rattle.session_admission.proofs.Serving.{earlier_ready, items_ready}
use Rattle.session_rollout.proofs.resuming.drive.Goals as goal

pub activate_on-requires-clause-items : goal.activate_on-requires-clause-items
activate_on-requires-clause-items g c =
    let items = g.S.Supervise.coming c.args.ready.items in
    let earlier = g.S.Supervise.coming c.args.ready.earlier in
    let held = subst (λ (s : Loaded _). OwnsLoaded g.D.Disk.is_modelled g.D.Disk.may_leave g.J.Journal.stands g.J.Journal.end s c.args.disk.now)
    c.in-Activating.is c.requires.held in
    items_ready c.args.ready.boots c.args.ready.backs items earlier (activating_device c.in-Activating.state) held.1
    (subst (λ (s : Loaded _). AreReadiedFor (loaded_device s) c.args.ready.boots c.args.ready.backs items earlier) c.in-Activating.is c.requires.ready)

pub roll_on-requires-clause-ready : goal.roll_on-requires-clause-ready
roll_on-requires-clause-ready g c =
    let items = g.S.Supervise.coming c.args.ready.items in
    let earlier = g.S.Supervise.coming c.args.ready.earlier in
    let held = subst (λ (s : Loaded _). OwnsLoaded g.D.Disk.is_modelled g.D.Disk.may_leave g.J.Journal.stands g.J.Journal.end s c.args.disk.now)
    c.in-Rolling.is c.requires.held in
    earlier_ready c.args.ready.boots c.args.ready.backs items earlier (rolling_device c.in-Rolling.state) held.1
    (subst (λ (s : Loaded _). AreReadiedFor (loaded_device s) c.args.ready.boots c.args.ready.backs items earlier) c.in-Rolling.is c.requires.ready)
