use Rattle.std.proofs.Common.{inl, arith}
use Rattle.records.specs.Stored as stored
use Rattle.records.specs.Stored.{plan_view}
use Rattle.device.specs.Lawful.{applied}
use Rattle.device.specs.Standing.{StandsFor}
use Rattle.deploy_state.specs.Owned.{StandsForEither}
use Rattle.deploy_state.specs.States.{idle_device}
use Rattle.deploy_state.proofs.Within.{then_within}
use Rattle.deploy_state.proofs.state.Idle.enter_anew.Goals as goal

pub returns-in-Ok-enter-clause-moments : goal.returns-in-Ok-enter-clause-moments
returns-in-Ok-enter-clause-moments g c =
    let d = idle_device c.args.self in
    let e = applied d (stored.Accepted (plan_view c.args.kit.plan)) in
    let entries = g.J.Journal.entries in
    then_within g.met.D.Disk.laws g.J.Journal.files c.args.disk.now c.turn.new.disk c.enter.new.disk (λ i. StandsFor entries i d)
    (StandsForEither entries d e) (StandsForEither entries d e)
    c.turn.ensures.moments c.enter.ensures.moments (λ i h. inl h) (λ i h. h)

pub returns-in-Err-clause-moments : goal.returns-in-Err-clause-moments
returns-in-Err-clause-moments g c =
    let d = idle_device c.args.self in
    let e = applied d (stored.Accepted (plan_view c.args.kit.plan)) in
    let entries = g.J.Journal.entries in
    then_within g.met.D.Disk.laws g.J.Journal.files c.args.disk.now c.turn.new.disk c.enter.new.disk (λ i. StandsFor entries i d)
    (StandsForEither entries d e) (StandsForEither entries d e)
    c.turn.ensures.moments c.enter.ensures.moments (λ i h. inl h) (λ i h. h)

pub returns-in-Ok-enter-clause-ready : goal.returns-in-Ok-enter-clause-ready
returns-in-Ok-enter-clause-ready g c = λ told.
    c.in-Ok-enter.ensures.ready (λ t. omega (arith, c.in-Ok.ensures.ready t, c.in-Ok.ensures.end, c.requires.to)) told
