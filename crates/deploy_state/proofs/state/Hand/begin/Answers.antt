use Rattle.std.proofs.Common.{inl}
use Rattle.device.specs.Lawful.{applied}
use Rattle.deploy_state.specs.Owned.{StandsForEither}
use Rattle.deploy_state.specs.States.{device_of}
use Rattle.deploy_state.proofs.Steps.{in_hand_stands, may_begin}
use Rattle.deploy_state.proofs.Within.{start_within}
use Rattle.deploy_state.proofs.state.Hand.begin.Goals as goal

pub returns-then-is_begun-clause-moments : goal.returns-then-is_begun-clause-moments
returns-then-is_begun-clause-moments g c = λ r mark.
    let d = device_of c.args.self in
    start_within g.met.D.Disk.laws g.J.Journal.files c.args.disk.now (StandsForEither g.J.Journal.entries d (applied d r))
    (λ image left. inl (in_hand_stands g.met.D.Disk.laws g.met.J.Journal.laws c.args.self.log c.args.disk.now d c.requires.held.0 image left))

pub step-requires-clause-may : goal.step-requires-clause-may
step-requires-clause-may g c = may_begin (device_of c.args.self) c.requires.may (λ begun. let yes_begun = c.if-is_begun.ensures.1 begun in let none =
    c.if-is_begun.false in cc)
