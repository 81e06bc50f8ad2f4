use Rattle.std.proofs.Common.{◌≡◌, None, sym, subst}
use Rattle.records.specs.Stored as stored
use Rattle.device.specs.Devices.{Device}
use Rattle.deploy_state.specs.States.{device_of}
use Rattle.deploy_state.proofs.Steps.{closed_idle, mark_closed, may_close}
use Rattle.deploy_state.proofs.state.Hand.close.Goals as goal

pub note-requires-clause-may : goal.note-requires-clause-may
note-requires-clause-may g c = may_close (device_of c.args.self) c.args.outcome c.requires.may

pub returns-in-Ok-clause-moments : goal.returns-in-Ok-clause-moments
returns-in-Ok-clause-moments g c = c.note.ensures.moments (stored.Closed c.args.outcome) (mark_closed (device_of c.args.self) c.args.outcome c.requires.may)

pub returns-in-Ok-clause-taken : goal.returns-in-Ok-clause-taken
returns-in-Ok-clause-taken g c = c.in-Ok.ensures.taken (stored.Closed c.args.outcome) (mark_closed (device_of c.args.self) c.args.outcome c.requires.may)

pub returns-in-Ok-clause-idle : goal.returns-in-Ok-clause-idle
returns-in-Ok-clause-idle g c =
    let d = device_of c.args.self in
    let mark = mark_closed d c.args.outcome c.requires.may in
    let taken = c.in-Ok.ensures.taken (stored.Closed c.args.outcome) mark in
    (c.in-Ok.ensures.hand, subst (λ (e : Device). e.pending ≡ None) (sym taken) (closed_idle d c.args.outcome (stored.Closed c.args.outcome) mark))

pub returns-in-Err-clause-moments : goal.returns-in-Err-clause-moments
returns-in-Err-clause-moments g c = c.note.ensures.moments (stored.Closed c.args.outcome) (mark_closed (device_of c.args.self) c.args.outcome c.requires.may)
