use Rattle.std.proofs.Common.{sym, subst}
use Rattle.components.specs.Events.{later}
use Rattle.components.specs.Platforms.{AllRunFor}
use Rattle.components.specs.Components.{Components}
use Rattle.components.proofs.Platforms.{run_noticed}
use Rattle.test_supervisor.proofs.Handing.{has_handed, has_prepared}
use Rattle.test_supervisor.proofs.acts.start.Goals as goal

pub answer_of-answer-requires-clause-handed : goal.answer_of-answer-requires-clause-handed
answer_of-answer-requires-clause-handed c =
    let h = c.requires.handed in
    has_handed c.args.who c.args.step c.args.supervisor.now h.0 h.1 h.2

pub answer_of-answer-requires-clause-prepared : goal.answer_of-answer-requires-clause-prepared
answer_of-answer-requires-clause-prepared c =
    let h = c.requires.handed in
    has_prepared c.args.who c.args.step c.args.supervisor.now h.0 h.1 h.2

pub note_start-requires : goal.note_start-requires
note_start-requires c =
    let h = c.requires.handed in
    record { prepared = has_prepared c.args.who c.args.step c.args.supervisor.now h.0 h.1 h.2 }

pub returns-clause-ready : goal.returns-clause-ready
returns-clause-ready c = λ p a.
    subst (λ (w : Components). AllRunFor p w.parts) (sym c.event.ensures) (run_noticed p c.answer_of-answer.result (later c.args.now c.args.supervisor.now) a)
