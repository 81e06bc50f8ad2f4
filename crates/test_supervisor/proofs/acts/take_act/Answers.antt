use Rattle.std.proofs.Common.{◌≡◌, ◌∙◌, Some, subst}
use Rattle.components.specs.Acts.{NextAct}
use Rattle.components.specs.Components.{Components}
use Rattle.components.specs.declared.kinds.Act.{Act}
use Rattle.components.specs.declared.kinds.Act.TheVariants.{Start}
use Rattle.components.proofs.Platforms.{run_next}
use Rattle.test_supervisor.proofs.Free.{free_quietly}
use Rattle.test_supervisor.proofs.Handing.{broke_below, failed_below, stands_broke, stands_failed, stands_killed, stands_none}
use Rattle.test_supervisor.proofs.Moments.{moment_next}
use Rattle.test_supervisor.proofs.acts.take_act.Goals as goal

-- the act is this one
this : (w v : Components) (a b : Act) → a ≡ b → NextAct w (Some a) v → NextAct w (Some b) v
this w v a b is next = subst (λ (x : Act). NextAct w (Some x) v) is next

pub returns-in-None-clause-moment : goal.returns-in-None-clause-moment
returns-in-None-clause-moment c = moment_next c.args.supervisor.now _ c.next_act.new.self c.next_act.ensures.next ∙ c.requires.moment

pub returns-in-None-clause-stands : goal.returns-in-None-clause-stands
returns-in-None-clause-stands c = λ p h. stands_none p c.args.supervisor.now c.next_act.new.self c.in-None.ensures.next h

pub start-requires-clause-moment : goal.start-requires-clause-moment
start-requires-clause-moment c = moment_next c.args.supervisor.now _ c.next_act.new.self c.next_act.ensures.next ∙ c.requires.moment

pub note_failure-requires : goal.note_failure-requires
note_failure-requires c =
    let w = c.args.supervisor.now in
    let v = c.next_act.new.self in
    failed_below c.in-Failed.who c.in-Failed.step c.in-Failed.exit w v (this w v c.in-Some.act _ c.in-Failed.is c.in-Some.ensures.next)

pub note_failure-requires-in-Broke : goal.note_failure-requires-in-Broke
note_failure-requires-in-Broke c =
    let w = c.args.supervisor.now in
    let v = c.next_act.new.self in
    broke_below c.in-Broke.who c.in-Broke.step c.in-Broke.exit w v (this w v c.in-Some.act _ c.in-Broke.is c.in-Some.ensures.next)

pub returns-in_ok-start-in-Start-clause-stands : goal.returns-in_ok-start-in-Start-clause-stands
returns-in_ok-start-in-Start-clause-stands c = λ p h.
    let w = c.args.supervisor.now in
    let v = c.next_act.new.self in
    let next = this w v c.in-Some.act (Start c.in-Start.who c.in-Start.step) c.in-Start.is c.in-Some.ensures.next in
    record {
      answered = c.in_ok-start-in-Start.ensures.answered next.seen next.hands.2 (free_quietly next.made w next.seen next.quietly h.answered);
      ready = c.start.ensures.ready p (run_next p w (Some c.in-Some.act) v c.in-Some.ensures.next h.ready);
    }

pub returns-in_ok-note_kill-in-Kill-clause-moment : goal.returns-in_ok-note_kill-in-Kill-clause-moment
returns-in_ok-note_kill-in-Kill-clause-moment c = moment_next c.args.supervisor.now _ c.next_act.new.self c.next_act.ensures.next ∙ c.requires.moment

pub returns-in_ok-note_kill-in-Kill-clause-stands : goal.returns-in_ok-note_kill-in-Kill-clause-stands
returns-in_ok-note_kill-in-Kill-clause-stands c = λ p h.
    let w = c.args.supervisor.now in
    let v = c.next_act.new.self in
    stands_killed p c.in-Kill.child w v (this w v c.in-Some.act _ c.in-Kill.is c.in-Some.ensures.next) h

pub returns-in_ok-note_failure-in-Failed-clause-moment : goal.returns-in_ok-note_failure-in-Failed-clause-moment
returns-in_ok-note_failure-in-Failed-clause-moment c = moment_next c.args.supervisor.now _ c.next_act.new.self c.next_act.ensures.next ∙ c.requires.moment

pub returns-in_ok-note_failure-in-Failed-clause-stands : goal.returns-in_ok-note_failure-in-Failed-clause-stands
returns-in_ok-note_failure-in-Failed-clause-stands c = λ p h.
    let w = c.args.supervisor.now in
    let v = c.next_act.new.self in
    stands_failed p c.in-Failed.who c.in-Failed.step c.in-Failed.exit w v (this w v c.in-Some.act _ c.in-Failed.is c.in-Some.ensures.next) h

pub returns-in_ok-note_failure-in-Broke-clause-moment : goal.returns-in_ok-note_failure-in-Broke-clause-moment
returns-in_ok-note_failure-in-Broke-clause-moment c = moment_next c.args.supervisor.now _ c.next_act.new.self c.next_act.ensures.next ∙ c.requires.moment

pub returns-in_ok-note_failure-in-Broke-clause-stands : goal.returns-in_ok-note_failure-in-Broke-clause-stands
returns-in_ok-note_failure-in-Broke-clause-stands c = λ p h.
    let w = c.args.supervisor.now in
    let v = c.next_act.new.self in
    stands_broke p c.in-Broke.who c.in-Broke.step c.in-Broke.exit w v (this w v c.in-Some.act _ c.in-Broke.is c.in-Some.ensures.next) h
