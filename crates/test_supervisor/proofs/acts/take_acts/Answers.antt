use Rattle.test_supervisor.proofs.acts.take_acts.Goals as goal

pub returns-then-not-branch-clause-stands : goal.returns-then-not-branch-clause-stands
returns-then-not-branch-clause-stands c = λ p h. c.in_ok-take_act.ensures.stands p (c.loop-act.invariant.1 p h)

pub loop-act-preserved : goal.loop-act-preserved
loop-act-preserved c = (c.in_ok-take_act.ensures.moment, λ p h. c.in_ok-take_act.ensures.stands p (c.loop-act.invariant.1 p h))
