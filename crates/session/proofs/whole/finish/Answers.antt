use Rattle.std.proofs.Common.{◌≡◌, ◌∙◌, [], refl, sym, ap, subst}
use Rattle.deploy_state.specs.States.{idle_device}
use Rattle.step_runner.specs.Entries.{Listed}
use Rattle.session_boots.proofs.Acting.{acts_none}
use Rattle.session.specs.Parts.{IsBack, IsOver, RanLeft, status_of_ran}
use Rattle.session.specs.declared.ran.Ran.{Ran}
use Rattle.session.proofs.whole.finish.Goals as goal

-- ---- it came back

pub end_standing-requires-clause-drives : goal.end_standing-requires-clause-drives
end_standing-requires-clause-drives g c = c.requires.drives (subst IsBack (sym c.in-Back.is) tt)

pub end_standing-requires-clause-from_state : goal.end_standing-requires-clause-from_state
end_standing-requires-clause-from_state g c =
    let q = c.requires.from_state in
    let told = Listed g.R.Runner.list g.R.Runner.told g.R.Runner.asked c.args.runner.now in
    let l = subst (λ (r : Ran _). RanLeft q.1 r q.2 q.0 (g.S.Supervise.world c.args.supervisor.now) told (g.R.Runner.living c.args.runner.now)) c.in-Back.is
    q.3 in
    (q.0, idle_device c.in-Back.idle, l.0, q.4)

pub end_standing-requires-clause-other : goal.end_standing-requires-clause-other
end_standing-requires-clause-other g c =
    let q = c.requires.from_state in
    let told = Listed g.R.Runner.list g.R.Runner.told g.R.Runner.asked c.args.runner.now in
    let l = subst (λ (r : Ran _). RanLeft q.1 r q.2 q.0 (g.S.Supervise.world c.args.supervisor.now) told (g.R.Runner.living c.args.runner.now)) c.in-Back.is
    q.3 in
    l.3

pub returns-in-Back-clause-trace : goal.returns-in-Back-clause-trace
returns-in-Back-clause-trace g c = λ p before rose left serves.
    let told = Listed g.R.Runner.list g.R.Runner.told g.R.Runner.asked c.args.runner.now in
    let l = subst (λ (r : Ran _). RanLeft before r rose p (g.S.Supervise.world c.args.supervisor.now) told (g.R.Runner.living c.args.runner.now)) c.in-Back.is
    left in
    let t = c.end_standing.ensures.trace p (idle_device c.in-Back.idle) l.0 serves in
    (t.0, t.1, t.2 rose, t.3, (λ over. absurd (subst IsOver c.in-Back.is over)), t.4)

pub returns-in-Back-clause-status : goal.returns-in-Back-clause-status
returns-in-Back-clause-status g c = sym (ap status_of_ran c.in-Back.is)

-- ---- it ended already

pub returns-in-Over-clause-trace : goal.returns-in-Over-clause-trace
returns-in-Over-clause-trace g c = λ p before rose left serves.
    let list = g.R.Runner.list c.args.runner.now in
    let told = Listed g.R.Runner.list g.R.Runner.told g.R.Runner.asked c.args.runner.now in
    let l = subst (λ (r : Ran _). RanLeft before r rose p (g.S.Supervise.world c.args.supervisor.now) told (g.R.Runner.living c.args.runner.now)) c.in-Over.is
    left in
    ([], acts_none p list list refl, l, (λ is. refl), (λ over. refl), λ gives. tt)

pub returns-in-Over-clause-none : goal.returns-in-Over-clause-none
returns-in-Over-clause-none g c = c.requires.none (subst IsOver (sym c.in-Over.is) tt)

pub returns-in-Over-clause-status : goal.returns-in-Over-clause-status
returns-in-Over-clause-status g c = sym (ap status_of_ran c.in-Over.is)
