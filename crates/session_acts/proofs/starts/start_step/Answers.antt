use Rattle.std.proofs.Common.{◌≡◌, ◌∙◌, ◌++◌, inl, sym, ap, subst, arith}
use Rattle.step_runner.specs.Entries.{Listed}
use Rattle.components.specs.Components.{Components}
use Rattle.components.specs.Events.{later, skipped}
use Rattle.histories.specs.States.{SessionState, state_after}
use Rattle.histories.proofs.Joined.{left-append}
use Rattle.session_acts.specs.Runs.{IsInTurn}
use Rattle.session_acts.proofs.Entering.{later_same, turn_on}
use Rattle.session_acts.proofs.Starting.{handed_world, starting_moment}
use Rattle.session_acts.proofs.starts.start_step.Goals as goal

pub event-requires-clause-answers : goal.event-requires-clause-answers
event-requires-clause-answers g c =
    let q = c.requires.from_state in
    handed_world c.args.who c.args.step (g.S.Supervise.world c.args.supervisor.now) q.0.world q.1.world_is q.1.start

pub event-requires-clause-late : goal.event-requires-clause-late
event-requires-clause-late g c =
    let q = c.requires.from_state in
    omega (arith, ap (λ (w : Components). w.moment) q.1.world_is, q.1.within.moment, c.requires.now.0)

pub launch-requires-clause-now : goal.launch-requires-clause-now
launch-requires-clause-now g c = (c.is_skipped.ensures.moment ∙ c.requires.now.0, c.requires.now.1)

pub launch-requires-clause-from_state : goal.launch-requires-clause-from_state
launch-requires-clause-from_state g c =
    let q = c.requires.from_state in
    let s = c.is_skipped.ensures.starts c.if-is_skipped.false q.0 q.1 in
    (state_after q.0 s.0, s.2)

pub returns-then-is_skipped-clause-now : goal.returns-then-is_skipped-clause-now
returns-then-is_skipped-clause-now g c = c.is_skipped.ensures.moment ∙ c.requires.now.0

pub returns-then-is_skipped-clause-trace : goal.returns-then-is_skipped-clause-trace
returns-then-is_skipped-clause-trace g c = λ p starting.
    let old = Listed g.R.Runner.list g.R.Runner.told g.R.Runner.asked c.args.runner.now in
    let new = Listed g.R.Runner.list g.R.Runner.told g.R.Runner.asked c.is_skipped.new.runner in
    let world = g.S.Supervise.world c.args.supervisor.now in
    let who = c.args.who in
    let e = c.is_skipped.ensures.skipped c.if-is_skipped.true p starting in
    let same : later c.args.now world ≡ world = later_same c.args.now world
    (sym c.requires.now.0 ∙ starting_moment p who c.args.step world old (g.R.Runner.living c.args.runner.now) starting) in
    let after : g.S.Supervise.world c.event.new.self ≡ skipped who world = c.event.ensures ∙ ap (λ (w : Components). skipped who w) same in
    (e.0, e.1, subst (λ (w : Components). IsInTurn (state_after p e.0) w new (g.R.Runner.living c.is_skipped.new.runner)) (sym after) e.2)

pub returns-clause-trace : goal.returns-clause-trace
returns-clause-trace g c = λ p starting.
    let s = c.is_skipped.ensures.starts c.if-is_skipped.false p starting in
    let q = state_after p s.0 in
    let l = c.launch.ensures.trace q s.2 in
    let new = Listed g.R.Runner.list g.R.Runner.told g.R.Runner.asked c.launch.new.runner in (
      l.0 ++ s.0,
      turn_on p s.0 l.0 (g.R.Runner.list c.args.runner.now) (g.R.Runner.list c.is_skipped.new.runner) (g.R.Runner.list c.launch.new.runner) s.1 l.1,
      subst (λ (x : SessionState). IsInTurn x (g.S.Supervise.world c.launch.new.supervisor) new (g.R.Runner.living c.launch.new.runner))
          (sym (left-append p l.0 s.0)) l.2,
    )

pub returns-then-is_skipped-clause-answered : goal.returns-then-is_skipped-clause-answered
returns-then-is_skipped-clause-answered g c =
    let q = c.requires.from_state in
    let world = g.S.Supervise.world c.args.supervisor.now in
    (handed_world c.args.who c.args.step world q.0.world q.1.world_is q.1.start, inl c.event.ensures)

pub returns-clause-answered : goal.returns-clause-answered
returns-clause-answered g c = c.launch.ensures.answered
