use Rattle.std.proofs.Common.{◌≡◌, ◌∙◌, inl, inr, sym, ap, subst, arith}
use Rattle.step_runner.specs.Entries.{Listed}
use Rattle.components.specs.Components.{Components, owner}
use Rattle.components.specs.Events.{later, refused, started}
use Rattle.histories.specs.States.{state_after}
use Rattle.session_acts.specs.Runs.{IsInTurn}
use Rattle.session_acts.proofs.Entering.{later_same}
use Rattle.session_acts.proofs.Starting.{handed_moment, handed_world, is_new, owner_handed, prepared_world, refuse_runs, start_runs}
use Rattle.session_acts.proofs.starts.launch.Goals as goal

pub command-requires : goal.command-requires
command-requires g c =
    let q = c.requires.from_state in
    prepared_world c.args.who c.args.step (g.S.Supervise.world c.args.supervisor.now) q.0.world q.1.world_is q.1.start

pub event-requires-clause-answers : goal.event-requires-clause-answers
event-requires-clause-answers g c =
    let q = c.requires.from_state in
    let v = g.S.Supervise.world c.args.supervisor.now in
    let old = Listed g.R.Runner.list g.R.Runner.told g.R.Runner.asked c.args.runner.now in
    let new = is_new q.0 old (g.R.Runner.living c.args.runner.now) c.in-Ok.child q.1.within c.in-Ok.ensures.fresh in (
      handed_world c.args.who c.args.step v q.0.world q.1.world_is q.1.start,
      ap (λ (w : Components). owner c.in-Ok.child w.parts) q.1.world_is ∙ owner_handed c.args.who c.in-Ok.child q.0.world ∙ new,
    )

pub event-requires-clause-late : goal.event-requires-clause-late
event-requires-clause-late g c =
    let q = c.requires.from_state in
    omega (arith, ap (λ (w : Components). w.moment) q.1.world_is, q.1.within.moment, c.requires.now.0)

pub event-requires-in-Err-clause-answers : goal.event-requires-in-Err-clause-answers
event-requires-in-Err-clause-answers g c =
    let q = c.requires.from_state in
    handed_world c.args.who c.args.step (g.S.Supervise.world c.args.supervisor.now) q.0.world q.1.world_is q.1.start

pub event-requires-in-Err-clause-late : goal.event-requires-in-Err-clause-late
event-requires-in-Err-clause-late g c =
    let q = c.requires.from_state in
    omega (arith, ap (λ (w : Components). w.moment) q.1.world_is, q.1.within.moment, c.requires.now.0)

pub returns-in-Ok-clause-trace : goal.returns-in-Ok-clause-trace
returns-in-Ok-clause-trace g c = λ p may.
    let old = Listed g.R.Runner.list g.R.Runner.told g.R.Runner.asked c.args.runner.now in
    let new = Listed g.R.Runner.list g.R.Runner.told g.R.Runner.asked c.start.new.self in
    let world = g.S.Supervise.world c.args.supervisor.now in
    let who = c.args.who in
    let step = c.args.step in
    let e = start_runs c.orderly_laws.ensures p who step c.in-Ok.child c.command.result.now world old new (g.R.Runner.living c.args.runner.now)
    (g.R.Runner.living c.start.new.self) may c.command.ensures c.in-Ok.ensures.ok c.in-Ok.ensures.lives c.in-Ok.ensures.fresh in
    let same : later c.args.now world ≡ world = later_same c.args.now world
    (sym c.requires.now.0 ∙ handed_moment p who step world old (g.R.Runner.living c.args.runner.now) may) in
    let after : g.S.Supervise.world c.event.new.self ≡ started who step c.in-Ok.child world =
    c.event.ensures ∙ ap (λ (w : Components). started who step c.in-Ok.child w) same in
    (e.h, e.acts, subst (λ (w : Components). IsInTurn (state_after p e.h) w new (g.R.Runner.living c.start.new.self)) (sym after) e.runs)

pub returns-in-Err-clause-trace : goal.returns-in-Err-clause-trace
returns-in-Err-clause-trace g c = λ p may.
    let old = Listed g.R.Runner.list g.R.Runner.told g.R.Runner.asked c.args.runner.now in
    let new = Listed g.R.Runner.list g.R.Runner.told g.R.Runner.asked c.start.new.self in
    let world = g.S.Supervise.world c.args.supervisor.now in
    let who = c.args.who in
    let step = c.args.step in
    let e = refuse_runs c.orderly_laws.ensures p who step c.command.result.now world old new (g.R.Runner.living c.args.runner.now)
    (g.R.Runner.living c.start.new.self) may c.command.ensures c.in-Err.ensures.err c.in-Err.ensures.same.0 in
    let same : later c.args.now world ≡ world = later_same c.args.now world
    (sym c.requires.now.0 ∙ handed_moment p who step world old (g.R.Runner.living c.args.runner.now) may) in
    let after : g.S.Supervise.world c.event-in-Err.new.self ≡ refused who step world = c.event-in-Err.ensures ∙ ap (λ (w : Components). refused who step w)
    same in
    (e.h, e.acts, subst (λ (w : Components). IsInTurn (state_after p e.h) w new (g.R.Runner.living c.start.new.self)) (sym after) e.runs)

pub returns-in-Ok-clause-answered : goal.returns-in-Ok-clause-answered
returns-in-Ok-clause-answered g c =
    let q = c.requires.from_state in
    let world = g.S.Supervise.world c.args.supervisor.now in
    (handed_world c.args.who c.args.step world q.0.world q.1.world_is q.1.start, inr (inr (c.in-Ok.child, c.event.ensures)))

pub returns-in-Err-clause-answered : goal.returns-in-Err-clause-answered
returns-in-Err-clause-answered g c =
    let q = c.requires.from_state in
    let world = g.S.Supervise.world c.args.supervisor.now in
    (handed_world c.args.who c.args.step world q.0.world q.1.world_is q.1.start, inr (inl c.event-in-Err.ensures))
