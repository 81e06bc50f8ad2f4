use Rattle.std.proofs.Common.{Bool, Some, None, subst}
use Rattle.step_runner.specs.Entries.{Listed, HasNoted}
use Rattle.components.specs.Components.{At}
use Rattle.session_boots.specs.Steps.{probe_seen}
use Rattle.session_acts.proofs.Starting.{SkipIs, no_probe, prepared_world, probe_no, probe_yes}
use Rattle.session_acts.proofs.starts.is_skipped.Goals as goal

pub skip-requires : goal.skip-requires
skip-requires g c =
    let q = c.requires.from_state in
    prepared_world c.args.who c.args.step (g.S.Supervise.world c.args.supervisor.now) q.0.world q.1.world_is q.1.start

pub returns-in-Some-clause-skipped : goal.returns-in-Some-clause-skipped
returns-in-Some-clause-skipped g c = λ is p starting.
    let old = Listed g.R.Runner.list g.R.Runner.told g.R.Runner.asked c.args.runner.now in
    let new = Listed g.R.Runner.list g.R.Runner.told g.R.Runner.asked c.probes.new.runner in
    let world = g.S.Supervise.world c.args.supervisor.now in
    let x = c.in-Some.skip.now in
    let told : At c.args.who (SkipIs c.args.step (Some x)) world.parts = c.in-Some.ensures in
    let e = probe_yes c.orderly_laws.ensures p c.args.who c.args.step x world old new (g.R.Runner.living c.args.runner.now)
    (g.R.Runner.living c.probes.new.runner) starting told
    (subst (λ (b : Bool). HasNoted old new (probe_seen x b)) is c.probes.ensures.notes) c.probes.ensures.lives in
    (e.h, e.acts, e.runs)

pub returns-in-Some-clause-starts : goal.returns-in-Some-clause-starts
returns-in-Some-clause-starts g c = λ is p starting.
    let old = Listed g.R.Runner.list g.R.Runner.told g.R.Runner.asked c.args.runner.now in
    let new = Listed g.R.Runner.list g.R.Runner.told g.R.Runner.asked c.probes.new.runner in
    let world = g.S.Supervise.world c.args.supervisor.now in
    let x = c.in-Some.skip.now in
    let told : At c.args.who (SkipIs c.args.step (Some x)) world.parts = c.in-Some.ensures in
    let e = probe_no p c.args.who c.args.step x world old new (g.R.Runner.living c.args.runner.now) (g.R.Runner.living c.probes.new.runner) starting told
    (subst (λ (b : Bool). HasNoted old new (probe_seen x b)) is c.probes.ensures.notes) c.probes.ensures.lives in
    (e.h, e.acts, e.may)

pub returns-in-None-clause-starts : goal.returns-in-None-clause-starts
returns-in-None-clause-starts g c = λ is p starting.
    let old = Listed g.R.Runner.list g.R.Runner.told g.R.Runner.asked c.args.runner.now in
    let world = g.S.Supervise.world c.args.supervisor.now in
    let told : At c.args.who (SkipIs c.args.step None) world.parts = c.in-None.ensures in
    let e = no_probe p c.args.who c.args.step world old (g.R.Runner.living c.args.runner.now) starting told in
    (e.h, e.acts, e.may)
