use Rattle.std.proofs.Common.{Bool, true, false, [], ◌∷◌, subst}
use Rattle.step_runner.specs.Entries.{Listed, HasNoted}
use Rattle.histories.specs.TraceEvents.{Booted}
use Rattle.session_boots.specs.Steps.{probe_seen}
use Rattle.session_boots.proofs.Entries.{entry, no_probe, probe_no, probe_yes}
use Rattle.session_boots.proofs.steps.is_skipped.Goals as goal

pub returns-in-Some-clause-skipped : goal.returns-in-Some-clause-skipped
returns-in-Some-clause-skipped g c = λ is p may.
    let old = Listed g.R.Runner.list g.R.Runner.told g.R.Runner.asked c.args.runner.now in
    let new = Listed g.R.Runner.list g.R.Runner.told g.R.Runner.asked c.probes.new.runner in
    let x = c.in-Some.skip in
    let e = probe_yes p c.args.step.now old new x may c.in-Some.is (subst (λ (b : Bool). HasNoted old new (probe_seen x b)) is c.probes.ensures.notes) in
    (Booted (entry old (probe_seen x true)) c.args.step.now ∷ [], e.acts, e.ended)

pub returns-in-Some-clause-starts : goal.returns-in-Some-clause-starts
returns-in-Some-clause-starts g c = λ is p may.
    let old = Listed g.R.Runner.list g.R.Runner.told g.R.Runner.asked c.args.runner.now in
    let new = Listed g.R.Runner.list g.R.Runner.told g.R.Runner.asked c.probes.new.runner in
    let x = c.in-Some.skip in
    let e = probe_no p c.args.step.now old new x may c.in-Some.is (subst (λ (b : Bool). HasNoted old new (probe_seen x b)) is c.probes.ensures.notes) in
    (Booted (entry old (probe_seen x false)) c.args.step.now ∷ [], e.acts, e.start, e.probed)

pub returns-in-None-clause-starts : goal.returns-in-None-clause-starts
returns-in-None-clause-starts g c = λ is p may.
    let old = Listed g.R.Runner.list g.R.Runner.told g.R.Runner.asked c.args.runner.now in
    let e = no_probe p c.args.step.now old may c.in-None.is in
    ([], e.acts, e.start, e.probed)
