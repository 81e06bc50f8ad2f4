use Rattle.std.proofs.Common.{◌∙◌, sym, ap, arith}
use Rattle.step_runner.specs.Entries.{Listed}
use Rattle.components.specs.Components.{Components}
use Rattle.session_acts.proofs.Taken.{waited_goes_on, waited_not_above}
use Rattle.session_startup.proofs.Waiting.{ready, wait_left}
use Rattle.session_startup.proofs.waits.wait_once.Goals as goal

pub longest_wait-limit-requires : goal.longest_wait-limit-requires
longest_wait-limit-requires g c =
    let q = c.requires.from_state in
    ap (λ (w : Components). w.moment) q.1.runs.world_is ∙ sym q.1.runs.within.moment ∙ c.requires.now.0

pub wait-requires-clause-from_state : goal.wait-requires-clause-from_state
wait-requires-clause-from_state g c =
    let q = c.requires.from_state in
    let told = Listed g.R.Runner.list g.R.Runner.told g.R.Runner.asked c.args.runner.now in (
      q.0,
      ready q.0 (g.S.Supervise.world c.args.supervisor.now) told (g.R.Runner.living c.args.runner.now) c.longest_wait-limit.result c.args.now q.1
          c.requires.now.0 c.longest_wait-limit.ensures.limit,
    )

pub returns-clause-trace : goal.returns-clause-trace
returns-clause-trace g c = λ p d device sits.
    let told = Listed g.R.Runner.list g.R.Runner.told g.R.Runner.asked c.args.runner.now in
    wait_left c.driving_laws.ensures p d device sits.runs.within.on sits.runs.within.keeps (c.wait.ensures.trace p
    (ready p (g.S.Supervise.world c.args.supervisor.now) told (g.R.Runner.living c.args.runner.now) c.longest_wait-limit.result c.args.now sits
    c.requires.now.0 c.longest_wait-limit.ensures.limit))

pub returns-clause-not_above : goal.returns-clause-not_above
returns-clause-not_above g c = waited_not_above c.args.now c.longest_wait-limit.result (g.R.Runner.clock c.args.runner.now)
    (g.R.Runner.clock c.wait.new.runner) (g.S.Supervise.world c.args.supervisor.now) (g.S.Supervise.world c.wait.new.supervisor) c.requires.drives.0
    c.requires.drives.1 c.wait.ensures.waited

pub returns-clause-goes_on : goal.returns-clause-goes_on
returns-clause-goes_on g c =
    let q = c.requires.from_state in
    let past = g.met.R.Runner.past c.args.runner.now in
    let told = c.requires.now.0 in
    let moment = ap (λ (w : Components). w.moment) q.1.runs.world_is ∙ sym q.1.runs.within.moment ∙ told in
    waited_goes_on c.args.now c.longest_wait-limit.result (g.R.Runner.clock c.args.runner.now) (g.R.Runner.clock c.wait.new.runner)
    (g.S.Supervise.world c.args.supervisor.now) (g.S.Supervise.world c.wait.new.supervisor) c.requires.drives.0 c.requires.drives.1 moment
    c.requires.time.0 c.requires.time.1 c.longest_wait-limit.ensures.limit (omega (arith, past, told)) c.wait.ensures.waited
