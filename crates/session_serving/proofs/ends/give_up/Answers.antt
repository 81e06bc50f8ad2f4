use Rattle.step_runner.specs.Entries.{Listed}
use Rattle.histories.specs.States.{state_after}
use Rattle.session_serving.proofs.States.{killed_end, returned_gives_up}
use Rattle.session_serving.proofs.ends.give_up.Goals as goal

pub kill_all-requires : goal.kill_all-requires
kill_all-requires g c =
    let q = c.requires.from_state in
    let told = Listed g.R.Runner.list g.R.Runner.told g.R.Runner.asked c.args.runner.now in
    record {
      from_state = (q.0, returned_gives_up q.0 q.1 (g.S.Supervise.world c.args.supervisor.now) told (g.R.Runner.living c.args.runner.now) q.2);
    }

pub returns-clause-trace : goal.returns-clause-trace
returns-clause-trace g c = λ p d r.
    let told = Listed g.R.Runner.list g.R.Runner.told g.R.Runner.asked c.args.runner.now in
    let k = c.kill_all.ensures.trace p (returned_gives_up p d (g.S.Supervise.world c.args.supervisor.now) told (g.R.Runner.living c.args.runner.now) r) in
    (k.0, k.1, λ status rose gives. killed_end p (state_after p k.0) status rose k.2 k.3 r.quiet.owes_none r.boot_end r.over gives)

pub returns-clause-none : goal.returns-clause-none
returns-clause-none g c = c.kill_all.ensures.none
