use Rattle.std.specs.Prelude.{false}
use Rattle.std.proofs.Common.{refl, sym, subst}
use Rattle.nuc_base.specs.declared.status.Status.{Status}
use Rattle.nuc_base.specs.declared.status.Status.TheVariants as statuses
use Rattle.step_runner.specs.Entries.{Listed}
use Rattle.histories.specs.Courses.{IsEnd}
use Rattle.histories.specs.States.{state_after}
use Rattle.session_serving.proofs.States.{asking_returned}
use Rattle.session_serving.proofs.ends.give_up_asking.Goals as goal

pub give_up-requires : goal.give_up-requires
give_up-requires g c =
    let q = c.requires.from_state in
    let told = Listed g.R.Runner.list g.R.Runner.told g.R.Runner.asked c.args.runner.now in
    record {
      from_state = (q.0, q.1, asking_returned q.0 q.1 (g.S.Supervise.world c.args.supervisor.now) told (g.R.Runner.living c.args.runner.now) q.2);
    }

pub returns-in-Failed-clause-trace : goal.returns-in-Failed-clause-trace
returns-in-Failed-clause-trace g c = λ p d asking.
    let told = Listed g.R.Runner.list g.R.Runner.told g.R.Runner.asked c.args.runner.now in
    let k = c.give_up.ensures.trace p d (asking_returned p d (g.S.Supervise.world c.args.supervisor.now) told (g.R.Runner.living c.args.runner.now) asking) in
    (k.0, k.1, subst (λ (s : Status). IsEnd (state_after p k.0) s false) (sym c.say_inbox.ensures.status) (k.2 statuses.Edge false refl))

pub returns-in-NoMemory-clause-trace : goal.returns-in-NoMemory-clause-trace
returns-in-NoMemory-clause-trace g c = λ p d asking.
    let told = Listed g.R.Runner.list g.R.Runner.told g.R.Runner.asked c.args.runner.now in
    let k = c.give_up.ensures.trace p d (asking_returned p d (g.S.Supervise.world c.args.supervisor.now) told (g.R.Runner.living c.args.runner.now) asking) in
    (k.0, k.1, k.2 statuses.Memory false refl)
