use Rattle.std.specs.Prelude.{◌++◌}
use Rattle.std.proofs.Common.{◌∙◌, sym, subst}
use Rattle.step_runner.specs.Entries.{Listed}
use Rattle.histories.specs.Courses.{IsEnd}
use Rattle.histories.specs.States.{SessionState, state_after}
use Rattle.histories.proofs.Joined.{left-append}
use Rattle.session_boots.proofs.Acting.{acts_on}
use Rattle.session_serving.proofs.Hearing.{hear_all}
use Rattle.session_serving.proofs.States.{heard_gives_up, killed_end}
use Rattle.session_serving.proofs.ends.give_up_serving.Goals as goal

pub kill_all-requires : goal.kill_all-requires
kill_all-requires g c =
    let q = c.requires.from_state in
    let list = g.R.Runner.list c.args.runner.now in
    let told = Listed g.R.Runner.list g.R.Runner.told g.R.Runner.asked c.args.runner.now in
    let v = q.2 in
    let a = hear_all c.events_keep_order.ensures.tellings c.tellings_keep.ensures.owners list q.0 v.orderly v.steady.idle_is v.steady.over v.steady.cut in
    record {
      from_state = (
        state_after q.0 a.h,
        heard_gives_up q.0 q.1 (g.S.Supervise.world c.args.supervisor.now) told (g.R.Runner.living c.args.runner.now) v list a,
      );
    }

pub returns-clause-trace : goal.returns-clause-trace
returns-clause-trace g c = λ p d v.
    let list = g.R.Runner.list c.args.runner.now in
    let told = Listed g.R.Runner.list g.R.Runner.told g.R.Runner.asked c.args.runner.now in
    let a = hear_all c.events_keep_order.ensures.tellings c.tellings_keep.ensures.owners list p v.orderly v.steady.idle_is v.steady.over v.steady.cut in
    let q = state_after p a.h in
    let k = c.kill_all.ensures.trace q (heard_gives_up p d (g.S.Supervise.world c.args.supervisor.now) told (g.R.Runner.living c.args.runner.now) v list a) in (
      k.0 ++ a.h,
      acts_on p a.h k.0 list list (g.R.Runner.list c.kill_all.new.runner) a.acts k.1,
      λ status rose gives. subst (λ (x : SessionState). IsEnd x status rose) (sym (left-append p k.0 a.h))
          (killed_end q (state_after q k.0) status rose k.2 k.3 a.owes_none (a.boot_end ∙ v.steady.boot_end) (a.over ∙ v.steady.over) gives),
    )
