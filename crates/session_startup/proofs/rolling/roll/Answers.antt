use Rattle.std.proofs.Common.{◌++◌, true, false}
use Rattle.step_runner.specs.Entries.{Listed}
use Rattle.histories.specs.Phases.{current}
use Rattle.histories.specs.States.{state_after}
use Rattle.nuc_base.specs.declared.kinds.Outcome.TheVariants as outcomes
use Rattle.deploy_state.specs.States.{idle_device}
use Rattle.session_boots.proofs.Joins.{went_on}
use Rattle.session_boots.proofs.Told.{all_printed, left_joined, lines_at_joined}
use Rattle.session_startup.specs.declared.turns.Turned.TheVariants as turned
use Rattle.session_startup.proofs.Parting.{apart, closed_on, held_set, left_set}
use Rattle.session_startup.proofs.Turning.{quits_on}
use Rattle.session_startup.proofs.rolling.roll.Goals as goal

pub come_up-requires-clause-from_state : goal.come_up-requires-clause-from_state
come_up-requires-clause-from_state g c = c.requires.from_state

pub into_set-state-requires : goal.into_set-state-requires
into_set-state-requires g c = c.in-Ok.ensures.same

pub close_set-requires-clause-held : goal.close_set-requires-clause-held
close_set-requires-clause-held g c = held_set g.D.Disk.is_modelled g.D.Disk.may_leave g.J.Journal.stands g.J.Journal.end c.in-Ok.coming
    c.into_set-state.result c.come_up.new.disk c.into_set-state.ensures c.in-Ok.ensures.held

pub close_set-requires-clause-from_state : goal.close_set-requires-clause-from_state
close_set-requires-clause-from_state g c =
    let q = c.requires.from_state in
    let t = c.in-Ok.ensures.trace q.0 q.1 in
    let told = Listed g.R.Runner.list g.R.Runner.told g.R.Runner.asked c.come_up.new.runner in
    let living = g.R.Runner.living c.come_up.new.runner in
    let r = left_set c.in-Ok.coming c.into_set-state.result c.in-Ok.turned turned.Settled (state_after q.0 t.0) (g.S.Supervise.world c.come_up.new.supervisor)
    told living c.into_set-state.ensures c.in-Settled.is t.3 in
    (state_after q.0 t.0, told, living, false, r.0, λ few. r.1)

pub returns-in-Ok-close_set-clause-trace : goal.returns-in-Ok-close_set-clause-trace
returns-in-Ok-close_set-clause-trace g c = λ p comes.
    let t = c.in-Ok.ensures.trace p comes in
    let told = Listed g.R.Runner.list g.R.Runner.told g.R.Runner.asked c.come_up.new.runner in
    let living = g.R.Runner.living c.come_up.new.runner in
    let r = left_set c.in-Ok.coming c.into_set-state.result c.in-Ok.turned turned.Settled (state_after p t.0) (g.S.Supervise.world c.come_up.new.supervisor)
    told living c.into_set-state.ensures c.in-Settled.is t.3 in
    let u = c.in-Ok-close_set.ensures.trace (state_after p t.0) told living false r.0 (λ few. r.1) in (
      u.0 ++ t.0,
      went_on g.J.Journal.entries g.J.Journal.files g.met.D.Disk.laws c.args.disk.now c.come_up.new.disk c.close_set.new.disk
          (g.R.Runner.list c.args.runner.now) (g.R.Runner.list c.come_up.new.runner) (g.R.Runner.list c.come_up.new.runner) p t.0 u.0 t.1 u.1,
      all_printed (g.K.Sink.held c.args.sink.now) (g.K.Sink.held c.come_up.new.sink) (g.K.Sink.held c.close_set.new.sink) p t.0 u.0 t.1.run t.2 u.2,
      closed_on outcomes.RollbackComplete current p t.0 u.0 (idle_device c.in-Ok-close_set.idle) (g.S.Supervise.world c.close_set.new.supervisor) told
          living u.3,
      tt,
    )

pub returns-in-Err-close_set-clause-trace : goal.returns-in-Err-close_set-clause-trace
returns-in-Err-close_set-clause-trace g c = λ p comes.
    let t = c.in-Ok.ensures.trace p comes in
    let told = Listed g.R.Runner.list g.R.Runner.told g.R.Runner.asked c.come_up.new.runner in
    let living = g.R.Runner.living c.come_up.new.runner in
    let r = left_set c.in-Ok.coming c.into_set-state.result c.in-Ok.turned turned.Settled (state_after p t.0) (g.S.Supervise.world c.come_up.new.supervisor)
    told living c.into_set-state.ensures c.in-Settled.is t.3 in
    let u = c.in-Err-close_set.ensures.trace (state_after p t.0) told living false r.0 (λ few. r.1) in (
      u.0 ++ t.0,
      went_on g.J.Journal.entries g.J.Journal.files g.met.D.Disk.laws c.args.disk.now c.come_up.new.disk c.close_set.new.disk
          (g.R.Runner.list c.args.runner.now) (g.R.Runner.list c.come_up.new.runner) (g.R.Runner.list c.come_up.new.runner) p t.0 u.0 t.1 u.1,
      lines_at_joined (g.K.Sink.held c.args.sink.now) (g.K.Sink.held c.come_up.new.sink) (g.K.Sink.held c.close_set.new.sink) p t.0 u.0
          c.in-Err-close_set.over t.1.run t.2 u.2,
      left_joined g.J.Journal.entries g.D.Disk.may_leave c.close_set.new.disk p t.0 u.0 c.in-Err-close_set.over t.1.run u.3,
      quits_on p t.0 u.0 (g.S.Supervise.world c.close_set.new.supervisor) told living u.4,
    )

pub close_set-requires-in-Broken-clause-held : goal.close_set-requires-in-Broken-clause-held
close_set-requires-in-Broken-clause-held g c = held_set g.D.Disk.is_modelled g.D.Disk.may_leave g.J.Journal.stands g.J.Journal.end c.in-Ok.coming
    c.into_set-state.result c.come_up.new.disk c.into_set-state.ensures c.in-Ok.ensures.held

pub close_set-requires-in-Broken-clause-from_state : goal.close_set-requires-in-Broken-clause-from_state
close_set-requires-in-Broken-clause-from_state g c =
    let q = c.requires.from_state in
    let t = c.in-Ok.ensures.trace q.0 q.1 in
    let told = Listed g.R.Runner.list g.R.Runner.told g.R.Runner.asked c.come_up.new.runner in
    let living = g.R.Runner.living c.come_up.new.runner in
    let r = left_set c.in-Ok.coming c.into_set-state.result c.in-Ok.turned turned.Broken (state_after q.0 t.0) (g.S.Supervise.world c.come_up.new.supervisor)
    told living c.into_set-state.ensures c.in-Broken.is t.3 in
    (state_after q.0 t.0, told, living, true, r, λ few. absurd (apart few))

pub returns-in-Ok-close_set-2-clause-trace : goal.returns-in-Ok-close_set-2-clause-trace
returns-in-Ok-close_set-2-clause-trace g c = λ p comes.
    let t = c.in-Ok.ensures.trace p comes in
    let told = Listed g.R.Runner.list g.R.Runner.told g.R.Runner.asked c.come_up.new.runner in
    let living = g.R.Runner.living c.come_up.new.runner in
    let r = left_set c.in-Ok.coming c.into_set-state.result c.in-Ok.turned turned.Broken (state_after p t.0) (g.S.Supervise.world c.come_up.new.supervisor)
    told living c.into_set-state.ensures c.in-Broken.is t.3 in
    let u = c.in-Ok-close_set-2.ensures.trace (state_after p t.0) told living true r (λ few. absurd (apart few)) in (
      u.0 ++ t.0,
      went_on g.J.Journal.entries g.J.Journal.files g.met.D.Disk.laws c.args.disk.now c.come_up.new.disk c.close_set-in-Broken.new.disk
          (g.R.Runner.list c.args.runner.now) (g.R.Runner.list c.come_up.new.runner) (g.R.Runner.list c.come_up.new.runner) p t.0 u.0 t.1 u.1,
      all_printed (g.K.Sink.held c.args.sink.now) (g.K.Sink.held c.come_up.new.sink) (g.K.Sink.held c.close_set-in-Broken.new.sink) p t.0 u.0 t.1.run t.2 u.2,
      closed_on outcomes.UnableToRollback current p t.0 u.0 (idle_device c.in-Ok-close_set-2.idle) (g.S.Supervise.world c.close_set-in-Broken.new.supervisor)
          told living u.3,
      tt,
    )

pub returns-in-Err-close_set-2-clause-trace : goal.returns-in-Err-close_set-2-clause-trace
returns-in-Err-close_set-2-clause-trace g c = λ p comes.
    let t = c.in-Ok.ensures.trace p comes in
    let told = Listed g.R.Runner.list g.R.Runner.told g.R.Runner.asked c.come_up.new.runner in
    let living = g.R.Runner.living c.come_up.new.runner in
    let r = left_set c.in-Ok.coming c.into_set-state.result c.in-Ok.turned turned.Broken (state_after p t.0) (g.S.Supervise.world c.come_up.new.supervisor)
    told living c.into_set-state.ensures c.in-Broken.is t.3 in
    let u = c.in-Err-close_set-2.ensures.trace (state_after p t.0) told living true r (λ few. absurd (apart few)) in (
      u.0 ++ t.0,
      went_on g.J.Journal.entries g.J.Journal.files g.met.D.Disk.laws c.args.disk.now c.come_up.new.disk c.close_set-in-Broken.new.disk
          (g.R.Runner.list c.args.runner.now) (g.R.Runner.list c.come_up.new.runner) (g.R.Runner.list c.come_up.new.runner) p t.0 u.0 t.1 u.1,
      lines_at_joined (g.K.Sink.held c.args.sink.now) (g.K.Sink.held c.come_up.new.sink) (g.K.Sink.held c.close_set-in-Broken.new.sink) p t.0 u.0
          c.in-Err-close_set-2.over t.1.run t.2 u.2,
      left_joined g.J.Journal.entries g.D.Disk.may_leave c.close_set-in-Broken.new.disk p t.0 u.0 c.in-Err-close_set-2.over t.1.run u.3,
      quits_on p t.0 u.0 (g.S.Supervise.world c.close_set-in-Broken.new.supervisor) told living u.4,
    )

pub returns-in-Err-clause-trace : goal.returns-in-Err-clause-trace
returns-in-Err-clause-trace g c = λ p comes.
    let t = c.in-Err.ensures.trace p comes in
    (t.0, t.1, t.2, t.3, t.4)

pub close_set-requires-clause-drives : goal.close_set-requires-clause-drives
close_set-requires-clause-drives g c = c.come_up.ensures.drives

pub close_set-requires-in-Broken-clause-drives : goal.close_set-requires-in-Broken-clause-drives
close_set-requires-in-Broken-clause-drives g c = c.come_up.ensures.drives

pub returns-in-Err-clause-drives : goal.returns-in-Err-clause-drives
returns-in-Err-clause-drives g c = c.come_up.ensures.drives
