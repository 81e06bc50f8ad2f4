use Rattle.std.proofs.Common.{inl, inr, sym, subst}
use Rattle.deploy_state.specs.States.{OwnsLoaded, backed_device, backing_device}
use Rattle.deploy_state.specs.declared.state.Loaded.{Loaded}
use Rattle.step_runner.specs.Entries.{Listed}
use Rattle.histories.specs.TraceEvents.{records_of}
use Rattle.histories.specs.States.{state_after}
use Rattle.session_boots.specs.declared.ends.Booted.TheVariants as booted
use Rattle.session_rollout.specs.Driven.{DrivenLeft}
use Rattle.session_rollout.specs.declared.driven.Driven.TheVariants as driven
use Rattle.session_rollout.proofs.BackBoots.{backs_ready, boots_as, boots_stage, ends_ready, paused_held, paused_left, still_failed}
use Rattle.session_rollout.proofs.Deployment.{ready_behind, shut, shut_stage, shut_takes}
use Rattle.session_rollout.proofs.Endings.{ended}
use Rattle.session_rollout.proofs.Joining.{given_up, joined}
use Rattle.session_rollout.proofs.Leaving.{driven_on}
use Rattle.session_rollout.proofs.backing.back_on.Goals as goal

-- ---- the bootstraps run

pub run_rollback_boots-requires-clause-made : goal.run_rollback_boots-requires-clause-made
run_rollback_boots-requires-clause-made g c = backs_ready c.args.backs.now (g.S.Supervise.coming c.args.ready) (backing_device c.args.state)
    c.requires.held.0.0.sound c.requires.held.1 c.requires.ready

pub run_rollback_boots-requires-clause-from_state : goal.run_rollback_boots-requires-clause-from_state
run_rollback_boots-requires-clause-from_state g c =
    let q = c.requires.from_state in
    (q.0, g.S.Supervise.world c.args.supervisor.now, q.1)

-- ---- the call ends behind one of them

pub returns-in-Restart-clause-course : goal.returns-in-Restart-clause-course
returns-in-Restart-clause-course g c = λ p at_stage.
    let world = g.S.Supervise.world c.args.supervisor.now in
    let new = Listed g.R.Runner.list g.R.Runner.told g.R.Runner.asked c.run_rollback_boots.new.runner in
    let living = g.R.Runner.living c.run_rollback_boots.new.runner in
    let t = c.in-Ok.ensures.trace p world at_stage in
    let left = boots_as c.in-Ok.booted booted.Restart (records_of t.0) (state_after p t.0) (backed_device c.in-Ok.backed) world new living c.in-Restart.is t.3
    in
    ended g.J.Journal.entries g.J.Journal.files c.args.disk.now c.run_rollback_boots.new.disk (g.R.Runner.list c.args.runner.now) new.list
    (g.K.Sink.held c.args.sink.now) (g.K.Sink.held c.run_rollback_boots.new.sink) p t.0 (driven.Restart c.paused.result)
    (λ x h q. DrivenLeft x h q world new living)
    t.1 t.2 (paused_left booted.Restart c.in-Ok.backed c.paused.result (records_of t.0) (state_after p t.0) world new living c.paused.ensures left)

pub returns-in-Restart-clause-held : goal.returns-in-Restart-clause-held
returns-in-Restart-clause-held g c =
    subst (λ (x : Loaded _). OwnsLoaded g.D.Disk.is_modelled g.D.Disk.may_leave g.J.Journal.stands g.J.Journal.end x c.run_rollback_boots.new.disk)
    (sym c.paused.ensures)
    (paused_held g.D.Disk.is_modelled g.D.Disk.may_leave g.J.Journal.stands g.J.Journal.end c.in-Ok.backed c.run_rollback_boots.new.disk c.in-Ok.ensures.held)

pub returns-in-Reboot-clause-course : goal.returns-in-Reboot-clause-course
returns-in-Reboot-clause-course g c = λ p at_stage.
    let world = g.S.Supervise.world c.args.supervisor.now in
    let new = Listed g.R.Runner.list g.R.Runner.told g.R.Runner.asked c.run_rollback_boots.new.runner in
    let living = g.R.Runner.living c.run_rollback_boots.new.runner in
    let t = c.in-Ok.ensures.trace p world at_stage in
    let left = boots_as c.in-Ok.booted booted.Reboot (records_of t.0) (state_after p t.0) (backed_device c.in-Ok.backed) world new living c.in-Reboot.is t.3 in
    ended g.J.Journal.entries g.J.Journal.files c.args.disk.now c.run_rollback_boots.new.disk (g.R.Runner.list c.args.runner.now) new.list
    (g.K.Sink.held c.args.sink.now) (g.K.Sink.held c.run_rollback_boots.new.sink) p t.0 (driven.Reboot c.paused-in-Reboot.result)
    (λ x h q. DrivenLeft x h q world new living)
    t.1 t.2 (paused_left booted.Reboot c.in-Ok.backed c.paused-in-Reboot.result (records_of t.0) (state_after p t.0) world new living
    c.paused-in-Reboot.ensures left)

pub returns-in-Reboot-clause-held : goal.returns-in-Reboot-clause-held
returns-in-Reboot-clause-held g c =
    subst (λ (x : Loaded _). OwnsLoaded g.D.Disk.is_modelled g.D.Disk.may_leave g.J.Journal.stands g.J.Journal.end x c.run_rollback_boots.new.disk)
    (sym c.paused-in-Reboot.ensures)
    (paused_held g.D.Disk.is_modelled g.D.Disk.may_leave g.J.Journal.stands g.J.Journal.end c.in-Ok.backed c.run_rollback_boots.new.disk c.in-Ok.ensures.held)

-- ---- they are through

pub end_backs-requires-clause-held : goal.end_backs-requires-clause-held
end_backs-requires-clause-held g c = c.in-Ok.ensures.held

pub end_backs-requires-clause-failed : goal.end_backs-requires-clause-failed
end_backs-requires-clause-failed g c =
    let q = c.requires.from_state in
    let world = g.S.Supervise.world c.args.supervisor.now in
    let t = c.in-Ok.ensures.trace q.0 world q.1 in
    still_failed g.D.Disk.is_modelled g.D.Disk.may_leave g.J.Journal.stands g.J.Journal.end c.in-Ok.backed c.run_rollback_boots.new.disk c.in-Ok.booted
    (records_of t.0) (state_after q.0 t.0) world (Listed g.R.Runner.list g.R.Runner.told g.R.Runner.asked c.run_rollback_boots.new.runner)
    (g.R.Runner.living c.run_rollback_boots.new.runner)
    c.in-Ok.ensures.held (inl c.in-Through.is) t.3

pub end_backs-requires-clause-ready : goal.end_backs-requires-clause-ready
end_backs-requires-clause-ready g c =
    let q = c.requires.from_state in
    let told = Listed g.R.Runner.list g.R.Runner.told g.R.Runner.asked c.args.runner.now in
    let world = g.S.Supervise.world c.args.supervisor.now in
    let new = Listed g.R.Runner.list g.R.Runner.told g.R.Runner.asked c.run_rollback_boots.new.runner in
    let d = backing_device c.args.state in
    let e = backed_device c.in-Ok.backed in
    let way = c.requires.ready in
    let earlier = g.S.Supervise.coming c.args.ready in
    let p = shut q.0 in
    let t = c.in-Ok.ensures.trace p world (shut_stage q.0 d world told (g.R.Runner.living c.args.runner.now) q.1) in
    let at_stage = boots_stage c.in-Ok.booted (records_of t.0) (state_after p t.0) e world new (g.R.Runner.living c.run_rollback_boots.new.runner)
    (inl c.in-Through.is) t.3 in
    ends_ready g.D.Disk.is_modelled g.D.Disk.may_leave g.J.Journal.stands g.J.Journal.end way.0 c.args.backs.now way.1 earlier c.in-Ok.backed
    c.run_rollback_boots.new.disk c.in-Ok.ensures.held
    (ready_behind way.0 c.args.backs.now way.1 earlier p t.0 d e (shut_takes q.0) t.1.proper t.1.run q.1.between.stands.device_is
    at_stage.between.stands.device_is way.2)

pub end_backs-requires-clause-from_state : goal.end_backs-requires-clause-from_state
end_backs-requires-clause-from_state g c =
    let q = c.requires.from_state in
    let world = g.S.Supervise.world c.args.supervisor.now in
    let t = c.in-Ok.ensures.trace q.0 world q.1 in (
      state_after q.0 t.0,
      boots_stage c.in-Ok.booted (records_of t.0) (state_after q.0 t.0) (backed_device c.in-Ok.backed) world
          (Listed g.R.Runner.list g.R.Runner.told g.R.Runner.asked c.run_rollback_boots.new.runner) (g.R.Runner.living c.run_rollback_boots.new.runner)
          (inl c.in-Through.is) t.3,
    )

pub returns-in-Through-clause-course : goal.returns-in-Through-clause-course
returns-in-Through-clause-course g c = λ p at_stage.
    let world = g.S.Supervise.world c.args.supervisor.now in
    let new = Listed g.R.Runner.list g.R.Runner.told g.R.Runner.asked c.run_rollback_boots.new.runner in
    let last = Listed g.R.Runner.list g.R.Runner.told g.R.Runner.asked c.end_backs.new.runner in
    let end = g.S.Supervise.world c.end_backs.new.supervisor in
    let living = g.R.Runner.living c.end_backs.new.runner in
    let t = c.in-Ok.ensures.trace p world at_stage in
    let next = boots_stage c.in-Ok.booted (records_of t.0) (state_after p t.0) (backed_device c.in-Ok.backed) world new
    (g.R.Runner.living c.run_rollback_boots.new.runner) (inl c.in-Through.is) t.3 in
    joined g.J.Journal.entries g.J.Journal.files g.met.D.Disk.laws c.args.disk.now c.run_rollback_boots.new.disk c.end_backs.new.disk
    (g.R.Runner.list c.args.runner.now) new.list last.list
    (g.K.Sink.held c.args.sink.now) (g.K.Sink.held c.run_rollback_boots.new.sink) (g.K.Sink.held c.end_backs.new.sink) p t.0 c.end_backs.result
    (λ x h q. DrivenLeft x h q end last living)
    t.1 t.2
    (driven_on end last living t.0)
    (c.end_backs.ensures.course (state_after p t.0) next)

-- ---- one of them failed

pub end_backs-requires-in-Failed-clause-held : goal.end_backs-requires-in-Failed-clause-held
end_backs-requires-in-Failed-clause-held g c = c.in-Ok.ensures.held

pub end_backs-requires-in-Failed-clause-failed : goal.end_backs-requires-in-Failed-clause-failed
end_backs-requires-in-Failed-clause-failed g c =
    let q = c.requires.from_state in
    let world = g.S.Supervise.world c.args.supervisor.now in
    let t = c.in-Ok.ensures.trace q.0 world q.1 in
    still_failed g.D.Disk.is_modelled g.D.Disk.may_leave g.J.Journal.stands g.J.Journal.end c.in-Ok.backed c.run_rollback_boots.new.disk c.in-Ok.booted
    (records_of t.0) (state_after q.0 t.0) world (Listed g.R.Runner.list g.R.Runner.told g.R.Runner.asked c.run_rollback_boots.new.runner)
    (g.R.Runner.living c.run_rollback_boots.new.runner)
    c.in-Ok.ensures.held (inr c.in-Failed.is) t.3

pub end_backs-requires-in-Failed-clause-ready : goal.end_backs-requires-in-Failed-clause-ready
end_backs-requires-in-Failed-clause-ready g c =
    let q = c.requires.from_state in
    let told = Listed g.R.Runner.list g.R.Runner.told g.R.Runner.asked c.args.runner.now in
    let world = g.S.Supervise.world c.args.supervisor.now in
    let new = Listed g.R.Runner.list g.R.Runner.told g.R.Runner.asked c.run_rollback_boots.new.runner in
    let d = backing_device c.args.state in
    let e = backed_device c.in-Ok.backed in
    let way = c.requires.ready in
    let earlier = g.S.Supervise.coming c.args.ready in
    let p = shut q.0 in
    let t = c.in-Ok.ensures.trace p world (shut_stage q.0 d world told (g.R.Runner.living c.args.runner.now) q.1) in
    let at_stage = boots_stage c.in-Ok.booted (records_of t.0) (state_after p t.0) e world new (g.R.Runner.living c.run_rollback_boots.new.runner)
    (inr c.in-Failed.is) t.3 in
    ends_ready g.D.Disk.is_modelled g.D.Disk.may_leave g.J.Journal.stands g.J.Journal.end way.0 c.args.backs.now way.1 earlier c.in-Ok.backed
    c.run_rollback_boots.new.disk c.in-Ok.ensures.held
    (ready_behind way.0 c.args.backs.now way.1 earlier p t.0 d e (shut_takes q.0) t.1.proper t.1.run q.1.between.stands.device_is
    at_stage.between.stands.device_is way.2)

pub end_backs-requires-in-Failed-clause-from_state : goal.end_backs-requires-in-Failed-clause-from_state
end_backs-requires-in-Failed-clause-from_state g c =
    let q = c.requires.from_state in
    let world = g.S.Supervise.world c.args.supervisor.now in
    let t = c.in-Ok.ensures.trace q.0 world q.1 in (
      state_after q.0 t.0,
      boots_stage c.in-Ok.booted (records_of t.0) (state_after q.0 t.0) (backed_device c.in-Ok.backed) world
          (Listed g.R.Runner.list g.R.Runner.told g.R.Runner.asked c.run_rollback_boots.new.runner) (g.R.Runner.living c.run_rollback_boots.new.runner)
          (inr c.in-Failed.is) t.3,
    )

pub returns-in-Failed-clause-course : goal.returns-in-Failed-clause-course
returns-in-Failed-clause-course g c = λ p at_stage.
    let world = g.S.Supervise.world c.args.supervisor.now in
    let new = Listed g.R.Runner.list g.R.Runner.told g.R.Runner.asked c.run_rollback_boots.new.runner in
    let last = Listed g.R.Runner.list g.R.Runner.told g.R.Runner.asked c.end_backs-in-Failed.new.runner in
    let end = g.S.Supervise.world c.end_backs-in-Failed.new.supervisor in
    let living = g.R.Runner.living c.end_backs-in-Failed.new.runner in
    let t = c.in-Ok.ensures.trace p world at_stage in
    let next = boots_stage c.in-Ok.booted (records_of t.0) (state_after p t.0) (backed_device c.in-Ok.backed) world new
    (g.R.Runner.living c.run_rollback_boots.new.runner) (inr c.in-Failed.is) t.3 in
    joined g.J.Journal.entries g.J.Journal.files g.met.D.Disk.laws c.args.disk.now c.run_rollback_boots.new.disk c.end_backs-in-Failed.new.disk
    (g.R.Runner.list c.args.runner.now) new.list last.list
    (g.K.Sink.held c.args.sink.now) (g.K.Sink.held c.run_rollback_boots.new.sink) (g.K.Sink.held c.end_backs-in-Failed.new.sink) p t.0
    c.end_backs-in-Failed.result (λ x h q. DrivenLeft x h q end last living)
    t.1 t.2
    (driven_on end last living t.0)
    (c.end_backs-in-Failed.ensures.course (state_after p t.0) next)

-- ---- it gives up

pub returns-in-Err-clause-course : goal.returns-in-Err-clause-course
returns-in-Err-clause-course g c = λ p at_stage.
    let world = g.S.Supervise.world c.args.supervisor.now in
    let new = Listed g.R.Runner.list g.R.Runner.told g.R.Runner.asked c.run_rollback_boots.new.runner in
    let living = g.R.Runner.living c.run_rollback_boots.new.runner in
    let t = c.in-Err.ensures.trace p world at_stage in
    given_up g.J.Journal.entries g.J.Journal.files c.args.disk.now c.run_rollback_boots.new.disk (g.R.Runner.list c.args.runner.now) new.list
    (g.K.Sink.held c.args.sink.now) (g.K.Sink.held c.run_rollback_boots.new.sink) p t.0 c.in-Err.over (λ x h q. DrivenLeft x h q world new living)
    t.1 t.2 t.3 t.4
