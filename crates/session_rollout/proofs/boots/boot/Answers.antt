use Rattle.std.proofs.Common.{inl, inr, sym, subst}
use Rattle.std.specs.Prelude.{List}
use Rattle.deploy_state.specs.States.{booting_device}
use Rattle.step_runner.specs.Entries.{Listed}
use Rattle.components.specs.declared.kinds.Prepared.{Prepared}
use Rattle.histories.specs.TraceEvents.{records_of}
use Rattle.histories.specs.States.{state_after}
use Rattle.session_admission.proofs.Serving.{plan_ready}
use Rattle.session_boots.proofs.Opened.{opened_at}
use Rattle.session_transitions.proofs.Rising.{room_for_none, run_none, stopped_in}
use Rattle.session_rollout.specs.Backwards.{HasWayBack}
use Rattle.session_rollout.proofs.BackBoots.{boots_stage}
use Rattle.session_rollout.proofs.Deployment.{ready_behind, shut, shut_stage, shut_takes}
use Rattle.session_rollout.proofs.Joining.{joined}
use Rattle.session_rollout.proofs.Leaving.{driven_on}
use Rattle.session_rollout.proofs.boots.boot.Goals as goal

-- ---- they are through

pub end_boots-requires-clause-items : goal.end_boots-requires-clause-items
end_boots-requires-clause-items g c =
    let q = c.requires.from_state in
    let told = Listed g.R.Runner.list g.R.Runner.told g.R.Runner.asked c.args.runner.now in
    let world = g.S.Supervise.world c.args.supervisor.now in
    let new = Listed g.R.Runner.list g.R.Runner.told g.R.Runner.asked c.run_boots.new.runner in
    let living = g.R.Runner.living c.run_boots.new.runner in
    let d = booting_device c.args.state in
    let e = booting_device c.in-Ok-default-Through.state in
    let p = shut q.0 in
    let t = c.in-Ok-default-Through.ensures.trace p world (shut_stage q.0 d world told (g.R.Runner.living c.args.runner.now) q.1) in
    let at_stage = boots_stage _ (records_of t.0) (state_after p t.0) e world new living (inl c.in-Ok-default-Through.field-0-1-is) t.3 in
    let items = g.S.Supervise.coming c.args.ready.items in
    let earlier = g.S.Supervise.coming c.args.ready.earlier in
    let ready = ready_behind c.args.ready.boots c.args.ready.backs items earlier p t.0 d e (shut_takes q.0) t.1.proper t.1.run q.1.between.stands.device_is
    at_stage.between.stands.device_is c.requires.ready in
    plan_ready c.args.ready.boots c.args.ready.backs items earlier e c.in-Ok-default-Through.ensures.held.1 ready

pub end_boots-requires-clause-ready : goal.end_boots-requires-clause-ready
end_boots-requires-clause-ready g c =
    let q = c.requires.from_state in
    let told = Listed g.R.Runner.list g.R.Runner.told g.R.Runner.asked c.args.runner.now in
    let world = g.S.Supervise.world c.args.supervisor.now in
    let new = Listed g.R.Runner.list g.R.Runner.told g.R.Runner.asked c.run_boots.new.runner in
    let living = g.R.Runner.living c.run_boots.new.runner in
    let d = booting_device c.args.state in
    let e = booting_device c.in-Ok-default-Through.state in
    let p = shut q.0 in
    let t = c.in-Ok-default-Through.ensures.trace p world (shut_stage q.0 d world told (g.R.Runner.living c.args.runner.now) q.1) in
    let at_stage = boots_stage _ (records_of t.0) (state_after p t.0) e world new living (inl c.in-Ok-default-Through.field-0-1-is) t.3 in
    let items = g.S.Supervise.coming c.args.ready.items in
    let earlier = g.S.Supervise.coming c.args.ready.earlier in
    let ready = ready_behind c.args.ready.boots c.args.ready.backs items earlier p t.0 d e (shut_takes q.0) t.1.proper t.1.run q.1.between.stands.device_is
    at_stage.between.stands.device_is c.requires.ready in
    subst (λ (l : List Prepared). HasWayBack e l earlier) (sym c.as_slice-in-Ok-default-Through.ensures) (c.args.ready.boots, items, ready)

pub end_boots-requires-clause-from_state : goal.end_boots-requires-clause-from_state
end_boots-requires-clause-from_state g c =
    let q = c.requires.from_state in
    let world = g.S.Supervise.world c.args.supervisor.now in
    let new = Listed g.R.Runner.list g.R.Runner.told g.R.Runner.asked c.run_boots.new.runner in
    let living = g.R.Runner.living c.run_boots.new.runner in
    let e = booting_device c.in-Ok-default-Through.state in
    let t = c.in-Ok-default-Through.ensures.trace q.0 world q.1 in (
      state_after q.0 t.0,
      opened_at (state_after q.0 t.0) e world new living
          (boots_stage _ (records_of t.0) (state_after q.0 t.0) e world new living (inl c.in-Ok-default-Through.field-0-1-is) t.3),
    )

-- nothing stands
pub end_boots-requires-clause-room : goal.end_boots-requires-clause-room
end_boots-requires-clause-room g c =
    let q = c.requires.from_state in
    let world = g.S.Supervise.world c.args.supervisor.now in
    room_for_none world (g.S.Supervise.room c.args.ready.items) (stopped_in q.0 (booting_device c.args.state) world
    (Listed g.R.Runner.list g.R.Runner.told g.R.Runner.asked c.args.runner.now) (g.R.Runner.living c.args.runner.now) q.1)

pub end_boots-requires-clause-made : goal.end_boots-requires-clause-made
end_boots-requires-clause-made g c =
    let q = c.requires.from_state in
    let world = g.S.Supervise.world c.args.supervisor.now in
    run_none (booting_device c.in-Ok-default-Through.state) world (stopped_in q.0 (booting_device c.args.state) world
    (Listed g.R.Runner.list g.R.Runner.told g.R.Runner.asked c.args.runner.now) (g.R.Runner.living c.args.runner.now) q.1)

pub returns-in-Ok-default-Through-clause-course : goal.returns-in-Ok-default-Through-clause-course
returns-in-Ok-default-Through-clause-course g c = λ p at_stage.
    let told = Listed g.R.Runner.list g.R.Runner.told g.R.Runner.asked c.args.runner.now in
    let world = g.S.Supervise.world c.args.supervisor.now in
    let new = Listed g.R.Runner.list g.R.Runner.told g.R.Runner.asked c.run_boots.new.runner in
    let last = Listed g.R.Runner.list g.R.Runner.told g.R.Runner.asked c.end_boots.new.runner in
    let t = c.in-Ok-default-Through.ensures.trace p world at_stage in
    let e = booting_device c.in-Ok-default-Through.state in
    let living = g.R.Runner.living c.run_boots.new.runner in
    let next = opened_at (state_after p t.0) e world new living
    (boots_stage _ (records_of t.0) (state_after p t.0) e world new living (inl c.in-Ok-default-Through.field-0-1-is) t.3) in
    joined g.J.Journal.entries g.J.Journal.files g.met.D.Disk.laws c.args.disk.now c.run_boots.new.disk c.end_boots.new.disk told.list new.list last.list
    (g.K.Sink.held c.args.sink.now) (g.K.Sink.held c.run_boots.new.sink) (g.K.Sink.held c.end_boots.new.sink) p t.0 c.end_boots.result _
    t.1 t.2
    (driven_on (g.S.Supervise.world c.end_boots.new.supervisor) last (g.R.Runner.living c.end_boots.new.runner) t.0)
    (c.end_boots.ensures.course (state_after p t.0) next)

-- ---- one failed

pub fail_boots-requires-clause-ready : goal.fail_boots-requires-clause-ready
fail_boots-requires-clause-ready g c =
    let q = c.requires.from_state in
    let told = Listed g.R.Runner.list g.R.Runner.told g.R.Runner.asked c.args.runner.now in
    let world = g.S.Supervise.world c.args.supervisor.now in
    let new = Listed g.R.Runner.list g.R.Runner.told g.R.Runner.asked c.run_boots.new.runner in
    let living = g.R.Runner.living c.run_boots.new.runner in
    let d = booting_device c.args.state in
    let e = booting_device c.in-Ok-default-Failed.state in
    let p = shut q.0 in
    let t = c.in-Ok-default-Failed.ensures.trace p world (shut_stage q.0 d world told (g.R.Runner.living c.args.runner.now) q.1) in
    let at_stage = boots_stage _ (records_of t.0) (state_after p t.0) e world new living (inr c.in-Ok-default-Failed.field-0-1-is) t.3 in
    let items = g.S.Supervise.coming c.args.ready.items in
    let earlier = g.S.Supervise.coming c.args.ready.earlier in
    let ready = ready_behind c.args.ready.boots c.args.ready.backs items earlier p t.0 d e (shut_takes q.0) t.1.proper t.1.run q.1.between.stands.device_is
    at_stage.between.stands.device_is c.requires.ready in
    subst (λ (l : List Prepared). HasWayBack e l earlier) (sym c.as_slice-in-Ok-default-Failed.ensures) (c.args.ready.boots, items, ready)

pub fail_boots-requires-clause-from_state : goal.fail_boots-requires-clause-from_state
fail_boots-requires-clause-from_state g c =
    let q = c.requires.from_state in
    let world = g.S.Supervise.world c.args.supervisor.now in
    let t = c.in-Ok-default-Failed.ensures.trace q.0 world q.1 in (
      state_after q.0 t.0,
      boots_stage _ (records_of t.0) (state_after q.0 t.0) (booting_device c.in-Ok-default-Failed.state) world
          (Listed g.R.Runner.list g.R.Runner.told g.R.Runner.asked c.run_boots.new.runner) (g.R.Runner.living c.run_boots.new.runner)
          (inr c.in-Ok-default-Failed.field-0-1-is) t.3,
    )

pub returns-in-Ok-default-Failed-clause-course : goal.returns-in-Ok-default-Failed-clause-course
returns-in-Ok-default-Failed-clause-course g c = λ p at_stage.
    let told = Listed g.R.Runner.list g.R.Runner.told g.R.Runner.asked c.args.runner.now in
    let world = g.S.Supervise.world c.args.supervisor.now in
    let new = Listed g.R.Runner.list g.R.Runner.told g.R.Runner.asked c.run_boots.new.runner in
    let last = Listed g.R.Runner.list g.R.Runner.told g.R.Runner.asked c.fail_boots.new.runner in
    let t = c.in-Ok-default-Failed.ensures.trace p world at_stage in
    let next = boots_stage _ (records_of t.0) (state_after p t.0) (booting_device c.in-Ok-default-Failed.state) world new
    (g.R.Runner.living c.run_boots.new.runner) (inr c.in-Ok-default-Failed.field-0-1-is) t.3 in
    joined g.J.Journal.entries g.J.Journal.files g.met.D.Disk.laws c.args.disk.now c.run_boots.new.disk c.fail_boots.new.disk told.list new.list last.list
    (g.K.Sink.held c.args.sink.now) (g.K.Sink.held c.run_boots.new.sink) (g.K.Sink.held c.fail_boots.new.sink) p t.0 c.fail_boots.result _
    t.1 t.2
    (driven_on (g.S.Supervise.world c.fail_boots.new.supervisor) last (g.R.Runner.living c.fail_boots.new.runner) t.0)
    (c.fail_boots.ensures.course (state_after p t.0) next)
