use Rattle.std.proofs.Common.{◌∙◌, ◌++◌, [], is_none, refl, sym, subst}
use Rattle.std.proofs.KnownBytes.{Appends-nil}
use Rattle.device.specs.Devices.{Device}
use Rattle.device.specs.Standing.{StandsFor}
use Rattle.deploy_state.proofs.Steps.{in_hand_stands}
use Rattle.deploy_state.specs.States.{device_of}
use Rattle.step_runner.specs.Entries.{Listed}
use Rattle.histories.specs.Courses.{IsBare}
use Rattle.histories.specs.TraceEvents.{records_of}
use Rattle.histories.specs.Phases.{duty_of}
use Rattle.histories.specs.States.{SessionState, state_after}
use Rattle.histories.proofs.Joined.{left-append}
use Rattle.session_boots.specs.Booted.{BootsLeft}
use Rattle.session_boots.specs.Stands.{IsAtBootStage}
use Rattle.session_boots.proofs.Acting.{acts_none}
use Rattle.session_boots.proofs.Between.{no_living}
use Rattle.session_boots.proofs.Joins.{acted, ends_on, went_on}
use Rattle.session_boots.proofs.Told.{all_printed, lines_at_joined, left_joined}
use Rattle.session_boots.proofs.Restarts.{ends_call, goes_on, none_is, not_err}
use Rattle.session_boots.specs.declared.ends.SessionFault.TheVariants as over
use Rattle.session_boots.proofs.Turning.{fewer, made_on}
use Rattle.session_boots.proofs.boots.run_stage.Goals as goal

pub steps-init : goal.steps-init
steps-init g c = record {
  held = c.requires.held;
  made = c.requires.made;
  others = λ is_modelled name other. refl;
  quiet_disk = refl;
  quiet_sink = refl;
  none =
      let q = c.requires.from_state in
      no_living q.0 (device_of (g.S.BootStage.hand c.args.state)) q.1 (Listed g.R.Runner.list g.R.Runner.told g.R.Runner.asked c.args.runner.now)
      (g.R.Runner.living c.args.runner.now) q.2;
  trace = λ p world at_stage. (
    [],
    acted g.J.Journal.entries g.J.Journal.files g.met.D.Disk.laws c.args.disk.now (g.R.Runner.list c.args.runner.now) (g.R.Runner.list c.args.runner.now) p []
        (λ i left. subst (λ (d : Device). StandsFor g.J.Journal.entries i d) (sym at_stage.between.stands.device_is)
        (in_hand_stands g.met.D.Disk.laws g.met.J.Journal.laws _ c.args.disk.now (device_of (g.S.BootStage.hand c.args.state)) c.requires.held.0.0 i left))
        (acts_none p (g.R.Runner.list c.args.runner.now) (g.R.Runner.list c.args.runner.now) refl),
    Appends-nil (g.K.Sink.held c.args.sink.now),
    at_stage,
  );
}

pub run_turn-requires-clause-from_state : goal.run_turn-requires-clause-from_state
run_turn-requires-clause-from_state g c =
    let q = c.requires.from_state in
    let w = c.steps.invariant.trace q.0 q.1 q.2 in
    (state_after q.0 w.0, q.1, w.3)

pub returns-in-Err-clause-trace : goal.returns-in-Err-clause-trace
returns-in-Err-clause-trace g c = λ p world at_stage.
    let w = c.steps.invariant.trace p world at_stage in
    let t = c.in-Err.ensures.trace (state_after p w.0) world w.3 in (
      t.0 ++ w.0,
      went_on g.J.Journal.entries g.J.Journal.files g.met.D.Disk.laws c.args.disk.now c.steps.disk c.run_turn.new.disk
          (g.R.Runner.list c.args.runner.now) (g.R.Runner.list c.steps.runner) (g.R.Runner.list c.run_turn.new.runner) p w.0 t.0 w.1 t.1,
      lines_at_joined (g.K.Sink.held c.args.sink.now) (g.K.Sink.held c.steps.sink) (g.K.Sink.held c.run_turn.new.sink) p w.0 t.0 c.in-Err.over w.1.run w.2 t.2,
      left_joined g.J.Journal.entries g.D.Disk.may_leave c.run_turn.new.disk p w.0 t.0 c.in-Err.over w.1.run t.3,
      subst IsBare (sym (left-append p t.0 w.0)) t.4,
    )

pub steps-preserved : goal.steps-preserved
steps-preserved g c = record {
  held = c.in-Ok.ensures.held;
  made = made_on (device_of (g.S.BootStage.hand c.steps.state)) (device_of (g.S.BootStage.hand c.in-Ok.turned.0)) c.in-Ok.turned.1 c.args.made.now
      c.in-Ok.ensures.turns c.steps.invariant.made;
  others = λ is_modelled name other. c.run_turn.ensures.others is_modelled name other ∙ c.steps.invariant.others is_modelled name other;
  quiet_disk = c.in-Ok.ensures.quiet_disk (not_err c.in-Ok.turned over.Disk) ∙ c.steps.invariant.quiet_disk;
  quiet_sink = c.in-Ok.ensures.quiet_sink (not_err c.in-Ok.turned over.Output) ∙ c.steps.invariant.quiet_sink;
  none = c.run_turn.ensures.none;
  trace = λ p world at_stage.
      let w = c.steps.invariant.trace p world at_stage in
      let t = c.in-Ok.ensures.trace (state_after p w.0) world w.3 in
      let told = Listed g.R.Runner.list g.R.Runner.told g.R.Runner.asked c.run_turn.new.runner in (
        t.0 ++ w.0,
        went_on g.J.Journal.entries g.J.Journal.files g.met.D.Disk.laws c.args.disk.now c.steps.disk c.run_turn.new.disk
            (g.R.Runner.list c.args.runner.now) (g.R.Runner.list c.steps.runner) (g.R.Runner.list c.run_turn.new.runner) p w.0 t.0 w.1 t.1,
        all_printed (g.K.Sink.held c.args.sink.now) (g.K.Sink.held c.steps.sink) (g.K.Sink.held c.run_turn.new.sink) p w.0 t.0 w.1.run w.2 t.2,
        subst (λ (q : SessionState). IsAtBootStage q (device_of (g.S.BootStage.hand c.in-Ok.turned.0)) world told (g.R.Runner.living c.run_turn.new.runner))
            (sym (left-append p t.0 w.0))
            (record {
              between = t.3.0;
              over = goes_on (state_after (state_after p w.0) t.0).over c.in-Ok.turned.1 c.is_through.result
                  (is_none (duty_of (device_of (g.S.BootStage.hand c.in-Ok.turned.0))).next_bootstrap)
                  c.restart_of.result t.3.1 c.restart_of.ensures c.is_through.ensures
                  (none_is c.restart_of.result c.in_default-restart_of.not-Some);
            }),
      );
}

pub steps-smaller : goal.steps-smaller
steps-smaller g c =
    fewer (device_of (g.S.BootStage.hand c.steps.state)) (device_of (g.S.BootStage.hand c.in-Ok.turned.0)) c.in-Ok.turned.1 c.in-Ok.ensures.turns

pub returns-in-Some-restart_of-clause-trace : goal.returns-in-Some-restart_of-clause-trace
returns-in-Some-restart_of-clause-trace g c = λ p world at_stage.
    let w = c.steps.invariant.trace p world at_stage in
    let t = c.in-Ok.ensures.trace (state_after p w.0) world w.3 in
    let d = device_of (g.S.BootStage.hand c.in-Ok.turned.0) in
    let x = c.in-Ok.turned.1 in
    let end = c.in-Some-restart_of.end in
    let told = Listed g.R.Runner.list g.R.Runner.told g.R.Runner.asked c.run_turn.new.runner in
    let living = g.R.Runner.living c.run_turn.new.runner in (
      t.0 ++ w.0,
      went_on g.J.Journal.entries g.J.Journal.files g.met.D.Disk.laws c.args.disk.now c.steps.disk c.run_turn.new.disk
          (g.R.Runner.list c.args.runner.now) (g.R.Runner.list c.steps.runner) (g.R.Runner.list c.run_turn.new.runner) p w.0 t.0 w.1 t.1,
      all_printed (g.K.Sink.held c.args.sink.now) (g.K.Sink.held c.steps.sink) (g.K.Sink.held c.run_turn.new.sink) p w.0 t.0 w.1.run w.2 t.2,
      subst (λ (q : SessionState). BootsLeft end (records_of (t.0 ++ w.0)) q d world told living) (sym (left-append p t.0 w.0))
          (ends_call end (records_of (t.0 ++ w.0)) (state_after (state_after p w.0) t.0) d world told living x c.is_through.result c.restart_of.result t.3.0
          t.3.1 (ends_on x w.0 t.0 t.3.2) c.restart_of.ensures c.is_through.ensures c.in-Some-restart_of.is),
      tt,
    )

pub returns-then-failed-clause-trace : goal.returns-then-failed-clause-trace
returns-then-failed-clause-trace g c = λ p world at_stage.
    let w = c.steps.invariant.trace p world at_stage in
    (w.0, w.1, w.2, (w.3, sym c.failed.ensures ∙ c.if-failed.true), tt)

pub returns-clause-trace : goal.returns-clause-trace
returns-clause-trace g c = λ p world at_stage.
    let w = c.steps.invariant.trace p world at_stage in
    (w.0, w.1, w.2, (w.3, c.next_step.ensures.none (none_is c.next_step.result c.in_default.not-Some), sym c.failed.ensures ∙ c.if-failed.false), tt)
