use Rattle.std.proofs.Common.{◌∙◌, ◌++◌, [], true, false, refl, sym, subst, arith}
use Rattle.std.proofs.KnownBytes.{Appends-nil}
use Rattle.device.specs.Devices.{Device}
use Rattle.device.specs.Standing.{StandsFor}
use Rattle.step_runner.specs.Entries.{Listed}
use Rattle.histories.specs.States.{SessionState, state_after}
use Rattle.histories.proofs.Joined.{left-append}
use Rattle.session_boots.specs.declared.ends.SessionFault.TheVariants as over
use Rattle.session_boots.proofs.Acting.{acts_none}
use Rattle.session_boots.proofs.Joins.{acted, went_on}
use Rattle.session_boots.proofs.Restarts.{not_err}
use Rattle.session_boots.proofs.Same.{same_refl, same_trans}
use Rattle.session_boots.proofs.Told.{all_printed, left_joined, lines_at_joined}
use Rattle.law_termination.proofs.Steps.{not_above_on, self_not_above}
use Rattle.session_startup.specs.Coming.{coming_device}
use Rattle.session_startup.specs.Did.{ActLeft}
use Rattle.session_acts.proofs.Entering.{never}
use Rattle.session_startup.proofs.Falling.{same_err}
use Rattle.session_startup.proofs.Stages.{coming_stands}
use Rattle.session_startup.proofs.Turning.{quits_on}
use Rattle.session_startup.proofs.turns.take_acts.Goals as goal

pub acts-init : goal.acts-init
acts-init g c = record {
  now = c.requires.now.0;
  held = c.requires.held;
  same = refl;
  deployment = same_refl (coming_device c.args.state);
  others = λ is_modelled name other. refl;
  quiet_disk = refl;
  quiet_sink = refl;
  not_above = self_not_above (g.S.Supervise.world c.args.supervisor.now) c.requires.drives;
  trace = λ p runs device. (
    [],
    acted g.J.Journal.entries g.J.Journal.files g.met.D.Disk.laws c.args.disk.now (g.R.Runner.list c.args.runner.now) (g.R.Runner.list c.args.runner.now) p []
        (λ i left. subst (λ (d : Device). StandsFor g.J.Journal.entries i d) (sym device)
        (coming_stands g.met.D.Disk.laws g.met.J.Journal.laws c.args.state c.args.disk.now c.requires.held i left))
        (acts_none p (g.R.Runner.list c.args.runner.now) (g.R.Runner.list c.args.runner.now) refl),
    Appends-nil (g.K.Sink.held c.args.sink.now),
    record { runs = runs; device_is = device; quiet = λ none. absurd (never false refl none) },
  );
}

pub take_act-requires-clause-now : goal.take_act-requires-clause-now
take_act-requires-clause-now g c = (c.acts.invariant.now, c.requires.now.1)

pub take_act-requires-clause-held : goal.take_act-requires-clause-held
take_act-requires-clause-held g c = c.acts.invariant.held

pub take_act-requires-clause-from_state : goal.take_act-requires-clause-from_state
take_act-requires-clause-from_state g c =
    let q = c.requires.from_state in
    let w = c.acts.invariant.trace q.0 q.1 q.2 in
    (state_after q.0 w.0, w.3.runs, w.3.device_is)

pub acts-preserved : goal.acts-preserved
acts-preserved g c = record {
  now = c.take_act.ensures.now;
  held = c.in-Ok.ensures.held;
  same = c.in-Ok.ensures.same ∙ c.acts.invariant.same;
  deployment = same_trans (coming_device c.args.state) (coming_device c.acts.state) (coming_device c.in-Ok.next) c.acts.invariant.deployment
      c.in-Ok.ensures.deployment;
  others = λ is_modelled name other. c.take_act.ensures.others is_modelled name other ∙ c.acts.invariant.others is_modelled name other;
  quiet_disk = c.in-Ok.ensures.quiet_disk (not_err (c.in-Ok.next, c.in-Ok.none) over.Disk) ∙ c.acts.invariant.quiet_disk;
  quiet_sink = c.in-Ok.ensures.quiet_sink (not_err (c.in-Ok.next, c.in-Ok.none) over.Output) ∙ c.acts.invariant.quiet_sink;
  not_above = not_above_on (g.S.Supervise.world c.args.supervisor.now) (g.S.Supervise.world c.acts.supervisor) (g.S.Supervise.world c.take_act.new.supervisor)
      c.acts.invariant.not_above c.take_act.ensures.not_above;
  trace = λ p runs device.
      let w = c.acts.invariant.trace p runs device in
      let t = c.in-Ok.ensures.trace (state_after p w.0) w.3.runs w.3.device_is in (
        t.0 ++ w.0,
        went_on g.J.Journal.entries g.J.Journal.files g.met.D.Disk.laws c.args.disk.now c.acts.disk c.take_act.new.disk
            (g.R.Runner.list c.args.runner.now) (g.R.Runner.list c.acts.runner) (g.R.Runner.list c.take_act.new.runner) p w.0 t.0 w.1 t.1,
        all_printed (g.K.Sink.held c.args.sink.now) (g.K.Sink.held c.acts.sink) (g.K.Sink.held c.take_act.new.sink) p w.0 t.0 w.1.run w.2 t.2,
        subst (λ (x : SessionState). ActLeft x (coming_device c.in-Ok.next) false (g.S.Supervise.world c.take_act.new.supervisor)
            (Listed g.R.Runner.list g.R.Runner.told g.R.Runner.asked c.take_act.new.runner) (g.R.Runner.living c.take_act.new.runner))
            (sym (left-append p t.0 w.0))
            (record { runs = t.3.runs; device_is = t.3.device_is; quiet = λ none. absurd (never false refl none) }),
      );
}

pub returns-then-none-clause-trace : goal.returns-then-none-clause-trace
returns-then-none-clause-trace g c = λ p runs device.
    let w = c.acts.invariant.trace p runs device in
    let t = c.in-Ok.ensures.trace (state_after p w.0) w.3.runs w.3.device_is in (
      t.0 ++ w.0,
      went_on g.J.Journal.entries g.J.Journal.files g.met.D.Disk.laws c.args.disk.now c.acts.disk c.take_act.new.disk
          (g.R.Runner.list c.args.runner.now) (g.R.Runner.list c.acts.runner) (g.R.Runner.list c.take_act.new.runner) p w.0 t.0 w.1 t.1,
      all_printed (g.K.Sink.held c.args.sink.now) (g.K.Sink.held c.acts.sink) (g.K.Sink.held c.take_act.new.sink) p w.0 t.0 w.1.run w.2 t.2,
      subst (λ (x : SessionState). ActLeft x (coming_device c.in-Ok.next) true (g.S.Supervise.world c.take_act.new.supervisor)
          (Listed g.R.Runner.list g.R.Runner.told g.R.Runner.asked c.take_act.new.runner) (g.R.Runner.living c.take_act.new.runner))
          (sym (left-append p t.0 w.0))
          (record { runs = t.3.runs; device_is = t.3.device_is; quiet = λ none. t.3.quiet c.if-none.true }),
      tt,
    )

pub returns-then-none-clause-deployment : goal.returns-then-none-clause-deployment
returns-then-none-clause-deployment g c = same_trans (coming_device c.args.state) (coming_device c.acts.state) (coming_device c.in-Ok.next)
    c.acts.invariant.deployment c.in-Ok.ensures.deployment

pub returns-in-Err-clause-trace : goal.returns-in-Err-clause-trace
returns-in-Err-clause-trace g c = λ p runs device.
    let w = c.acts.invariant.trace p runs device in
    let t = c.in-Err.ensures.trace (state_after p w.0) w.3.runs w.3.device_is in (
      t.0 ++ w.0,
      went_on g.J.Journal.entries g.J.Journal.files g.met.D.Disk.laws c.args.disk.now c.acts.disk c.take_act.new.disk
          (g.R.Runner.list c.args.runner.now) (g.R.Runner.list c.acts.runner) (g.R.Runner.list c.take_act.new.runner) p w.0 t.0 w.1 t.1,
      lines_at_joined (g.K.Sink.held c.args.sink.now) (g.K.Sink.held c.acts.sink) (g.K.Sink.held c.take_act.new.sink) p w.0 t.0 c.in-Err.over w.1.run w.2 t.2,
      left_joined g.J.Journal.entries g.D.Disk.may_leave c.take_act.new.disk p w.0 t.0 c.in-Err.over w.1.run t.3,
      quits_on p w.0 t.0 (g.S.Supervise.world c.take_act.new.supervisor) (Listed g.R.Runner.list g.R.Runner.told g.R.Runner.asked c.take_act.new.runner)
          (g.R.Runner.living c.take_act.new.runner) t.4,
    )

pub returns-in-Err-clause-disk : goal.returns-in-Err-clause-disk
returns-in-Err-clause-disk g c = λ is. let r = c.in-Err.ensures.disk (same_err c.in-Err.over over.Disk is) in omega (arith, r, c.acts.invariant.quiet_disk)

pub returns-in-Err-clause-edge : goal.returns-in-Err-clause-edge
returns-in-Err-clause-edge g c = λ is. let r = c.in-Err.ensures.edge (same_err c.in-Err.over over.Output is) in omega (arith, r, c.acts.invariant.quiet_sink)

pub take_act-requires-clause-drives : goal.take_act-requires-clause-drives
take_act-requires-clause-drives g c = c.acts.invariant.not_above.on.drives

pub returns-then-none-clause-not_above : goal.returns-then-none-clause-not_above
returns-then-none-clause-not_above g c = not_above_on (g.S.Supervise.world c.args.supervisor.now) (g.S.Supervise.world c.acts.supervisor)
    (g.S.Supervise.world c.take_act.new.supervisor) c.acts.invariant.not_above c.take_act.ensures.not_above

pub returns-in-Err-clause-not_above : goal.returns-in-Err-clause-not_above
returns-in-Err-clause-not_above g c = not_above_on (g.S.Supervise.world c.args.supervisor.now) (g.S.Supervise.world c.acts.supervisor)
    (g.S.Supervise.world c.take_act.new.supervisor) c.acts.invariant.not_above c.take_act.ensures.not_above

pub acts-smaller : goal.acts-smaller
acts-smaller g c = (c.in-Ok.ensures.falls c.if-none.false).less
