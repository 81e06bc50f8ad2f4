use Rattle.std.proofs.Common.{◌∙◌, ◌++◌, [], None, Option, Some, refl, sym, subst, arith}
use Rattle.std.proofs.KnownBytes.{Appends-nil}
use Rattle.device.specs.Devices.{Device}
use Rattle.device.specs.Standing.{StandsFor}
use Rattle.step_runner.specs.Entries.{Listed}
use Rattle.histories.specs.States.{SessionState, state_after}
use Rattle.histories.proofs.Joined.{left-append}
use Rattle.session_boots.specs.declared.ends.SessionFault.TheVariants as over
use Rattle.session_boots.proofs.Acting.{acts_none}
use Rattle.session_boots.proofs.Joins.{acted, went_on}
use Rattle.session_boots.proofs.Restarts.{not_err}
use Rattle.session_boots.proofs.Same.{same_refl, same_trans}
use Rattle.session_boots.proofs.Told.{all_printed, left_joined, lines_at_joined}
use Rattle.session_startup.specs.Coming.{coming_device}
use Rattle.session_startup.specs.Turns.{TurnLeft}
use Rattle.session_startup.specs.declared.turns.Turned.{Turned}
use Rattle.session_startup.proofs.Falling.{same_err}
use Rattle.session_startup.proofs.Stages.{coming_stands}
use Rattle.session_startup.proofs.Turning.{quits_on}
use Rattle.session_startup.proofs.turns.come_up.Goals as goal

pub turns-init : goal.turns-init
turns-init g c = record {
  held = c.requires.held;
  same = refl;
  deployment = same_refl (coming_device c.args.state);
  others = λ is_modelled name other. refl;
  quiet_disk = refl;
  quiet_sink = refl;
  drives = c.requires.drives;
  trace = λ p comes. (
    [],
    acted g.J.Journal.entries g.J.Journal.files g.met.D.Disk.laws c.args.disk.now (g.R.Runner.list c.args.runner.now) (g.R.Runner.list c.args.runner.now) p []
        (λ i left. subst (λ (d : Device). StandsFor g.J.Journal.entries i d) (sym comes.stands.device_is)
        (coming_stands g.met.D.Disk.laws g.met.J.Journal.laws c.args.state c.args.disk.now c.requires.held i left))
        (acts_none p (g.R.Runner.list c.args.runner.now) (g.R.Runner.list c.args.runner.now) refl),
    Appends-nil (g.K.Sink.held c.args.sink.now),
    comes,
  );
}

pub turn-requires-clause-held : goal.turn-requires-clause-held
turn-requires-clause-held g c = c.turns.invariant.held

pub turn-requires-clause-from_state : goal.turn-requires-clause-from_state
turn-requires-clause-from_state g c =
    let q = c.requires.from_state in
    let w = c.turns.invariant.trace q.0 q.1 in
    (state_after q.0 w.0, w.3)

pub turns-preserved : goal.turns-preserved
turns-preserved g c = record {
  held = c.in-Ok.ensures.held;
  same = c.in-Ok.ensures.same ∙ c.turns.invariant.same;
  deployment = same_trans (coming_device c.args.state) (coming_device c.turns.state) (coming_device c.in-Ok.next) c.turns.invariant.deployment
      c.in-Ok.ensures.deployment;
  others = λ is_modelled name other. c.turn.ensures.others is_modelled name other ∙ c.turns.invariant.others is_modelled name other;
  quiet_disk = c.in-Ok.ensures.quiet_disk (not_err (c.in-Ok.next, c.in-Ok.turned) over.Disk) ∙ c.turns.invariant.quiet_disk;
  quiet_sink = c.in-Ok.ensures.quiet_sink (not_err (c.in-Ok.next, c.in-Ok.turned) over.Output) ∙ c.turns.invariant.quiet_sink;
  drives = c.turn.ensures.drives;
  trace = λ p comes.
      let w = c.turns.invariant.trace p comes in
      let t = c.in-Ok.ensures.trace (state_after p w.0) w.3 in
      let e = coming_device c.in-Ok.next in
      let new = Listed g.R.Runner.list g.R.Runner.told g.R.Runner.asked c.turn.new.runner in
      let world = g.S.Supervise.world c.turn.new.supervisor in
      let living = g.R.Runner.living c.turn.new.runner in (
        t.0 ++ w.0,
        went_on g.J.Journal.entries g.J.Journal.files g.met.D.Disk.laws c.args.disk.now c.turns.disk c.turn.new.disk
            (g.R.Runner.list c.args.runner.now) (g.R.Runner.list c.turns.runner) (g.R.Runner.list c.turn.new.runner) p w.0 t.0 w.1 t.1,
        all_printed (g.K.Sink.held c.args.sink.now) (g.K.Sink.held c.turns.sink) (g.K.Sink.held c.turn.new.sink) p w.0 t.0 w.1.run w.2 t.2,
        subst (λ (x : SessionState). TurnLeft None x e world new living) (sym (left-append p t.0 w.0))
            (subst (λ (k : Option Turned). TurnLeft k (state_after (state_after p w.0) t.0) e world new living) c.in-None.is t.3),
      );
}

pub returns-in-Some-clause-trace : goal.returns-in-Some-clause-trace
returns-in-Some-clause-trace g c = λ p comes.
    let w = c.turns.invariant.trace p comes in
    let t = c.in-Ok.ensures.trace (state_after p w.0) w.3 in
    let e = coming_device c.in-Ok.next in
    let new = Listed g.R.Runner.list g.R.Runner.told g.R.Runner.asked c.turn.new.runner in
    let world = g.S.Supervise.world c.turn.new.supervisor in
    let living = g.R.Runner.living c.turn.new.runner in (
      t.0 ++ w.0,
      went_on g.J.Journal.entries g.J.Journal.files g.met.D.Disk.laws c.args.disk.now c.turns.disk c.turn.new.disk
          (g.R.Runner.list c.args.runner.now) (g.R.Runner.list c.turns.runner) (g.R.Runner.list c.turn.new.runner) p w.0 t.0 w.1 t.1,
      all_printed (g.K.Sink.held c.args.sink.now) (g.K.Sink.held c.turns.sink) (g.K.Sink.held c.turn.new.sink) p w.0 t.0 w.1.run w.2 t.2,
      subst (λ (x : SessionState). TurnLeft (Some c.in-Some.turned) x e world new living) (sym (left-append p t.0 w.0))
          (subst (λ (k : Option Turned). TurnLeft k (state_after (state_after p w.0) t.0) e world new living) c.in-Some.is t.3),
      tt,
    )

pub returns-in-Some-clause-deployment : goal.returns-in-Some-clause-deployment
returns-in-Some-clause-deployment g c = same_trans (coming_device c.args.state) (coming_device c.turns.state) (coming_device c.in-Ok.next)
    c.turns.invariant.deployment c.in-Ok.ensures.deployment

pub returns-in-Err-clause-trace : goal.returns-in-Err-clause-trace
returns-in-Err-clause-trace g c = λ p comes.
    let w = c.turns.invariant.trace p comes in
    let t = c.in-Err.ensures.trace (state_after p w.0) w.3 in (
      t.0 ++ w.0,
      went_on g.J.Journal.entries g.J.Journal.files g.met.D.Disk.laws c.args.disk.now c.turns.disk c.turn.new.disk
          (g.R.Runner.list c.args.runner.now) (g.R.Runner.list c.turns.runner) (g.R.Runner.list c.turn.new.runner) p w.0 t.0 w.1 t.1,
      lines_at_joined (g.K.Sink.held c.args.sink.now) (g.K.Sink.held c.turns.sink) (g.K.Sink.held c.turn.new.sink) p w.0 t.0 c.in-Err.over w.1.run w.2 t.2,
      left_joined g.J.Journal.entries g.D.Disk.may_leave c.turn.new.disk p w.0 t.0 c.in-Err.over w.1.run t.3,
      quits_on p w.0 t.0 (g.S.Supervise.world c.turn.new.supervisor) (Listed g.R.Runner.list g.R.Runner.told g.R.Runner.asked c.turn.new.runner)
          (g.R.Runner.living c.turn.new.runner) t.4,
    )

pub returns-in-Err-clause-disk : goal.returns-in-Err-clause-disk
returns-in-Err-clause-disk g c = λ is. let r = c.in-Err.ensures.disk (same_err c.in-Err.over over.Disk is) in omega (arith, r, c.turns.invariant.quiet_disk)

pub returns-in-Err-clause-edge : goal.returns-in-Err-clause-edge
returns-in-Err-clause-edge g c = λ is. let r = c.in-Err.ensures.edge (same_err c.in-Err.over over.Output is) in omega (arith, r, c.turns.invariant.quiet_sink)

pub turn-requires-clause-drives : goal.turn-requires-clause-drives
turn-requires-clause-drives g c = c.turns.invariant.drives

pub turns-smaller : goal.turns-smaller
turns-smaller g c = c.in-Ok.ensures.falls c.in-None.is
