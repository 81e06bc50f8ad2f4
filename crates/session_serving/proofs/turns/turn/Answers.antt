use Rattle.std.specs.Prelude.{ℕ}
use Rattle.std.proofs.Common.{inl, refl, subst, arith}
use Rattle.deploy_state.specs.States.{idle_device}
use Rattle.session_serving.specs.Causes.{observation}
use Rattle.session_serving.specs.Documents.{IsDeployedThere}
use Rattle.session_serving.specs.Parts.{outside}
use Rattle.session_serving.specs.Turns.{status_of_turned}
use Rattle.step_runner.specs.Entries.{Listed}
use Rattle.session_serving.proofs.Causing.{caused_on, done_quiet, stays_same}
use Rattle.session_serving.proofs.Swept.{held_after, sweep_fails, turn_swept}
use Rattle.session_serving.proofs.turns.turn.Goals as goal

-- ---- stray files were swept, or are still to be

pub take_turn-requires-clause-held : goal.take_turn-requires-clause-held
take_turn-requires-clause-held g c =
    held_after g.D.Disk g.J.Journal g.met.D.Disk.laws g.met.J.Journal.laws c.requires.apart c.requires.own
    IsDeployedThere c.args.idle
    (outside g.D.Disk g.K.Sink g.R.Runner g.L.Library g.I.Inbox c.args.disk.now c.args.sink.now c.args.runner.now c.args.library.now c.args.inbox.now)
    c.sweep_owed.new.disk (g.D.Disk.faults c.sweep_owed.new.disk) c.requires.held c.sweep_owed.ensures.spared c.sweep_owed.ensures.safe

pub returns-in-Ok-clause-left : goal.returns-in-Ok-clause-left
returns-in-Ok-clause-left g c = λ p serving left.
    let old = outside g.D.Disk g.K.Sink g.R.Runner g.L.Library g.I.Inbox c.args.disk.now c.args.sink.now c.args.runner.now c.args.library.now c.args.inbox.now
    in
    let new = outside g.D.Disk g.K.Sink g.R.Runner g.L.Library g.I.Inbox c.take_turn.new.disk c.take_turn.new.sink c.take_turn.new.runner
    c.take_turn.new.library c.take_turn.new.inbox in
    let t = c.take_turn.ensures.left p serving left in (
      t.0,
      turn_swept g.D.Disk g.J.Journal g.met.D.Disk.laws g.met.J.Journal.laws c.requires.apart c.requires.own
          IsDeployedThere c.args.idle old c.sweep_owed.new.disk (g.D.Disk.faults c.sweep_owed.new.disk)
          c.requires.held c.sweep_owed.ensures.spared c.sweep_owed.ensures.safe p serving.stands.device_is new t.0 c.take_turn.result
          (g.S.Supervise.world c.take_turn.new.supervisor) (Listed g.R.Runner.list g.R.Runner.told g.R.Runner.asked c.take_turn.new.runner)
          (g.R.Runner.living c.take_turn.new.runner) c.in-Ok.ensures.quiet t.1,
    )

pub returns-in-Ok-clause-caused : goal.returns-in-Ok-clause-caused
returns-in-Ok-clause-caused g c =
    let later = c.sweep_owed.ensures.later in
    caused_on g.D.Disk.is_modelled g.J.Journal.files (status_of_turned c.take_turn.result)
    (observation g.D.Disk g.K.Sink g.L.Library g.I.Inbox c.args.disk.now c.args.sink.now c.args.library.now c.args.inbox.now)
    (observation g.D.Disk g.K.Sink g.L.Library g.I.Inbox c.sweep_owed.new.disk c.args.sink.now c.args.library.now c.args.inbox.now)
    (observation g.D.Disk g.K.Sink g.L.Library g.I.Inbox c.take_turn.new.disk c.take_turn.new.sink c.take_turn.new.library c.take_turn.new.inbox)
    (record {
      disk = λ is. absurd (done_quiet.0 is);
      edge = λ is. absurd (done_quiet.1 is);
      quiet_edges = λ edge. (refl, refl);
      later = (omega (arith, later), stays_same (g.K.Sink.faults c.args.sink.now), stays_same (g.I.Inbox.faults c.args.inbox.now));
      library_later = omega arith;
      others = λ told name own below. c.sweep_owed.ensures.others told name below;
    }) c.take_turn.ensures.caused

-- ---- the disk failed

pub give_up_sweeping-requires : goal.give_up_sweeping-requires
give_up_sweeping-requires g c = let q = c.requires.from_state in record { from_state = (q.0, idle_device c.args.idle, q.1) }

pub returns-in-Err-clause-left : goal.returns-in-Err-clause-left
returns-in-Err-clause-left g c = λ p serving left.
    let old = outside g.D.Disk g.K.Sink g.R.Runner g.L.Library g.I.Inbox c.args.disk.now c.args.sink.now c.args.runner.now c.args.library.now c.args.inbox.now
    in
    let k = c.give_up_sweeping.ensures.trace p (idle_device c.args.idle) serving in (
      k.0,
      sweep_fails g.D.Disk g.J.Journal g.met.D.Disk.laws g.met.J.Journal.laws c.requires.apart c.requires.own
          IsDeployedThere c.args.idle old c.sweep_owed.new.disk (g.D.Disk.faults c.sweep_owed.new.disk)
          c.requires.held c.sweep_owed.ensures.spared c.sweep_owed.ensures.safe p serving.stands.device_is c.give_up_sweeping.result
          (g.R.Runner.list c.give_up_sweeping.new.runner) (g.K.Sink.held c.give_up_sweeping.new.sink) k.0 k.1 c.in-Err.ensures.cause
          c.give_up_sweeping.ensures.answers c.give_up_sweeping.ensures.says k.2,
    )

pub returns-in-Err-clause-caused : goal.returns-in-Err-clause-caused
returns-in-Err-clause-caused g c =
    let later = c.sweep_owed.ensures.later in
    let said = c.give_up_sweeping.ensures.later in
    record {
      disk = λ is. c.in-Err.ensures.cause;
      edge = λ is. inl (c.give_up_sweeping.ensures.edge is);
      quiet_edges = λ edge. (c.give_up_sweeping.ensures.quiet edge, refl);
      later = (omega (arith, later), omega (arith, said), stays_same (g.I.Inbox.faults c.args.inbox.now));
      library_later = omega arith;
      others = λ told name own below. c.sweep_owed.ensures.others told name below;
    }
