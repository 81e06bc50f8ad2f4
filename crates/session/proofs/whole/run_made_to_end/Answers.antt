use Rattle.std.proofs.Common.{List, ◌≡◌, List, ◌∙◌, inl, sym, subst}
use Rattle.disk_model.specs.Disk.{HasLeft}
use Rattle.records.specs.Stored.{Record}
use Rattle.deploy_state.specs.Accepting.{idle_log}
use Rattle.deploy_state.specs.States.{idle_device}
use Rattle.deploy_state.specs.Turning.{start_of}
use Rattle.step_runner.specs.Entries.{Listed}
use Rattle.histories.specs.TraceEvents.{records_of}
use Rattle.histories.specs.States.{state_after}
use Rattle.law_termination.proofs.Comes.{none_drives}
use Rattle.session.specs.Calls.{StandsWhole}
use Rattle.session.specs.Documents.{AcceptsTaken, TakenEnding}
use Rattle.session.specs.Endings.{Ending, is_failing}
use Rattle.session.specs.Sweeping.{LeavesNoStray}
use Rattle.nuc_base.specs.declared.status.Status.{Status}
use Rattle.session.proofs.States.{none_stopped, orderly_none, run_standing_none, serves_on}
use Rattle.session.proofs.Wholes.{whole}
use Rattle.session.proofs.whole.run_made_to_end.Goals as goal

-- ---- the document is deployed

pub run_made-ran-requires-clause-drives : goal.run_made-ran-requires-clause-drives
run_made-ran-requires-clause-drives g c = none_drives (g.S.Supervise.world c.args.supervisor.now) c.requires.empty

pub run_made-ran-requires-clause-orderly : goal.run_made-ran-requires-clause-orderly
run_made-ran-requires-clause-orderly g c = orderly_none (g.S.Supervise.world c.args.supervisor.now) c.requires.empty

pub run_made-ran-requires-clause-made : goal.run_made-ran-requires-clause-made
run_made-ran-requires-clause-made g c = run_standing_none (idle_device c.args.idle) (g.S.Supervise.world c.args.supervisor.now) c.requires.empty

pub run_made-ran-requires-clause-from_state : goal.run_made-ran-requires-clause-from_state
run_made-ran-requires-clause-from_state g c = let q = c.requires.from_state in (q.0, q.1)

-- ---- all are stopped

pub finish-requires-clause-from_state : goal.finish-requires-clause-from_state
finish-requires-clause-from_state g c =
    let q = c.requires.from_state in
    let t = c.run_made-ran.ensures.call q.0 q.1 (inl q.2) in
    let part = t.2.0 in
    (state_after q.0 part.history, q.0.generation, is_failing part.ending, part.left, serves_on q.0 part.history q.2)

pub returns-clause-call : goal.returns-clause-call
returns-clause-call g c = λ p opens serves.
    let t = c.run_made-ran.ensures.call p opens (inl serves) in
    let part = t.2.0 in
    let told = Listed g.R.Runner.list g.R.Runner.told g.R.Runner.asked c.args.runner.now in
    let mid = Listed g.R.Runner.list g.R.Runner.told g.R.Runner.asked c.run_made-ran.new.runner in
    let world = g.S.Supervise.world c.args.supervisor.now in
    let stopped = none_stopped p (idle_device c.args.idle) world told (g.R.Runner.living c.args.runner.now) opens.stands c.requires.empty in
    let start = start_of g.J.Journal.end g.J.Journal.number g.J.Journal.turns (idle_log c.args.idle) (idle_device c.args.idle) in
    let w = whole g.J.Journal.entries g.J.Journal.files c.args.disk.now c.run_made-ran.new.disk told.list mid.list (g.R.Runner.list c.finish.new.runner)
    (g.K.Sink.held c.args.sink.now) (g.K.Sink.held c.run_made-ran.new.sink) p c.run_made-ran.result
    (g.S.Supervise.world c.run_made-ran.new.supervisor) mid (g.R.Runner.living c.run_made-ran.new.runner) c.finish.result serves stopped
    c.finish.ensures.status part
    (c.finish.ensures.trace (state_after p part.history) p.generation (is_failing part.ending) part.left (serves_on p part.history serves)) in (
      t.0,
      t.1,
      (
        w.0,
        subst (λ (e : Ending). TakenEnding start t.0 e (records_of w.0.history)) (sym w.1)
            (subst (λ (l : List Record). TakenEnding start t.0 part.ending l) (sym w.2) t.2.1),
      ),
      (λ holds. subst (λ (l : List Record). HasLeft g.D.Disk.moment g.D.Disk.left_since c.args.disk.now c.run_made-ran.new.disk
          (StandsWhole g.J.Journal.entries p.device l)) (sym w.2) (t.3 holds)),
      (λ fails. t.4 (sym w.1 ∙ fails)),
      t.5,
      t.6,
      subst (λ (e : Ending). AcceptsTaken g.J.Journal.entries g.D.Disk.may_leave g.D.Disk.moment g.D.Disk.left_since c.args.disk.now c.run_made-ran.new.disk
          (idle_device c.args.idle) start t.0 e (records_of w.0.history)) (sym w.1)
          (subst (λ (l : List Record). AcceptsTaken g.J.Journal.entries g.D.Disk.may_leave g.D.Disk.moment g.D.Disk.left_since c.args.disk.now
          c.run_made-ran.new.disk (idle_device c.args.idle) start t.0 part.ending l) (sym w.2) t.7),
    )

pub returns-clause-disk : goal.returns-clause-disk
returns-clause-disk g c = λ is. c.run_made-ran.ensures.disk (sym c.finish.ensures.status ∙ is)

pub returns-clause-edge : goal.returns-clause-edge
returns-clause-edge g c = λ is. c.run_made-ran.ensures.edge (sym c.finish.ensures.status ∙ is)

pub returns-clause-quiet_disk : goal.returns-clause-quiet_disk
returns-clause-quiet_disk g c = λ disk edge. c.run_made-ran.ensures.quiet_disk
    (λ is. disk (c.finish.ensures.status ∙ is)) (λ is. edge (c.finish.ensures.status ∙ is))

pub returns-clause-quiet_sink : goal.returns-clause-quiet_sink
returns-clause-quiet_sink g c = λ edge. c.run_made-ran.ensures.quiet_sink (λ is. edge (c.finish.ensures.status ∙ is))

pub returns-clause-swept : goal.returns-clause-swept
returns-clause-swept g c = λ clean. subst (λ (s : Status). LeavesNoStray g.D.Disk.is_modelled g.J.Journal.entries s (g.D.Disk.seen c.run_made-ran.new.disk))
    (sym c.finish.ensures.status) (c.run_made-ran.ensures.swept clean)

pub returns-clause-library : goal.returns-clause-library
returns-clause-library g c = λ is. c.run_made-ran.ensures.library (sym c.finish.ensures.status ∙ is)

pub returns-clause-library_quiet : goal.returns-clause-library_quiet
returns-clause-library_quiet g c = λ library edge.
    c.run_made-ran.ensures.library_quiet (λ is. library (c.finish.ensures.status ∙ is)) (λ is. edge (c.finish.ensures.status ∙ is))
