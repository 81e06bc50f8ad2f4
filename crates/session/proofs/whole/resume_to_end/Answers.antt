use Rattle.std.proofs.Common.{◌≡◌, List, ◌∙◌, inl, refl, sym, subst}
use Rattle.disk_model.specs.Disk.{HasLeft}
use Rattle.records.specs.Stored.{Record}
use Rattle.deploy_state.specs.States.{loaded_device}
use Rattle.step_runner.specs.Entries.{Listed}
use Rattle.histories.specs.States.{state_after}
use Rattle.law_termination.proofs.Comes.{none_drives}
use Rattle.session.specs.Calls.{StandsWhole}
use Rattle.session.specs.Endings.{Ending, ResumeEnding, is_failing}
use Rattle.session.specs.Sweeping.{LeavesNoStray}
use Rattle.nuc_base.specs.declared.status.Status.{Status}
use Rattle.session.proofs.States.{orderly_none, serves_on, untaken, untaken_stage}
use Rattle.session.proofs.Wholes.{whole}
use Rattle.session.proofs.whole.resume_to_end.Goals as goal

-- ---- it is driven on

pub resume-ran-requires-clause-drives : goal.resume-ran-requires-clause-drives
resume-ran-requires-clause-drives g c = none_drives (g.S.Supervise.world c.args.supervisor.now) c.requires.empty

pub resume-ran-requires-clause-orderly : goal.resume-ran-requires-clause-orderly
resume-ran-requires-clause-orderly g c = orderly_none (g.S.Supervise.world c.args.supervisor.now) c.requires.empty

pub resume-ran-requires-clause-from_state : goal.resume-ran-requires-clause-from_state
resume-ran-requires-clause-from_state g c = let q = c.requires.from_state in (q.0, q.1)

-- ---- all are stopped

pub finish-requires-clause-from_state : goal.finish-requires-clause-from_state
finish-requires-clause-from_state g c =
    let q = c.requires.from_state in
    let p = untaken q.0 in
    let part = (c.resume-ran.ensures.call p (untaken_stage q.0 (loaded_device c.args.state) (g.S.Supervise.world c.args.supervisor.now)
    (Listed g.R.Runner.list g.R.Runner.told g.R.Runner.asked c.args.runner.now) (g.R.Runner.living c.args.runner.now) q.1) (inl (q.2, refl))).0 in
    (state_after p part.history, p.generation, is_failing part.ending, part.left, serves_on p part.history q.2)

pub returns-clause-call : goal.returns-clause-call
returns-clause-call g c = λ p at_stage serves taken.
    let t = c.resume-ran.ensures.call p at_stage (inl (serves, taken)) in
    let part = t.0 in
    let told = Listed g.R.Runner.list g.R.Runner.told g.R.Runner.asked c.args.runner.now in
    let mid = Listed g.R.Runner.list g.R.Runner.told g.R.Runner.asked c.resume-ran.new.runner in
    let w = whole g.J.Journal.entries g.J.Journal.files c.args.disk.now c.resume-ran.new.disk told.list mid.list (g.R.Runner.list c.finish.new.runner)
    (g.K.Sink.held c.args.sink.now) (g.K.Sink.held c.resume-ran.new.sink) p c.resume-ran.result
    (g.S.Supervise.world c.resume-ran.new.supervisor) mid (g.R.Runner.living c.resume-ran.new.runner) c.finish.result serves at_stage.between.still.stopped
    c.finish.ensures.status part
    (c.finish.ensures.trace (state_after p part.history) p.generation (is_failing part.ending) part.left (serves_on p part.history serves)) in (
      w.0,
      subst (λ (e : Ending). ResumeEnding (loaded_device c.args.state) e) (sym w.1) t.1,
      (λ holds. subst (λ (l : List Record). HasLeft g.D.Disk.moment g.D.Disk.left_since c.args.disk.now c.resume-ran.new.disk
          (StandsWhole g.J.Journal.entries p.device l)) (sym w.2) (t.2 holds)),
      (λ fails. t.3 (sym w.1 ∙ fails)),
    )

pub returns-clause-own : goal.returns-clause-own
returns-clause-own g c = λ is. c.resume-ran.ensures.own (sym c.finish.ensures.status ∙ is)

pub returns-clause-disk : goal.returns-clause-disk
returns-clause-disk g c = λ is. c.resume-ran.ensures.disk (sym c.finish.ensures.status ∙ is)

pub returns-clause-edge : goal.returns-clause-edge
returns-clause-edge g c = λ is. c.resume-ran.ensures.edge (sym c.finish.ensures.status ∙ is)

pub returns-clause-quiet_disk : goal.returns-clause-quiet_disk
returns-clause-quiet_disk g c =
    λ disk edge. c.resume-ran.ensures.quiet_disk (λ is. disk (c.finish.ensures.status ∙ is)) (λ is. edge (c.finish.ensures.status ∙ is))

pub returns-clause-quiet_sink : goal.returns-clause-quiet_sink
returns-clause-quiet_sink g c = λ edge. c.resume-ran.ensures.quiet_sink (λ is. edge (c.finish.ensures.status ∙ is))

pub returns-clause-swept : goal.returns-clause-swept
returns-clause-swept g c = λ clean. subst (λ (s : Status). LeavesNoStray g.D.Disk.is_modelled g.J.Journal.entries s (g.D.Disk.seen c.resume-ran.new.disk))
    (sym c.finish.ensures.status) (c.resume-ran.ensures.swept clean)
