use Rattle.std.proofs.Common.{◌∙◌, ℕ, List, None, Option, Some, subst}
use Rattle.disk_model.specs.Disk.{Image}
use Rattle.disk_model.specs.Moments.{then_same}
use Rattle.nucleus_top.specs.Answers.{Store, store_over}
use Rattle.nucleus_top.specs.Components.{ListsStopped, RunningOutcome, running_text}
use Rattle.nucleus_top.specs.Looks.{LookAnswer}
use Rattle.nucleus_top.proofs.ComponentsEnds.{from_start, running_comes, set_comes, unsaid}
use Rattle.nucleus_top.proofs.component_lines.components.Goals as goal

pub returns-in-Ok-Some-clause-comes : goal.returns-in-Ok-Some-clause-comes
returns-in-Ok-Some-clause-comes g c =
    let held = c.if-not-has_writer.ensures in
    running_comes (g.D.Disk.writer c.args.disk.now) (store_over g.D.Disk c.args.disk.now c.running.new.disk) c.in-Ok-Some.text
    (c.in-Ok-Some.ensures.seen ∙ held.seen) held.told
    (λ told. subst (λ (image : Image). RunningOutcome (running_text image) (Some c.in-Ok-Some.text)) held.seen (subst (λ (o : Option (List ℕ)). RunningOutcome (running_text (g.D.Disk.seen c.has_writer.new.self)) o) c.in-Ok-Some.field-0-is
    (c.in-Ok-Some.ensures.told told)))

pub returns-in-Ok-None-clause-comes : goal.returns-in-Ok-None-clause-comes
returns-in-Ok-None-clause-comes g c =
    let held = c.if-not-has_writer.ensures in
    let writer = g.D.Disk.writer c.args.disk.now in
    let store : Store = store_over g.D.Disk c.args.disk.now c.list_set-in-Ok-None.new.disk in
    set_comes writer store c.list_set-in-Ok-None.result
    (from_start (λ (s : Store). LookAnswer s ListsStopped c.list_set-in-Ok-None.result) g.D.Disk.is_modelled (g.D.Disk.seen c.args.disk.now)
    (g.D.Disk.seen c.running.new.disk) (g.D.Disk.seen c.list_set-in-Ok-None.new.disk) (g.D.Disk.faults c.args.disk.now)
    (g.D.Disk.faults c.running.new.disk) (g.D.Disk.faults c.list_set-in-Ok-None.new.disk) (c.in-Ok-None.ensures.seen ∙ held.seen)
    (c.in-Ok-None.ensures.quiet (λ is. cc) ∙ held.quiet) c.list_set-in-Ok-None.ensures.comes)
    (unsaid writer store
    (λ told. subst (λ (image : Image). RunningOutcome (running_text image) None) held.seen (subst (λ (o : Option (List ℕ)). RunningOutcome (running_text (g.D.Disk.seen c.has_writer.new.self)) o) c.in-Ok-None.field-0-is
    (c.in-Ok-None.ensures.told told))))

pub returns-in-Ok-None-clause-moments : goal.returns-in-Ok-None-clause-moments
returns-in-Ok-None-clause-moments g c =
    let laws = g.met.D.Disk.laws in
    let allowed = g.D.Disk.may_leave c.args.disk.now in
    then_same laws c.args.disk.now c.running.new.disk c.list_set-in-Ok-None.new.disk allowed
    (then_same laws c.args.disk.now c.has_writer.new.self c.running.new.disk allowed c.if-not-has_writer.ensures.moments c.in-Ok-None.ensures.moments)
    c.list_set-in-Ok-None.ensures.moments
