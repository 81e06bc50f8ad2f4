use Rattle.std.proofs.Common.{◌∙◌, List, ℕ, inl, inr, subst}
use Rattle.nuc_base.specs.declared.status.Status.TheVariants as statuses
use Rattle.fleet.specs.Runs.{stream_of, PrintedEnd}
use Rattle.fleet.proofs.Courses.{silent}
use Rattle.fleet.proofs.running.refuse.Goals as goal

pub returns-in-Ok : goal.returns-in-Ok
returns-in-Ok g c =
    inl (subst (λ (l : List ℕ). PrintedEnd (stream_of g.K.Sink.held g.K.Sink.faults c.args.sink.now c.end_with.new.sink) l statuses.BadInput c.end_with.result)
    (c.as_str.ensures ∙ c.in-Ok.ensures) c.end_with.ensures)

pub returns-in-Err : goal.returns-in-Err
returns-in-Err g c = inr (silent (g.K.Sink.held c.args.sink.now) (g.K.Sink.faults c.args.sink.now) statuses.Memory)
