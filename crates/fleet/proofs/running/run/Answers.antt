use Rattle.std.proofs.Common.{List, sym, subst, true}
use Rattle.nuc_base.specs.declared.status.Status.TheVariants as statuses
use Rattle.fleet.specs.Commands.{Line, lines_of}
use Rattle.fleet.specs.Runs.{stream_of, StartsOff}
use Rattle.fleet.proofs.Courses.{no_fleet}
use Rattle.fleet.proofs.running.run.Goals as goal

pub returns-in-Err : goal.returns-in-Err
returns-in-Err g c =
    subst (λ (ls : List Line). StartsOff ls (stream_of g.K.Sink.held g.K.Sink.faults c.args.sink.now c.args.sink.now) statuses.Memory) (sym c.in-Some.ensures.0)
    (no_fleet (record { text = c.in-Some.line.now; is_ended = true }) (lines_of c.in-Some.lines.now) (g.K.Sink.held c.args.sink.now)
    (g.K.Sink.faults c.args.sink.now))
