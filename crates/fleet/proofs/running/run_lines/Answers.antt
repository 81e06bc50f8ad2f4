use Rattle.std.proofs.Common.{◌≡◌, ◌∙◌, ◌<◌, ◌∷◌, [], List, true, length, sym, subst, arith}
use Rattle.nuc_base.specs.declared.status.Status.TheVariants as statuses
use Rattle.fleet_core.specs.Fleets.{device_count}
use Rattle.fleet.specs.Commands.{Line, lines_of}
use Rattle.fleet.specs.Runs.{stream_of}
use Rattle.fleet.proofs.Courses.{IsSoFar, at_end, goes_on, goes_out, no_more, unended_end}
use Rattle.fleet.proofs.Lines.{no_lines, some_bytes}
use Rattle.fleet.proofs.running.run_lines.Goals as goal

pub returns-in-Err : goal.returns-in-Err
returns-in-Err g c =
    let devices = device_count c.args.fleet in
    let lines = lines_of c.args.lines.now in
    let sink = stream_of g.K.Sink.held g.K.Sink.faults c.args.sink.now c.lines.sink in
    let first : lines_of c.lines.rest.now ≡ record { text = c.in-Some.line.now; is_ended = true } ∷ lines_of c.in-Some.behind.now = c.in-Some.ensures.0 in
    let so = subst (λ (ls : List Line). IsSoFar devices lines c.lines.number ls c.lines.fleet sink) first c.lines.invariant.so_far in
    goes_out devices lines c.lines.number c.in-Some.line.now (lines_of c.in-Some.behind.now) c.lines.fleet c.take_line.new.fleet
    (g.K.Sink.held c.args.sink.now) (g.K.Sink.held c.lines.sink) (g.K.Sink.held c.take_line.new.sink)
    (g.K.Sink.faults c.args.sink.now) (g.K.Sink.faults c.lines.sink) (g.K.Sink.faults c.take_line.new.sink) c.in-Err.status so
    (c.in-Err.ensures.goes so.past so.stands)

pub lines-preserved : goal.lines-preserved
lines-preserved g c =
    let devices = device_count c.args.fleet in
    let lines = lines_of c.args.lines.now in
    let sink = stream_of g.K.Sink.held g.K.Sink.faults c.args.sink.now c.lines.sink in
    let first : lines_of c.lines.rest.now ≡ record { text = c.in-Some.line.now; is_ended = true } ∷ lines_of c.in-Some.behind.now = c.in-Some.ensures.0 in
    let shorter : length c.in-Some.behind.now < length c.lines.rest.now = c.in-Some.ensures.1 in
    let so = subst (λ (ls : List Line). IsSoFar devices lines c.lines.number ls c.lines.fleet sink) first c.lines.invariant.so_far in
    record {
      small = omega (arith, shorter, c.lines.invariant.small);
      so_far = goes_on devices lines c.lines.number c.in-Some.line.now (lines_of c.in-Some.behind.now) c.lines.fleet c.take_line.new.fleet
          (g.K.Sink.held c.args.sink.now) (g.K.Sink.held c.lines.sink) (g.K.Sink.held c.take_line.new.sink)
          (g.K.Sink.faults c.args.sink.now) (g.K.Sink.faults c.lines.sink) (g.K.Sink.faults c.take_line.new.sink)
          so (c.in_default-take_line.ensures.goes so.past so.stands) c.take_line.ensures.devices;
    }

pub returns-then-is_empty : goal.returns-then-is_empty
returns-then-is_empty g c =
    let devices = device_count c.args.fleet in
    let lines = lines_of c.args.lines.now in
    let sink = stream_of g.K.Sink.held g.K.Sink.faults c.args.sink.now c.lines.sink in
    let none : lines_of c.lines.rest.now ≡ [] = no_lines c.lines.rest.now (sym c.is_empty.ensures ∙ c.if-is_empty.true) in
    let so = subst (λ (ls : List Line). IsSoFar devices lines c.lines.number ls c.lines.fleet sink) none c.lines.invariant.so_far in
    at_end devices lines c.lines.number [] c.lines.fleet
    (g.K.Sink.held c.args.sink.now) (g.K.Sink.held c.lines.sink) (g.K.Sink.held c.lines.sink)
    (g.K.Sink.faults c.args.sink.now) (g.K.Sink.faults c.lines.sink) (g.K.Sink.faults c.lines.sink)
    so statuses.Done (no_more devices c.lines.number so.past (g.K.Sink.held c.lines.sink) (g.K.Sink.faults c.lines.sink))

pub returns : goal.returns
returns g c =
    let devices = device_count c.args.fleet in
    let lines = lines_of c.args.lines.now in
    let so = c.lines.invariant.so_far in
    let some : 0 < length c.lines.rest.now = some_bytes (length c.lines.rest.now) (sym c.is_empty.ensures ∙ c.if-is_empty.false) in
    at_end devices lines c.lines.number (lines_of c.lines.rest.now) c.lines.fleet
    (g.K.Sink.held c.args.sink.now) (g.K.Sink.held c.lines.sink) (g.K.Sink.held c.refuse.new.sink)
    (g.K.Sink.faults c.args.sink.now) (g.K.Sink.faults c.lines.sink) (g.K.Sink.faults c.refuse.new.sink)
    so c.refuse.result
    (unended_end devices c.lines.number so.past c.lines.rest.now (stream_of g.K.Sink.held g.K.Sink.faults c.lines.sink c.refuse.new.sink) c.refuse.result some
    c.in_default.ensures c.refuse.ensures)
