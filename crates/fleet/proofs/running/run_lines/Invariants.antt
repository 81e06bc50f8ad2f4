use Rattle.std.proofs.Common.{◌≤◌, ◌+◌, length}
use Rattle.fleet_core.specs.Fleets.{device_count}
use Rattle.fleet.specs.Commands.{lines_of}
use Rattle.fleet.specs.Runs.{stream_of}
use Rattle.fleet.proofs.Courses.{IsSoFar}
use Rattle.fleet.proofs.running.run_lines.Given as goal

abbrev pub invariant-lines : goal.invariant-lines
invariant-lines g l = record {
  small : l.number + length l.rest ≤ 2 + length l.fn.lines;
  so_far : IsSoFar (device_count l.fn.fleet) (lines_of l.fn.lines) l.number (lines_of l.rest) l.fleet
      (stream_of g.K.Sink.held g.K.Sink.faults l.fn.sink l.sink);
}

abbrev pub decreases-lines : goal.decreases-lines
decreases-lines g l = length l.rest
