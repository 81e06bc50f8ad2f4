use Rattle.std.proofs.Common.{◌≡◌, drop}
use Rattle.folders.specs.Lines.{stands_in}
use Rattle.folders.proofs.lines.standing.Given as goal

abbrev pub invariant-loop-line : goal.invariant-loop-line
invariant-loop-line l = stands_in l.side l.lines l.name ≡ stands_in l.side (drop l.line-index l.lines) l.name
