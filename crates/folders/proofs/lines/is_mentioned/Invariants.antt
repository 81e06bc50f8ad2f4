use Rattle.std.proofs.Common.{◌≡◌, drop}
use Rattle.folders.specs.Lines.{mentions}
use Rattle.folders.proofs.lines.is_mentioned.Given as goal

abbrev pub invariant-loop-line : goal.invariant-loop-line
invariant-loop-line l = mentions l.side l.lines l.name ≡ mentions l.side (drop l.line-index l.lines) l.name
