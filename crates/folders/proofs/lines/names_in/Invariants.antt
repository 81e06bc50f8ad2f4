use Rattle.std.proofs.Common.{List, ℕ, ◌↔◌, take, IsSome}
use Rattle.std.specs.List.{Contains}
use Rattle.folders.specs.Lines.{stands_in}
use Rattle.folders.proofs.lines.names_in.Given as goal

abbrev pub invariant-loop-place : goal.invariant-loop-place
invariant-loop-place l = (name : List ℕ) → Contains l.names.items name ↔ IsSome (stands_in l.side (take l.place l.lines) name)
