use Rattle.std.proofs.Common.{◌≡◌, ◌++◌, ◌+◌, ◌*◌, ◌<◌, ◌^◌, List, ℕ, drop}
use Rattle.std.specs.Io.KnownBytes.{Appends}
use Rattle.recipe_reader.specs.Members.{members}
use Rattle.why_not.specs.Reasons.{branch_nodes, branches_seen}
use Rattle.why_not.specs.Texts.{branch_lines, joined_lines}
use Rattle.why_not.proofs.lines.+writes.Given as goal

abbrev pub invariant-write_branches-loop-place : goal.invariant-write_branches-loop-place
invariant-write_branches-loop-place g l = record {
  small : l.level + 1 + 2 * branch_nodes (branches_seen (drop l.place-index l.place-items)) < 2 ^ 64;
  sent : (prefix : List ℕ)
      × (joined_lines (branch_lines (members l.candidates) l.level (branches_seen l.place-items)) ≡ prefix ++ joined_lines
      (branch_lines (members l.candidates) l.level (branches_seen (drop l.place-index l.place-items))))
      × Appends (g.K.Sink.held l.fn.sink) (g.K.Sink.held l.sink) prefix;
  quiet : g.K.Sink.faults l.sink ≡ g.K.Sink.faults l.fn.sink;
}
