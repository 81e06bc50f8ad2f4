use Rattle.std.proofs.Common.{◌≡◌}
use Rattle.workload.specs.Documents.{drawn_roots}
use Rattle.workload.proofs.documents.draw_roots.Given as goal

abbrev pub invariant-loop-root : goal.invariant-loop-root
invariant-loop-root l = record {
  roots : l.roots.items ≡ (drawn_roots l._root l.initial.generator.state).value;
  state : l.generator.state ≡ (drawn_roots l._root l.initial.generator.state).state;
}
