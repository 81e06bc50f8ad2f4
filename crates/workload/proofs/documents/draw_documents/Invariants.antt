use Rattle.std.proofs.Common.{◌≡◌}
use Rattle.workload.specs.Documents.{drawn_documents}
use Rattle.workload.proofs.documents.draw_documents.Given as goal

abbrev pub invariant-loop-number : goal.invariant-loop-number
invariant-loop-number l = record {
  drawn : l.drawn.items ≡ (drawn_documents l.number l.fn.generator.state).value;
  state : l.generator.state ≡ (drawn_documents l.number l.fn.generator.state).state;
}
