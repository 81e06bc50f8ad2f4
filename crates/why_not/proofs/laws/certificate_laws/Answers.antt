use Rattle.std.proofs.Common.{[]}
use Rattle.nuc_base.proofs.Lists.{in_nil}
use Rattle.why_not.proofs.Soundness.{certified_out}
use Rattle.why_not.proofs.Plainly.{plain_nodes}
use Rattle.why_not.proofs.Resting.{left_out, rests_less}
use Rattle.why_not.proofs.laws.certificate_laws.Goals as goal

pub returns : goal.returns
returns c = record {
  none = λ ms wanted r h s v. certified_out ms wanted [] r h s v (λ x i. absurd (in_nil x i));
  left_out = left_out;
  rests =
      rests_less;
  nodes = plain_nodes;
}
