-- Calls that read nothing.
use Rattle.std.proofs.Common.{ℕ, List, [], Option, arith}
use Rattle.std.proofs.KnownBytes.{Consumes-nil}
use Rattle.edges.specs.Reading.{ReadsUpTo}

pub reads_none : (limit : ℕ) (left : Option (List ℕ)) → ReadsUpTo limit left left
reads_none limit left = record { read = []; few = omega (arith); consumed = Consumes-nil left }
