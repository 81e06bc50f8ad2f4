-- Texts that are written part by part.
use Rattle.std.proofs.Common.{◌≡◌, ℕ, List, ◌++◌, Result}
use Rattle.std.specs.declared.option.Option.{Option}
use Rattle.std.specs.Result.{IsErrAnd}
use Rattle.std.specs.Io.KnownBytes.{Appends}
use Rattle.edges.specs.Pieces.{AppendsPrefix, WriteOutcome}
use Rattle.edges.proofs.Sent.{prefix_more, handed_on}

-- a fault within a part, which `?` hands on
pub fault_within : {E : Type 0} (a b c : Option (List ℕ)) (all first part rest : List ℕ) (r : Result (Unit {0}) E) (fault : E) →
    IsErrAnd r (λ e. e ≡ fault) → all ≡ (first ++ part) ++ rest → Appends a b first → AppendsPrefix b c part → WriteOutcome a c all r
fault_within a b c all first part rest r fault handed is one prefix = handed_on a c all r fault handed (prefix_more a b c all first part rest is one prefix)
