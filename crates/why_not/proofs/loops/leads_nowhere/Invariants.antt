use Rattle.std.proofs.Common.{ℕ, take}
use Rattle.std.specs.List.{Contains}
use Rattle.recipe_reader.specs.Members.{members}
use Rattle.why_not.specs.Certificates.{DependsOn}
use Rattle.why_not.proofs.loops.leads_nowhere.Given as goal

abbrev pub invariant-loop-other : goal.invariant-loop-other
invariant-loop-other l = (x : ℕ) → Contains (take l.other-index l.others) x → DependsOn (members l.candidates) l.place x → ⊥
