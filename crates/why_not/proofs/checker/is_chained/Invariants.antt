use Rattle.std.proofs.Common.{◌↔◌, drop}
use Rattle.recipe_reader.specs.Members.{members}
use Rattle.why_not.specs.Certificates.{AreChained}
use Rattle.why_not.proofs.checker.is_chained.Given as goal

abbrev pub invariant-loop-other : goal.invariant-loop-other
invariant-loop-other l = AreChained (members l.candidates) l.place l.others l.first ↔ AreChained (members l.candidates) l.last (drop l.other-index l.others)
    l.first
