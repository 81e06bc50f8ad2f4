use Rattle.std.proofs.Common.{◌≡◌, ◌↔◌, drop}
use Rattle.recipe_reader.specs.Members.{members}
use Rattle.recipe_reader.specs.Sets.{asked}
use Rattle.why_not.specs.Reasons.{branches_seen}
use Rattle.why_not.specs.Certificates.{AreCertified}
use Rattle.why_not.proofs.checker.+certified.Given as goal

abbrev pub invariant-are_certified-loop-place : goal.invariant-are_certified-loop-place
invariant-are_certified-loop-place l =
    (l.taken.items ≡ l.fn.taken.items)
    × (AreCertified (members l.candidates) (asked l.wanted) l.fn.taken.items (branches_seen l.place-items) ↔ AreCertified (members l.candidates)
    (asked l.wanted) l.fn.taken.items (branches_seen (drop l.place-index l.place-items)))
