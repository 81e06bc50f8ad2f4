use Rattle.std.proofs.Common.{◌≡◌, drop}
use Rattle.recipe_reader.specs.Environment.{has_equals}
use Rattle.recipe_reader.proofs.environment.has_equals.Given as goal

abbrev pub invariant-loop-byte : goal.invariant-loop-byte
invariant-loop-byte l = has_equals l.name ≡ has_equals (drop l.byte-index l.name)
