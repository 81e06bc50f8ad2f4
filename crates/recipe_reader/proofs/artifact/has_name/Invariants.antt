use Rattle.std.proofs.Common.{◌≡◌, map, drop}
use Rattle.recipe_reader.specs.Artifacts.{has_name}
use Rattle.recipe_reader.proofs.artifact.has_name.Given as goal

abbrev pub invariant-loop-artifact : goal.invariant-loop-artifact
invariant-loop-artifact l = has_name (map (λ a. a.file) l.artifacts) l.file ≡ has_name (map (λ a. a.file) (drop l.artifact-index l.artifacts)) l.file
