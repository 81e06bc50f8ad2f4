use Rattle.std.proofs.Common.{drop}
use Rattle.std.specs.List.{AllByRecursion}
use Rattle.nuc_base.specs.Tables.{IsPass}
use Rattle.artifact_store.specs.Staged.{IsGiven}
use Rattle.artifact_store.proofs.Staging.{IsAsGiven, no_lines}
use Rattle.artifact_store.proofs.stages.given_files.Given as goal

abbrev pub invariant-loop-artifact : goal.invariant-loop-artifact
invariant-loop-artifact l = record {
  rest : AllByRecursion IsGiven (drop l.artifact-index l.item.artifacts);
  given : IsPass no_lines IsAsGiven l.item.artifacts (drop l.artifact-index l.item.artifacts) l.helds.items;
}
