use Rattle.std.proofs.Common.{◌≤◌, List, [], length, subst, sym, arith}
use Rattle.std.specs.List.{AllZip}
use Rattle.nuc_base.specs.Tables.{IsPass}
use Rattle.nuc_base.specs.declared.artifact.Artifact.{Artifact}
use Rattle.nuc_base.proofs.Tables.{passes_end}
use Rattle.records.specs.declared.record.Held.{Held}
use Rattle.artifact_store.proofs.Staging.{IsAsGiven, no_lines}
use Rattle.artifact_store.proofs.Walking.{end_is}
use Rattle.artifact_store.proofs.stages.given_files.Goals as goal

pub returns : goal.returns
returns c =
    let all : List Artifact = c.args.item.now.artifacts in
    let xs : List Artifact = c.as_slice-artifact-items.result.now in
    let helds : List Held = c.loop-artifact.helds.items in
    let past : length xs ≤ c.loop-artifact.artifact-index = omega arith in
    let passes : IsPass no_lines IsAsGiven all [] helds = subst (λ (ys : List Artifact). IsPass no_lines IsAsGiven all ys helds)
    (end_is xs all c.loop-artifact.artifact-index c.as_slice-artifact-items.ensures past) c.loop-artifact.invariant.given in
    subst (λ (hs : List Held). AllZip IsAsGiven all hs) (sym c.new.ensures) (passes_end no_lines IsAsGiven all helds passes).1
