use Rattle.std.proofs.Common.{List, Some, ap}
use Rattle.std.proofs.lemmas.List.{map-id}
use Rattle.records.specs.Stored.{Grouped}
use Rattle.records.specs.declared.record.Requirement.{Requirement}
use Rattle.records.proofs.records.grouped_of.Goals as goal

pub returns : goal.returns
returns c =
    rw c.in_ok-arn.ensures
    (ap (λ (rs : List Requirement). Some (Grouped (record { arn = c.in_ok-arn.arn; revision = 0; requirements = rs }))) (map-id c.in_ok-arn.requirements))
