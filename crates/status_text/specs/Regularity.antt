-- Configurations that are regular trees, item by item, and revisions of 64 bits, group by group.
use Rattle.std.specs.Prelude.{◌<◌, ◌^◌, List}
use Rattle.std.specs.List.{AllByRecursion}
use Rattle.tree_core.specs.Regular.{IsRegular}
use Rattle.records.specs.Stored.{Item}
use Rattle.records.specs.declared.record.Group.{Group}

-- the configuration of each item is regular
abbrev pub AreRegular : List Item → Type 0
AreRegular items = AllByRecursion (λ i. IsRegular i.config) items

-- the revision of each group has 64 bits
abbrev pub AreNumbers : List Group → Type 0
AreNumbers groups = AllByRecursion (λ g. g.revision < 2 ^ 64) groups
