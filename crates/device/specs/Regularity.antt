-- Configurations that are regular trees.
use Rattle.std.specs.Prelude.{⊤}
use Rattle.tree_core.specs.Regular.{IsRegular}
use Rattle.records.specs.Stored.{Record, Accepted, Kept}
use Rattle.device.specs.Plans.{AreRegularItems}

-- the trees of the record are regular
abbrev pub IsRegularRecord : Record → Type 0
IsRegularRecord (Accepted p) = AreRegularItems p.items
IsRegularRecord (Kept i) = IsRegular i.config
IsRegularRecord _ = ⊤
