-- The words for the faults of a tree.
use Rattle.std.specs.Prelude.{ℕ, List, codes}
use Rattle.tree_core.specs.declared.fault.TreeFault.{TreeFault}
use Rattle.tree_core.specs.declared.fault.TreeFault.TheVariants.{TooLarge, NotJson, TooDeep, NotWhole, NoMemory}

abbrev pub word_of : TreeFault → List ℕ
word_of TooLarge = codes "TooLarge"
word_of NotJson = codes "NotJson"
word_of TooDeep = codes "TooDeep"
word_of NotWhole = codes "NotWhole"
word_of NoMemory = codes "NoMemory"
