use Rattle.nuc_base.specs.Names.{IsName}
use Rattle.recipe_reader.specs.Candidates.{nucleus_name}
use Rattle.recipe_reader.proofs.BuiltIn.{nucleus_named}
use Rattle.recipe_reader.proofs.nucleus.name_of.Goals as goal

pub unreachable-requires : goal.unreachable-requires
unreachable-requires c =
    let refused : ¬ IsName nucleus_name = rw c.in-Err-Bad.field-0-is at c.in-Err-Bad.ensures in
    refused nucleus_named
