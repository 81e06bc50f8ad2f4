-- What a reader takes out of a regular value is regular.
use Rattle.std.proofs.Common.{◌≡◌, ℕ, List, Some, IfSome, sym, subst}
use Rattle.serde_json.specs.Data.{Data}
use Rattle.serde_json.specs.Find.{get}
use Rattle.tree_core.specs.Parts.{present}
use Rattle.tree_core.specs.Regular.{IsRegular}
use Rattle.tree_core.proofs.RegularParts.{get_regular, present_regular}

pub value_regular : (k : List ℕ) (d e : Data) → IsRegular d → Some e ≡ present (get k d) → IsRegular e
value_regular k d e h is = subst (λ o. IfSome o IsRegular) (sym is) (present_regular (get k d) (get_regular k d h))
