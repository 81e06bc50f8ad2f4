-- What a reader takes out of a regular value is regular.
use Rattle.std.proofs.Common.{◌≡◌, ℕ, List, Option, Some, None, IfSome, sym, subst}
use Rattle.std.specs.Option.{option_or}
use Rattle.serde_json.specs.Data.{Data}
use Rattle.serde_json.specs.Find.{get}
use Rattle.tree_core.specs.Parts.{present}
use Rattle.tree_core.specs.Regular.{IsRegular}
use Rattle.tree_core.proofs.RegularParts.{get_regular, present_regular}
use Rattle.deployment_doc.specs.Lines.{either}

first_regular : (o p : Option Data) → IfSome o IsRegular → IfSome p IsRegular → IfSome (option_or o p) IsRegular
first_regular None p h k = k
first_regular (Some v) p h k = h

pub value_regular : (k : List ℕ) (d e : Data) → IsRegular d → Some e ≡ present (get k d) → IsRegular e
value_regular k d e h is = subst (λ o. IfSome o IsRegular) (sym is) (present_regular (get k d) (get_regular k d h))

pub either_regular : (k l : List ℕ) (d e : Data) → IsRegular d → Some e ≡ either k l d → IsRegular e
either_regular k l d e h is =
    let one = first_regular (get k d) (get l d) (get_regular k d h) (get_regular l d h) in
    subst (λ o. IfSome o IsRegular) (sym is) (present_regular (option_or (get k d) (get l d)) one)
