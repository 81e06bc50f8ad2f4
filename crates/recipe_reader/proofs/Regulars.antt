-- The values of keys, however they are spelled, are regular where the object is.
use Rattle.std.proofs.Common.{◌≡◌, ℕ, Bool, true, false, List, Option, Some, None, IfSome, option_map, sym, subst}
use Rattle.std.specs.Prelude.{if◌then◌else◌}
use Rattle.serde_json.specs.Data.{Data, Members, no_members, member}
use Rattle.serde_json.specs.Find.{get}
use Rattle.tree_core.specs.Regular.{IsRegular}
use Rattle.tree_core.specs.Parts.{present}
use Rattle.tree_core.proofs.RegularParts.{AreRegular, first_regular, rest_regular, get_regular, present_regular}
use Rattle.recipe_reader.specs.Keys.{value_of, is_same}

either_regular : (b : Bool) (d : Data) (o : Option Data) → IsRegular d → IfSome o IsRegular → IfSome (if b then Some d else o) IsRegular
either_regular true d o h rest = h
either_regular false d o h rest = rest

spelled_regular : (k : List ℕ) (ms : Members) → AreRegular ms → IfSome (value_of k ms) IsRegular
spelled_regular k no_members h = tt
spelled_regular k (member l d ms) h = either_regular (is_same k l) d (value_of k ms) (first_regular l d ms h) (spelled_regular k ms (rest_regular l d ms h))

if_some : {A : Type 0} (f : A → Data) (r : Option A) (o : Option Data) → option_map f r ≡ o → IfSome o IsRegular → IfSome r (λ t. IsRegular (f t))
if_some f None o is h = tt
if_some f (Some t) o is h = subst (λ p. IfSome p IsRegular) (sym is) h

pub found_regular : {A : Type 0} (f : A → Data) (r : Option A) (k : List ℕ) (d : Data) → option_map f r ≡ present (get k d) → IsRegular d →
    IfSome r (λ t. IsRegular (f t))
found_regular f r k d is h = if_some f r (present (get k d)) is (present_regular (get k d) (get_regular k d h))

pub value_regular : {A : Type 0} (f : A → Data) (r : Option A) (k : List ℕ) (ms : Members) → option_map f r ≡ value_of k ms → AreRegular ms →
    IfSome r (λ t. IsRegular (f t))
value_regular f r k ms is h = if_some f r (value_of k ms) is (spelled_regular k ms h)
