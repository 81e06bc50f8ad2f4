-- The parts of a regular value are regular.
use Rattle.std.proofs.Common.{◌≡◌, ℕ, zero, suc, ◌<◌, ◌≤◌, List, [], ◌∷◌, length, get_or, Option, Some, None, IfSome, option_and_then, refl, sym, subst, ap}
use Rattle.std.proofs.Common.{◌∙◌, arith, Vec, Global}
use Rattle.serde_json.specs.Data.{Data, null, boolean, number, string, array, object, Items, Members, member, members_depth, items_depth}
use Rattle.serde_json.specs.Find.{get}
use Rattle.tree_core.specs.Nodes.{node}
use Rattle.tree_core.specs.Parts.{present}
use Rattle.tree_core.specs.Regular.{IsRegular, MembersAreOrderly, MembersHaveUtf8, ItemsAreOrderly, ItemsHaveUtf8}
use Rattle.tree_core.specs.View.{view, fields_view, items_view}
use Rattle.tree_core.specs.declared.tree.Tree.{Tree, Fields}
use Rattle.tree_core.proofs.Fields.{Field}
use Rattle.tree_core.proofs.NodeOrder.{node_regular}
use Rattle.tree_core.proofs.Seen.{seen}

pub record AreRegular (ms : Members) : Type 0 where
  pub orderly : MembersAreOrderly ms
  pub shallow : members_depth ms ≤ 64
  pub utf8 : MembersHaveUtf8 ms

pub record ItemsAreRegular (ds : Items) : Type 0 where
  pub orderly : ItemsAreOrderly ds
  pub shallow : items_depth ds ≤ 64
  pub utf8 : ItemsHaveUtf8 ds

pub members_regular : (ms : Members) → IsRegular (object ms) → AreRegular ms
members_regular ms h = record { orderly = h.orderly; shallow = omega (arith, h.shallow); utf8 = h.utf8 }

pub items_regular : (ds : Items) → IsRegular (array ds) → ItemsAreRegular ds
items_regular ds h = record { orderly = h.orderly; shallow = omega (arith, h.shallow); utf8 = h.utf8 }

pub fields_regular : (t : Tree) (v : Vec Field Global) → t ≡ Fields v → IsRegular (view t) → AreRegular (fields_view v.items)
fields_regular t v is h = members_regular _ (subst IsRegular (ap view is ∙ seen v) h)

pub first_regular : (k : List ℕ) (d : Data) (ms : Members) → AreRegular (member k d ms) → IsRegular d
first_regular k d ms h = record { orderly = h.orderly.1; shallow = omega (arith, h.shallow); utf8 = h.utf8.1 }

pub rest_regular : (k : List ℕ) (d : Data) (ms : Members) → AreRegular (member k d ms) → AreRegular ms
rest_regular k d ms h = record { orderly = h.orderly.2; shallow = omega (arith, h.shallow); utf8 = h.utf8.2 }

pub field_regular : (xs : List Field) (i : ℕ) (x : Field) → AreRegular (fields_view xs) → i < length xs → x ≡ get_or xs i x → IsRegular (view x.1)
field_regular [] i x h below at = absurd (omega arith)
field_regular (y ∷ ys) zero x h below at = subst (λ (z : Field). IsRegular (view z.1)) (sym at) (first_regular y.0 (view y.1) (fields_view ys) h)
field_regular (y ∷ ys) (suc i) x h below at = field_regular ys i x (rest_regular y.0 (view y.1) (fields_view ys) h) (omega arith) at

pub item_regular : (xs : List Tree) (i : ℕ) (x : Tree) → ItemsAreRegular (items_view xs) → i < length xs → x ≡ get_or xs i x → IsRegular (view x)
item_regular [] i x h below at = absurd (omega arith)
item_regular (y ∷ ys) zero x h below at = subst (λ (z : Tree). IsRegular (view z)) (sym at) (record {
  orderly = h.orderly.0;
  shallow =
      omega (arith, h.shallow);
  utf8 = h.utf8.0;
})
item_regular (y ∷ ys) (suc i) x h below at = item_regular ys i x (record {
  orderly = h.orderly.1;
  shallow = omega (arith, h.shallow);
  utf8 =
      h.utf8.1;
}) (omega arith) at

-- ---- the value of a key

if_there : (o : Option Data) → ((d : Data) → o ≡ Some d → IsRegular d) → IfSome o IsRegular
if_there None h = tt
if_there (Some d) h = h d refl

pub get_regular : (k : List ℕ) (d : Data) → IsRegular d → IfSome (get k d) IsRegular
get_regular k null h = tt
get_regular k (boolean b) h = tt
get_regular k (number n) h = tt
get_regular k (string s) h = tt
get_regular k (array ds) h = tt
get_regular k (object ms) h = if_there (get k (object ms)) (λ e is. node_regular (k ∷ []) (object ms) e h (ap (option_and_then (node [])) is))

pub present_regular : (o : Option Data) → IfSome o IsRegular → IfSome (present o) IsRegular
present_regular None h = tt
present_regular (Some null) h = tt
present_regular (Some (boolean b)) h = h
present_regular (Some (number n)) h = h
present_regular (Some (string s)) h = h
present_regular (Some (array ds)) h = h
present_regular (Some (object ms)) h = h
