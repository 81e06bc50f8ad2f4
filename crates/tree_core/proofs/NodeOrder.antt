-- A node of a regular value is regular.
use Rattle.std.proofs.Common.{◌≡◌, ℕ, zero, suc, ◌≤◌, List, [], ◌∷◌, Option, Some, None, IfSome, option_and_then, subst, arith, nat_cmp}
use Rattle.std.specs.Cmp.Lexicographic.{slice_cmp}
use Rattle.serde_json.specs.Data.{Data, null, boolean, number, string, array, object, Items, no_items, item, Members, no_members, member, items_depth}
use Rattle.serde_json.specs.Data.{members_depth}
use Rattle.serde_json.specs.Find.{get_member, get_item}
use Rattle.tree_core.specs.Regular.{ItemsAreOrderly, MembersAreOrderly, ItemsHaveUtf8, MembersHaveUtf8, IsRegular}
use Rattle.tree_core.specs.Nodes.{node, child, place}
use Rattle.tree_core.proofs.Puts.{found_at}

-- ---- a walk keeps what each step keeps

below : (P : Data → Type 0) (f : Data → Option Data) (o : Option Data) → IfSome o P → ((d : Data) → P d → IfSome (f d) P) → IfSome (option_and_then f o) P
below P f None h more = tt
below P f (Some d) h more = more d h

each_node : (P : Data → Type 0) → ((token : List ℕ) (d : Data) → P d → IfSome (child token d) P) → (tokens : List (List ℕ)) (d : Data) → P d →
    IfSome (node tokens d) P
each_node P step [] d h = h
each_node P step (token ∷ tokens) d h = below P (node tokens) (child token d) (step token d h) (each_node P step tokens)

placed : (P : Data → Type 0) (o : Option ℕ) (ds : Items) → ((i : ℕ) → IfSome (get_item i ds) P) → IfSome (option_and_then (λ i. get_item i ds) o) P
placed P None ds h = tt
placed P (Some i) ds h = h i

item_regular : (i : ℕ) (ds : Items) → ItemsAreOrderly ds → items_depth ds ≤ 64 → ItemsHaveUtf8 ds → IfSome (get_item i ds) IsRegular
item_regular i no_items o s u = tt
item_regular zero (item d ds) o s u = record { orderly = o.0; shallow = omega (arith, s); utf8 = u.0 }
item_regular (suc i) (item d ds) o s u = item_regular i ds o.1 (omega (arith, s)) u.1

member_regular : (k : List ℕ) (ms : Members) → MembersAreOrderly ms → members_depth ms ≤ 64 → MembersHaveUtf8 ms → IfSome (get_member k ms) IsRegular
member_regular k no_members o s u = tt
member_regular k (member l e ms) o s u =
    found_at IsRegular (slice_cmp nat_cmp k l) e _ (record {
      orderly = o.1;
      shallow = omega (arith, s);
      utf8 =
          u.1;
    }) (member_regular k ms o.2 (omega (arith, s)) u.2)

pub child_regular : (token : List ℕ) (d : Data) → IsRegular d → IfSome (child token d) IsRegular
child_regular token null h = tt
child_regular token (boolean b) h = tt
child_regular token (number n) h = tt
child_regular token (string s) h = tt
child_regular token (array ds) h = placed IsRegular (place token) ds (λ i. item_regular i ds h.orderly (omega (arith, h.shallow)) h.utf8)
child_regular token (object ms) h = member_regular token ms h.orderly (omega (arith, h.shallow)) h.utf8

pub node_regular : (tokens : List (List ℕ)) (d e : Data) → IsRegular d → node tokens d ≡ Some e → IsRegular e
node_regular tokens d e h is = subst (λ o. IfSome o IsRegular) is (each_node IsRegular child_regular tokens d h)
