-- What each kind of tree is seen as.
use Rattle.std.proofs.Common.{◌≡◌, ℕ, List, [], ◌∷◌, map, ap, ◌∙◌, refl, rules, ℤ, Vec, Global}
use Rattle.serde_json.specs.Data.{Data, object, array, string, number}
use Rattle.serde_json.specs.Find.{of_integer}
use Rattle.tree_core.specs.View.{view, field_view, fields_view, members_of, items_view, items_of}
use Rattle.tree_core.specs.declared.tree.Tree.{Tree, Fields, Items, Text, Whole, the_lemmas}
use Rattle.tree_core.proofs.Fields.{Field}
use Rattle.tree_core.specs.Parts.{pairs_of, members, IsObject, values, list_of, IsList}

pub pairs-members : (ms : List (List ℕ × Data)) → pairs_of (members_of ms) ≡ ms
pairs-members [] = refl
pairs-members (m ∷ ms) = ap (λ rest. m ∷ rest) (pairs-members ms)

-- ---- a tree that is an object

pub seen : (v : Vec Field Global) → view (Fields v) ≡ object (fields_view v.items)
seen v = search (rules, the_lemmas)

pub is_object : (t : Tree) (v : Vec Field Global) → t ≡ Fields v → IsObject (view t)
is_object t v is = (fields_view v.items, ap view is ∙ seen v)

pub members_are : (t : Tree) (v : Vec Field Global) → t ≡ Fields v → members (view t) ≡ map field_view v.items
members_are t v is = ap members (ap view is ∙ seen v) ∙ pairs-members (map field_view v.items)

-- ---- a tree that is a list

pub seen_list : (v : Vec Tree Global) → view (Items v) ≡ array (items_view v.items)
seen_list v = search (rules, the_lemmas)

pub is_list : (t : Tree) (v : Vec Tree Global) → t ≡ Items v → IsList (view t)
is_list t v is = (items_view v.items, ap view is ∙ seen_list v)

pub list-items : (ds : List Data) → list_of (items_of ds) ≡ ds
list-items [] = refl
list-items (d ∷ ds) = ap (λ rest. d ∷ rest) (list-items ds)

pub values_are : (t : Tree) (v : Vec Tree Global) → t ≡ Items v → values (view t) ≡ map view v.items
values_are t v is = ap values (ap view is ∙ seen_list v) ∙ list-items (map view v.items)

pub seen_text : (s : List ℕ) → view (Text s) ≡ string s
seen_text s = search (rules, the_lemmas)

pub seen_whole : (z : ℤ) → view (Whole z) ≡ number (of_integer z)
seen_whole z = search (rules, the_lemmas)
