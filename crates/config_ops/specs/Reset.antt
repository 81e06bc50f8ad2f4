-- A node set back to the default's.
use Rattle.std.specs.Prelude.{ℕ, List, [], ◌∷◌, Bool, true, ◌&&◌, if◌then◌else◌, Option, Some, None, option_and_then, is_some, unwrap_or}
use Rattle.std.specs.Option.{option_map_or}
use Rattle.std.specs.Ordering.{nat_cmp, match_ordering}
use Rattle.std.specs.Cmp.Lexicographic.{slice_cmp}
use Rattle.serde_json.specs.Data.{Data, object, Members, no_members, member, put}
use Rattle.serde_json.specs.Find.{get, get_member, as_object}

-- the node that a list of keys leads to, through objects alone
abbrev pub key_node : List (List ℕ) → Data → Option Data
key_node [] d = Some d
key_node (k ∷ keys) d = option_and_then (key_node keys) (get k d)

abbrev pub is_object : Data → Bool
is_object d = is_some (as_object d)

-- whether each proper prefix of the keys that names a node names an object
abbrev pub is_open : List (List ℕ) → Data → Bool
is_open [] t = true
is_open (k ∷ keys) t = is_object t && option_map_or (is_open keys) (get k t) true

abbrev pub members_of : Option Data → Members
members_of o = unwrap_or (option_and_then as_object o) no_members

abbrev pub without : List ℕ → Members → Members
without k no_members = no_members
without k (member l d ms) = match_ordering (slice_cmp nat_cmp k l) (member l d (without k ms)) (without k ms) (member l d (without k ms))

-- with the value at the key, or without the key
abbrev pub set_key : List ℕ → Option Data → Members → Members
set_key k None ms = without k ms
set_key k (Some d) ms = put k d ms

-- the members with a node set at a key and the keys below it, where objects are made that are not there
abbrev pub set_node : List ℕ → List (List ℕ) → Option Data → Members → Members
set_node k [] new ms = set_key k new ms
set_node k (l ∷ keys) new ms = put k (object (set_node l keys new (members_of (get_member k ms)))) ms

-- what stands at a key once a node is set at the keys below it
abbrev pub node_at : List (List ℕ) → Option Data → Option Data → Option Data
node_at [] new old = new
node_at (l ∷ keys) new old = Some (object (set_node l keys new (members_of old)))

-- whether the node at the keys is set: to the default's node where the way to it is open; where the default has none,
-- if the tree has one
abbrev pub is_due : List (List ℕ) → Option Data → Data → Bool
is_due keys (Some e) t = is_open keys t
is_due keys None t = is_some (key_node keys t)

-- the tree, the default, and the keys that a pointer names
abbrev pub reset_at : Data → Data → List (List ℕ) → Data
reset_at t d [] = d
reset_at t d (k ∷ keys) =
    if is_due (k ∷ keys) (key_node (k ∷ keys) d) t
    then object (set_node k keys (key_node (k ∷ keys) d) (members_of (Some t)))
    else t
