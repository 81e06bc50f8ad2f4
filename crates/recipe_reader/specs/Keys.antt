-- Keys that are compared without the case of ASCII letters, and the values behind them.
use Rattle.std.specs.Prelude.{ℕ, ◌||◌, Bool, false, List, map, nat_eq, Option, Some, None, if◌then◌else◌}
use Rattle.std.specs.Char.{to_ascii_lowercase}
use Rattle.std.specs.Cmp.Lexicographic.{pointwise}
use Rattle.serde_json.specs.Data.{Data, null, boolean, number, string, array, object, Members, no_members, member}
use Rattle.tree_core.specs.Parts.{present}

-- one key, whatever the case
abbrev pub is_same : List ℕ → List ℕ → Bool
is_same k l = pointwise nat_eq (map to_ascii_lowercase k) (map to_ascii_lowercase l)

abbrev pub has_key : List ℕ → Members → Bool
has_key k no_members = false
has_key k (member l d ms) = is_same k l || has_key k ms

-- two spellings of the key: after the first one comes another
abbrev pub has_two : List ℕ → Members → Bool
has_two k no_members = false
has_two k (member l d ms) = if is_same k l then has_key k ms else has_two k ms

-- the value of the first spelling of the key
abbrev pub value_of : List ℕ → Members → Option Data
value_of k no_members = None
value_of k (member l d ms) = if is_same k l then Some d else value_of k ms

abbrev pub fields : Data → Members
fields null = no_members
fields (boolean b) = no_members
fields (number n) = no_members
fields (string s) = no_members
fields (array ds) = no_members
fields (object ms) = ms

-- the value of an object's key, however that is spelled
abbrev pub any_case : List ℕ → Data → Option Data
any_case k d = value_of k (fields d)

-- the same, where it is not null
abbrev pub keyed : List ℕ → Data → Option Data
keyed k d = present (any_case k d)

abbrev pub is_doubled : List ℕ → Data → Bool
is_doubled k d = has_two k (fields d)
