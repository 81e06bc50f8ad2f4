-- Joins key by key, resets node by node, and configurations that stay.
use Rattle.std.specs.Prelude.{◌≡◌, ℕ, ◌≤◌, max, List, [], ◌∷◌, ◌++◌, Option, Some, None, IfSome, ⊤}
use Rattle.serde_json.specs.Data.{Data, object, Members, depth}
use Rattle.serde_json.specs.Find.{get_member}
use Rattle.tree_core.specs.Parts.{IsObject}
use Rattle.tree_core.specs.Regular.{MembersAreOrderly, IsRegular}
use Rattle.config_ops.specs.Join.{merged, filled}
use Rattle.config_ops.specs.Reset.{key_node, reset_at}
use Rattle.config_ops.specs.NewConfig.{Change, new_config}

-- ---- objects

-- an object is a finite map: two in key order that have the same at each key are one
abbrev pub IsFiniteMap : Type 0
IsFiniteMap = (ms ns : Members) → MembersAreOrderly ms → MembersAreOrderly ns → ((k : List ℕ) → get_member k ms ≡ get_member k ns) → ms ≡ ns

-- ---- joins

-- what stands at a key of which two objects have these values: one alone is kept, of two there is f
abbrev pub each_key : (Data → Data → Data) → Option Data → Option Data → Option Data
each_key f None None = None
each_key f (Some t) None = Some t
each_key f None (Some u) = Some u
each_key f (Some t) (Some u) = Some (f t u)

-- of two objects f makes an object that has at each key what `each_key` says
abbrev pub JoinsObjects : (Data → Data → Data) → Type 0
JoinsObjects f = (ts us : Members) → IsRegular (object ts) → IsRegular (object us)
    → (ms : Members) × (f (object ts) (object us) ≡ object ms) × MembersAreOrderly ms × ((k : List ℕ) →
    get_member k ms ≡ each_key f (get_member k ts) (get_member k us))

abbrev pub MergeReplaces : Type 0
MergeReplaces = (t u : Data) → (IsObject t → IsObject u → ⊥) → merged t u ≡ u

abbrev pub FillKeeps : Type 0
FillKeeps = (t d : Data) → (IsObject t → IsObject d → ⊥) → filled t d ≡ t

-- no deeper than the deeper of the two
abbrev pub NestsNoDeeper : (Data → Data → Data) → Type 0
NestsNoDeeper f = (t u : Data) → IsRegular t → IsRegular u → depth (f t u) ≤ max (depth t) (depth u)

-- ---- resets

-- each proper prefix of the keys that names a node of t names an object
abbrev pub IsOpen : List (List ℕ) → Data → Type 0
IsOpen keys t = (way : List (List ℕ)) (k : List ℕ) (later : List (List ℕ)) (e : Data) → keys ≡ way ++ k ∷ later → key_node way t ≡ Some e → IsObject e

abbrev pub ResetsWhole : Type 0
ResetsWhole = (t d : Data) → reset_at t d [] ≡ d

-- the default's node is put in
abbrev pub ResetsNode : Type 0
ResetsNode = (t d e : Data) (keys : List (List ℕ)) → key_node keys d ≡ Some e → IsOpen keys t → key_node keys (reset_at t d keys) ≡ Some e

-- and each proper prefix names an object then
abbrev pub ResetsWay : Type 0
ResetsWay = (t d e : Data) (way : List (List ℕ)) (k : List ℕ) (later : List (List ℕ)) → key_node (way ++ k ∷ later) d ≡ Some e → IsOpen (way ++ k ∷ later) t
    → (ms : Members) × (key_node way (reset_at t d (way ++ k ∷ later)) ≡ Some (object ms))

-- what the default has not, the result has not
abbrev pub ResetRemoves : Type 0
ResetRemoves = (t d : Data) (keys : List (List ℕ)) → key_node keys d ≡ None → key_node keys (reset_at t d keys) ≡ None

-- where a node was removed, the objects on the way to it stay
abbrev pub RemovalKeepsWay : Type 0
RemovalKeepsWay = (t d : Data) (way : List (List ℕ)) (k : List ℕ) (later : List (List ℕ)) (ms : Members) → key_node (way ++ k ∷ later) d ≡ None →
    key_node way t ≡ Some (object ms)
    → (ns : Members) × (key_node way (reset_at t d (way ++ k ∷ later)) ≡ Some (object ns))

-- All other nodes are those of t: each list of keys that leaves the pointer's, by a key a where that has the key k,
-- leads to what it leads to in t. So the objects on the way have the keys that they have in t, and the next key.
abbrev pub ResetKeepsOthers : Type 0
ResetKeepsOthers = (t d : Data) (way : List (List ℕ)) (a k : List ℕ) (after later : List (List ℕ)) → (a ≡ k → ⊥)
    → key_node (way ++ a ∷ after) (reset_at t d (way ++ k ∷ later)) ≡ key_node (way ++ a ∷ after) t

-- nothing changes where a proper prefix names a node of t that is no object
abbrev pub ResetIsBlocked : Type 0
ResetIsBlocked = (t d e x : Data) (way : List (List ℕ)) (k : List ℕ) (later : List (List ℕ)) → key_node (way ++ k ∷ later) d ≡ Some e →
    key_node way t ≡ Some x → (IsObject x → ⊥)
    → reset_at t d (way ++ k ∷ later) ≡ t

-- nor where neither has the node
abbrev pub ResetHasNothing : Type 0
ResetHasNothing = (t d : Data) (keys : List (List ℕ)) → key_node keys d ≡ None → key_node keys t ≡ None → reset_at t d keys ≡ t

abbrev pub ResetNestsNoDeeper : Type 0
ResetNestsNoDeeper = (t d : Data) (keys : List (List ℕ)) → IsRegular t → IsRegular d → depth (reset_at t d keys) ≤ max (depth t) (depth d)

-- ---- configurations

abbrev pub IsRegularChange : Option Change → Type 0
IsRegularChange None = ⊤
IsRegularChange (Some c) = IfSome c.merge IsRegular

-- a configuration that was computed stays where no update comes
abbrev pub ConfigStays : Type 0
ConfigStays = (kept : Option Data) (d : Data) (update : Option Change) → IfSome kept IsRegular → IsRegular d → IsRegularChange update
    → new_config (Some (new_config kept d update)) d None ≡ new_config kept d update

-- and it has whatever the default has
abbrev pub ConfigIsFilled : Type 0
ConfigIsFilled = (kept : Option Data) (d : Data) (update : Option Change) → IfSome kept IsRegular → IsRegular d → IsRegularChange update
    → filled (new_config kept d update) d ≡ new_config kept d update

-- an update that merges an object, or nothing
abbrev pub MergesObject : Option Change → Type 0
MergesObject None = ⊤
MergesObject (Some c) = IfSome c.merge IsObject

-- a new configuration of objects is an object
abbrev pub ConfigIsObject : Type 0
ConfigIsObject = (kept : Option Data) (d : Data) (update : Option Change) → IfSome kept IsObject → IsObject d → MergesObject update →
    IsObject (new_config kept d update)
