-- What is computed of objects is an object.
use Rattle.std.proofs.Common.{List, [], ◌∷◌, ℕ, Bool, true, false, Option, Some, None, IfSome, refl}
use Rattle.std.specs.Prelude.{if◌then◌else◌}
use Rattle.serde_json.specs.Data.{Data, null, boolean, number, string, array, object}
use Rattle.tree_core.specs.Parts.{IsObject}
use Rattle.config_ops.specs.Join.{joined, joined_members, first, second}
use Rattle.config_ops.specs.Laws.{MergesObject, ConfigIsObject}
use Rattle.config_ops.specs.NewConfig.{Change, start, after_resets, after_merge, changed}
use Rattle.config_ops.specs.Reset.{reset_at, is_due, key_node, set_node, members_of}

joined_is_object : (other : Data → Data → Data) (t u : Data) → IsObject t → IsObject u → IsObject (joined other t u)
joined_is_object other (object ts) (object us) h k = (joined_members other ts us, refl)
joined_is_object other null u h k = absurd (cc h.1)
joined_is_object other (boolean b) u h k = absurd (cc h.1)
joined_is_object other (number n) u h k = absurd (cc h.1)
joined_is_object other (string s) u h k = absurd (cc h.1)
joined_is_object other (array ds) u h k = absurd (cc h.1)
joined_is_object other (object ts) null h k = absurd (cc k.1)
joined_is_object other (object ts) (boolean b) h k = absurd (cc k.1)
joined_is_object other (object ts) (number n) h k = absurd (cc k.1)
joined_is_object other (object ts) (string s) h k = absurd (cc k.1)
joined_is_object other (object ts) (array ds) h k = absurd (cc k.1)

chosen : (b : Bool) (a t : Data) → IsObject a → IsObject t → IsObject (if b then a else t)
chosen true a t h k = h
chosen false a t h k = k

reset_is_object : (t d : Data) (keys : List (List ℕ)) → IsObject t → IsObject d → IsObject (reset_at t d keys)
reset_is_object t d [] h k = k
reset_is_object t d (key ∷ keys) h k =
    let ms = set_node key keys (key_node (key ∷ keys) d) (members_of (Some t)) in
    chosen (is_due (key ∷ keys) (key_node (key ∷ keys) d) t) (object ms) t (ms, refl) h

resets_are_objects : (d : Data) (resets : List (List (List ℕ))) (t : Data) → IsObject d → IsObject t → IsObject (after_resets d resets t)
resets_are_objects d [] t k h = h
resets_are_objects d (keys ∷ resets) t k h = resets_are_objects d resets (reset_at t d keys) k (reset_is_object t d keys h k)

start_is_object : (kept : Option Data) (d : Data) → IfSome kept IsObject → IsObject d → IsObject (start kept d)
start_is_object None d h k = k
start_is_object (Some old) d h k = joined_is_object first old d h k

merge_is_object : (merge : Option Data) (t : Data) → IfSome merge IsObject → IsObject t → IsObject (after_merge merge t)
merge_is_object None t m h = h
merge_is_object (Some u) t m h = joined_is_object second t u h m

changed_is_object : (d : Data) (update : Option Change) (t : Data) → IsObject d → MergesObject update → IsObject t → IsObject (changed d update t)
changed_is_object d None t k m h = h
changed_is_object d (Some c) t k m h = merge_is_object c.merge (after_resets d c.resets t) m (resets_are_objects d c.resets t k h)

pub config_is_object : ConfigIsObject
config_is_object kept d update h k m = joined_is_object first (changed d update (start kept d)) d (changed_is_object d update (start kept d) k m
    (start_is_object kept d h k)) k
