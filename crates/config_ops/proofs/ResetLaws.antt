-- A reset, node by node.
use Rattle.std.proofs.Common.{◌≡◌, ℕ, List, [], ◌∷◌, ◌++◌, Bool, true, false, Option, Some, None, option_and_then, Ordering, Less, Equal, Greater, nat_cmp}
use Rattle.std.proofs.Common.{refl, sym, ap, ◌∙◌, subst}
use Rattle.std.specs.Prelude.{◌&&◌, is_some, if◌then◌else◌}
use Rattle.std.specs.Option.{option_map_or}
use Rattle.std.specs.Ordering.{match_ordering}
use Rattle.std.specs.Cmp.Lexicographic.{slice_cmp}
use Rattle.serde_json.specs.Data.{Data, null, boolean, number, string, array, object, Members, no_members, member, put}
use Rattle.serde_json.specs.Find.{get_member, get}
use Rattle.serde_json.proofs.Views.{get_member-put, get_member-put_other}
use Rattle.tree_core.specs.Parts.{IsObject}
use Rattle.config_ops.specs.Reset.{key_node, is_object, is_open, members_of, without, set_key, set_node, is_due, reset_at}
use Rattle.config_ops.specs.Laws.{IsOpen, ResetsNode, ResetsWay, ResetRemoves, RemovalKeepsWay, ResetKeepsOthers, ResetIsBlocked}
use Rattle.config_ops.proofs.Keys.{same_key}
use Rattle.config_ops.proofs.KeyByKey.{get_other}

-- ---- an object with a key set

abbrev Without : List ℕ → Members → Type 0
Without k ms = get_member k (without k ms) ≡ None

without_same_at : (o : Ordering) (k l : List ℕ) (d : Data) (ms : Members) → slice_cmp nat_cmp k l ≡ o → Without k ms →
    get_member k (match_ordering o (member l d (without k ms)) (without k ms) (member l d (without k ms))) ≡ None
without_same_at Less k l d ms is later = rw is later
without_same_at Equal k l d ms is later = later
without_same_at Greater k l d ms is later = rw is later

get_without : (k : List ℕ) (ms : Members) → get_member k (without k ms) ≡ None
get_without k no_members = refl
get_without k (member l d ms) = without_same_at (slice_cmp nat_cmp k l) k l d ms refl (get_without k ms)

without_other_at : (o : Ordering) (q k l : List ℕ) (d : Data) (ms : Members) → slice_cmp nat_cmp k l ≡ o → (q ≡ k → ⊥) →
    (get_member q (without k ms) ≡ get_member q ms)
    → get_member q (match_ordering o (member l d (without k ms)) (without k ms) (member l d (without k ms))) ≡ get_member q (member l d ms)
without_other_at Less q k l d ms is ne later = ap (λ x. match_ordering (slice_cmp nat_cmp q l) x (Some d) x) later
without_other_at Equal q k l d ms is ne later = later ∙ sym (get_other q l d ms (λ e. ne (e ∙ sym (same_key k l is))))
without_other_at Greater q k l d ms is ne later = ap (λ x. match_ordering (slice_cmp nat_cmp q l) x (Some d) x) later

get_without_other : (q k : List ℕ) (ms : Members) → (q ≡ k → ⊥) → get_member q (without k ms) ≡ get_member q ms
get_without_other q k no_members ne = refl
get_without_other q k (member l d ms) ne = without_other_at (slice_cmp nat_cmp k l) q k l d ms refl ne (get_without_other q k ms ne)

get_set : (k : List ℕ) (new : Option Data) (ms : Members) → get_member k (set_key k new ms) ≡ new
get_set k None ms = get_without k ms
get_set k (Some d) ms = get_member-put k d ms

get_set_other : (q k : List ℕ) (new : Option Data) (ms : Members) → (q ≡ k → ⊥) → get_member q (set_key k new ms) ≡ get_member q ms
get_set_other q k None ms ne = get_without_other q k ms ne
get_set_other q k (Some d) ms ne = get_member-put_other q k d ms ne

-- ---- an object with a node set

get_node_other : (q k : List ℕ) (keys : List (List ℕ)) (new : Option Data) (ms : Members) → (q ≡ k → ⊥) →
    get_member q (set_node k keys new ms) ≡ get_member q ms
get_node_other q k [] new ms ne = get_set_other q k new ms ne
get_node_other q k (l ∷ keys) new ms ne = get_member-put_other q k _ ms ne

itself_then : (o : Option Data) → option_and_then (key_node []) o ≡ o
itself_then None = refl
itself_then (Some d) = refl

node_set : (k : List ℕ) (keys : List (List ℕ)) (new : Option Data) (ms : Members) → key_node (k ∷ keys) (object (set_node k keys new ms)) ≡ new
node_set k [] new ms = itself_then (get_member k (set_key k new ms)) ∙ get_set k new ms
node_set k (l ∷ keys) new ms =
    let below = members_of (get_member k ms) in
    ap (option_and_then (key_node (l ∷ keys))) (get_member-put k (object (set_node l keys new below)) ms) ∙ node_set l keys new below

-- the same over a list of keys that is not empty
abbrev set_way : List (List ℕ) → Option Data → Members → Members
set_way [] new ms = ms
set_way (k ∷ keys) new ms = set_node k keys new ms

set_deeper : (k : List ℕ) (way : List (List ℕ)) (l : List ℕ) (later : List (List ℕ)) (new : Option Data) (ms : Members)
    → set_node k (way ++ l ∷ later) new ms ≡ put k (object (set_way (way ++ l ∷ later) new (members_of (get_member k ms)))) ms
set_deeper k [] l later new ms = refl
set_deeper k (w ∷ way) l later new ms = refl

get_deeper : (k : List ℕ) (way : List (List ℕ)) (l : List ℕ) (later : List (List ℕ)) (new : Option Data) (ms : Members)
    → get_member k (set_node k (way ++ l ∷ later) new ms) ≡ Some (object (set_way (way ++ l ∷ later) new (members_of (get_member k ms))))
get_deeper k way l later new ms = ap (get_member k) (set_deeper k way l later new ms) ∙ get_member-put k _ ms

-- what is no object has no nodes, and as little has the empty object
below_members : (a : List ℕ) (after : List (List ℕ)) (o : Option Data) → key_node (a ∷ after) (object (members_of o)) ≡ option_and_then (key_node (a ∷ after)) o
below_members a after None = refl
below_members a after (Some null) = refl
below_members a after (Some (boolean b)) = refl
below_members a after (Some (number n)) = refl
below_members a after (Some (string s)) = refl
below_members a after (Some (array ds)) = refl
below_members a after (Some (object ms)) = refl

below_members_on : (way : List (List ℕ)) (a : List ℕ) (after : List (List ℕ)) (o : Option Data) →
    key_node (way ++ a ∷ after) (object (members_of o)) ≡ option_and_then (key_node (way ++ a ∷ after)) o
below_members_on [] a after o = below_members a after o
below_members_on (w ∷ way) a after o = below_members w (way ++ a ∷ after) o

others_set : (way : List (List ℕ)) (a k : List ℕ) (after later : List (List ℕ)) (new : Option Data) (ms : Members) → (a ≡ k → ⊥)
    → key_node (way ++ a ∷ after) (object (set_way (way ++ k ∷ later) new ms)) ≡ key_node (way ++ a ∷ after) (object ms)
others_set [] a k after later new ms ne = ap (option_and_then (key_node after)) (get_node_other a k later new ms ne)
others_set (w ∷ way) a k after later new ms ne =
    let below = get_member w ms in
    ap (option_and_then (key_node (way ++ a ∷ after))) (get_deeper w way k later new ms)
    ∙ others_set way a k after later new (members_of below) ne
    ∙ below_members_on way a after below

way_set : (way : List (List ℕ)) (k : List ℕ) (later : List (List ℕ)) (new : Option Data) (ms : Members) → (ns : Members) ×
    (key_node way (object (set_way (way ++ k ∷ later) new ms)) ≡ Some (object ns))
way_set [] k later new ms = (set_node k later new ms, refl)
way_set (w ∷ way) k later new ms =
    let below = way_set way k later new (members_of (get_member w ms)) in
    (below.0, ap (option_and_then (key_node way)) (get_deeper w way k later new ms) ∙ below.1)

-- ---- the test of an open way

object_test : (d : Data) → IsObject d → is_object d ≡ true
object_test d h = ap is_object h.1

no_object_test : (d : Data) → (IsObject d → ⊥) → is_object d ≡ false
no_object_test null h = refl
no_object_test (boolean b) h = refl
no_object_test (number n) h = refl
no_object_test (string s) h = refl
no_object_test (array ds) h = refl
no_object_test (object ms) h = absurd (h (ms, refl))

open_below : (keys : List (List ℕ)) (o : Option Data) → ((d : Data) → o ≡ Some d → is_open keys d ≡ true) → option_map_or (is_open keys) o true ≡ true
open_below keys None h = refl
open_below keys (Some d) h = h d refl

open_tests : (keys : List (List ℕ)) (t : Data) → IsOpen keys t → is_open keys t ≡ true
open_tests [] t h = refl
open_tests (k ∷ keys) t h =
    rw (object_test t (h [] k keys t refl refl))
    (open_below keys (get k t) (λ d is. open_tests keys d (λ way l later e same named. h (k
    ∷ way) l later e (ap (λ x. k ∷ x) same) (ap (option_and_then (key_node way)) is ∙ named))))

and_false : (b : Bool) → (b && false) ≡ false
and_false true = refl
and_false false = refl

there : (f : Data → Option Data) (o : Option Data) (x : Data) → option_and_then f o ≡ Some x → (d : Data) × (o ≡ Some d) × (f d ≡ Some x)
there f None x is = absurd (cc)
there f (Some d) x is = (d, refl, is)

blocked_tests : (way : List (List ℕ)) (k : List ℕ) (later : List (List ℕ)) (t x : Data) → key_node way t ≡ Some x → (IsObject x → ⊥) →
    is_open (way ++ k ∷ later) t ≡ false
blocked_tests [] k later t x is h = let same : t ≡ x = cc in rw (no_object_test t (λ o. h (subst IsObject same o))) refl
blocked_tests (w ∷ way) k later t x is h =
    let next = there (key_node way) (get w t) x is in
    ap (λ o. is_object t && option_map_or (is_open (way ++ k ∷ later)) o true) next.1
    ∙ ap (λ b. is_object t && b) (blocked_tests way k later next.0 x next.2 h)
    ∙ and_false (is_object t)

-- ---- resets

-- the reset, for what the default has there
abbrev reset_with : Option Data → Data → List ℕ → List (List ℕ) → Data
reset_with o t k keys = if is_due (k ∷ keys) o t then object (set_node k keys o (members_of (Some t))) else t

by_test : (P : Data → Type 0) (b : Bool) (x t : Data) → (b ≡ true → P x) → (b ≡ false → P t) → P (if b then x else t)
by_test P true x t yes_case no_case = yes_case refl
by_test P false x t yes_case no_case = no_case refl

pub resets_node : ResetsNode
resets_node t d e [] is h = is
resets_node t d e (k ∷ keys) is h =
    ap (λ o. key_node (k ∷ keys) (reset_with o t k keys)) is
    ∙ ap (λ b. key_node (k ∷ keys) (if b then object (set_node k keys (Some e) (members_of (Some t))) else t)) (open_tests (k ∷ keys) t h)
    ∙ node_set k keys (Some e) (members_of (Some t))

none_some : (o : Option Data) → is_some o ≡ false → o ≡ None
none_some None h = refl
none_some (Some d) h = absurd (cc)

pub reset_removes : ResetRemoves
reset_removes t d [] is = is
reset_removes t d (k ∷ keys) is =
    ap (λ o. key_node (k ∷ keys) (reset_with o t k keys)) is
    ∙ by_test (λ x. key_node (k ∷ keys) x ≡ None) (is_some (key_node (k ∷ keys) t)) (object (set_node k keys None (members_of (Some t)))) t
    (λ h. node_set k keys None (members_of (Some t))) (λ h. none_some (key_node (k ∷ keys) t) h)

Way : List (List ℕ) → Data → Type 0
Way way d = (ns : Members) × (key_node way d ≡ Some (object ns))

-- the reset over a way and the keys behind it
way_reset : (way : List (List ℕ)) (k : List ℕ) (later : List (List ℕ)) (t d : Data)
    → reset_at t d (way ++ k ∷ later) ≡ (if is_due (way ++ k ∷ later) (key_node (way ++ k ∷ later) d) t then object (set_way (way ++ k
    ∷ later) (key_node (way ++ k ∷ later) d) (members_of (Some t))) else t)
way_reset [] k later t d = refl
way_reset (w ∷ way) k later t d = refl

pub reset_keeps_others : ResetKeepsOthers
reset_keeps_others t d way a k after later ne =
    let keys = way ++ k ∷ later in
    let new = key_node keys d in
    ap (key_node (way ++ a ∷ after)) (way_reset way k later t d)
    ∙ by_test (λ x. key_node (way ++ a ∷ after) x ≡ key_node (way ++ a ∷ after) t) (is_due keys new t) (object (set_way keys new (members_of (Some t)))) t
    (λ h. others_set way a k after later new (members_of (Some t)) ne ∙ below_members_on way a after (Some t)) (λ h. refl)

pub resets_way : ResetsWay
resets_way t d e way k later is h =
    let keys = way ++ k ∷ later in
    let new = key_node keys d in
    let due : is_due keys new t ≡ true = ap (λ o. is_due keys o t) is ∙ open_tests keys t h in
    let found = way_set way k later new (members_of (Some t)) in
    (found.0, ap (key_node way) (way_reset way k later t d ∙ ap (λ b. if b then object (set_way keys new (members_of (Some t))) else t) due) ∙ found.1)

pub removal_keeps_way : RemovalKeepsWay
unfolding Way
removal_keeps_way t d way k later ms is named =
    let keys = way ++ k ∷ later in
    let new = key_node keys d in
    subst (Way way) (sym (way_reset way k later t d))
    (by_test (Way way) (is_due keys new t) (object (set_way keys new (members_of (Some t)))) t (λ h. way_set way k later new (members_of (Some t)))
    (λ h. (ms, named)))

pub reset_is_blocked : ResetIsBlocked
reset_is_blocked t d e x way k later is named h =
    let keys = way ++ k ∷ later in
    let due : is_due keys (key_node keys d) t ≡ false = ap (λ o. is_due keys o t) is ∙ blocked_tests way k later t x named h in
    way_reset way k later t d ∙ ap (λ b. if b then object (set_way keys (key_node keys d) (members_of (Some t))) else t) due
