-- A reset of a regular tree is regular, and nests no deeper than the tree and the default.
use Rattle.std.proofs.Common.{◌≡◌, ℕ, zero, suc, max, List, [], ◌∷◌, Bool, true, false, Option, Some, None, IfSome, option_and_then, Ordering, Less, Equal}
use Rattle.std.proofs.Common.{Greater, nat_cmp, refl, sym, subst, arith}
use Rattle.std.specs.Prelude.{IsUtf8, ⊤, is_some, if◌then◌else◌}
use Rattle.std.specs.Ordering.{match_ordering}
use Rattle.std.specs.Cmp.Lexicographic.{slice_cmp}
use Rattle.serde_json.specs.Data.{Data, null, boolean, number, string, array, object, Members, no_members, member, depth}
use Rattle.serde_json.specs.Find.{get_member, get}
use Rattle.tree_core.specs.Regular.{IsBelowAll, IsRegular}
use Rattle.config_ops.specs.Reset.{without, set_node, key_node, members_of, is_due, reset_at}
use Rattle.config_ops.specs.Laws.{ResetNestsNoDeeper}
use Rattle.config_ops.proofs.Keys.{same_key}
use Rattle.config_ops.proofs.Sound.{IsSound, AreSound, members_sound, object_sound, none_sound, put_sound, get_sound, first_sound, rest_sound, sound_regular}
use Rattle.config_ops.proofs.Sound.{regular_sound, within_max}

-- ---- without a key

below_without_at : (o : Ordering) (k l m : List ℕ) (d : Data) (ms : Members) → slice_cmp nat_cmp l m ≡ Less → IsBelowAll l (without k ms)
    → IsBelowAll l (match_ordering o (member m d (without k ms)) (without k ms) (member m d (without k ms)))
below_without_at Less k l m d ms h later = (h, later)
below_without_at Equal k l m d ms h later = later
below_without_at Greater k l m d ms h later = (h, later)

below_without : (k l : List ℕ) (ms : Members) → IsBelowAll l ms → IsBelowAll l (without k ms)
below_without k l no_members h = tt
below_without k l (member m d ms) h = below_without_at (slice_cmp nat_cmp k m) k l m d ms h.0 (below_without k l ms h.1)

member_sound : (n : ℕ) (k : List ℕ) (d : Data) (ms ns : Members) → AreSound n (member k d ms) → AreSound n ns → IsBelowAll k ns → AreSound n (member k d ns)
member_sound n k d ms ns old h b = record {
  orderly = (b, old.orderly.1, h.orderly);
  within = omega (arith, old.within, h.within);
  utf8 = (old.utf8.0, old.utf8.1, h.utf8);
}

without_sound_at : (o : Ordering) (n : ℕ) (k l : List ℕ) (d : Data) (ms : Members) → AreSound n (member l d ms) → AreSound n (without k ms)
    → AreSound n (match_ordering o (member l d (without k ms)) (without k ms) (member l d (without k ms)))
without_sound_at Less n k l d ms old h = member_sound n l d ms (without k ms) old h (below_without k l ms old.orderly.0)
without_sound_at Equal n k l d ms old h = h
without_sound_at Greater n k l d ms old h = member_sound n l d ms (without k ms) old h (below_without k l ms old.orderly.0)

pub without_sound : (n : ℕ) (k : List ℕ) (ms : Members) → AreSound n ms → AreSound n (without k ms)
without_sound n k no_members h = h
without_sound n k (member l d ms) h = without_sound_at (slice_cmp nat_cmp k l) n k l d ms h (without_sound n k ms (rest_sound n l d ms h))

-- ---- a key that leads somewhere

Leads : ℕ → List ℕ → Data → Type 0
Leads n k e = IsUtf8 k × IsSound n e

leads_at : (o : Ordering) (n : ℕ) (k l : List ℕ) (e : Data) (rest : Option Data) → slice_cmp nat_cmp k l ≡ o → IsUtf8 l → IsSound n e →
    IfSome rest (Leads n k) → IfSome (match_ordering o rest (Some e) rest) (Leads n k)
unfolding Leads
leads_at Less n k l e rest is u h later = later
leads_at Equal n k l e rest is u h later = (subst IsUtf8 (sym (same_key k l is)) u, h)
leads_at Greater n k l e rest is u h later = later

member_leads : (n : ℕ) (k : List ℕ) (ms : Members) → AreSound n ms → IfSome (get_member k ms) (Leads n k)
member_leads n k no_members h = tt
member_leads n k (member l e ms) h = leads_at (slice_cmp nat_cmp k l) n k l e (get_member k ms) refl h.utf8.0 (first_sound n l e ms h) (member_leads n k ms
    (rest_sound n l e ms h))

key_leads : (n : ℕ) (k : List ℕ) (d : Data) → IsSound (suc n) d → IfSome (get k d) (Leads n k)
key_leads n k null h = tt
key_leads n k (boolean b) h = tt
key_leads n k (number x) h = tt
key_leads n k (string s) h = tt
key_leads n k (array ds) h = tt
key_leads n k (object ms) h = member_leads n k ms (members_sound n ms h)

through : (P : Data → Type 0) (f : Data → Option Data) (o : Option Data) (e : Data) → IfSome o P → option_and_then f o ≡ Some e → (d : Data) × P d ×
    (f d ≡ Some e)
through P f None e h is = absurd (cc)
through P f (Some d) e h is = (d, h, is)

nests : (n : ℕ) (k : List ℕ) (keys : List (List ℕ)) (d e : Data) → key_node (k ∷ keys) d ≡ Some e → IsSound n d → (m : ℕ) × (n ≡ suc m)
nests n k keys null e is h = absurd (cc)
nests n k keys (boolean b) e is h = absurd (cc)
nests n k keys (number x) e is h = absurd (cc)
nests n k keys (string s) e is h = absurd (cc)
nests n k keys (array ds) e is h = absurd (cc)
nests zero k keys (object ms) e is h = absurd (omega (arith, h.within))
nests (suc n) k keys (object ms) e is h = (n, refl)

pub below_sound : (n : ℕ) (o : Option Data) → IfSome o (IsSound (suc n)) → AreSound n (members_of o)
below_sound n None h = none_sound n
below_sound n (Some null) h = none_sound n
below_sound n (Some (boolean b)) h = none_sound n
below_sound n (Some (number x)) h = none_sound n
below_sound n (Some (string s)) h = none_sound n
below_sound n (Some (array ds)) h = none_sound n
below_sound n (Some (object ms)) h = members_sound n ms h

-- ---- a node set where another value has one

abbrev pub IsNew : Option Data → Data → Type 0
IsNew None e = ⊤
IsNew (Some d) e = d ≡ e

set_last : (n : ℕ) (k : List ℕ) (e : Data) (new : Option Data) (ms : Members) → IsNew new e → IsUtf8 k → IsSound n e → AreSound n ms →
    AreSound n (set_node k [] new ms)
set_last n k e None ms is u h old = without_sound n k ms old
set_last n k e (Some d) ms is u h old = put_sound n k d ms u (subst (IsSound n) (sym is) h) old

pub set_sound : (n : ℕ) (k : List ℕ) (keys : List (List ℕ)) (d e : Data) (new : Option Data) (ms : Members) → key_node (k ∷ keys) d ≡ Some e → IsNew new e →
    IsSound (suc n) d → AreSound n ms
    → AreSound n (set_node k keys new ms)
unfolding Leads
set_sound n k [] d e new ms is fits h old =
    let next = through (Leads n k) (key_node []) (get k d) e (key_leads n k d h) is in
    let same : next.0 ≡ e = let both : Some next.0 ≡ Some e = next.2 in cc in
    set_last n k e new ms fits next.1.0 (subst (IsSound n) same next.1.1) old
set_sound n k (l ∷ keys) d e new ms is fits h old =
    let next = through (Leads n k) (key_node (l ∷ keys)) (get k d) e (key_leads n k d h) is in
    let deeper = nests n l keys next.0 e next.2 next.1.1 in
    let m = deeper.0 in
    let here : IsSound (suc m) next.0 = subst (λ x. IsSound x next.0) deeper.1 next.1.1 in
    let old_here : AreSound (suc m) ms = subst (λ x. AreSound x ms) deeper.1 old in
    let inner = set_sound m l keys next.0 e new (members_of (get_member k ms)) next.2 fits here (below_sound m (get_member k ms) (get_sound (suc m) k ms
    old_here)) in
    let whole : AreSound (suc m) (set_node k (l ∷ keys) new ms) = put_sound (suc m) k _ ms next.1.0 (object_sound m _ inner) old_here in
    subst (λ x. AreSound x (set_node k (l ∷ keys) new ms)) (sym deeper.1) whole

set_whole : (n : ℕ) (k : List ℕ) (keys : List (List ℕ)) (t d e : Data) (new : Option Data) → key_node (k ∷ keys) d ≡ Some e → IsNew new e → IsSound n d →
    IsSound n t
    → IsSound n (object (set_node k keys new (members_of (Some t))))
set_whole n k keys t d e new is fits h old =
    let deeper = nests n k keys d e is h in
    let m = deeper.0 in
    let whole = object_sound m _ (set_sound m k keys d e new (members_of (Some t)) is fits (subst (λ x. IsSound x d) deeper.1 h) (below_sound m (Some t)
    (subst (λ x. IsSound x t) deeper.1 old))) in
    subst (λ x. IsSound x (object (set_node k keys new (members_of (Some t))))) (sym deeper.1) whole

there : (o : Option Data) → is_some o ≡ true → (e : Data) × (o ≡ Some e)
there None h = absurd (cc)
there (Some e) h = (e, refl)

chosen : (b : Bool) (n : ℕ) (a t : Data) → (b ≡ true → IsSound n a) → IsSound n t → IsSound n (if b then a else t)
chosen true n a t more h = more refl
chosen false n a t more h = h

due : (n : ℕ) (k : List ℕ) (keys : List (List ℕ)) (t d : Data) (o : Option Data) → key_node (k ∷ keys) d ≡ o → IsSound n d → IsSound n t →
    is_due (k ∷ keys) o t ≡ true
    → IsSound n (object (set_node k keys o (members_of (Some t))))
due n k keys t d None is h old asked =
    let at = there (key_node (k ∷ keys) t) asked in
    set_whole n k keys t t at.0 None at.1 tt old old
due n k keys t d (Some e) is h old asked = set_whole n k keys t d e (Some e) is refl h old

pub reset_sound : (n : ℕ) (t d : Data) (keys : List (List ℕ)) → IsSound n t → IsSound n d → IsSound n (reset_at t d keys)
reset_sound n t d [] old h = h
reset_sound n t d (k ∷ keys) old h =
    chosen (is_due (k ∷ keys) (key_node (k ∷ keys) d) t) n _ t (due n k keys t d (key_node (k ∷ keys) d) refl h old) old

pub reset_regular : (t d : Data) (keys : List (List ℕ)) → IsRegular t → IsRegular d → IsRegular (reset_at t d keys)
reset_regular t d keys old h = sound_regular _ (reset_sound 64 t d keys (regular_sound t old) (regular_sound d h))

pub reset_nests : ResetNestsNoDeeper
reset_nests t d keys old h = let both = within_max t d old h in (reset_sound (max (depth t) (depth d)) t d keys both.0 both.1).within
