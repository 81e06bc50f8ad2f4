-- Objects as finite maps, and joins key by key.
use Rattle.std.proofs.Common.{◌≡◌, ℕ, List, Option, Some, None, Ordering, Less, Equal, Greater, nat_cmp, refl, sym, ap, ap₂, ◌∙◌, subst}
use Rattle.std.specs.Ordering.{match_ordering}
use Rattle.std.specs.Cmp.Lexicographic.{slice_cmp}
use Rattle.serde_json.specs.Data.{Data, null, boolean, number, string, array, object, Members, no_members, member, put}
use Rattle.serde_json.specs.Find.{get_member}
use Rattle.serde_json.proofs.Views.{get_member-put, get_member-put_other}
use Rattle.tree_core.specs.Parts.{IsObject}
use Rattle.tree_core.specs.Regular.{IsBelowAll, MembersAreOrderly}
use Rattle.tree_core.proofs.Puts.{below_later}
use Rattle.config_ops.specs.Join.{joined, joined_members}
use Rattle.config_ops.specs.Laws.{each_key, JoinsObjects}
use Rattle.config_ops.proofs.Keys.{itself, apart, same_key, below, none_below}
use Rattle.config_ops.proofs.Joining.{put_all, join_with, joined_members-put_all}
use Rattle.config_ops.proofs.Sound.{Keeps, members_sound, joined_members_sound, regular_sound}

-- ---- what stands at a key

pub get_here : (k : List ℕ) (d : Data) (ms : Members) → get_member k (member k d ms) ≡ Some d
get_here k d ms = rw (itself k) refl

get_other_at : (o : Ordering) (d : Data) (rest : Option Data) → (o ≡ Equal → ⊥) → match_ordering o rest (Some d) rest ≡ rest
get_other_at Less d rest ne = refl
get_other_at Equal d rest ne = absurd (ne refl)
get_other_at Greater d rest ne = refl

pub get_other : (q k : List ℕ) (d : Data) (ms : Members) → (q ≡ k → ⊥) → get_member q (member k d ms) ≡ get_member q ms
get_other q k d ms ne = get_other_at (slice_cmp nat_cmp q k) d (get_member q ms) (λ e. ne (same_key q k e))

-- ---- a finite map

no_value : (d : Data) → None ≡ Some d → ⊥
no_value d e = cc

same_rest_at : (o : Ordering) (k : List ℕ) (d e : Data) (ms ns : Members) (q : List ℕ) → slice_cmp nat_cmp q k ≡ o → IsBelowAll k ms → IsBelowAll k ns
    → (get_member q (member k d ms) ≡ get_member q (member k e ns)) → get_member q ms ≡ get_member q ns
same_rest_at Less k d e ms ns q is hm hn same = let ne = apart Less q k is (λ f. cc) in sym (get_other q k d ms ne) ∙ same ∙ get_other q k e ns ne
same_rest_at Greater k d e ms ns q is hm hn same = let ne = apart Greater q k is (λ f. cc) in sym (get_other q k d ms ne) ∙ same ∙ get_other q k e ns ne
same_rest_at Equal k d e ms ns q is hm hn same =
    let named = same_key q k is in
    ap (λ x. get_member x ms) named ∙ none_below k ms hm ∙ sym (none_below k ns hn) ∙ ap (λ x. get_member x ns) (sym named)

Same : Members → Members → Type 0
Same ms ns = (q : List ℕ) → get_member q ms ≡ get_member q ns

same_first_at : (o : Ordering) (k : List ℕ) (d : Data) (ms : Members) (l : List ℕ) (e : Data) (ns : Members) → slice_cmp nat_cmp k l ≡ o →
    MembersAreOrderly (member k d ms) → MembersAreOrderly (member l e ns)
    → Same (member k d ms) (member l e ns) → k ≡ l
unfolding Same
same_first_at Equal k d ms l e ns is hm hn same = same_key k l is
same_first_at Less k d ms l e ns is hm hn same =
    absurd (no_value d (sym (none_below k (member l e ns) (is, below_later k l ns is hn.0)) ∙ sym (same k) ∙ get_here k d ms))
same_first_at Greater k d ms l e ns is hm hn same =
    let less = below k l is in
    absurd (no_value e (sym (none_below l (member k d ms) (less, below_later l k ms less hm.0)) ∙ same l ∙ get_here l e ns))

pub same_members : (ms ns : Members) → MembersAreOrderly ms → MembersAreOrderly ns → ((q : List ℕ) → get_member q ms ≡ get_member q ns) → ms ≡ ns
unfolding Same
same_members no_members no_members hm hn same = refl
same_members no_members (member l e ns) hm hn same = absurd (no_value e (same l ∙ get_here l e ns))
same_members (member k d ms) no_members hm hn same = absurd (no_value d (sym (same k) ∙ get_here k d ms))
same_members (member k d ms) (member l e ns) hm hn same =
    let named : k ≡ l = same_first_at (slice_cmp nat_cmp k l) k d ms l e ns refl hm hn same in
    let here : Same (member k d ms) (member k e ns) = subst (λ x. Same (member k d ms) (member x e ns)) (sym named) same in
    let hk : MembersAreOrderly (member k e ns) = subst (λ x. MembersAreOrderly (member x e ns)) (sym named) hn in
    let value : d ≡ e = let both : Some d ≡ Some e = sym (get_here k d ms) ∙ here k ∙ get_here k e ns in cc in
    ap₂ (λ x y. member x y ms) named value ∙ ap (member l e) (same_members ms ns hm.2 hn.2 (λ q. same_rest_at (slice_cmp nat_cmp q k) k d e ms ns q refl hm.0
    hk.0 (here q)))

-- ---- a join, key by key

abbrev at_of : (Option Data → Data → Data) → Option Data → Option Data → Option Data
at_of p old None = old
at_of p old (Some u) = Some (p old u)

put_all_step : (o : Ordering) (p : Option Data → Data → Data) (k l : List ℕ) (u : Data) (ts us : Members) → slice_cmp nat_cmp k l ≡ o → IsBelowAll l us
    → (get_member k (put_all p (put l (p (get_member l ts) u) ts) us) ≡ at_of p (get_member k (put l (p (get_member l ts) u) ts)) (get_member k us))
    → get_member k (put_all p (put l (p (get_member l ts) u) ts) us) ≡ at_of p (get_member k ts) (match_ordering o (get_member k us) (Some u) (get_member k us))
put_all_step Less p k l u ts us is h rest = rest ∙ ap (λ x. at_of p x (get_member k us)) (get_member-put_other k l (p (get_member l ts) u) ts
    (apart Less k l is (λ e. cc)))
put_all_step Greater p k l u ts us is h rest = rest ∙ ap (λ x. at_of p x (get_member k us)) (get_member-put_other k l (p (get_member l ts) u) ts
    (apart Greater k l is (λ e. cc)))
put_all_step Equal p k l u ts us is h rest =
    let same : k ≡ l = same_key k l is in
    let new = p (get_member l ts) u in
    rest ∙ ap₂ (at_of p) (ap (λ x. get_member x (put l new ts)) same ∙ get_member-put l new ts) (ap (λ x. get_member x us) same ∙ none_below l us h)
    ∙ ap (λ x. Some (p (get_member x ts) u)) (sym same)

get-put_all : (p : Option Data → Data → Data) (k : List ℕ) (ts us : Members) → MembersAreOrderly us →
    get_member k (put_all p ts us) ≡ at_of p (get_member k ts) (get_member k us)
get-put_all p k ts no_members h = refl
get-put_all p k ts (member l u us) h = put_all_step (slice_cmp nat_cmp k l) p k l u ts us refl h.0 (get-put_all p k (put l (p (get_member l ts) u) ts) us h.2)

at-each_key : (other : Data → Data → Data) (old new : Option Data) → at_of (join_with other) old new ≡ each_key (joined other) old new
at-each_key other None None = refl
at-each_key other (Some t) None = refl
at-each_key other None (Some u) = refl
at-each_key other (Some t) (Some u) = refl

pub joins_each_key : (other : Data → Data → Data) (k : List ℕ) (ts us : Members) → MembersAreOrderly us →
    get_member k (joined_members other ts us) ≡ each_key (joined other) (get_member k ts) (get_member k us)
joins_each_key other k ts us h =
    ap (get_member k) (joined_members-put_all other ts us) ∙ get-put_all (join_with other) k ts us h ∙ at-each_key other (get_member k ts) (get_member k us)

pub joins_objects : (other : Data → Data → Data) → Keeps other → JoinsObjects (joined other)
joins_objects other keeps ts us h u =
    let all = joined_members_sound other 63 ts us keeps (members_sound 63 ts (regular_sound (object ts) h)) (members_sound 63 us (regular_sound (object us)
    u)) in
    (joined_members other ts us, refl, all.orderly, λ k. joins_each_key other k ts us u.orderly)

-- ---- where one is no object

pub not_both : (other : Data → Data → Data) (t u : Data) → (IsObject t → IsObject u → ⊥) → joined other t u ≡ other t u
not_both other t null h = refl
not_both other t (boolean b) h = refl
not_both other t (number n) h = refl
not_both other t (string s) h = refl
not_both other t (array ds) h = refl
not_both other null (object us) h = refl
not_both other (boolean b) (object us) h = refl
not_both other (number n) (object us) h = refl
not_both other (string s) (object us) h = refl
not_both other (array ds) (object us) h = refl
not_both other (object ts) (object us) h = absurd (h (ts, refl) (us, refl))
