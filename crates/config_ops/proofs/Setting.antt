-- An object with a key set, by the fields before the key, at it and behind it.
use Rattle.std.proofs.Common.{◌≡◌, ℕ, List, [], ◌∷◌, ◌++◌, Option, Some, None, Ordering, Less, Equal, Greater, nat_cmp, IfSome, option_map, refl, sym, ap}
use Rattle.std.proofs.Common.{◌∙◌, subst}
use Rattle.std.specs.Option.{option_to_list}
use Rattle.std.specs.Ordering.{match_ordering}
use Rattle.std.specs.Cmp.Lexicographic.{slice_cmp}
use Rattle.serde_json.specs.Data.{Data, Members, no_members, member}
use Rattle.serde_json.specs.Find.{get_member}
use Rattle.tree_core.specs.View.{view, fields_view}
use Rattle.tree_core.specs.Regular.{IsBelowAll, IsOrderly, MembersAreOrderly}
use Rattle.tree_core.specs.declared.tree.Tree.{Tree}
use Rattle.tree_core.proofs.Fields.{Field}
use Rattle.tree_core.proofs.Puts.{below_later}
use Rattle.config_ops.specs.Reset.{without, set_key, set_node, node_at}
use Rattle.config_ops.specs.Places.{ranks, fields_before, fields_from}
use Rattle.config_ops.proofs.Keys.{same_key}
use Rattle.config_ops.proofs.Joining.{behind, view-append, behind-behind, put_all-before, at_key, Found, from_orderly, from_not_after, none_there, lower}

-- ---- the field at the key

pub value_orderly : (found : Option Field) (old : Option Tree) → option_map view old ≡ option_map (λ (f : Field). view f.1) found →
    IfSome found (λ f. IsOrderly (view f.1)) → IfSome old (λ t. IsOrderly (view t))
value_orderly found None e h = tt
value_orderly None (Some t) e h = absurd (cc)
value_orderly (Some f) (Some t) e h = let same : view t ≡ view f.1 = cc in subst IsOrderly (sym same) h

pub name_fits : (k : List ℕ) (found : Option Field) → IfSome found (λ f. (f.0 ≡ k) × IsOrderly (view f.1)) → IfSome found (λ f. f.0 ≡ k)
name_fits k None h = tt
name_fits k (Some f) h = h.0

-- ---- get

get_before_at : (o : Ordering) (k : List ℕ) (f : Field) (fs : List Field) → slice_cmp nat_cmp k f.0 ≡ o →
    (get_member k (fields_view fs) ≡ get_member k (fields_view (fields_from k fs)))
    → match_ordering o (get_member k (fields_view fs)) (Some (view f.1)) (get_member k (fields_view fs)) ≡ get_member k (fields_view (match_ordering o (f
    ∷ fs) (f ∷ fs) (fields_from k fs)))
get_before_at Less k f fs is later = rw is refl
get_before_at Equal k f fs is later = rw is refl
get_before_at Greater k f fs is later = later

get_before : (k : List ℕ) (fs : List Field) → get_member k (fields_view fs) ≡ get_member k (fields_view (fields_from k fs))
get_before k [] = refl
get_before k (f ∷ fs) = get_before_at (slice_cmp nat_cmp k f.0) k f fs refl (get_before k fs)

pub get_found : (k : List ℕ) (fs : List Field) (found : Option Field) (later : List Field) → MembersAreOrderly (fields_view fs) → Found k fs found later
    → get_member k (fields_view fs) ≡ option_map (λ f. view f.1) found
get_found k fs None later h is = get_before k fs ∙ none_there k (fields_from k fs) (from_orderly k fs h) is.1 (from_not_after k fs)
get_found k fs (Some g) later h is = get_before k fs ∙ ap (λ gs. get_member k (fields_view gs)) is.0 ∙ rw is.1 refl

-- ---- without

pub without_below : (k : List ℕ) (ms : Members) → IsBelowAll k ms → without k ms ≡ ms
without_below k no_members h = refl
without_below k (member l d ms) h = rw h.0 (ap (member l d) (without_below k ms h.1))

without_before_at : (o : Ordering) (k : List ℕ) (f : Field) (fs : List Field) → slice_cmp nat_cmp k f.0 ≡ o
    → (without k (fields_view fs) ≡ behind (fields_view (fields_before k fs)) (without k (fields_view (fields_from k fs))))
    → match_ordering o (member f.0 (view f.1) (without k (fields_view fs))) (without k (fields_view fs)) (member f.0 (view f.1) (without k (fields_view fs)))
    ≡ behind (fields_view (match_ordering o [] [] (f ∷ fields_before k fs))) (without k (fields_view (match_ordering o (f ∷ fs) (f ∷ fs) (fields_from k fs))))
without_before_at Less k f fs is later = rw is refl
without_before_at Equal k f fs is later = rw is refl
without_before_at Greater k f fs is later = ap (member f.0 (view f.1)) later

without_before : (k : List ℕ) (fs : List Field) → without k (fields_view fs) ≡ behind (fields_view (fields_before k fs))
    (without k (fields_view (fields_from k fs)))
without_before k [] = refl
without_before k (f ∷ fs) = without_before_at (slice_cmp nat_cmp k f.0) k f fs refl (without_before k fs)

without_none : (k : List ℕ) (fs : List Field) → MembersAreOrderly (fields_view fs) → (ranks k fs ≡ Some Equal → ⊥) → (ranks k fs ≡ Some Greater → ⊥) →
    without k (fields_view fs) ≡ fields_view fs
without_none k [] h e g = refl
without_none k (f ∷ fs) h e g =
    let less = lower (slice_cmp nat_cmp k f.0) e g in
    without_below k (fields_view (f ∷ fs)) (less, below_later k f.0 (fields_view fs) less h.0)

without_one : (k : List ℕ) (g : Field) (gs : List Field) → MembersAreOrderly (fields_view (g ∷ gs)) → slice_cmp nat_cmp k g.0 ≡ Equal →
    without k (fields_view (g ∷ gs)) ≡ fields_view gs
without_one k g gs h is = rw is (without_below k (fields_view gs) (subst (λ x. IsBelowAll x (fields_view gs)) (sym (same_key k g.0 is)) h.0))

without_found : (k : List ℕ) (fs : List Field) (found : Option Field) (later : List Field) → MembersAreOrderly (fields_view fs) → Found k fs found later
    → without k (fields_view (fields_from k fs)) ≡ fields_view later
without_found k fs None later h is = without_none k (fields_from k fs) (from_orderly k fs h) is.1 (from_not_after k fs) ∙ ap fields_view (sym is.0)
without_found k fs (Some g) later h is =
    ap (λ gs. without k (fields_view gs)) is.0
    ∙ without_one k g later (subst (λ gs. MembersAreOrderly (fields_view gs)) is.0 (from_orderly k fs h)) is.1

-- ---- with the key set

abbrev pub one_field : List ℕ → Option Tree → List Field
one_field k node = option_to_list (option_map (λ t. (k, t)) node)

set_found : (k : List ℕ) (fs : List Field) (found : Option Field) (later : List Field) (new : Option Tree) → MembersAreOrderly (fields_view fs) →
    Found k fs found later
    → set_key k (option_map view new) (fields_view fs) ≡ behind (fields_view (fields_before k fs)) (behind (fields_view (one_field k new)) (fields_view later))
set_found k fs found later None h is = without_before k fs ∙ ap (behind (fields_view (fields_before k fs))) (without_found k fs found later h is)
set_found k fs found later (Some t) h is =
    put_all-before (λ old u. u) k (view t) no_members fs tt
    ∙ ap (behind (fields_view (fields_before k fs))) (at_key (λ old u. u) k (view t) no_members fs found later tt h is)

set_node-at : (k : List ℕ) (keys : List (List ℕ)) (new : Option Data) (ms : Members) → set_key k (node_at keys new (get_member k ms)) ms ≡ set_node k keys
    new ms
set_node-at k [] new ms = refl
set_node-at k (l ∷ keys) new ms = refl

pub set_done : (k : List ℕ) (keys : List (List ℕ)) (fs : List Field) (found : Option Field) (later : List Field) (new : Option Data) (node : Option Tree) →
    MembersAreOrderly (fields_view fs) → Found k fs found later
    → option_map view node ≡ node_at keys new (option_map (λ f. view f.1) found)
    → fields_view ((fields_before k fs ++ one_field k node) ++ later) ≡ set_node k keys new (fields_view fs)
set_done k keys fs found later new node h is value =
    let ms = fields_view fs in
    let one = one_field k node in
    view-append (fields_before k fs ++ one) later
    ∙ ap (λ x. behind x (fields_view later)) (view-append (fields_before k fs) one)
    ∙ behind-behind (fields_view (fields_before k fs)) (fields_view one) (fields_view later)
    ∙ sym (set_found k fs found later node h is)
    ∙ ap (λ o. set_key k o ms) (value ∙ ap (node_at keys new) (sym (get_found k fs found later h is)))
    ∙ set_node-at k keys new ms
