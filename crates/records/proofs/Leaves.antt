-- What the tests of texts tell.
use Rattle.std.proofs.Common.{◌≡◌, ◌≢◌, ℕ, ◌<◌, ◌≤◌, Bool, true, false, Result, Ok, Err, List, [], ◌∷◌, length, Option, Some, None, refl, sym, ap, subst, ◌∙◌}
use Rattle.std.proofs.Common.{arith}
use Rattle.std.specs.Prelude.{IsUtf8, ◌&&◌, not, nat_le, if◌then◌else◌}
use Rattle.std.specs.Str.{is_utf8, bytes_eq}
use Rattle.std.proofs.lemmas.Bool.{and_parts, leb-true, ltb-true, le-leb, lt-ltb, false_from_ne_true, false≢true}
use Rattle.std.proofs.lemmas.List.Sums.{AllPass-from_list_all, list_all-from_AllPass}
use Rattle.std.specs.Result.{is_ok}
use Rattle.std.proofs.lemmas.Str.{IsUtf8-from_is_utf8, is_utf8-from_IsUtf8}
use Rattle.std.proofs.lemmas.Slice.Eq.{bytes_eq-Decides}
use Rattle.serde_json.specs.Data.{Data, null, boolean, number, string, array, object, Items, no_items, item, Members, no_members, member, depth}
use Rattle.serde_json.specs.Read.{read}
use Rattle.serde_json.specs.Written.{compact_text, has_float}
use Rattle.tree_core.specs.Regular.{max_nesting, HasUtf8, ItemsHaveUtf8, MembersHaveUtf8}
use Rattle.tree_core.specs.Reading.{IsJson, IsFirstFault}
use Rattle.tree_core.specs.declared.fault.TreeFault.{TreeFault}
use Rattle.tree_core.specs.declared.fault.TreeFault.TheVariants as trees
use Rattle.records.specs.declared.stop.Stop.{Stop}
use Rattle.records.specs.declared.stop.Stop.TheVariants.{Memory, Bad}
use Rattle.records.specs.Gives.{IsReadFailure, IsTreeStop}
use Rattle.nuc_base.specs.Names.{IsName, IsLabel, is_name_byte, is_label_byte}
use Rattle.npm_ranges.specs.Ranges.{IsRange, IsReadable}
use Rattle.npm_ranges.specs.Versions.{IsVersion}
use Rattle.semver.proofs.Grammar.{version_parts-sound, version_parts-complete}
use Rattle.semver.specs.Parse.{version_parts}
use Rattle.records.specs.Codec.{◌>>=◌, only_if, string_at, read_by}
use Rattle.records.specs.Layout.{tree_of, is_label, is_name, is_version, is_range}
use Rattle.records.specs.Utf8.{has_utf8, items_have_utf8, members_have_utf8}

pub bind_some : {A B : Type 0} (o : Option A) (f : A → Option B) (y : B) → (o >>= f) ≡ Some y → (x : A) × (o ≡ Some x) × (f x ≡ Some y)
bind_some (Some x) f y e = (x, refl, e)
bind_some None f y e = absurd cc

pub some_is : {A : Type 0} (x y : A) → ◌≡◌ {A = Option A} (Some x) (Some y) → x ≡ y
some_is x y e = cc

-- a test that held
pub if_some : {A : Type 0} (b : Bool) (x : Option A) (y : A) → (if b then x else None) ≡ Some y → (b ≡ true) × (x ≡ Some y)
if_some true x y e = (refl, e)
if_some false x y e = absurd cc

pub unless_some : {A : Type 0} (b : Bool) (x : Option A) (y : A) → (if b then None else x) ≡ Some y → (b ≡ false) × (x ≡ Some y)
unless_some true x y e = absurd cc
unless_some false x y e = (refl, e)

pub none_from : {A : Type 0} (o : Option A) → ((x : A) → o ≡ Some x → ⊥) → o ≡ None
none_from (Some x) h = absurd (h x refl)
none_from None h = refl

pub read_is : {A : Type 0} (of : List ℕ → Option A) (bytes t rest : List ℕ) (o : Option A) → string_at bytes ≡ Some (t, rest) → of t ≡ o →
    read_by of bytes ≡ (o >>= λ x. Some (x, rest))
read_is of bytes t rest o a b = rw (a, b) refl

not_true : (b : Bool) → not b ≡ true → b ≡ false
not_true true e = absurd cc
not_true false e = refl

both_true : (a b : Bool) → a ≡ true → b ≡ true → (a && b) ≡ true
both_true a b p q = rw (p, q) refl

-- ---- labels and names

pub label_says : (t : List ℕ) → is_label t ≡ true → IsLabel t
unfolding is_label
label_says t e =
    let p = and_parts _ _ e in
    let q = and_parts _ _ p.1 in
    record { not_empty = ltb-true _ _ p.0; short = leb-true _ _ q.0; each = AllPass-from_list_all is_label_byte t q.1 }

pub label_test : (t : List ℕ) → IsLabel t → is_label t ≡ true
unfolding is_label
label_test t h = both_true _ _ (lt-ltb 0 (length t) h.not_empty) (both_true _ _ (le-leb (length t) 256 h.short) (list_all-from_AllPass is_label_byte t h.each))

pub no_label : (t : List ℕ) → (IsLabel t → ⊥) → is_label t ≡ false
no_label t h = false_from_ne_true (is_label t) (λ e. h (label_says t e))

differs : (t u : List ℕ) → not (bytes_eq t u) ≡ true → t ≢ u
differs t u e = λ same. false≢true (sym (not_true _ e) ∙ (bytes_eq-Decides t u).1 same)

differs_test : (t u : List ℕ) → t ≢ u → not (bytes_eq t u) ≡ true
differs_test t u h = rw (false_from_ne_true (bytes_eq t u) (λ e. h ((bytes_eq-Decides t u).0 e))) refl

pub name_says : (t : List ℕ) → is_name t ≡ true → IsName t
unfolding is_name
name_says t e =
    let p = and_parts _ _ e in
    let q = and_parts _ _ p.1 in
    let r = and_parts _ _ q.1 in
    let s = and_parts _ _ r.1 in
    record {
      not_empty = ltb-true _ _ p.0;
      short = leb-true _ _ q.0;
      each = AllPass-from_list_all is_name_byte t r.0;
      not_here = differs t (46 ∷ []) s.0;
      not_above = differs t (46 ∷ 46 ∷ []) s.1;
    }

pub name_test : (t : List ℕ) → IsName t → is_name t ≡ true
unfolding is_name
name_test t h = both_true _ _ (lt-ltb 0 (length t) h.not_empty) (both_true _ _ (le-leb (length t) 128 h.short) (both_true _ _ (list_all-from_AllPass
    is_name_byte t h.each)
    (both_true _ _ (differs_test t (46 ∷ []) h.not_here) (differs_test t (46 ∷ 46 ∷ []) h.not_above))))

pub no_name : (t : List ℕ) → (IsName t → ⊥) → is_name t ≡ false
no_name t h = false_from_ne_true (is_name t) (λ e. h (name_says t e))

-- ---- versions and ranges

parts_found : {P E : Type 0} (o : Result P E) → is_ok o ≡ true → (p : P) × (o ≡ Ok p)
parts_found (Ok p) e = (p, refl)
parts_found (Err f) e = absurd cc

pub version_says : (t : List ℕ) → is_version t ≡ true → IsVersion t
unfolding is_version
version_says t e =
    let p = and_parts _ _ e in
    let q = parts_found (version_parts t) p.1 in
    let s = version_parts-sound t q.0 q.1 in
    record { short = leb-true _ _ p.0; spells = (q.0, s.1, sym s.0) }

pub version_test : (t : List ℕ) → IsVersion t → is_version t ≡ true
unfolding is_version
version_test t h =
    let p = h.spells in
    let is : version_parts t ≡ Ok p.0 = ap version_parts p.2 ∙ version_parts-complete p.0 p.1 in
    both_true _ _ (le-leb (length t) 128 h.short) (rw is refl)

pub no_version : (t : List ℕ) → (IsVersion t → ⊥) → is_version t ≡ false
no_version t h = false_from_ne_true (is_version t) (λ e. h (version_says t e))

pub range_says : (t : List ℕ) → is_range t ≡ true → IsRange t
unfolding is_range
range_says t e =
    let p = and_parts _ _ e in
    let q = and_parts _ _ p.1 in
    record { readable = record { short = leb-true _ _ p.0; read = q.0 }; few = leb-true _ _ q.1 }

pub range_test : (t : List ℕ) → IsRange t → is_range t ≡ true
unfolding is_range
range_test t h = both_true _ _ (le-leb (length t) 4096 h.readable.short) (both_true _ _ h.readable.read (le-leb _ 32 h.few))

pub no_range : (t : List ℕ) → (IsRange t → ⊥) → is_range t ≡ false
no_range t h = false_from_ne_true (is_range t) (λ e. h (range_says t e))

pub unreadable : (t : List ℕ) → (IsReadable t → ⊥) → is_range t ≡ false
unreadable t h = no_range t (λ is. h is.readable)

-- ---- trees

mutual
  pub all_utf8 : (d : Data) → has_utf8 d ≡ true → HasUtf8 d
  all_utf8 null e = tt
  all_utf8 (boolean b) e = tt
  all_utf8 (number n) e = tt
  all_utf8 (string s) e = IsUtf8-from_is_utf8 s e
  all_utf8 (array ds) e = all_items ds e
  all_utf8 (object ms) e = all_members ms e

  all_items : (ds : Items) → items_have_utf8 ds ≡ true → ItemsHaveUtf8 ds
  all_items no_items e = tt
  all_items (item d ds) e = let p = and_parts (has_utf8 d) (items_have_utf8 ds) e in (all_utf8 d p.0, all_items ds p.1)

  all_members : (ms : Members) → members_have_utf8 ms ≡ true → MembersHaveUtf8 ms
  all_members no_members e = tt
  all_members (member k d ms) e =
      let p = and_parts (is_utf8 k) (has_utf8 d && members_have_utf8 ms) e in
      let q = and_parts (has_utf8 d) (members_have_utf8 ms) p.1 in
      (IsUtf8-from_is_utf8 k p.0, all_utf8 d q.0, all_members ms q.1)

mutual
  pub utf8_test : (d : Data) → HasUtf8 d → has_utf8 d ≡ true
  utf8_test null h = refl
  utf8_test (boolean b) h = refl
  utf8_test (number n) h = refl
  utf8_test (string s) h = is_utf8-from_IsUtf8 s h
  utf8_test (array ds) h = items_test ds h
  utf8_test (object ms) h = members_test ms h

  items_test : (ds : Items) → ItemsHaveUtf8 ds → items_have_utf8 ds ≡ true
  items_test no_items h = refl
  items_test (item d ds) h = both_true (has_utf8 d) (items_have_utf8 ds) (utf8_test d h.0) (items_test ds h.1)

  members_test : (ms : Members) → MembersHaveUtf8 ms → members_have_utf8 ms ≡ true
  members_test no_members h = refl
  members_test (member k d ms) h = both_true (is_utf8 k) (has_utf8 d && members_have_utf8 ms) (is_utf8-from_IsUtf8 k h.0) (both_true (has_utf8 d)
      (members_have_utf8 ms) (utf8_test d h.1) (members_test ms h.2))

pub no_utf8 : (bs : List ℕ) → (IsUtf8 bs → ⊥) → is_utf8 bs ≡ false
no_utf8 bs h = false_from_ne_true (is_utf8 bs) (λ e. h (IsUtf8-from_is_utf8 bs e))

-- what a text of a tree is
pub record IsText (t : List ℕ) (d : Data) : Type 0 where
  pub json : IsJson t d
  pub shallow : depth d ≤ max_nesting
  pub no_float : has_float d ≡ false
  pub utf8 : HasUtf8 d
  pub text : compact_text d ≡ t

pub tree_found : (t : List ℕ) (d : Data) → IsText t d → tree_of t ≡ Some d
unfolding tree_of
tree_found t d h = rw (
  is_utf8-from_IsUtf8 t h.json.utf8,
  h.json.value,
  le-leb (depth d) max_nesting h.shallow,
  h.no_float,
  utf8_test d h.utf8,
  (bytes_eq-Decides (compact_text d) t).1 h.text,
) refl

-- the tests of a tree that was read
abbrev passes : List ℕ → Data → Bool
passes t d = nat_le (depth d) max_nesting && (not (has_float d) && (has_utf8 d && bytes_eq (compact_text d) t))

pub tree_says : (t : List ℕ) (d : Data) → tree_of t ≡ Some d → IsText t d
unfolding tree_of
tree_says t d e =
    let a = if_some (is_utf8 t) (read t >>= λ d. only_if (passes t d) d) d e in
    let b = bind_some (read t) (λ d. only_if (passes t d) d) d a.1 in
    let x = b.0 in
    let c = if_some (passes t x) (Some x) d b.2 in
    let p = and_parts (nat_le (depth x) max_nesting) (not (has_float x) && (has_utf8 x && bytes_eq (compact_text x) t)) c.0 in
    let q = and_parts (not (has_float x)) (has_utf8 x && bytes_eq (compact_text x) t) p.1 in
    let r = and_parts (has_utf8 x) (bytes_eq (compact_text x) t) q.1 in
    let one : IsText t x = record {
      json = record { utf8 = IsUtf8-from_is_utf8 t a.0; value = b.1 };
      shallow = leb-true _ _ p.0;
      no_float = not_true _ q.0;
      utf8 = all_utf8 x r.0;
      text = (bytes_eq-Decides (compact_text x) t).0 r.1;
    } in
    subst (IsText t) (some_is x d c.1) one

pub no_tree : (t : List ℕ) → ((d : Data) → IsText t d → ⊥) → tree_of t ≡ None
no_tree t h = none_from (tree_of t) (λ d e. h d (tree_says t d e))

one_value : (t : List ℕ) (d e : Data) → IsJson t d → IsText t e → d ≡ e
one_value t d e j h = some_is d e (sym j.value ∙ h.json.value)

stopped : (s : Stop) (t : List ℕ) → s ≡ Bad → tree_of t ≡ None → IsReadFailure s (tree_of t)
stopped Memory t e n = tt
stopped Bad t e n = n

stopped_memory : (s : Stop) (t : List ℕ) → s ≡ Memory → IsReadFailure s (tree_of t)
stopped_memory Memory t e = tt
stopped_memory Bad t e = absurd cc

pub tree_fails : (t : List ℕ) (fault : TreeFault) (s : Stop) → IsFirstFault t (length t) fault → IsTreeStop fault s → IsReadFailure s (tree_of t)
tree_fails t trees.TooLarge s f e = absurd (omega (arith, f))
tree_fails t trees.NotJson s f e = stopped s t e (no_tree t (λ d h. f.1 d h.json))
tree_fails t trees.TooDeep s f e =
    let d = f.1.0 in
    stopped s t e (no_tree t (λ x h. let deep : max_nesting < depth x = subst (λ y. max_nesting < depth y) (one_value t d x f.1.1 h) f.1.2 in
    omega (arith, deep, h.shallow)))
tree_fails t trees.NotWhole s f e =
    let d = f.1.0 in
    stopped s t e (no_tree t (λ x h. let float : has_float x ≡ true = subst (λ y. has_float y ≡ true) (one_value t d x f.1.1 h) f.1.3 in
    false≢true (sym h.no_float ∙ float)))
tree_fails t trees.NoMemory s f e = stopped_memory s t e
