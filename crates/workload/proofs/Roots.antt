-- The fields of a document's roots, one component after another.
use Rattle.std.proofs.Common.{◌≡◌, ◌≤◌, ◌<◌, ◌⊎◌, inl, inr, ◌+◌, ◌-◌, ◌/◌, ◌%◌, ℕ, zero}
use Rattle.std.proofs.Common.{suc, Bool, true, false, cond, List, [], ◌∷◌, ◌++◌, map, refl, arith, append_assoc}
use Rattle.std.proofs.Math.Nat.{eq-or-lt_of_le}
use Rattle.std.proofs.lemmas.Fmt.{decimal_digit}
use Rattle.std.proofs.lemmas.List.{append-nil}
use Rattle.std.specs.Prelude.{codes}
use Rattle.std.specs.Cmp.{nat_cmp_is}
use Rattle.std.specs.Cmp.Lexicographic.{slice_cmp}
use Rattle.std.specs.Fmt.{decimal}
use Rattle.std.specs.Ordering.{nat_cmp}
use Rattle.std.specs.declared.cmp.Ordering.TheVariants.{Less, Equal}
use Rattle.serde_json.specs.Data.{Data, string}
use Rattle.tree_core.specs.Regular.{IsBelowAll, MembersAreOrderly}
use Rattle.tree_core.specs.View.{members_of}
use Rattle.workload.specs.Documents.{is_root, roots_among, root_field, root_list, root_fields}
use Rattle.workload.specs.Names.{component_name, requirement}
use Rattle.workload.specs.Objects.{object_of}

-- ---- one after another

mapped : (b : Bool) (component : ℕ) (rest : List ℕ) →
    map root_field (cond b (component ∷ rest) rest) ≡ cond b (root_field component ∷ []) [] ++ map root_field rest
mapped true component rest = refl
mapped false component rest = refl

fields_next : (roots : List ℕ) (first count : ℕ) →
    root_fields roots first (suc count) ≡ root_list roots first ++ root_fields roots (first + 1) count
unfolding root_fields
fields_next roots first count = mapped (is_root roots first) first (roots_among roots (first + 1) count)

fields_step : (roots : List ℕ) (first end : ℕ) → first < end →
    root_fields roots first (end - first) ≡ root_list roots first ++ root_fields roots (first + 1) (end - (first + 1))
fields_step roots first end lt = let e : end - first ≡ suc (end - (first + 1)) = omega arith in rw e (fields_next roots first (end - (first + 1)))

module _ (roots : List ℕ) (first end : ℕ) (before after whole : List (List ℕ × Data)) (lt : first < end)
    (so_far : before ++ root_fields roots first (end - first) ≡ whole) where
  pub one_passed : after ≡ before ++ root_list roots first → after ++ root_fields roots (first + 1) (end - (first + 1)) ≡ whole
  one_passed e = rw (e, append_assoc) (rw (fields_step roots first end lt) at so_far)

pub all_passed : (roots : List ℕ) (first end : ℕ) (fields whole : List (List ℕ × Data)) → end ≤ first →
    fields ++ root_fields roots first (end - first) ≡ whole → fields ≡ whole
unfolding root_fields
all_passed roots first end fields whole le so_far = let e : end - first ≡ 0 = omega arith in rw (e, append-nil) at so_far

-- the field of a root, of the parts that it is made of
pub root_pair : (component : ℕ) (name key : List ℕ) (value : Data) → name ≡ component_name component → key ≡ name →
    value ≡ object_of (codes "componentVersion") (string requirement) → (key, value) ≡ root_field component
root_pair component name key value is_name is_key is_value = rw (is_key, is_name, is_value) refl

-- ---- names rise with their numbers

two_rise : (a b c d : ℕ) → (a < c) ⊎ ((a ≡ c) × (b < d)) → slice_cmp nat_cmp (a ∷ b ∷ []) (c ∷ d ∷ []) ≡ Less
two_rise a b c d (inl lt) = rw (← nat_cmp_is a c Less lt) refl
two_rise a b c d (inr e) = rw (← nat_cmp_is a c Equal e.0, ← nat_cmp_is b d Less e.1) refl

digits_rise : (k i : ℕ) → k < i → (48 + k / 10 < 48 + i / 10) ⊎ ((48 + k / 10 ≡ 48 + i / 10) × (48 + k % 10 < 48 + i % 10))
digits_rise k i lt =
    let le : 48 + k / 10 ≤ 48 + i / 10 = omega arith in
    elim (eq-or-lt_of_le le) [ inl e ↦ inr (e, omega arith) | inr below ↦ inl below ]

name_rises : (k i : ℕ) → k < i → i < 100 → slice_cmp nat_cmp (component_name k) (component_name i) ≡ Less
name_rises k i lt small =
    let kt : decimal (k / 10) ≡ (48 + k / 10) ∷ [] = decimal_digit (k / 10) (omega arith) in
    let ko : decimal (k % 10) ≡ (48 + k % 10) ∷ [] = decimal_digit (k % 10) (omega arith) in
    let it : decimal (i / 10) ≡ (48 + i / 10) ∷ [] = decimal_digit (i / 10) (omega arith) in
    let io : decimal (i % 10) ≡ (48 + i % 10) ∷ [] = decimal_digit (i % 10) (omega arith) in
    simp (kt, ko, it, io) (two_rise (48 + k / 10) (48 + k % 10) (48 + i / 10) (48 + i % 10) (digits_rise k i lt))

-- ---- so the fields are in order

below_kept : (b : Bool) (k i : ℕ) (rest : List (List ℕ × Data)) → k < i → i < 100 → IsBelowAll (component_name k) (members_of rest) →
    IsBelowAll (component_name k) (members_of (cond b (root_field i ∷ []) [] ++ rest))
below_kept true k i rest lt small below = (name_rises k i lt small, below)
below_kept false k i rest lt small below = below

below_all : (roots : List ℕ) (k first count : ℕ) → k < first → first + count ≤ 100 → IsBelowAll (component_name k) (members_of (root_fields roots first count))
unfolding root_fields
below_all roots k first zero lt small = tt
below_all roots k first (suc count) lt small =
    rw (fields_next roots first count)
    (below_kept (is_root roots first) k first (root_fields roots (first + 1) count) lt (omega arith)
    (below_all roots k (first + 1) count (omega arith) (omega arith)))

orderly_kept : (b : Bool) (i : ℕ) (rest : List (List ℕ × Data)) → IsBelowAll (component_name i) (members_of rest) → MembersAreOrderly (members_of rest) →
    MembersAreOrderly (members_of (cond b (root_field i ∷ []) [] ++ rest))
orderly_kept true i rest below orderly = (below, (tt, tt, tt), orderly)
orderly_kept false i rest below orderly = orderly

pub roots_orderly : (roots : List ℕ) (first count : ℕ) → first + count ≤ 100 → MembersAreOrderly (members_of (root_fields roots first count))
unfolding root_fields
roots_orderly roots first zero small = tt
roots_orderly roots first (suc count) small =
    rw (fields_next roots first count)
    (orderly_kept (is_root roots first) first (root_fields roots (first + 1) count)
    (below_all roots first (first + 1) count (omega arith) (omega arith))
    (roots_orderly roots (first + 1) count (omega arith)))
