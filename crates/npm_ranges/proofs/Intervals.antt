-- `^a` and `~a` hold intervals.
use Rattle.std.proofs.Common.{◌≡◌, ℕ, ◌+◌, ◌<◌, ◌⊎◌, List, [], ◌∷◌, ◌++◌, length, Some, Bool, true, false, refl, sym, ap, ◌∙◌, subst, arith, inl, inr}
use Rattle.std.proofs.Common.{append-nil, codes}
use Rattle.std.specs.Prelude.{◌↔◌, ◌&&◌, ◌||◌, ◌==◌}
use Rattle.std.specs.Cmp.{nat_cmp_is}
use Rattle.std.specs.List.{list_any}
use Rattle.std.specs.Ordering.{is_ge, nat_cmp, ordering_then}
use Rattle.std.specs.declared.cmp.Ordering.{Ordering}
use Rattle.std.specs.declared.cmp.Ordering.TheVariants.{Less, Equal, Greater}
use Rattle.std.proofs.lemmas.Bool.{cases_Bool}
use Rattle.std.proofs.lemmas.Bool.Decides.{nat_tests}
use Rattle.semver.proofs.Segments.{and-left, and-right}
use Rattle.semver.specs.Order.{pre_cmp}
use Rattle.semver.specs.Parse.{Parts}
use Rattle.npm_ranges.specs.declared.comparator.Sign.{Sign}
use Rattle.npm_ranges.specs.declared.comparator.Sign.TheVariants as sign
use Rattle.npm_ranges.specs.Grammar.{Written, written}
use Rattle.npm_ranges.specs.Laws.{IsPlain, IsWithin, Spelling, caret_end, numbers, sign_text, tilde_end}
use Rattle.npm_ranges.specs.Ranges.{IsInRange, agree, lets_pre_in, meets_set, meets_comparator, up_to_nonzero}
use Rattle.npm_ranges.specs.Versions.{parts_in, precedence}
use Rattle.npm_ranges.proofs.Holding.{ge_is, is_ge_of, is_no_pre, no_pre, none_let_in, same_value, spelled_of, version_partial}
use Rattle.npm_ranges.proofs.Spellings.{spelled_is_read}
use Rattle.npm_ranges.proofs.VersionTexts.{both_true}

-- ---- three numbers in order

-- the first three are below the second
abbrev Below : ℕ → ℕ → ℕ → ℕ → ℕ → ℕ → Type 0
Below a b c x y z = (a < x) ⊎ ((a ≡ x) × ((b < y) ⊎ ((b ≡ y) × (c < z))))

abbrev numbers_order : ℕ → ℕ → ℕ → ℕ → ℕ → ℕ → Ordering
numbers_order a b c x y z = ordering_then (nat_cmp a x) (ordering_then (nat_cmp b y) (ordering_then (nat_cmp c z) Equal))

then_less : (r s : Ordering) → ordering_then r s ≡ Less → (r ≡ Less) ⊎ ((r ≡ Equal) × (s ≡ Less))
then_less Less s h = inl refl
then_less Equal s h = inr (refl, h)
then_less Greater s h = absurd (cc)

less_number : (a b : ℕ) → nat_cmp a b ≡ Less → a < b
less_number a b h = grind (arith, nat_tests)

equal_number : (a b : ℕ) → nat_cmp a b ≡ Equal → a ≡ b
equal_number a b h = grind (arith, nat_tests)

number_less : (a b : ℕ) → a < b → nat_cmp a b ≡ Less
number_less a b h = sym (nat_cmp_is a b Less h)

number_equal : (a b : ℕ) → a ≡ b → nat_cmp a b ≡ Equal
number_equal a b h = sym (nat_cmp_is a b Equal h)

below_is : (a b c x y z : ℕ) → numbers_order a b c x y z ≡ Less → Below a b c x y z
below_is a b c x y z h = elim (then_less (nat_cmp a x) _ h) [
  | inl first ↦ inl (less_number a x first)
  | inr more ↦ inr (
    equal_number a x more.0,
    elim (then_less (nat_cmp b y) _ more.1) [
      | inl second ↦ inl (less_number b y second)
      | inr third ↦ inr (
        equal_number b y third.0,
        elim (then_less (nat_cmp c z) Equal third.1) [
          | inl less ↦ less_number c z less
          | inr ties ↦ absurd (let wrong : Equal ≡ Less = ties.1 in cc)
        ],
      )
    ],
  )
]

is_below : (a b c x y z : ℕ) → Below a b c x y z → numbers_order a b c x y z ≡ Less
is_below a b c x y z (inl first) = rw (number_less a x first) refl
is_below a b c x y z (inr (same, inl second)) = rw (number_equal a x same, number_less b y second) refl
is_below a b c x y z (inr (same, inr (also, third))) = rw (number_equal a x same, number_equal b y also, number_less c z third) refl

-- versions without a pre-release are in the order of their numbers
plain_order : (v w : Parts) → v.3 ≡ [] → w.3 ≡ [] → precedence v w ≡ numbers_order v.0 v.1 v.2 w.0 w.1 w.2
plain_order v w plain also =
    λ i. ordering_then (nat_cmp v.0 w.0) (ordering_then (nat_cmp v.1 w.1) (ordering_then (nat_cmp v.2 w.2) (pre_cmp (plain i) (also i))))

-- ---- the numbers that a version shares with a, and where they end

caret_below : (a b c x y z : ℕ) → agree (up_to_nonzero (x ∷ y ∷ z ∷ [])) (a ∷ b ∷ c ∷ []) ≡ true
    → Below a b c (caret_end (numbers x y z)).0 (caret_end (numbers x y z)).1 (caret_end (numbers x y z)).2
caret_below a b c x y z h = grind (arith, nat_tests)

below_caret : (a b c x y z : ℕ) → (Below a b c x y z → ⊥) → Below a b c (caret_end (numbers x y z)).0 (caret_end (numbers x y z)).1
    (caret_end (numbers x y z)).2
    → agree (up_to_nonzero (x ∷ y ∷ z ∷ [])) (a ∷ b ∷ c ∷ []) ≡ true
below_caret a b c x y z not_below h = grind (arith, nat_tests)

tilde_below : (a b c x y : ℕ) → agree (x ∷ y ∷ []) (a ∷ b ∷ c ∷ []) ≡ true → Below a b c x (y + 1) 0
tilde_below a b c x y h = grind (arith, nat_tests)

below_tilde : (a b c x y z : ℕ) → (Below a b c x y z → ⊥) → Below a b c x (y + 1) 0 → agree (x ∷ y ∷ []) (a ∷ b ∷ c ∷ []) ≡ true
below_tilde a b c x y z not_below h = grind (arith, nat_tests)

-- ---- one comparator

abbrev signed : Sign → List ℕ → Written
signed s a = record { sign = s; partial = spelled_of (parts_in a) }

abbrev one_spelling : Sign → List ℕ → Spelling
one_spelling s a = record { sign = Some s; blanks = []; partial = a; behind = [] }

signed_written : (s : Sign) (a : List ℕ) → IsPlain a → written (sign_text (Some s) ++ a) ≡ Some ((signed s a ∷ []) ∷ [])
signed_written s a p =
    let read = spelled_is_read [] (one_spelling s a ∷ []) (signed s a ∷ []) refl (
      record {
        sign = refl;
        blanks = refl;
        partial =
            version_partial a p.version;
        behind = refl;
      },
      (λ more. more),
      tt,
    ) (omega arith) in
    ap written (ap (λ w. sign_text (Some s) ++ w) (sym (append-nil a)) ∙ sym (append-nil (sign_text (Some s) ++ (a ++ [])))) ∙ read

-- what is left of the tests of one set
left : (x l e : Bool) → e ≡ false → ((((x && true) && (l || (e || false)))) || false) ≡ (x && l)
left true true e h = refl
left true false e h = rw h refl
left false l e h = refl

-- a test that holds exactly of what lies between, at versions without a pre-release
record IsTestOf (test : Bool) (v low high : Parts) : Type 0 where
  within : v.3 ≡ [] → test ≡ true → IsWithin v low high
  holds : IsWithin v low high → test ≡ true

held : (s : Sign) (a version : List ℕ) (high : Parts) → IsPlain a → IsTestOf (meets_comparator (parts_in version) (signed s a)) (parts_in version)
    (parts_in a) high
    → IsInRange version (sign_text (Some s) ++ a) ↔ IsWithin (parts_in version) (parts_in a) high
held s a version high p t =
    let v = parts_in version in
    let sets = (signed s a ∷ []) ∷ [] in
    let test = meets_comparator v (signed s a) in
    let value : list_any (meets_set v) sets ≡ (test && (length v.3 == 0)) = left test (length v.3 == 0) (lets_pre_in v (signed s a)) (none_let_in v
    (parts_in a) s p.plain) in (
      λ m.
          let same : m.0 ≡ sets = same_value m.0 sets (sym m.1 ∙ signed_written s a p) in
          let h : (test && (length v.3 == 0)) ≡ true = sym value ∙ subst (λ ws. list_any (meets_set v) ws ≡ true) same m.2 in
          t.within (no_pre v.3 (and-right test (length v.3 == 0) h)) (and-left test (length v.3 == 0) h),
      λ k. (sets, signed_written s a p, value ∙ both_true test (length v.3 == 0) (t.holds k) (is_no_pre v.3 k.plain)),
    )

-- both tests are "not below a, and this agrees"
interval : (v w high : Parts) (agrees : Bool) → w.3 ≡ [] → high.3 ≡ []
    → (agrees ≡ true → Below v.0 v.1 v.2 high.0 high.1 high.2)
    → ((Below v.0 v.1 v.2 w.0 w.1 w.2 → ⊥) → Below v.0 v.1 v.2 high.0 high.1 high.2 → agrees ≡ true)
    → IsTestOf (is_ge (precedence v w) && agrees) v w high
interval v w high agrees low_plain high_plain up down = record {
  within = λ plain h. record {
    plain = plain;
    not_below = ge_is (precedence v w) (and-left (is_ge (precedence v w)) agrees h);
    below = plain_order v high plain high_plain ∙ is_below v.0 v.1 v.2 high.0 high.1 high.2 (up (and-right (is_ge (precedence v w)) agrees h));
  };
  holds = λ k. both_true (is_ge (precedence v w)) agrees (is_ge_of (precedence v w) k.not_below)
      (down (λ b. k.not_below (plain_order v w k.plain low_plain ∙ is_below v.0 v.1 v.2 w.0 w.1 w.2 b)) (below_is v.0 v.1 v.2 high.0 high.1 high.2
      (sym (plain_order v high k.plain high_plain) ∙ k.below)));
}

end_plain : (v : Parts) → (caret_end v).3 ≡ []
end_plain v = elim (cases_Bool (v.0 == 0)) [
  | inl first ↦ elim (cases_Bool (v.1 == 0)) [ inl second ↦ rw (first, second) refl | inr second ↦ rw (first, second) refl ]
  | inr first ↦ rw first refl
]

pub caret_holds : (a version : List ℕ) → IsPlain a → IsInRange version (codes "^" ++ a) ↔ IsWithin (parts_in version) (parts_in a) (caret_end (parts_in a))
caret_holds a version p =
    let v = parts_in version in
    let w = parts_in a in
    held sign.Caret a version (caret_end w) p
    (interval v w (caret_end w) (agree (up_to_nonzero (w.0 ∷ w.1 ∷ w.2 ∷ [])) (v.0 ∷ v.1 ∷ v.2
    ∷ [])) p.plain (end_plain w) (caret_below v.0 v.1 v.2 w.0 w.1 w.2) (below_caret v.0 v.1 v.2 w.0 w.1 w.2))

pub tilde_holds : (a version : List ℕ) → IsPlain a → IsInRange version (codes "~" ++ a) ↔ IsWithin (parts_in version) (parts_in a) (tilde_end (parts_in a))
tilde_holds a version p =
    let v = parts_in version in
    let w = parts_in a in
    held sign.Tilde a version (tilde_end w) p
    (interval v w (tilde_end w) (agree (w.0 ∷ w.1 ∷ []) (v.0 ∷ v.1 ∷ v.2 ∷ [])) p.plain refl (tilde_below v.0 v.1 v.2 w.0 w.1) (below_tilde v.0 v.1 v.2 w.0
    w.1 w.2))
