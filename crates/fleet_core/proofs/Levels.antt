-- The revision that was kept when fewer than so many reports had been sent.
use Rattle.std.proofs.Common.{◌≡◌, ℕ, zero, suc, ◌+◌, ◌-◌, ◌<◌, ◌≤◌, Bool, true, false, List, [], ◌∷◌, ◌++◌, length, refl, ap, subst, ◌∙◌, arith, get_or, inl}
use Rattle.std.proofs.Common.{inr}
use Rattle.std.specs.Prelude.{max, nat_lt, ◌⊎◌, if◌then◌else◌}
use Rattle.std.specs.List.Sorted.{IsPartitionPoint}
use Rattle.std.proofs.lemmas.List.{get_or_default}
use Rattle.std.proofs.lemmas.Bool.{cases_lt}
use Rattle.std.proofs.lemmas.List.Sorted.{IsNonDecreasingBy-push}
use Rattle.fleet_core.specs.declared.history.Taking.{Taking}
use Rattle.fleet_core.specs.Takings.{level, AreBy, IsRising}

-- one more taking at the end
pub level-snoc : (k : ℕ) (ts : List Taking) (t : Taking) → level k (ts ++ t ∷ []) ≡ (if nat_lt t.reports k then max (level k ts) t.revision else level k ts)
level-snoc k [] t = by (nat_lt t.reports k)
  where
    by : (b : Bool) → (if b then max t.revision 0 else 0) ≡ (if b then max 0 t.revision else 0)
    by true = omega arith
    by false = refl
level-snoc k (u ∷ ts) t = by (nat_lt u.reports k) (nat_lt t.reports k) (level-snoc k ts t)
  where
    by : (b c : Bool) → level k (ts ++ t ∷ []) ≡ (if c then max (level k ts) t.revision else level k ts)
        → (if b then max u.revision (level k (ts ++ t ∷ [])) else level k (ts ++ t ∷ []))
        ≡ (if c then max (if b then max u.revision (level k ts) else level k ts) t.revision else (if b then max u.revision (level k ts) else level k ts))
    by true true rest = omega arith
    by true false rest = omega arith
    by false true rest = rest
    by false false rest = rest

-- a taking that is later does not count
pub level-later : (k : ℕ) (ts : List Taking) (t : Taking) → k ≤ t.reports → level k (ts ++ t ∷ []) ≡ level k ts
level-later k ts t later = level-snoc k ts t ∙ by (nat_lt t.reports k) refl
  where
    by : (b : Bool) → nat_lt t.reports k ≡ b → (if b then max (level k ts) t.revision else level k ts) ≡ level k ts
    by true is = absurd (grind (arith, is))
    by false is = refl

pub level-now : (k : ℕ) (ts : List Taking) (t : Taking) → t.reports < k → level k (ts ++ t ∷ []) ≡ max (level k ts) t.revision
level-now k ts t now = level-snoc k ts t ∙ by (nat_lt t.reports k) refl
  where
    by : (b : Bool) → nat_lt t.reports k ≡ b → (if b then max (level k ts) t.revision else level k ts) ≡ max (level k ts) t.revision
    by true is = refl
    by false is = absurd (grind (arith, is))

-- of two bounds the greater one decides
pub level-max : (a b : ℕ) (ts : List Taking) → level (max a b) ts ≡ max (level a ts) (level b ts)
level-max a b [] = refl
level-max a b (t ∷ ts) = by (nat_lt t.reports (max a b)) (nat_lt t.reports a) (nat_lt t.reports b) refl refl refl (level-max a b ts)
  where
    by : (w x y : Bool) → nat_lt t.reports (max a b) ≡ w → nat_lt t.reports a ≡ x → nat_lt t.reports b ≡ y → level (max a b) ts ≡ max (level a ts) (level b ts)
        → (if w then max t.revision (level (max a b) ts) else level (max a b) ts) ≡ max (if x then max t.revision (level a ts) else level a ts)
        (if y then max t.revision (level b ts) else level b ts)
    by true true true one two three rest = omega arith
    by true true false one two three rest = omega arith
    by true false true one two three rest = omega arith
    by true false false one two three rest = absurd (grind (arith, one, two, three))
    by false true y one two three rest = absurd (grind (arith, one, two))
    by false false true one two three rest = absurd (grind (arith, one, three))
    by false false false one two three rest = rest

-- ---- by places

pub level-get : (k : ℕ) (ts : List Taking) (i : ℕ) (d : Taking) → i < length ts → nat_lt (get_or ts i d).reports k ≡ true →
    (get_or ts i d).revision ≤ level k ts
level-get k [] i d within counts = absurd (omega arith)
level-get k (t ∷ ts) zero d within counts = by (nat_lt t.reports k) counts
  where
    by : (b : Bool) → b ≡ true → t.revision ≤ (if b then max t.revision (level k ts) else level k ts)
    by true is = omega arith
    by false is = absurd cc
level-get k (t ∷ ts) (suc i) d within counts = by (nat_lt t.reports k) (level-get k ts i d (omega arith) counts)
  where
    by : (b : Bool) → (get_or ts i d).revision ≤ level k ts → (get_or ts i d).revision ≤ (if b then max t.revision (level k ts) else level k ts)
    by true rest = omega arith
    by false rest = rest

pub level-le : (k most : ℕ) (ts : List Taking) → ((i : ℕ) (d : Taking) → i < length ts → nat_lt (get_or ts i d).reports k ≡ true →
    (get_or ts i d).revision ≤ most) → level k ts ≤ most
level-le k most [] each = omega arith
level-le k most (t ∷ ts) each = by (nat_lt t.reports k) refl (level-le k most ts (λ i d within counts. each (suc i) d (omega arith) counts))
  where
    by : (b : Bool) → nat_lt t.reports k ≡ b → level k ts ≤ most → (if b then max t.revision (level k ts) else level k ts) ≤ most
    by true is rest = let first = each 0 t (omega arith) is in omega (arith, first)
    by false is rest = rest

-- what a search for the place finds
abbrev pub counts_by : ℕ → Taking → Bool
counts_by k t = nat_lt t.reports k

pub parts_at : (k : ℕ) (ts : List Taking) (n m : ℕ) → n ≡ m → IsPartitionPoint (λ t. counts_by k t ≡ true) (λ t. counts_by k t ≡ false) ts n →
    IsPartitionPoint (λ t. counts_by k t ≡ true) (λ t. counts_by k t ≡ false) ts m
parts_at k ts n m same parts = subst (λ (i : ℕ). IsPartitionPoint (λ t. counts_by k t ≡ true) (λ t. counts_by k t ≡ false) ts i) same parts

pub level-none : (k : ℕ) (ts : List Taking) → IsPartitionPoint (λ t. counts_by k t ≡ true) (λ t. counts_by k t ≡ false) ts 0 → 0 ≡ level k ts
level-none k ts parts =
    let low = level-le k 0 ts (λ i d within counts. absurd (let away = parts.1 i d (omega arith) within in cc)) in
    omega (arith, low)

pub level-some : (k n : ℕ) (ts : List Taking) (d : Taking) → IsRising ts → n ≤ length ts → 0 < n → IsPartitionPoint (λ t. counts_by k t ≡ true)
    (λ t. counts_by k t ≡ false) ts n
    → (get_or ts (n - 1) d).revision ≡ level k ts
level-some k n ts d rising within some parts =
    let above = level-get k ts (n - 1) d (omega arith) (parts.0 (n - 1) d (omega arith) (omega arith)) in
    let below = level-le k (get_or ts (n - 1) d).revision ts (λ i e inside counts. earlier i e inside counts (by i e inside counts)) in
    omega (arith, above, below)
  where
    by : (i : ℕ) (e : Taking) → i < length ts → counts_by k (get_or ts i e) ≡ true → i < n
    by i e inside counts = split (cases_lt i n)
      where
        split : (i < n) ⊎ (n ≤ i) → i < n
        split (inl low) = low
        split (inr high) = absurd (let away = parts.1 i e high inside in cc)

    earlier : (i : ℕ) (e : Taking) → i < length ts → counts_by k (get_or ts i e) ≡ true → i < n → (get_or ts i e).revision ≤ (get_or ts (n - 1) d).revision
    earlier i e inside counts low =
        let rises = rising.revisions i (n - 1) d (omega arith) (omega arith) in
        let same : (get_or ts i e).revision ≡ (get_or ts i d).revision = ap (λ (t : Taking). t.revision) (get_or_default ts i e d inside) in
        omega (arith, rises, same)

-- ---- one more

by_places : (k : ℕ) (ts : List Taking) (i : ℕ) (d : Taking) → AreBy k ts → i < length ts → (get_or ts i d).reports ≤ k
by_places k [] i d by within = absurd (omega arith)
by_places k (t ∷ ts) zero d by within = by.0
by_places k (t ∷ ts) (suc i) d by within = by_places k ts i d by.1 (omega arith)

pub rising-push : (ts : List Taking) (t : Taking) → IsRising ts → AreBy t.reports ts → level (t.reports + 1) ts < t.revision → IsRising (ts ++ t ∷ [])
rising-push ts t rising by newer = record {
  reports = IsNonDecreasingBy-push (λ (u : Taking). u.reports) ts t rising.reports (λ d some. by_places t.reports ts (length ts - 1) d by (omega arith));
  revisions = IsNonDecreasingBy-push (λ (u : Taking). u.revision) ts t rising.revisions (λ d some. last d some);
}
  where
    last : (d : Taking) → 0 < length ts → (get_or ts (length ts - 1) d).revision ≤ t.revision
    last d some =
        let early = by_places t.reports ts (length ts - 1) d by (omega arith) in
        let under = level-get (t.reports + 1) ts (length ts - 1) d (omega arith) (ltb-of early) in
        omega (arith, under, newer)
      where
        ltb-of : (get_or ts (length ts - 1) d).reports ≤ t.reports → nat_lt (get_or ts (length ts - 1) d).reports (t.reports + 1) ≡ true
        ltb-of low = grind (arith, low)
