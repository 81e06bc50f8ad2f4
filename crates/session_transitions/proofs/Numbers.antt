-- Numbers of children, and what is left without one.
use Rattle.std.specs.Prelude.{ℕ, suc, zero, ◌==◌, ◌||◌, Bool, true, false, not, List, [], ◌∷◌, ◌++◌, length, Contains, if◌then◌else◌}
use Rattle.std.specs.List.{AllByRecursion, list_any}
use Rattle.std.proofs.Common.{◌≡◌, ◌≢◌, ◌<◌, ◌≤◌, ◌∙◌, refl, sym, ap, subst, arith}
use Rattle.std.proofs.lemmas.Bool.{eq-eqb, ne_eqb, eqb-true}
use Rattle.std.proofs.lemmas.List.Elements.{recursion_from_All}
use Rattle.std.proofs.lemmas.List.Folds.{list_any-append}
use Rattle.std.proofs.lemmas.Map.Views.{any-filter_same}
use Rattle.step_runner.specs.Entries.{without}
use Rattle.components.specs.Numbers.{among}
use Rattle.components.specs.Readied.{AreApart}
use Rattle.law_supervisor.specs.Sound.{AreDistinct}

-- ---- one of them

pub clash : {A : Type 0} (b : Bool) → b ≡ true → b ≡ false → A
clash b e f = absurd cc

or_here : (a b : Bool) → a ≡ true → (a || b) ≡ true
or_here a b e = rw e refl

pub among_here : (n : ℕ) (ns : List ℕ) → among n (n ∷ ns) ≡ true
among_here n ns = or_here (n == n) (among n ns) (eq-eqb n n refl)

not_back : (a b : Bool) → (a || b) ≡ false → b ≡ false
not_back true b e = absurd cc
not_back false b e = e

-- ---- each stands once

none_is : (n : ℕ) (ms : List ℕ) → AllByRecursion (λ (m : ℕ). m ≢ n) ms → among n ms ≡ false
none_is n [] a = refl
none_is n (m ∷ ms) a = let e : (m == n) ≡ false = ne_eqb m n a.0 in rw e (none_is n ms a.1)

pub apart_of : (ns : List ℕ) → AreDistinct ns → AreApart ns
apart_of [] d = tt
apart_of (n ∷ ns) d = (none_is n ns (recursion_from_All (λ (m : ℕ). m ≢ n) ns d.0), apart_of ns d.1)

pub apart_back : (xs ys : List ℕ) → AreApart (xs ++ ys) → AreApart ys
apart_back [] ys a = a
apart_back (x ∷ xs) ys a = apart_back xs ys a.1

-- what stands before does not stand behind
pub apart_both : (n : ℕ) (xs ys : List ℕ) → AreApart (xs ++ ys) → among n xs ≡ true → among n ys ≡ false
apart_both n [] ys a e = absurd cc
apart_both n (x ∷ xs) ys a e = at (x == n) refl e (apart_both n xs ys a.1)
  where
    at : (b : Bool) → (x == n) ≡ b → (b || among n xs) ≡ true → (among n xs ≡ true → among n ys ≡ false) → among n ys ≡ false
    at true q e rest = let behind = not_back (among x xs) (among x ys) (sym (list_any-append (λ m. m == x) xs ys) ∙ a.0) in
        subst (λ (m : ℕ). among m ys ≡ false) (eqb-true x n q) behind
    at false q e rest = rest e

-- ---- without one

pub without_none : (n : ℕ) (ns : List ℕ) → among n ns ≡ false → without n ns ≡ ns
without_none n [] e = refl
without_none n (m ∷ ms) e = at (m == n) e (without_none n ms)
  where
    at : (b : Bool) → (b || among n ms) ≡ false → (among n ms ≡ false → without n ms ≡ ms) → (if not b then m ∷ without n ms else without n ms) ≡ m ∷ ms
    at true e rest = absurd cc
    at false e rest = ap (λ (l : List ℕ). m ∷ l) (rest e)

pub without_self : (n : ℕ) (ns : List ℕ) → among n (without n ns) ≡ false
without_self n ns = any-filter_same (λ m. m == n) (λ m. not (m == n)) false (λ k e. ap not e) ns

pub without_other : (m n : ℕ) (ns : List ℕ) → m ≢ n → among m (without n ns) ≡ among m ns
without_other m n ns ne = any-filter_same (λ k. k == m) (λ k. not (k == n)) true (λ k e. ap not (ne_eqb k n (λ is. ne (sym (eqb-true k m e) ∙ is)))) ns

-- ---- how many there are

without_most : (n : ℕ) (ns : List ℕ) → length (without n ns) ≤ length ns
without_most n [] = omega arith
without_most n (x ∷ xs) = at (not (x == n)) (without_most n xs)
  where
    at : (b : Bool) → length (without n xs) ≤ length xs → length (if b then x ∷ without n xs else without n xs) ≤ length (x ∷ xs)
    at true rest = omega (arith, rest)
    at false rest = omega (arith, rest)

there : (n x : ℕ) (xs : List ℕ) → Contains (x ∷ xs) n → (x == n) ≡ false → Contains xs n
there n x xs (zero, less, is) ne = clash (x == n) (eq-eqb x n is) ne
there n x xs (suc k, less, is) ne = (k, omega (arith, less), is)

-- without one of them they are fewer
pub without_fewer : (n : ℕ) (ns : List ℕ) → Contains ns n → length (without n ns) < length ns
without_fewer n [] h = absurd (omega (arith, h.1))
without_fewer n (x ∷ xs) h = at (x == n) refl (without_most n xs) (without_fewer n xs)
  where
    at : (b : Bool) → (x == n) ≡ b → length (without n xs) ≤ length xs → (Contains xs n → length (without n xs) < length xs) →
        length (if not b then x ∷ without n xs else without n xs) < length (x ∷ xs)
    at true e most fewer = omega (arith, most)
    at false e most fewer = let less = fewer (there n x xs h e) in omega (arith, less)
