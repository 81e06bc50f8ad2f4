-- The needs to one place, in rows that are sorted by it.
use Rattle.std.proofs.Common.{◌≡◌, ℕ, ◌+◌, ◌⊎◌, Bool, true, false, cond, ◌&&◌, List, [], ◌∷◌, ◌++◌, take, drop, refl, sym, ap, ◌∙◌, subst, inl, inr, arith}
use Rattle.std.proofs.Common.{append-nil}
use Rattle.std.specs.List.{All, Contains, filter, count_by}
use Rattle.std.proofs.lemmas.List.Elements.{All-head, All-tail, filter-append}
use Rattle.std.proofs.lemmas.Bool.{false≢true}
use Rattle.std.proofs.lemmas.List.Sums.{sum_by-cons}
use Rattle.std.proofs.Math.ListN.{take-append-drop}
use Rattle.nuc_base.proofs.Lists.{in_nil, in_cons, in_here, in_there}

keep_head : {X : Type 0} (b : Bool) (x : X) (xs ys : List X) → b ≡ true → xs ≡ ys → cond b (x ∷ xs) xs ≡ x ∷ ys
keep_head true x xs ys e h = ap (λ l. x ∷ l) h
keep_head false x xs ys e h = absurd (false≢true e)

skip_head : {X : Type 0} (b : Bool) (x : X) (xs ys : List X) → b ≡ false → xs ≡ ys → cond b (x ∷ xs) xs ≡ ys
skip_head true x xs ys e h = absurd (false≢true (sym e))
skip_head false x xs ys e h = h

pub filter_all : {X : Type 0} (p : X → Bool) (xs : List X) → All (λ x. p x ≡ true) xs → filter p xs ≡ xs
filter_all p [] h = refl
filter_all p (x ∷ xs) h = keep_head (p x) x (filter p xs) xs (All-head (λ x. p x ≡ true) x xs h) (filter_all p xs (All-tail (λ x. p x ≡ true) x xs h))

pub filter_none : {X : Type 0} (p : X → Bool) (xs : List X) → All (λ x. p x ≡ false) xs → filter p xs ≡ []
filter_none p [] h = refl
filter_none p (x ∷ xs) h = skip_head (p x) x (filter p xs) [] (All-head (λ x. p x ≡ false) x xs h) (filter_none p xs (All-tail (λ x. p x ≡ false) x xs h))

-- what passes stands between i and i + n
pub filter_part : {X : Type 0} (p : X → Bool) (xs : List X) (i n : ℕ) → All (λ x. p x ≡ false) (take i xs) → All (λ x. p x ≡ true) (take n (drop i xs)) →
    All (λ x. p x ≡ false) (drop n (drop i xs)) → filter p xs ≡ take n (drop i xs)
filter_part p xs i n a b c =
    let rest = drop i xs in
    ap (filter p) (sym (take-append-drop i xs)) ∙ filter-append p (take i xs) rest
    ∙ ap (λ l. l ++ filter p rest) (filter_none p (take i xs) a)
    ∙ ap (filter p) (sym (take-append-drop n rest)) ∙ filter-append p (take n rest) (drop n rest)
    ∙ ap (λ l. l ++ filter p (drop n rest)) (filter_all p (take n rest) b)
    ∙ ap (λ l. take n rest ++ l) (filter_none p (drop n rest) c) ∙ append-nil (take n rest)

in_kept : {X : Type 0} (b : Bool) (y : X) (xs : List X) (x : X) → Contains (cond b (y ∷ xs) xs) x → Contains xs x ⊎ ((b ≡ true) × (y ≡ x))
in_kept true y xs x i = elim (in_cons y xs x i) [ inl e ↦ inr (refl, e) | inr j ↦ inl j ]
in_kept false y xs x i = inl i

-- what a filter keeps is there, and passes
pub in_filter : {X : Type 0} (p : X → Bool) (xs : List X) (x : X) → Contains (filter p xs) x → Contains xs x × (p x ≡ true)
in_filter p [] x i = absurd (in_nil x i)
in_filter p (y ∷ xs) x i = elim (in_kept (p y) y (filter p xs) x i) [
  | inl j ↦ (let r = in_filter p xs x j in (in_there y xs x r.0, r.1))
  | inr both ↦ (subst (Contains (y ∷ xs)) both.1 (in_here y xs), subst (λ z. p z ≡ true) both.1 both.0)
]

keeps_here : {X : Type 0} (b : Bool) (y : X) (xs : List X) → b ≡ true → Contains (cond b (y ∷ xs) xs) y
keeps_here true y xs e = in_here y xs
keeps_here false y xs e = absurd (false≢true e)

keeps_there : {X : Type 0} (b : Bool) (y : X) (xs : List X) (x : X) → Contains xs x → Contains (cond b (y ∷ xs) xs) x
keeps_there true y xs x i = in_there y xs x i
keeps_there false y xs x i = i

-- what is there and passes is kept
pub filter_has : {X : Type 0} (p : X → Bool) (xs : List X) (x : X) → Contains xs x → p x ≡ true → Contains (filter p xs) x
filter_has p [] x i e = absurd (in_nil x i)
filter_has p (y ∷ xs) x i e = elim (in_cons y xs x i) [
  | inl same ↦ subst (Contains (filter p (y ∷ xs))) same (keeps_here (p y) y (filter p xs) (subst (λ z. p z ≡ true) (sym same) e))
  | inr j ↦ keeps_there (p y) y (filter p xs) x (filter_has p xs x j e)
]

pub count_cons : {X : Type 0} (f : X → Bool) (y : X) (xs : List X) → count_by f (y ∷ xs) ≡ cond (f y) 1 0 + count_by f xs
count_cons f y xs = sum_by-cons (λ x. cond (f x) 1 0) y xs

count_kept : {X : Type 0} (a b : Bool) (f : X → Bool) (y : X) (xs : List X) → f y ≡ a → count_by f (cond b (y ∷ xs) xs) ≡ cond (a && b) 1 0 + count_by f xs
count_kept true true f y xs e = count_cons f y xs ∙ ap (λ t. cond t 1 0 + count_by f xs) e
count_kept false true f y xs e = count_cons f y xs ∙ ap (λ t. cond t 1 0 + count_by f xs) e
count_kept true false f y xs e = omega arith
count_kept false false f y xs e = omega arith

-- to count in a filter is to count what passes both tests
pub count-filter : {X : Type 0} (f p : X → Bool) (xs : List X) → count_by f (filter p xs) ≡ count_by (λ x. f x && p x) xs
count-filter f p [] = refl
count-filter f p (y ∷ xs) =
    count_kept (f y) (p y) f y (filter p xs) refl ∙ ap (λ n. cond (f y && p y) 1 0 + n) (count-filter f p xs) ∙ sym (count_cons (λ x. f x && p x) y xs)
