-- Lists taken apart at a byte.
use Rattle.std.proofs.Common.{◌≡◌, ◌≢◌, ℕ, suc, ◌<◌, List, [], ◌∷◌, ◌++◌, length, get_or, refl, sym, ap, ◌∙◌, ◌⊎◌, inl, inr, ⊎_elim, append_assoc}
use Rattle.std.proofs.Common.{length-append, arith, Bool, false, eqb, true≢false, true, eqb-true}
use Rattle.std.proofs.Common.{Option, Some, None, MatchOption, Bor, subst, ap₂, take, drop, ◌+◌, ◌≤◌, take-append-drop}
use Rattle.std.specs.List.{All}
use Rattle.std.specs.Str.Pattern.{RFindsChar}
use Rattle.std.proofs.lemmas.Str.Pattern.{IsSplitOnceResult, split_parts, NoCharPasses-char, drop_at_char}
use Rattle.std.proofs.lemmas.List.Elements.{All-head, All-tail, All-nil, All-cons}

-- c is no byte of the list
abbrev pub Lacks : ℕ → List ℕ → Type 0
Lacks c xs = (x y : List ℕ) → xs ≢ x ++ (c ∷ y)

at_length : (x y : List ℕ) (c : ℕ) → get_or (x ++ (c ∷ y)) (length x) 0 ≡ c
at_length [] y c = refl
at_length (z ∷ x) y c = at_length x y c

-- where no index has it
pub lacks : (c : ℕ) (xs : List ℕ) → ((i : ℕ) → i < length xs → get_or xs i 0 ≡ c → ⊥) → Lacks c xs
lacks c xs h x y e = h (length x) (omega (arith, ap length e, length-append x (c ∷ y))) (ap (λ l. get_or l (length x) 0) e ∙ at_length x y c)

pub lacks_prefix : (c : ℕ) (x y : List ℕ) → Lacks c (x ++ y) → Lacks c x
lacks_prefix c x y h a b e = h a (b ++ y) (ap (λ l. l ++ y) e ∙ append_assoc a (c ∷ b) y)

pub lacks_back : (c : ℕ) (x y : List ℕ) → Lacks c (x ++ y) → Lacks c y
lacks_back c x y h a b e = h (x ++ a) b (ap (λ l. x ++ l) e ∙ sym (append_assoc x a (c ∷ b)))

middle_holds : (P : ℕ → Type 0) (x y : List ℕ) (c : ℕ) → All P (x ++ (c ∷ y)) → P c
middle_holds P [] y c h = All-head P c y h
middle_holds P (z ∷ x) y c h = middle_holds P x y c (All-tail P z (x ++ (c ∷ y)) h)

-- what holds of each byte holds of one in the middle
pub holds_at : (P : ℕ → Type 0) (xs x y : List ℕ) (c : ℕ) → All P xs → xs ≡ x ++ (c ∷ y) → P c
holds_at P xs x y c h e = middle_holds P x y c (rw (← e) h)

-- where two bytes are lacking, each byte is neither
pub each_neither : (b c : ℕ) (xs : List ℕ) → Lacks b xs → Lacks c xs → All (λ (x : ℕ). (x ≢ b) × (x ≢ c)) xs
each_neither b c [] hb hc = All-nil (λ (x : ℕ). (x ≢ b) × (x ≢ c))
each_neither b c (x ∷ xs) hb hc =
    All-cons (λ (x : ℕ). (x ≢ b) × (x ≢ c)) x xs ((λ e. hb [] xs (ap (λ z. z ∷ xs) e)), (λ e. hc [] xs (ap (λ z. z ∷ xs) e)))
    (each_neither b c xs (lacks_back b (x ∷ []) xs hb) (lacks_back c (x ∷ []) xs hc))

-- of two prefixes of one list one is a prefix of the other
pub overlap : (a b x y : List ℕ) → a ++ b ≡ x ++ y → ((d : List ℕ) × (x ≡ a ++ d) × (b ≡ d ++ y)) ⊎ ((d : List ℕ) × (a ≡ x ++ d) × (y ≡ d ++ b))
overlap [] b x y e = inl (x, refl, e)
overlap (c ∷ a) b [] y e = inr (c ∷ a, refl, sym e)
overlap (c ∷ a) b (z ∷ x) y e =
    let head : c ≡ z = cc in
    let tail : a ++ b ≡ x ++ y = cc in
    ⊎_elim
    (λ (h : (d : List ℕ) × (x ≡ a ++ d) × (b ≡ d ++ y)). inl (h.0, ap (λ l. z ∷ l) h.1 ∙ ap (λ w. w ∷ (a ++ h.0)) (sym head), h.2))
    (λ (h : (d : List ℕ) × (a ≡ x ++ d) × (y ≡ d ++ b)). inr (h.0, ap (λ l. c ∷ l) h.1 ∙ ap (λ w. w ∷ (x ++ h.0)) head, h.2))
    (overlap a b x y tail)

-- a list is cut at its first c in one way
pub first_same : (c : ℕ) (a b x y : List ℕ) → Lacks c a → Lacks c x → a ++ (c ∷ b) ≡ x ++ (c ∷ y) → (a ≡ x) × (b ≡ y)
first_same c [] b [] y ha hx e = (refl, cc)
first_same c [] b (z ∷ x) y ha hx e =
    let head : z ≡ c = cc in
    absurd (hx [] x (ap (λ w. w ∷ x) head))
first_same c (z ∷ a) b [] y ha hx e =
    let head : z ≡ c = cc in
    absurd (ha [] a (ap (λ w. w ∷ a) head))
first_same c (z ∷ a) b (w ∷ x) y ha hx e =
    let head : z ≡ w = cc in
    let tail : a ++ (c ∷ b) ≡ x ++ (c ∷ y) = cc in
    let rest = first_same c a b x y (lacks_back c (z ∷ []) a ha) (lacks_back c (w ∷ []) x hx) tail in
    (ap (λ l. z ∷ l) rest.0 ∙ ap (λ u. u ∷ x) head, rest.1)

-- whether a list begins with `{`
abbrev begins_open : List ℕ → Bool
begins_open [] = false
begins_open (x ∷ xs) = eqb x 123

-- lists that begin with `{` and with `}`
pub braces_differ : (xs ys : List ℕ) → 123 ∷ xs ≡ 125 ∷ ys → ⊥
braces_differ xs ys e = true≢false (ap begins_open e)

shorter_last : (c : ℕ) (b x y d : List ℕ) → Lacks c b → c ∷ b ≡ d ++ (c ∷ y) → b ≡ y
shorter_last c b x y [] h e = cc
shorter_last c b x y (g ∷ d) h e =
    let tail : b ≡ d ++ (c ∷ y) = cc in
    absurd (h d y tail)

-- what stands behind the last c of a list
pub last_same : (c : ℕ) (a b x y : List ℕ) → Lacks c b → Lacks c y → a ++ (c ∷ b) ≡ x ++ (c ∷ y) → b ≡ y
last_same c a b x y hb hy e =
    ⊎_elim
    (λ (o : (d : List ℕ) × (x ≡ a ++ d) × (c ∷ b ≡ d ++ (c ∷ y))). shorter_last c b x y o.0 hb o.2)
    (λ (o : (d : List ℕ) × (a ≡ x ++ d) × (c ∷ y ≡ d ++ (c ∷ b))). sym (shorter_last c y a b o.0 hy o.2))
    (overlap a (c ∷ b) x (c ∷ y) e)

pub empty_is : (xs : List ℕ) → eqb (length xs) 0 ≡ true → xs ≡ []
empty_is [] e = refl
empty_is (x ∷ xs) e =
    let none : suc (length xs) ≡ 0 = eqb-true (suc (length xs)) 0 e in
    absurd (omega arith)

pub not_empty : (xs : List ℕ) → eqb (length xs) 0 ≡ false → xs ≢ []
not_empty xs e is = true≢false (ap (λ l. eqb (length l) 0) (sym is) ∙ e)

-- ---- what the searches of text say

pub first_cut : (c : ℕ) (text : List ℕ) (r : Option (Bor (List ℕ) × Bor (List ℕ))) → IsSplitOnceResult c text r → c < 128
    → MatchOption r (Lacks c text) (λ x. (text ≡ x.0.now ++ (c ∷ x.1.now)) × Lacks c x.0.now)
first_cut c text None h low = lacks c text (split_parts c text None h low)
first_cut c text (Some x) h low =
    let parts = split_parts c text (Some x) h low in
    (parts.0, lacks c x.0.now parts.1)

-- the clause of `rsplit_once` at a character
abbrev pub IsRSplitOnceResult : ℕ → List ℕ → Option (Bor (List ℕ) × Bor (List ℕ)) → Type 0
IsRSplitOnceResult c text r =
    MatchOption r (RFindsChar c text None)
    (λ x. (i : ℕ) × (j : ℕ) × RFindsChar c text (Some (i, j)) × (x.0.now ≡ take i text) × (x.1.now ≡ drop j text) × (i ≤ j) × (length x.0.now ≡ i) ×
    (length x.1.now + j ≡ length text))

pub last_cut : (c : ℕ) (text : List ℕ) (r : Option (Bor (List ℕ) × Bor (List ℕ))) → IsRSplitOnceResult c text r → c < 128
    → MatchOption r (Lacks c text) (λ x. (text ≡ x.0.now ++ (c ∷ x.1.now)) × Lacks c x.1.now)
last_cut c text None h low = lacks c text (λ i. NoCharPasses-char c text i h low)
last_cut c text (Some x) h low =
    let prefix = h.0 in
    let back = h.1 in
    let behind : Lacks c (drop back text) = lacks c (drop back text) (λ i. NoCharPasses-char c (drop back text) i h.2.0 low) in (
      sym (take-append-drop prefix text) ∙ ap₂ (λ a b. a ++ b) (sym h.3) (drop_at_char c text prefix back h.2.1 low ∙ ap (λ l. c ∷ l) (sym h.4)),
      subst (Lacks c) (sym h.4) behind,
    )
