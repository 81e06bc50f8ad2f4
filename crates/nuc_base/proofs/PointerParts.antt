-- Taking pointers apart.
use Rattle.std.proofs.Common.{◌≡◌, ℕ, ◌<◌, ◌==◌, List, [], ◌∷◌, ◌++◌, length, map, ap, sym, ◌∙◌, arith, append_assoc, refl, true, false, get_or, ne_eqb, ap₂}
use Rattle.std.proofs.lemmas.Bool.{eqb-true}
use Rattle.std.proofs.lemmas.Str.{encode_ascii}
use Rattle.std.specs.Char.{encode_utf8}
use Rattle.std.proofs.lemmas.List.{get_or-take, length-take}
use Rattle.std.specs.List.{slice_split, position_or_len, before_first, after_first, All}
use Rattle.std.proofs.lemmas.List.Splits.{slice_split_first, slice_split_none}
use Rattle.std.proofs.lemmas.List.Sums.{fails_before_first, passes_at_first, split_at_first}
use Rattle.std.proofs.lemmas.List.Elements.{All-head, All-tail}
use Rattle.std.proofs.lemmas.Bool.Decides.{nat_tests}
use Rattle.nuc_base.specs.Pointers.{unescape, begins, tokens}

-- one part more
pub part_next : (all rest : List ℕ) (done : List (List ℕ)) → position_or_len (λ b. b == 47) rest < length rest
    → map unescape (slice_split (λ b. b == 47) all) ≡ done ++ map unescape (slice_split (λ b. b == 47) rest)
    → map unescape (slice_split (λ b. b == 47) all) ≡ (done ++ unescape (before_first (λ b. b == 47) rest) ∷ [])
    ++ map unescape (slice_split (λ b. b == 47) (after_first (λ b. b == 47) rest))
part_next all rest done below h =
    h ∙ ap (λ ps. done ++ map unescape ps) (slice_split_first (λ b. b == 47) rest 0 below)
    ∙ sym (append_assoc done (unescape (before_first (λ b. b == 47) rest) ∷ []) (map unescape (slice_split (λ b. b == 47) (after_first (λ b. b == 47) rest))))

abbrev pub Plain : List ℕ → Type 0
Plain xs = All (λ x. (x == 126) ≡ false) xs

-- the last part
pub part_last : (rest : List ℕ) → position_or_len (λ b. b == 47) rest ≡ length rest → slice_split (λ b. b == 47) rest ≡ rest ∷ []
part_last rest h = slice_split_none (λ b. b == 47) rest (λ k d below. fails_before_first (λ b. b == 47) rest k d (omega (arith, h)))

pub plain_all : (xs : List ℕ) → Plain xs → unescape xs ≡ xs
plain_all [] h = refl
plain_all (x ∷ []) h = refl
plain_all (x ∷ y ∷ rest) h =
    let here : (x == 126) ≡ false = All-head (λ x. (x == 126) ≡ false) x (y ∷ rest) h in
    let more : Plain (y ∷ rest) = All-tail (λ x. (x == 126) ≡ false) x (y ∷ rest) h in
    rw here (ap (λ l. x ∷ l) (plain_all (y ∷ rest) more))

pub plain_at : (xs tail : List ℕ) → Plain xs → unescape (xs ++ 126 ∷ tail) ≡ xs ++ unescape (126 ∷ tail)
plain_at [] tail h = refl
plain_at (x ∷ []) tail h =
    let here : (x == 126) ≡ false = All-head (λ x. (x == 126) ≡ false) x [] h in
    rw here refl
plain_at (x ∷ y ∷ rest) tail h =
    let here : (x == 126) ≡ false = All-head (λ x. (x == 126) ≡ false) x (y ∷ rest) h in
    let more : Plain (y ∷ rest) = All-tail (λ x. (x == 126) ≡ false) x (y ∷ rest) h in
    rw here (ap (λ l. x ∷ l) (plain_at (y ∷ rest) tail more))

-- a text without `~`
pub plain_last : (rest : List ℕ) → position_or_len (λ b. b == 126) rest ≡ length rest → unescape rest ≡ rest
plain_last rest h = plain_all rest (λ k d below. fails_before_first (λ b. b == 126) rest k d (omega (arith, h)))

-- a `~` before anything else stands for itself
pub tilde_stays : (s : List ℕ) → ((rest : List ℕ) → s ≡ 48 ∷ rest → ⊥) → ((rest : List ℕ) → s ≡ 49 ∷ rest → ⊥) → unescape (126 ∷ s) ≡ 126 ∷ unescape s
tilde_stays [] a b = refl
tilde_stays (y ∷ rest) a b =
    let zero : (y == 48) ≡ false = ne_eqb y 48 (λ e. a rest (ap (λ z. z ∷ rest) e)) in
    let one : (y == 49) ≡ false = ne_eqb y 49 (λ e. b rest (ap (λ z. z ∷ rest) e)) in
    rw (one, zero) refl

plain_prefix : (rest : List ℕ) → position_or_len (λ b. b == 126) rest < length rest → Plain (before_first (λ b. b == 126) rest)
plain_prefix rest below k d inside =
    let n = position_or_len (λ (b : ℕ). b == 126) rest in
    let short : k < n = omega (arith, inside, length-take n rest) in
    rw (get_or-take n rest k d short) (fails_before_first (λ b. b == 126) rest k d short)

-- a text up to its first `~`
pub plain_next : (all rest done : List ℕ) → position_or_len (λ b. b == 126) rest < length rest → unescape all ≡ done ++ unescape rest
    → unescape all ≡ (done ++ before_first (λ b. b == 126) rest) ++ unescape (126 ∷ after_first (λ b. b == 126) rest)
plain_next all rest done below h =
    let p = λ (b : ℕ). b == 126 in
    let at : get_or rest (position_or_len p rest) 0 ≡ 126 = grind (arith, nat_tests, passes_at_first p rest 0 below) in
    let split : rest ≡ before_first p rest ++ (126 ∷ after_first p rest) =
    split_at_first p rest 0 below ∙ ap (λ x. before_first p rest ++ (x ∷ after_first p rest)) at in
    let plain : Plain (before_first p rest) = plain_prefix rest below in
    h ∙ ap (λ xs. done ++ unescape xs) split ∙ ap (λ xs. done ++ xs) (plain_at (before_first p rest) (after_first p rest) plain)
    ∙ sym (append_assoc done (before_first p rest) (unescape (126 ∷ after_first p rest)))

-- ---- the steps of the two loops

pub piece_step : (all rest done plain after mid new next : List ℕ) (letter : ℕ) → unescape all ≡ done ++ unescape rest
    → plain ≡ before_first (λ b. b == 126) rest → after ≡ after_first (λ b. b == 126) rest → position_or_len (λ b. b == 126) rest < length rest
    → mid ≡ done ++ plain → new ≡ mid ++ letter ∷ [] → unescape (126 ∷ after) ≡ letter ∷ unescape next
    → unescape all ≡ new ++ unescape next
piece_step all rest done plain after mid new next letter h prefix back below middle more past =
    let e1 = plain_next all rest done below h in
    let e2 : (mid ++ letter ∷ []) ++ unescape next ≡ mid ++ (letter ∷ unescape next) = append_assoc mid (letter ∷ []) (unescape next) in
    e1 ∙ ap₂ (λ x y. x ++ y) (ap (λ x. done ++ x) (sym prefix) ∙ sym middle) (ap (λ x. unescape (126 ∷ x)) (sym back) ∙ past) ∙ sym e2
    ∙ ap (λ x. x ++ unescape next) (sym more)

pub part_step : (all rest part after : List ℕ) (done : List (List ℕ)) (token : List ℕ) (new : List (List ℕ))
    → map unescape (slice_split (λ b. b == 47) all) ≡ done ++ map unescape (slice_split (λ b. b == 47) rest)
    → part ≡ before_first (λ b. b == 47) rest → after ≡ after_first (λ b. b == 47) rest → position_or_len (λ b. b == 47) rest < length rest
    → token ≡ unescape part → new ≡ done ++ token ∷ []
    → map unescape (slice_split (λ b. b == 47) all) ≡ new ++ map unescape (slice_split (λ b. b == 47) after)
part_step all rest part after done token new h prefix back below is more =
    part_next all rest done below h
    ∙ ap₂ (λ x y. (done ++ x ∷ []) ++ map unescape (slice_split (λ b. b == 47) y)) (ap unescape (sym prefix) ∙ sym is) (sym back)
    ∙ ap (λ x. x ++ map unescape (slice_split (λ b. b == 47) after)) (sym more)

pub part_end : (all rest : List ℕ) (done : List (List ℕ)) (token : List ℕ) (new : List (List ℕ))
    → map unescape (slice_split (λ b. b == 47) all) ≡ done ++ map unescape (slice_split (λ b. b == 47) rest)
    → position_or_len (λ b. b == 47) rest ≡ length rest → token ≡ unescape rest → new ≡ done ++ token ∷ []
    → new ≡ map unescape (slice_split (λ b. b == 47) all)
part_end all rest done token new h none is more =
    more ∙ ap (λ x. done ++ x ∷ []) is ∙ ap (λ ps. done ++ map unescape ps) (sym (part_last rest none)) ∙ sym h

pub no_tokens : (s : List ℕ) → begins s ≡ true → ((rest : List ℕ) → s ≡ 47 ∷ rest → ⊥) → [] ≡ tokens s
no_tokens [] b h = refl
no_tokens (x ∷ xs) b h = absurd (h xs (ap (λ z. z ∷ xs) (eqb-true x 47 b)))

-- what the contract of `strip_prefix` says of an ASCII character
pub not_before : (c : ℕ) (s : List ℕ) → c < 128 → ((rest : List ℕ) → s ≡ encode_utf8 c ++ rest → ⊥) → (rest : List ℕ) → s ≡ c ∷ rest → ⊥
not_before c s small h rest is = h rest (is ∙ ap (λ x. x ++ rest) (sym (encode_ascii c small)))
