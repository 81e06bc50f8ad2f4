-- The forms of a platform's texts.
use Rattle.std.proofs.Common.{◌≡◌, ◌≢◌, ℕ, ◌<◌, ◌==◌, Bool, true, false, List, [], ◌∷◌, ◌++◌, length, Option, Some, None, option_map, MatchOption, Bor, ap}
use Rattle.std.proofs.Common.{sym, ◌∙◌, refl, ne_eqb, arith}
use Rattle.std.specs.Prelude.{◌&&◌, ◌||◌}
use Rattle.std.specs.List.{position_or_len, before_first, after_first, list_all, list_any}
use Rattle.std.proofs.lemmas.List.Splits.{slice_split_first, slice_split_none}
use Rattle.std.proofs.lemmas.List.Sums.{fails_before_first}
use Rattle.recipe_reader.specs.Platforms.{inside, before_slash, words}

slash_ends : (prefix : List ℕ) → before_slash (prefix ++ 47 ∷ []) ≡ Some prefix
slash_ends [] = refl
slash_ends (x ∷ []) = refl
slash_ends (x ∷ y ∷ rest) = ap (option_map (λ s. x ∷ s)) (slash_ends (y ∷ rest))

slash_missing : (s : List ℕ) → ((prefix : List ℕ) → s ≢ prefix ++ 47 ∷ []) → before_slash s ≡ None
slash_missing [] h = refl
slash_missing (x ∷ []) h =
    let other : (x == 47) ≡ false = ne_eqb x 47 (λ e. h [] (ap (λ z. z ∷ []) e)) in
    rw other refl
slash_missing (x ∷ y ∷ rest) h = ap (option_map (λ s. x ∷ s)) (slash_missing (y ∷ rest) (λ prefix e. h (x ∷ prefix) (ap (λ l. x ∷ l) e)))

ends_within : (rest : List ℕ) (r : Option (Bor (List ℕ))) → MatchOption r ((prefix : List ℕ) → rest ≢ prefix ++ 47 ∷ []) (λ x. rest ≡ x.now ++ 47 ∷ []) →
    option_map (λ t. t.now) r ≡ before_slash rest
ends_within rest None h = sym (slash_missing rest h)
ends_within rest (Some x) h = sym (ap before_slash h ∙ slash_ends x.now)

pub inside_within : (s rest : List ℕ) (r : Option (Bor (List ℕ))) → s ≡ 47 ∷ rest → MatchOption r ((prefix : List ℕ) → rest ≢ prefix ++ 47
    ∷ []) (λ x. rest ≡ x.now ++ 47 ∷ []) → option_map (λ t. t.now) r ≡ inside s
inside_within s rest r is h = ends_within rest r h ∙ ap inside (sym is)

pub inside_none : (s : List ℕ) → ((rest : List ℕ) → s ≢ 47 ∷ rest) → None ≡ inside s
inside_none [] h = refl
inside_none (x ∷ rest) h =
    let other : (x == 47) ≡ false = ne_eqb x 47 (λ e. h rest (ap (λ z. z ∷ rest) e)) in
    rw other refl

-- ---- words with bars between them

pub words_first : (s : List ℕ) → position_or_len (λ b. b == 124) s < length s → words s ≡ before_first (λ b. b == 124) s ∷ words (after_first (λ b. b == 124) s)
words_first s below = slice_split_first (λ b. b == 124) s 0 below

pub words_last : (s : List ℕ) → position_or_len (λ b. b == 124) s ≡ length s → words s ≡ s ∷ []
words_last s h = slice_split_none (λ b. b == 124) s (λ k d below. fails_before_first (λ b. b == 124) s k d (omega (arith, h)))

abbrev pub IsCut : List ℕ → List ℕ → List ℕ → Type 0
IsCut rest word after = (word ≡ before_first (λ b. b == 124) rest) × (after ≡ after_first (λ b. b == 124) rest) ×
    (position_or_len (λ b. b == 124) rest < length rest)

cut : (rest word after : List ℕ) → IsCut rest word after → words rest ≡ word ∷ words after
cut rest word after b = words_first rest b.2 ∙ ap (λ w. w ∷ words (after_first (λ x. x == 124) rest)) (sym b.0) ∙ ap (λ a. word ∷ words a) (sym b.1)

or_none : (b : Bool) → (b || false) ≡ b
or_none true = refl
or_none false = refl

and_all : (b : Bool) → (b && true) ≡ b
and_all true = refl
and_all false = refl

module _ (p : List ℕ → Bool) (text rest : List ℕ) where
  pub any_stop : (word after : List ℕ) → list_any p (words text) ≡ list_any p (words rest) → IsCut rest word after → p word ≡ true →
      true ≡ list_any p (words text)
  any_stop word after same b here = sym (same ∙ ap (list_any p) (cut rest word after b) ∙ ap (λ v. v || list_any p (words after)) here)

  pub any_next : (word after : List ℕ) → list_any p (words text) ≡ list_any p (words rest) → IsCut rest word after → p word ≡ false →
      list_any p (words text) ≡ list_any p (words after)
  any_next word after same b here = same ∙ ap (list_any p) (cut rest word after b) ∙ ap (λ v. v || list_any p (words after)) here

  pub any_end : list_any p (words text) ≡ list_any p (words rest) → position_or_len (λ b. b == 124) rest ≡ length rest → p rest ≡ list_any p (words text)
  any_end same end = sym (same ∙ ap (list_any p) (words_last rest end) ∙ or_none (p rest))

  pub all_stop : (word after : List ℕ) → list_all p (words text) ≡ list_all p (words rest) → IsCut rest word after → p word ≡ false →
      false ≡ list_all p (words text)
  all_stop word after same b here = sym (same ∙ ap (list_all p) (cut rest word after b) ∙ ap (λ v. v && list_all p (words after)) here)

  pub all_next : (word after : List ℕ) → list_all p (words text) ≡ list_all p (words rest) → IsCut rest word after → p word ≡ true →
      list_all p (words text) ≡ list_all p (words after)
  all_next word after same b here = same ∙ ap (list_all p) (cut rest word after b) ∙ ap (λ v. v && list_all p (words after)) here

  pub all_end : list_all p (words text) ≡ list_all p (words rest) → position_or_len (λ b. b == 124) rest ≡ length rest → p rest ≡ list_all p (words text)
  all_end same end = sym (same ∙ ap (list_all p) (words_last rest end) ∙ and_all (p rest))
