-- The text of a list, written element by element.
use Rattle.std.proofs.Common.{◌≡◌, ℕ, ◌+◌, List, ◌∷◌, ◌++◌, map, true, ◌∙◌, append_assoc, arith}
use Rattle.std.specs.Prelude.{nat_lt}
use Rattle.std.proofs.lemmas.Bool.{lt-ltb}
use Rattle.serde_json.specs.Data.{Data}
use Rattle.serde_json.specs.Written.{compact_text, items_text, comma_if}
use Rattle.tree_core.specs.View.{items_of}

module _ {A : Type 0} (tree_of : A → Data) where
  -- the text of what is left from this place on, with the closing bracket
  abbrev pub text_from : ℕ → List A → List ℕ
  text_from at xs = items_text (nat_lt 0 at) (items_of (map tree_of xs))

  pub goes_on : (out total : List ℕ) (at : ℕ) (x : A) (xs : List A) → out ++ text_from at (x ∷ xs) ≡ total →
      (out ++ comma_if (nat_lt 0 at) ++ compact_text (tree_of x)) ++ text_from (at + 1) xs ≡ total
  goes_on out total at x xs so_far =
      let later : nat_lt 0 (at + 1) ≡ true = lt-ltb 0 (at + 1) (omega arith) in
      rw later (append_assoc (out ++ comma_if (nat_lt 0 at)) (compact_text (tree_of x)) (items_text true (items_of (map tree_of xs)))
      ∙ append_assoc out (comma_if (nat_lt 0 at)) (compact_text (tree_of x) ++ items_text true (items_of (map tree_of xs))) ∙ so_far)

-- pieces written one after another
pub joined3 : (o a b c p q : List ℕ) → p ≡ o ++ a → q ≡ p ++ b → q ++ c ≡ o ++ (a ++ (b ++ c))
joined3 o a b c p q first second = rw (second, first) (simp append_assoc)

pub joined6 : (o a b c d e f p q r s t : List ℕ) → p ≡ o ++ a → q ≡ p ++ b → r ≡ q ++ c → s ≡ r ++ d → t ≡ s ++ e →
    t ++ f ≡ o ++ (a ++ (b ++ (c ++ (d ++ (e ++ f)))))
joined6 o a b c d e f p q r s t first second third fourth fifth = rw (fifth, fourth, third, second, first) (simp append_assoc)

pub joined7 : (o a b c d e f g p q r s t u : List ℕ) → p ≡ o ++ a → q ≡ p ++ b → r ≡ q ++ c → s ≡ r ++ d → t ≡ s ++ e → u ≡ t ++ f →
    u ++ g ≡ o ++ (a ++ (b ++ (c ++ (d ++ (e ++ (f ++ g))))))
joined7 o a b c d e f g p q r s t u first second third fourth fifth sixth = rw (sixth, fifth, fourth, third, second, first) (simp append_assoc)
