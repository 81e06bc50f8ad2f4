-- The lines of a certificate.
use Rattle.std.proofs.Common.{◌≡◌, ℕ, zero, suc, ◌+◌, ◌-◌, ◌*◌, ◌<◌, ◌≤◌, List, ◌∷◌, ◌++◌, take, drop, get_or, length, refl, sym, ap, ◌∙◌, arith, append_assoc}
use Rattle.std.proofs.Common.{Vec, Global}
use Rattle.std.proofs.Math.ListN.{replicate}
use Rattle.std.proofs.Math.Seq.{drop-cons}
use Rattle.std.proofs.lemmas.Grind.{flat_map-append}
use Rattle.std.proofs.lemmas.List.{length-map, take-replicate}
use Rattle.std.specs.List.{flat_map}
use Rattle.recipe_reader.specs.Members.{Member}
use Rattle.why_not.specs.Reasons.{nodes, branch_nodes, branch_places, seen, branches_seen}
use Rattle.why_not.specs.Texts.{indent, split_line, try_line, reason_lines, branch_lines, joined_lines}
use Rattle.why_not.specs.declared.why.Why.{Why, Split}
use Rattle.why_not.proofs.Seen.{places_are, seen_split}

-- ---- blanks

pub indent_add : (m n : ℕ) → indent m ++ indent n ≡ indent (m + n)
indent_add zero n =
    let e : 0 + n ≡ n = omega arith in
    ap indent (sym e)
indent_add (suc m) n =
    let e : suc m + n ≡ suc (m + n) = omega arith in
    ap (λ l. 32 ∷ 32 ∷ l) (indent_add m n) ∙ ap indent (sym e)

blanks_are : (n : ℕ) → replicate (2 * n) 32 ≡ indent n
blanks_are zero = refl
blanks_are (suc n) =
    let e : 2 * suc n ≡ suc (suc (2 * n)) = omega arith in
    ap (λ k. replicate k 32) e ∙ ap (λ l. 32 ∷ 32 ∷ l) (blanks_are n)

pub blanks_prefix : (m n : ℕ) → 2 * n ≤ m → take (2 * n) (replicate m 32) ≡ indent n
blanks_prefix m n le = take-replicate (2 * n) m 32 le ∙ blanks_are n

-- the blanks so far, and so many more
pub indent_more : (level left count : ℕ) → left ≤ level → count ≤ left → indent (level - left) ++ indent count ≡ indent (level - (left - count))
indent_more level left count within most =
    let e : level - left + count ≡ level - (left - count) = omega (arith, within, most) in
    indent_add (level - left) count ∙ ap indent e

pub indent_parts : (level left count : ℕ) → left ≤ level → count ≤ left → indent level ≡ (indent (level - left) ++ indent count) ++ indent (left - count)
indent_parts level left count within most =
    let e : level - (left - count) + (left - count) ≡ level = omega (arith, within, most) in
    sym (ap (λ l. l ++ indent (left - count)) (indent_more level left count within most) ∙ indent_add (level - (left - count)) (left - count) ∙ ap indent e)

-- ---- parts of a text

pub four_parts : (a b c d : List ℕ) → (a ++ (b ++ c)) ++ d ≡ ((a ++ b) ++ c) ++ d
four_parts a b c d = simp append_assoc

split_drop : {A : Type 0} (xs : List A) (i : ℕ) (x d : A) → i < length xs → x ≡ get_or xs i d → drop i xs ≡ x ∷ drop (i + 1) xs
split_drop xs i x d below is =
    let e : suc i ≡ i + 1 = omega arith in
    drop-cons xs i d below ∙ ap (λ y. y ∷ drop (suc i) xs) (sym is) ∙ ap (λ k. x ∷ drop k xs) e

-- the text of one more element
pub flat_at : {A : Type 0} (f : A → List ℕ) (xs : List A) (i : ℕ) (x d : A) (all prefix : List ℕ) → i < length xs → x ≡ get_or xs i d →
    all ≡ prefix ++ flat_map f (drop i xs) → all ≡ (prefix ++ f x) ++ flat_map f (drop (i + 1) xs)
flat_at f xs i x d all prefix below is so_far = so_far ∙ ap (λ l. prefix ++ flat_map f l) (split_drop xs i x d below is)
    ∙ sym (append_assoc prefix (f x) (flat_map f (drop (i + 1) xs)))

-- ---- a split and its branches

module _ (ms : List Member) (level : ℕ) where
  pub split_text : (why : Why) (n : List ℕ) (v : Vec (ℕ × Why) Global) (count : ℕ) → why ≡ Split n v → count ≡ length v.items →
      joined_lines (reason_lines ms level (seen why)) ≡ split_line level n count ++ joined_lines (branch_lines ms (level + 1) (branches_seen v.items))
  split_text why n v count is len =
      let counted : length (branch_places (branches_seen v.items)) ≡ count = ap length (places_are v.items) ∙ length-map v.items (λ b. b.0) ∙ sym len in
      ap (λ r. joined_lines (reason_lines ms level r)) (ap seen is ∙ seen_split n v)
      ∙ ap (λ k. split_line level n k ++ joined_lines (branch_lines ms (level + 1) (branches_seen v.items))) counted

  pub branch_text : (bs : List (ℕ × Why)) (i : ℕ) (b : ℕ × Why) (all prefix : List ℕ) → i < length bs → b ≡ get_or bs i b →
      all ≡ prefix ++ joined_lines (branch_lines ms level (branches_seen (drop i bs))) →
      all ≡ ((prefix ++ try_line ms level b.0) ++ joined_lines (reason_lines ms (level + 1) (seen b.1)))
      ++ joined_lines (branch_lines ms level (branches_seen (drop (i + 1) bs)))
  branch_text bs i b all prefix below is so_far =
      let one = try_line ms level b.0 in
      let own = reason_lines ms (level + 1) (seen b.1) in
      let others = branch_lines ms level (branches_seen (drop (i + 1) bs)) in
      so_far ∙ ap (λ l. prefix ++ joined_lines (branch_lines ms level (branches_seen l))) (split_drop bs i b b below is)
      ∙ ap (λ l. prefix ++ (one ++ l)) (flat_map-append (λ (l : List ℕ). l) own others)
      ∙ five prefix one (joined_lines own) (joined_lines others)
    where
      five : (a b c d : List ℕ) → a ++ (b ++ (c ++ d)) ≡ ((a ++ b) ++ c) ++ d
      five a b c d = simp append_assoc

pub branch_size : (bs : List (ℕ × Why)) (i : ℕ) (b : ℕ × Why) → i < length bs → b ≡ get_or bs i b →
    branch_nodes (branches_seen (drop i bs)) ≡ nodes (seen b.1) + branch_nodes (branches_seen (drop (i + 1) bs))
branch_size bs i b below is = ap (λ l. branch_nodes (branches_seen l)) (split_drop bs i b b below is)
