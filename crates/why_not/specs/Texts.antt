-- The text of a certificate, line by line.
use Rattle.std.specs.Prelude.{ℕ, zero, suc, ◌+◌, List, [], ◌∷◌, ◌++◌, length, Option, Some, None, codes, decimal}
use Rattle.std.specs.List.{flat_map}
use Rattle.recipe_reader.specs.Members.{Member, members}
use Rattle.recipe_reader.specs.Sets.{name_of, version_of}
use Rattle.why_not.specs.Reasons.{Reason, Branches, split, refused, loop, none, branch, branch_places}

-- ---- lines

-- two blanks for each level
abbrev pub indent : ℕ → List ℕ
indent zero = []
indent (suc level) = 32 ∷ 32 ∷ indent level

-- nothing where no candidate stands
abbrev pub or_nothing : Option (List ℕ) → List ℕ
or_nothing None = []
or_nothing (Some text) = text

abbrev pub name_text : List Member → ℕ → List ℕ
name_text ms p = or_nothing (name_of ms p)

abbrev pub version_text : List Member → ℕ → List ℕ
version_text ms p = or_nothing (version_of ms p)

abbrev pub place_text : List Member → ℕ → List ℕ
place_text ms p = name_text ms p ++ 32 ∷ version_text ms p

abbrev pub line : ℕ → List ℕ → List ℕ
line level text = indent level ++ text ++ 10 ∷ []

-- what refuses a place
abbrev pub by_text : List Member → Option ℕ → List ℕ
by_text ms None = codes "wanted"
by_text ms (Some q) = place_text ms q

abbrev pub split_line : ℕ → List ℕ → ℕ → List ℕ
split_line level n count = line level (codes "split " ++ n ++ 32 ∷ decimal count)

abbrev pub try_line : List Member → ℕ → ℕ → List ℕ
try_line ms level p = line level (codes "try " ++ place_text ms p)

abbrev pub refused_line : List Member → ℕ → ℕ → Option ℕ → List ℕ
refused_line ms level p by = line level (codes "refused " ++ place_text ms p ++ codes " by " ++ by_text ms by)

abbrev pub loop_line : List Member → ℕ → List ℕ → List ℕ
loop_line ms level ps = line level (codes "loop" ++ flat_map (λ p. 32 ∷ name_text ms p) ps)

-- ---- the lines of a certificate, from its root down: a line for each split, branch and leaf

abbrev mutual
  pub reason_lines : List Member → ℕ → Reason → List (List ℕ)
  reason_lines ms level (split n bs) = split_line level n (length (branch_places bs)) ∷ branch_lines ms (level + 1) bs
  reason_lines ms level (refused p by) = refused_line ms level p by ∷ []
  reason_lines ms level (loop ps) = loop_line ms level ps ∷ []

  pub branch_lines : List Member → ℕ → Branches → List (List ℕ)
  branch_lines ms level none = []
  branch_lines ms level (branch p r bs) = try_line ms level p ∷ (reason_lines ms (level + 1) r ++ branch_lines ms level bs)

abbrev pub why_lines : List Member → Reason → List (List ℕ)
why_lines ms r = reason_lines ms 0 r

-- lines one after another
abbrev pub joined_lines : List (List ℕ) → List ℕ
joined_lines lines = flat_map (λ (l : List ℕ). l) lines

-- the text of a certificate
abbrev pub why_bytes : List Member → Reason → List ℕ
why_bytes ms r = joined_lines (why_lines ms r)
