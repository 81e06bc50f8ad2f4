-- What is a range, and which versions meet it.
use Rattle.std.specs.Prelude.{◌≡◌, ℕ, ◌+◌, ◌≤◌, ◌==◌, ◌&&◌, ◌||◌, nat_lt, nat_eq, Bool, true, false, IsTrue, List, [], ◌∷◌, length, take, slice_index, Some}
use Rattle.std.specs.Prelude.{is_some, if◌then◌else◌}
use Rattle.std.specs.List.{list_all, list_any}
use Rattle.std.specs.Option.{option_map_or}
use Rattle.std.specs.Ordering.{is_eq, is_ge, is_gt, is_le, is_lt, nat_cmp}
use Rattle.std.specs.Cmp.Lexicographic.{pointwise, slice_cmp}
use Rattle.std.specs.declared.cmp.Ordering.{Ordering}
use Rattle.semver.specs.Parse.{Parts}
use Rattle.npm_ranges.specs.declared.comparator.Sign.{Sign}
use Rattle.npm_ranges.specs.declared.comparator.Sign.TheVariants as sign
use Rattle.npm_ranges.specs.Grammar.{Spelled, Written, written}
use Rattle.npm_ranges.specs.Versions.{parts_in, precedence}

-- ---- what is a range

abbrev pub comparator_count : List (List Written) → ℕ
comparator_count [] = 0
comparator_count (set ∷ sets) = length set + comparator_count sets

-- at most 4,096 bytes that the grammar reads
pub record IsReadable (text : List ℕ) : Type 0 where
  pub short : length text ≤ 4096
  pub read : is_some (written text) ≡ true

pub record IsRange (text : List ℕ) : Type 0 where
  pub readable : IsReadable text
  pub few : option_map_or comparator_count (written text) 0 ≤ 32

-- ---- when a version meets a comparator

abbrev pub numbers_of : Parts → List ℕ
numbers_of v = v.0 ∷ v.1 ∷ v.2 ∷ []

-- 0 for all parts that have no number
abbrev pub filled : Spelled → Parts
filled p = (slice_index p.numbers 0, slice_index p.numbers 1, slice_index p.numbers 2, p.pre, [])

-- how the version compares with the filled version
abbrev pub order : Parts → Spelled → Ordering
order v p = precedence v (filled p)

-- how its first numbers compare with those that are written
abbrev pub prefix_order : Parts → Spelled → Ordering
prefix_order v p = slice_cmp nat_cmp (take (length p.numbers) (numbers_of v)) p.numbers

-- the first numbers are these
abbrev pub agree : List ℕ → List ℕ → Bool
agree [] numbers = true
agree (n ∷ ns) [] = false
agree (n ∷ ns) (m ∷ ms) = m == n && agree ns ms

-- the numbers up to and including the leftmost that is not 0
abbrev pub up_to_nonzero : List ℕ → List ℕ
up_to_nonzero [] = []
up_to_nonzero (n ∷ ns) = if n == 0 then n ∷ up_to_nonzero ns else n ∷ []

-- a partial of three numbers
abbrev pub meets_full : Sign → Parts → Spelled → Bool
meets_full sign.Equal v p = is_eq (order v p)
meets_full sign.Less v p = is_lt (order v p)
meets_full sign.LessOrEqual v p = is_le (order v p)
meets_full sign.Greater v p = is_gt (order v p)
meets_full sign.GreaterOrEqual v p = is_ge (order v p)
meets_full sign.Tilde v p = is_ge (order v p) && agree (take 2 p.numbers) (numbers_of v)
meets_full sign.Caret v p = is_ge (order v p) && agree (up_to_nonzero p.numbers) (numbers_of v)

-- a partial of fewer
abbrev pub meets_open : Sign → Parts → Spelled → Bool
meets_open sign.Equal v p = is_ge (order v p) && agree p.numbers (numbers_of v)
meets_open sign.Less v p = is_lt (prefix_order v p)
meets_open sign.LessOrEqual v p = is_le (prefix_order v p)
meets_open sign.Greater v p = is_gt (prefix_order v p)
meets_open sign.GreaterOrEqual v p = is_ge (order v p)
meets_open sign.Tilde v p = is_ge (order v p) && agree p.numbers (numbers_of v)
meets_open sign.Caret v p = is_ge (order v p) && agree (up_to_nonzero p.numbers) (numbers_of v)

abbrev pub meets_comparator : Parts → Written → Bool
meets_comparator v c = if length c.partial.numbers == 3 then meets_full c.sign v c.partial else meets_open c.sign v c.partial

-- ---- when it meets a set, and a range

-- the comparator has a pre-release and the version's numbers
abbrev pub lets_pre_in : Parts → Written → Bool
lets_pre_in v c = nat_lt 0 (length c.partial.pre) && pointwise nat_eq c.partial.numbers (numbers_of v)

-- each comparator is met, and where the version has a pre-release some comparator lets it in
abbrev pub meets_set : Parts → List Written → Bool
meets_set v set = list_all (meets_comparator v) set && (length v.3 == 0 || list_any (lets_pre_in v) set)

-- the grammar reads the range, and the version meets one of its sets
abbrev pub IsInRange : List ℕ → List ℕ → Type 0
IsInRange version range = (sets : List (List Written)) × (written range ≡ Some sets) × IsTrue (list_any (meets_set (parts_in version)) sets)
