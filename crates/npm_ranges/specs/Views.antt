-- What contracts see of a range in memory.
use Rattle.std.specs.Prelude.{◌≡◌, ℕ, suc, ◌<◌, ◌==◌, ◌&&◌, Bool, false, List, [], ◌∷◌, length, map, Option, Some, None, if◌then◌else◌}
use Rattle.std.specs.Borrow.{Bor}
use Rattle.semver.specs.Order.{parts}
use Rattle.std.specs.declared.alloc.Global.{Global}
use Rattle.std.specs.declared.vec.Vec.{Vec}
use Rattle.semver.specs.Identifiers.{pre_text}
use Rattle.npm_ranges.specs.declared.comparator.Comparator.{Comparator}
use Rattle.npm_ranges.specs.declared.comparator.Partial.{Partial}
use Rattle.npm_ranges.specs.declared.comparator.Partial.TheVariants as partial
use Rattle.npm_ranges.specs.Grammar.{Spelled, Written, sets_of, words_of, written}
use Rattle.npm_ranges.specs.Ranges.{IsRange}

abbrev pub spelled : Partial → Spelled
spelled partial.Any = record { numbers = []; pre = [] }
spelled (partial.Major a) = record { numbers = a ∷ []; pre = [] }
spelled (partial.Minor a b) = record { numbers = a ∷ b ∷ []; pre = [] }
spelled (partial.Full v) = record { numbers = v.major ∷ v.minor ∷ v.patch ∷ []; pre = pre_text v.pre }

abbrev pub seen : Comparator → Written
seen c = record { sign = c.sign; partial = spelled c.partial }

abbrev pub set_seen : Vec Comparator Global → List Written
set_seen set = map seen set.items

abbrev pub sets_seen : List (Vec Comparator Global) → List (List Written)
sets_seen sets = map set_seen sets

-- what a range in memory holds beside its text
pub record IsWritten (text : List ℕ) (sets : List (Vec Comparator Global)) : Type 0 where
  pub range : IsRange text
  pub written : written text ≡ Some (sets_seen sets)

-- the parts behind the first
abbrev pub parts_behind : Option (Bor (List ℕ)) → List (List ℕ)
parts_behind None = []
parts_behind (Some rest) = parts rest.now

-- the first word of a text, and what is behind the blank that ends it
pub record IsFirstWord (text word rest : List ℕ) : Type 0 where
  pub words : words_of text ≡ word ∷ words_of rest
  pub shorter : length rest < length text

abbrev pub ends_seen : Option (Bor (List ℕ) × Bor (List ℕ)) → Option (List ℕ × List ℕ)
ends_seen None = None
ends_seen (Some ends) = Some (ends.0.now, ends.1.now)

abbrev pub begins_bars : List ℕ → Bool
begins_bars [] = false
begins_bars (x ∷ []) = false
begins_bars (x ∷ y ∷ rest) = x == 124 && y == 124

-- where the first `||` begins; the length where there is none
unfoldable pub bars_at : List ℕ → ℕ
bars_at [] = 0
bars_at (x ∷ rest) = if begins_bars (x ∷ rest) then 0 else suc (bars_at rest)

-- the sets behind the first
abbrev pub sets_behind : Option (Bor (List ℕ)) → List (List ℕ)
sets_behind None = []
sets_behind (Some rest) = sets_of rest.now
