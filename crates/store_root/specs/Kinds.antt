-- Which records a program knows, by their first byte.
use Rattle.std.specs.Prelude.{ℕ, ◌+◌, ◌==◌, Bool, true, false, List, [], ◌∷◌, length, Option, Some, None, if◌then◌else◌}
use Rattle.records.specs.Layout.{Kind, kinds}
use Rattle.store_root.specs.declared.tally.UnknownRecord.{UnknownRecord}

abbrev pub is_first_of : List Kind → ℕ → Bool
is_first_of [] b = false
is_first_of (k ∷ ks) b = if b == k.first then true else is_first_of ks b

-- it is the first byte of a kind of the table of records
abbrev pub is_kind : ℕ → Bool
is_kind b = is_first_of kinds b

-- the record of an entry at this place, where its kind is unknown
abbrev pub unknown_of : List ℕ → ℕ → Option UnknownRecord
unknown_of [] at = None
unknown_of (b ∷ rest) at = if is_kind b then None else Some (record { kind = b; at = at })

abbrev pub first_some : Option UnknownRecord → Option UnknownRecord → Option UnknownRecord
first_some (Some u) other = Some u
first_some None other = other

-- the first of an unknown kind among the entries of these payloads, which begin at this place
abbrev pub unknown_from : ℕ → List (List ℕ) → Option UnknownRecord
unknown_from at [] = None
unknown_from at (p ∷ ps) = first_some (unknown_of p at) (unknown_from (at + 5 + length p) ps)
