-- What the group of the device itself asks, before a request and after it. A list of what is asked is a finite map: names
-- with the ranges of their versions.
use Rattle.std.specs.Prelude.{◌≡◌, ℕ, List, [], codes, map, Option, None, if◌then◌else◌}
use Rattle.std.specs.Cmp.Lexicographic.{slice_cmp}
use Rattle.std.specs.List.{list_any}
use Rattle.std.specs.List.Sorted.{IsStrictlySortedBy}
use Rattle.std.specs.Map.{keys_of, lookup}
use Rattle.std.specs.Option.{option_map_or, option_or}
use Rattle.std.specs.Ordering.{nat_cmp}
use Rattle.std.specs.Str.{bytes_eq}
use Rattle.records.specs.declared.record.Group.{Group}
use Rattle.records.specs.declared.record.Requirement.{Requirement}
use Rattle.device.specs.Grouped.{find_group}

abbrev pub Asked : Type 0
Asked = List (List ℕ × List ℕ)

abbrev pub asked_in : List Requirement → Asked
asked_in rs = map (λ r. (r.name, r.range)) rs

-- the range that is asked at a name
abbrev pub range_at : {X : Type 0} → List ℕ → List (List ℕ × X) → Option X
range_at name asked = lookup (bytes_eq name) asked

abbrev pub local_arn : List ℕ
local_arn = codes "local"

-- what the group of local deployments requires: nothing where it is not there
abbrev pub local_requirements : List Group → List Requirement
local_requirements groups = option_map_or (λ g. g.requirements) (find_group local_arn groups) []

abbrev pub local_asked : List Group → Asked
local_asked groups = asked_in (local_requirements groups)

-- the range merged at a name, or else what was asked of it, unless it is removed
abbrev pub range_after : Asked → Asked → List (List ℕ) → List ℕ → Option (List ℕ)
range_after old merge remove name = option_or (range_at name merge) (if list_any (bytes_eq name) remove then None else range_at name old)

-- The list after the request: names rise strictly in byte order, and each has that range.
pub record IsLocalList (old merge : Asked) (remove : List (List ℕ)) (list : Asked) : Type 0 where
  pub rises : IsStrictlySortedBy (slice_cmp nat_cmp) (keys_of list)
  pub ranges : (name : List ℕ) → range_at name list ≡ range_after old merge remove name
