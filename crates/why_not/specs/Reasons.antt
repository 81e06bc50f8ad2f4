-- Certificates as contracts see them: trees of reasons.
use Rattle.std.specs.Prelude.{ℕ, ◌+◌, Bool, true, false, List, [], ◌∷◌, map, Option}
use Rattle.why_not.specs.declared.why.Why.{Why, fold-Why}
use Rattle.why_not.specs.declared.why.Why.TheOpen.{Why-F}

mutual
  pub data Reason : Type 0 where
    split : List ℕ → Branches → Reason
    refused : ℕ → Option ℕ → Reason
    loop : List ℕ → Reason

  -- places, each with its reason
  pub data Branches : Type 0 where
    none : Branches
    branch : ℕ → Reason → Branches → Branches

abbrev pub branches_of : List (ℕ × Reason) → Branches
branches_of [] = none
branches_of (b ∷ bs) = branch b.0 b.1 (branches_of bs)

-- one level, with each certificate inside already seen as its reason
abbrev pub seen_step : Why-F Reason → Reason
seen_step (Why-F.Split n v) = split n (branches_of v.items)
seen_step (Why-F.Refused p by) = refused p by
seen_step (Why-F.Loop v) = loop v.items

abbrev pub seen : Why → Reason
seen = fold-Why Reason seen_step

abbrev pub branch_seen : ℕ × Why → ℕ × Reason
branch_seen b = (b.0, seen b.1)

abbrev pub branches_seen : List (ℕ × Why) → Branches
branches_seen bs = branches_of (map branch_seen bs)

abbrev pub is_split : Reason → Bool
is_split (split n bs) = true
is_split (refused p by) = false
is_split (loop ps) = false

-- ---- their size

abbrev mutual
  pub nodes : Reason → ℕ
  nodes (split n bs) = 1 + branch_nodes bs
  nodes (refused p by) = 1
  nodes (loop ps) = 1

  pub branch_nodes : Branches → ℕ
  branch_nodes none = 0
  branch_nodes (branch p r bs) = nodes r + branch_nodes bs

abbrev pub branch_places : Branches → List ℕ
branch_places none = []
branch_places (branch p r bs) = p ∷ branch_places bs
