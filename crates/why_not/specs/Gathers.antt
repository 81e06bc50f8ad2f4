-- What is gathered while the candidates of an open name are tried one after another.
use Rattle.std.specs.Prelude.{◌≡◌, ◌≢◌, ◌⊎◌, ◌↔◌, ℕ, ◌+◌, ◌<◌, ◌≤◌, List, [], ◌∷◌, ◌++◌, map, Some}
use Rattle.std.specs.List.{Contains}
use Rattle.std.specs.List.Sorted.{IsStrictlyIncreasing}
use Rattle.recipe_reader.specs.Members.{Need, Member}
use Rattle.recipe_reader.specs.Sets.{name_of, required_names}
use Rattle.why_not.specs.Reasons.{seen, branches_seen, branch_nodes}
use Rattle.why_not.specs.Certificates.{RestsOn}
use Rattle.why_not.specs.Plain.{ArePlain}
use Rattle.why_not.specs.declared.why.Why.{Why}

-- the certificate of the branch rests on its place and those of used
pub record IsBranch (ms : List Member) (wanted : List Need) (taken used : List ℕ) (b : ℕ × Why) : Type 0 where
  pub own : List ℕ
  pub rests : RestsOn ms wanted (taken ++ b.0 ∷ []) own (seen b.1)
  pub others : (x : ℕ) → Contains own x → (b.0 ≡ x) ⊎ Contains used x

-- the new places are the old ones and the others of own
pub record JoinsOthers (place : ℕ) (own old new : List ℕ) : Type 0 where
  pub kept : (x : ℕ) → Contains old x → Contains new x
  pub joined : (x : ℕ) → Contains own x → (place ≡ x) ⊎ Contains new x
  pub only : (x : ℕ) → Contains new x → Contains old x ⊎ (Contains own x × (place ≢ x))

-- the branches are those of the candidates of the name before i, and they and the name rest on used
pub record AreBranchesSoFar (ms : List Member) (wanted : List Need) (taken : List ℕ) (n : List ℕ) (i : ℕ) (used : List ℕ)
    (branches : List (ℕ × Why)) : Type 0 where
  pub within : (x : ℕ) → Contains used x → Contains taken x
  pub required : Contains (required_names ms wanted used) n
  pub resting : (b : ℕ × Why) → Contains branches b → IsBranch ms wanted taken used b
  pub rising : IsStrictlyIncreasing (map (λ b. b.0) branches)
  pub all : (p : ℕ) → Contains (map (λ b. b.0) branches) p ↔ (name_of ms p ≡ Some n) × (p < i)

-- the branches are plain, and they and their split are the nodes that were used up
pub record IsPlainSoFar (ms : List Member) (wanted : List Need) (taken : List ℕ) (old new : ℕ) (branches : List (ℕ × Why)) : Type 0 where
  pub plain : ArePlain ms wanted taken (branches_seen branches)
  pub count : 1 + branch_nodes (branches_seen branches) + new ≡ old

-- the branches and their split are no more nodes than were used up
pub record BranchesUseUp (old new : ℕ) (branches : List (ℕ × Why)) : Type 0 where
  pub count : 1 + branch_nodes (branches_seen branches) + new ≤ old
