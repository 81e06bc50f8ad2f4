-- The plain certificate: each split at the least required name that is not taken, and each leaf the first reason.
use Rattle.std.specs.Prelude.{◌≡◌, ◌⊎◌, ℕ, ◌≤◌, List, [], ◌∷◌, ◌++◌, Some, None, false}
use Rattle.std.specs.List.{Contains}
use Rattle.recipe_reader.specs.Members.{Need, Member}
use Rattle.recipe_reader.specs.Sets.{needs_of, IsNext, IsValid}
use Rattle.why_not.specs.Reasons.{Reason, Branches, split, refused, loop, none, branch, is_split, nodes}
use Rattle.why_not.specs.Certificates.{IsAgainst, IsCertified}

-- the first of the places whose needs refuse the place
abbrev pub IsFirstAgainst : List Member → List ℕ → ℕ → ℕ → Type 0
IsFirstAgainst ms taken p q =
    (before : List ℕ) × (after : List ℕ) × (taken ≡ before ++ q ∷ after)
    × IsAgainst ms (needs_of ms q) p
    × ((x : ℕ) → Contains before x → IsAgainst ms (needs_of ms x) p → ⊥)

-- none of the places refuses it
abbrev pub NoneAgainst : List Member → List ℕ → ℕ → Type 0
NoneAgainst ms taken p = (x : ℕ) → Contains taken x → IsAgainst ms (needs_of ms x) p → ⊥

-- the place refuses the first of those that it refuses
abbrev pub IsFirstRefusedBy : List Member → List ℕ → ℕ → ℕ → Type 0
IsFirstRefusedBy ms taken p q =
    (before : List ℕ) × (after : List ℕ) × (taken ≡ before ++ q ∷ after)
    × IsAgainst ms (needs_of ms p) q
    × ((x : ℕ) → Contains before x → IsAgainst ms (needs_of ms p) x → ⊥)

abbrev pub RefusesNone : List Member → List ℕ → ℕ → Type 0
RefusesNone ms taken p = (x : ℕ) → Contains taken x → IsAgainst ms (needs_of ms p) x → ⊥

-- the reason is the first of those that stand against the place beside those that are taken: a wanted range, the range of a
-- taken place in the order of taking, the place's own range on a taken one, a loop. Which loop is left open.
abbrev pub IsFirstReason : List Member → List Need → List ℕ → ℕ → Reason → Type 0
IsFirstReason ms wanted taken p (split n bs) =
    (IsAgainst ms wanted p → ⊥) × NoneAgainst ms taken p × RefusesNone ms taken p
    × ((ps : List ℕ) → IsCertified ms wanted (taken ++ p ∷ []) (loop ps) → ⊥)
IsFirstReason ms wanted taken p (refused q None) = (q ≡ p) × IsAgainst ms wanted p
IsFirstReason ms wanted taken p (refused q (Some by)) =
    (IsAgainst ms wanted p → ⊥)
    × (((q ≡ p) × IsFirstAgainst ms taken p by) ⊎ ((by ≡ p) × NoneAgainst ms taken p × IsFirstRefusedBy ms taken p q))
IsFirstReason ms wanted taken p (loop ps) = (IsAgainst ms wanted p → ⊥) × NoneAgainst ms taken p × RefusesNone ms taken p

-- the first reason, and no split
pub record IsFirstLeaf (ms : List Member) (wanted : List Need) (taken : List ℕ) (p : ℕ) (r : Reason) : Type 0 where
  pub first : IsFirstReason ms wanted taken p r
  pub leaf : is_split r ≡ false

abbrev mutual
  pub IsPlain : List Member → List Need → List ℕ → Reason → Type 0
  IsPlain ms wanted taken (split n bs) = IsNext ms wanted taken n × ArePlain ms wanted taken bs
  IsPlain ms wanted taken (refused p by) = Unit {0}
  IsPlain ms wanted taken (loop ps) = Unit {0}

  pub ArePlain : List Member → List Need → List ℕ → Branches → Type 0
  ArePlain ms wanted taken none = Unit {0}
  ArePlain ms wanted taken (branch p r bs) = IsFirstReason ms wanted taken p r × IsPlain ms wanted (taken ++ p ∷ []) r × ArePlain ms wanted taken bs

-- certified for no taken place, and plain
abbrev pub IsPlainCertificate : List Member → List Need → Reason → Type 0
IsPlainCertificate ms wanted r = IsCertified ms wanted [] r × IsPlain ms wanted [] r

-- certified, plain where a plain one has at most 1,024 nodes, and never of more than 65,536
pub record IsExplanation (ms : List Member) (wanted : List Need) (r : Reason) : Type 0 where
  pub certified : IsCertified ms wanted [] r
  pub plain : (s : Reason) → IsPlainCertificate ms wanted s → nodes s ≤ 1024 → IsPlain ms wanted [] r
  pub small : nodes r ≤ 65536

-- no set is valid
abbrev pub HasNoSet : List Member → List Need → Type 0
HasNoSet ms wanted = (s : List ℕ) → IsValid ms wanted s → ⊥
