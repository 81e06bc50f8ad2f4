-- Why a candidate is not added.
use Rattle.std.specs.Prelude.{◌≡◌, List}
use Rattle.recipe_reader.specs.Candidates.{HasClash}
use Rattle.recipe_reader.specs.declared.candidate.Candidate.{Candidate}
use Rattle.recipe_reader.specs.declared.candidates.AddRefusal.{AddRefusal}
use Rattle.recipe_reader.specs.declared.candidates.AddRefusal.TheVariants.{Clash, NoMemory}

-- the candidate comes back: by a clash where there is one, and for want of memory where there is none
abbrev pub IsRefused : List Candidate → Candidate → AddRefusal → Type 0
IsRefused cs c (Clash back) = (back ≡ c) × HasClash cs c
IsRefused cs c (NoMemory back) = (back ≡ c) × (HasClash cs c → ⊥)
