-- What reading a version or a range answers.
use Rattle.std.specs.Prelude.{◌≡◌, ℕ, ◌≤◌, List, ◌∷◌, length, MatchResult, Option, Some, None, Result, ⊤}
use Rattle.npm_ranges.specs.Grammar.{Written, comparators_of, joined, words_of}
use Rattle.npm_ranges.specs.declared.fault.RangeFault.{RangeFault}
use Rattle.npm_ranges.specs.declared.fault.RangeFault.TheVariants as range
use Rattle.npm_ranges.specs.Ranges.{IsRange, IsReadable}
use Rattle.npm_ranges.specs.declared.fault.VersionFault.{VersionFault}
use Rattle.npm_ranges.specs.declared.fault.VersionFault.TheVariants as version

-- Bad comes exactly where the bytes are no version, and want of memory only where they are one
abbrev pub VersionFaultsAs : Type 0 → VersionFault → Type 0
VersionFaultsAs Form version.Bad = ¬ Form
VersionFaultsAs Form version.NoMemory = Form

-- what is read is the bytes
abbrev pub ReadsVersion : (List ℕ → Type 0) → List ℕ → Result (List ℕ) VersionFault → Type 0
ReadsVersion Form bytes result = MatchResult result (λ value. (value ≡ bytes) × Form bytes) (VersionFaultsAs (Form bytes))

-- Bad comes exactly where the bytes are more than 4,096 or the grammar does not read them; TooManyParts exactly where it reads
-- them and they have more than 32 comparators; want of memory is free.
abbrev pub RangeFaultsAs : List ℕ → RangeFault → Type 0
RangeFaultsAs bytes range.Bad = ¬ IsReadable bytes
RangeFaultsAs bytes range.TooManyParts = IsReadable bytes × ¬ IsRange bytes
RangeFaultsAs bytes range.NoMemory = ⊤

-- what is read is the bytes
abbrev pub ReadsRange : List ℕ → Result (List ℕ) RangeFault → Type 0
ReadsRange bytes result = MatchResult result (λ value. (value ≡ bytes) × IsRange bytes) (RangeFaultsAs bytes)

-- ---- what a reader of a part of a range answers: the value that the grammar gives, Bad where it gives none, or want of memory

abbrev pub FailsOn : {B : Type 0} → Option B → RangeFault → Type 0
FailsOn given range.Bad = given ≡ None
FailsOn given range.TooManyParts = ⊥
FailsOn given range.NoMemory = ⊤

abbrev pub RangeOutcome : {A B : Type 0} → (A → B) → Option B → Result A RangeFault → Type 0
RangeOutcome view given result = MatchResult result (λ x. given ≡ Some (view x)) (FailsOn given)

-- the comparator at the beginning of the words, and what is left of the text
pub record IsFirstComparator (word after : List ℕ) (comparator : Written) (rest : List ℕ) : Type 0 where
  pub comparators : comparators_of (word ∷ words_of after) ≡ joined (Some comparator) (comparators_of (words_of rest))
  pub shorter : length rest ≤ length after
