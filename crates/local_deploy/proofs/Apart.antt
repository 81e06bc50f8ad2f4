-- That no name is merged and removed, of the names that were read and of what they were read of.
use Rattle.std.proofs.Common.{◌≡◌, ℕ, List, [], ◌∷◌, inl, inr, ap, sym, subst, ◌∙◌}
use Rattle.std.specs.List.{All, AllZip, Contains}
use Rattle.std.proofs.lemmas.List.Elements.{All-nil, All-cons}
use Rattle.nuc_base.specs.Tables.{Table, AllHold, IsFaultBy, IsFirst, each}
use Rattle.nuc_base.proofs.Tables.{fault_along, fault_before, first_after, all_both}
use Rattle.serde_json.specs.Data.{Data, string}
use Rattle.local_deploy.specs.Lines.{apart_lines, names_apart}
use Rattle.local_deploy.specs.Named.{IsMerged, IsNamed, once}
use Rattle.local_deploy.specs.Sound.{IsApart}
use Rattle.local_deploy.specs.declared.fault.LocalFault.{LocalFault}
use Rattle.local_deploy.specs.declared.fault.LocalFault.TheVariants.{Both, NoMemory}
use Rattle.local_deploy.proofs.Once.{removed_from, removed_in}

abbrev pub Merged : Type 0
Merged = List ℕ × List ℕ

-- ---- a loop over lines

pub record Checked {X : Type 0} (lines : X → Table LocalFault) (all rest : List X) : Type 0 where
  pub faults : (f : LocalFault) → IsFirst (each lines rest) f → IsFirst (each lines all) f
  pub holds : AllHold (each lines rest) → AllHold (each lines all)

module _ {X : Type 0} (lines : X → Table LocalFault) (all : List X) where
  pub checked_start : Checked lines all all
  checked_start = record { faults = λ f h. h; holds = λ h. h }

  pub checked_more : (rest : List X) (x : X) → Checked lines all (x ∷ rest) → AllHold (lines x) → Checked lines all rest
  checked_more rest x c h = record {
    faults = λ f first. c.faults f (first_after (lines x) (each lines rest) f h first);
    holds = λ more. c.holds (all_both (lines x) (each lines rest) h more);
  }

  pub checked_fault : (rest : List X) (x : X) (f : LocalFault) → Checked lines all (x ∷ rest) → IsFaultBy NoMemory (lines x) f
      → IsFaultBy NoMemory (each lines all) f
  checked_fault rest x f c h = fault_along NoMemory (each lines (x ∷ rest)) (each lines all) f c.faults
      (fault_before NoMemory (lines x) (each lines rest) f h)

-- ---- from what was read to what it was read of

module _ (vs : List Data) (names remove : List (List ℕ)) (are : AllZip IsNamed vs names) (each_once : remove ≡ once names) where
  pub all_apart : (ms : List (List ℕ × Data)) (rs : List Merged) → AllZip IsMerged ms rs → AllHold (each (names_apart remove) rs)
      → AllHold (each (apart_lines vs) ms)
  all_apart [] [] z h = tt
  all_apart [] (r ∷ rs) z h = absurd z
  all_apart (m ∷ ms) [] z h = absurd z
  all_apart (m ∷ ms) (r ∷ rs) z h = (
    λ has. h.0 (removed_in vs names remove are each_once r.0 (subst (λ (n : List ℕ). Contains vs (string n)) (sym z.0.0) has)),
    all_apart ms rs z.1 h.1,
  )

  pub first_apart : (ms : List (List ℕ × Data)) (rs : List Merged) → AllZip IsMerged ms rs → (f : LocalFault) → IsFirst (each (names_apart remove) rs) f
      → IsFirst (each (apart_lines vs) ms) f
  first_apart [] [] z f h = absurd h
  first_apart [] (r ∷ rs) z f h = absurd z
  first_apart (m ∷ ms) [] z f h = absurd z
  first_apart (m ∷ ms) (r ∷ rs) z f (inl h) = inl (
    λ no. h.0 (λ has. no (subst (λ (n : List ℕ). Contains vs (string n)) z.0.0 (removed_from vs names remove are each_once r.0 has))),
    h.1 ∙ ap Both z.0.0,
  )
  first_apart (m ∷ ms) (r ∷ rs) z f (inr h) = inr (
    λ has. h.0 (removed_in vs names remove are each_once r.0 (subst (λ (n : List ℕ). Contains vs (string n)) (sym z.0.0) has)),
    first_apart ms rs z.1 f h.1,
  )

  pub apart_fault : (ms : List (List ℕ × Data)) (rs : List Merged) → AllZip IsMerged ms rs → (f : LocalFault)
      → IsFaultBy NoMemory (each (names_apart remove) rs) f → IsFaultBy NoMemory (each (apart_lines vs) ms) f
  apart_fault ms rs z f h = fault_along NoMemory (each (names_apart remove) rs) (each (apart_lines vs) ms) f (first_apart ms rs z) h

  -- what was read of lines that hold is apart
  pub read_apart : (ms : List (List ℕ × Data)) (rs : List Merged) → AllZip IsMerged ms rs → AllHold (each (apart_lines vs) ms) → All (IsApart remove) rs
  read_apart [] [] z h = All-nil (IsApart remove)
  read_apart [] (r ∷ rs) z h = absurd z
  read_apart (m ∷ ms) [] z h = absurd z
  read_apart (m ∷ ms) (r ∷ rs) z h = All-cons (IsApart remove) r rs
      (λ has. h.0 (subst (λ (n : List ℕ). Contains vs (string n)) z.0.0 (removed_from vs names remove are each_once r.0 has)))
      (read_apart ms rs z.1 h.1)
