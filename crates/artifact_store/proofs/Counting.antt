-- What is said of an answer that is handed on.
use Rattle.std.proofs.Common.{◌≡◌, ◌⊎◌, ℕ, ◌≤◌, List, ◌∷◌, refl, sym, ◌∙◌, ap, subst, arith, inl, inr}
use Rattle.std.specs.Prelude.{Result, Ok, Err}
use Rattle.std.specs.Result.{IsErrAnd}
use Rattle.nuc_base.specs.Faults.{Rose, HasCause}
use Rattle.nuc_base.specs.Tables.{Table, IsFirst, IsPass, each}
use Rattle.nuc_base.proofs.Tables.{first_before}
use Rattle.library_core.specs.declared.library.LibraryFault.{LibraryFault}
use Rattle.library_core.specs.declared.library.LibraryFault.TheVariants as library
use Rattle.artifact_store.specs.Faults.{fault_of}
use Rattle.artifact_store.specs.Staged.{HasCounted, StagesBy, IsOutside}
use Rattle.artifact_store.specs.declared.fault.StageFault.{StageFault}
use Rattle.artifact_store.specs.declared.fault.StageFault.TheVariants as fault

err_same : {A : Type 0} (f g : StageFault) → ◌≡◌ {A = Result A StageFault} (Err f) (Err g) → f ≡ g
err_same f g e = cc e

-- an answer by `?` is a fault
pub err_of : {A : Type 0} (r : Result A StageFault) (f : StageFault) → IsErrAnd r (λ e. e ≡ f) → r ≡ Err f
err_of (Ok value) f h = absurd h
err_of (Err e) f h = ap Err h

err_is : {A : Type 0} (r : Result A StageFault) (f g : StageFault) → IsErrAnd r (λ e. e ≡ f) → r ≡ Err g → f ≡ g
err_is r f g h is = err_same f g (sym (err_of r f h) ∙ is)

-- ---- the counts

-- neither fault, and neither count rose
pub counts_still : {A : Type 0} (d e l m : ℕ) (r : Result A StageFault) → (r ≡ Err fault.Disk → ⊥) → (r ≡ Err fault.Library → ⊥) → e ≡ d → m ≡ l →
    HasCounted d e l m r
counts_still d e l m r no_disk no_library disk library = record {
  disk_cause = λ is. absurd (no_disk is);
  disk_quiet = λ _. disk;
  disk_later = omega (arith, disk);
  library_cause = λ is. absurd (no_library is);
  library_quiet = λ _. library;
  library_later = omega (arith, library);
}

pub counts_good : {A : Type 0} (d e l m : ℕ) (value : A) → e ≡ d → m ≡ l → HasCounted d e l m (Ok value)
counts_good d e l m value disk library = counts_still d e l m (Ok value) (λ is. cc is) (λ is. cc is) disk library

-- any fault but those two
pub counts_own : {A : Type 0} (d e l m : ℕ) (r : Result A StageFault) (f : StageFault) → (f ≡ fault.Disk → ⊥) → (f ≡ fault.Library → ⊥) →
    IsErrAnd r (λ g. g ≡ f) → e ≡ d → m ≡ l → HasCounted d e l m r
counts_own d e l m r f no_disk no_library h disk library = counts_still d e l m r (λ is. no_disk (err_is r f fault.Disk h is))
    (λ is. no_library (err_is r f fault.Library h is)) disk library

pub counts_memory : {A : Type 0} (d e l m : ℕ) (r : Result A StageFault) → IsErrAnd r (λ g. g ≡ fault.NoMemory) → e ≡ d → m ≡ l → HasCounted d e l m r
counts_memory d e l m r h disk library = counts_own d e l m r fault.NoMemory (λ is. cc is) (λ is. cc is) h disk library

pub counts_missing : {A : Type 0} (d e l m : ℕ) (file : List ℕ) → e ≡ d → m ≡ l → HasCounted {A = A} d e l m (Err (fault.Missing file))
counts_missing d e l m file disk library = counts_own d e l m (Err (fault.Missing file)) (fault.Missing file) (λ is. cc is) (λ is. cc is) refl disk library

pub counts_long : {A : Type 0} (d e l m : ℕ) (file : List ℕ) (n : ℕ) → e ≡ d → m ≡ l → HasCounted {A = A} d e l m (Err (fault.TooLarge file n))
counts_long d e l m file n disk library = counts_own d e l m (Err (fault.TooLarge file n)) (fault.TooLarge file n) (λ is. cc is) (λ is. cc is) refl disk library

-- the disk's fault
pub counts_disk : {A B E : Type 0} (d e l m : ℕ) (r : Result A StageFault) (g : E) → IsErrAnd r (λ f. f ≡ fault.Disk) → HasCause {T = B} d e (Err g) → m ≡ l →
    HasCounted d e l m r
counts_disk d e l m r g h cause library = record {
  disk_cause = λ _. cause.failed;
  disk_quiet = λ other. absurd (other (err_of r fault.Disk h));
  disk_later = cause.later;
  library_cause = λ is. absurd (let both : fault.Disk ≡ fault.Library = err_is r fault.Disk fault.Library h is in cc both);
  library_quiet = λ _. library;
  library_later = omega (arith, library);
}

-- the library's fault
pub counts_library : {A B : Type 0} (d e l m : ℕ) (r : Result A StageFault) (g : LibraryFault) → IsErrAnd r (λ f. f ≡ fault_of g)
    → (◌≡◌ {A = Result B LibraryFault} (Err g) (Err library.Failed) → Rose l m) → ((◌≡◌ {A = Result B LibraryFault} (Err g) (Err library.Failed) → ⊥) → m ≡ l)
    → l ≤ m → e ≡ d → HasCounted d e l m r
counts_library d e l m r library.Failed h cause quiet later disk = record {
  disk_cause = λ is. absurd (let both : fault.Library ≡ fault.Disk = err_is r fault.Library fault.Disk h is in cc both);
  disk_quiet = λ _. disk;
  disk_later = omega (arith, disk);
  library_cause = λ _. cause refl;
  library_quiet = λ other. absurd (other (err_of r fault.Library h));
  library_later = later;
}
counts_library d e l m r library.NoMemory h cause quiet later disk = counts_memory d e l m r h disk (quiet (λ is. cc is))

-- a fault that is handed on
pub counts_handed : {A B : Type 0} (d e l m : ℕ) (r : Result A StageFault) (f : StageFault) → IsErrAnd r (λ g. g ≡ f) → HasCounted {A = B} d e l m (Err f) →
    HasCounted d e l m r
counts_handed d e l m r f h counts = record {
  disk_cause = λ is. counts.disk_cause (ap Err (err_is r f fault.Disk h is));
  disk_quiet = λ other. counts.disk_quiet (λ is. other (err_of r f h ∙ ap Err (err_same f fault.Disk is)));
  disk_later = counts.disk_later;
  library_cause = λ is. counts.library_cause (ap Err (err_is r f fault.Library h is));
  library_quiet = λ other. counts.library_quiet (λ is. other (err_of r f h ∙ ap Err (err_same f fault.Library is)));
  library_later = counts.library_later;
}

-- after calls in which neither count rose
pub counts_after : {A : Type 0} (c d e k l m : ℕ) (r : Result A StageFault) → d ≡ c → l ≡ k → HasCounted d e l m r → HasCounted c e k m r
counts_after c d e k l m r disk library counts = subst (λ (x : ℕ). HasCounted x e k m r) disk (subst (λ (y : ℕ). HasCounted d e y m r) library counts)

pub still_disk : {A : Type 0} (d e l m : ℕ) (value : A) → HasCounted {A = A} d e l m (Ok value) → e ≡ d
still_disk d e l m value counts = counts.disk_quiet (λ is. cc is)

pub still_library : {A : Type 0} (d e l m : ℕ) (value : A) → HasCounted {A = A} d e l m (Ok value) → m ≡ l
still_library d e l m value counts = counts.library_quiet (λ is. cc is)

-- ---- the lines

pub outside_of : (g : LibraryFault) → IsOutside (fault_of g)
outside_of library.Failed = inr (inl refl)
outside_of library.NoMemory = inr (inr refl)

pub stages_err : {A : Type 0} (lines : Table StageFault) (Is : A → Type 0) (r : Result A StageFault) (f : StageFault) → IsErrAnd r (λ g. g ≡ f) →
    IsOutside f ⊎ IsFirst lines f → StagesBy lines Is r
stages_err lines Is (Ok value) f h said = absurd h
stages_err lines Is (Err e) f h said = subst (λ (g : StageFault). IsOutside g ⊎ IsFirst lines g) (sym h) said

pub stages_memory : {A : Type 0} (lines : Table StageFault) (Is : A → Type 0) (r : Result A StageFault) → IsErrAnd r (λ g. g ≡ fault.NoMemory) →
    StagesBy lines Is r
stages_memory lines Is r h = stages_err lines Is r fault.NoMemory h (inl (inr (inr refl)))

pub stages_disk : {A : Type 0} (lines : Table StageFault) (Is : A → Type 0) (r : Result A StageFault) → IsErrAnd r (λ g. g ≡ fault.Disk) → StagesBy lines Is r
stages_disk lines Is r h = stages_err lines Is r fault.Disk h (inl (inl refl))

-- a fault of lines among others
pub said_along : (lines more : Table StageFault) (f : StageFault) → (IsFirst lines f → IsFirst more f) → IsOutside f ⊎ IsFirst lines f → IsOutside f ⊎
    IsFirst more f
said_along lines more f along (inl outside) = inl outside
said_along lines more f along (inr first) = inr (along first)

-- a fault of the lines of the next value
pub passes_said : {A B : Type 0} (lines : A → Table StageFault) (Is : A → B → Type 0) (all : List A) (x : A) (rest : List A) (done : List B) (f : StageFault)
    → IsPass lines Is all (x ∷ rest) done
    → IsOutside f ⊎ IsFirst (lines x) f → IsOutside f ⊎ IsFirst (each lines all) f
passes_said lines Is all x rest done f passes said = said_along (lines x) (each lines all) f
    (λ first. passes.faults f (first_before (lines x) (each lines rest) f first)) said
