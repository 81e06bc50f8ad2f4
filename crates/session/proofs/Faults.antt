-- How the clauses on the counts of faults join.
use Rattle.std.specs.Prelude.{ℕ, Result, Ok, Err, IsErrOf}
use Rattle.std.proofs.Common.{◌≡◌, ◌≤◌, ◌⊎◌, inl, inr, refl, subst, arith}
use Rattle.nuc_base.specs.Faults.{Rose}
use Rattle.session_boots.specs.declared.ends.SessionFault.{SessionFault}
use Rattle.session_boots.specs.declared.ends.SessionFault.TheVariants as over
use Rattle.session.specs.Calls.{HasNotFallen}

pub rose_on : (a b c : ℕ) → a ≤ b → Rose b c → Rose a c
rose_on a b c later rose = omega (arith, later, rose)

pub rose_then : (a b c : ℕ) → Rose a b → b ≤ c → Rose a c
rose_then a b c rose later = omega (arith, rose, later)

pub stays_later : (a b : ℕ) → a ≤ b → HasNotFallen a b
stays_later a b later = omega (arith, later)

pub stays_on : (a b c d : ℕ) → a ≤ b → HasNotFallen b c → c ≤ d → HasNotFallen a d
stays_on a b c d first stays last = omega (arith, first, stays, last)

same_stays : (a b : ℕ) → b ≡ a → HasNotFallen a b
same_stays a b same = omega (arith, same)

rose_stays : (a b : ℕ) → Rose a b → HasNotFallen a b
rose_stays a b rose = omega (arith, rose)

-- a count that rises where there was this fault, and else is as it was
pub stays_by : {A : Type 0} (r : Result A SessionFault) (e : SessionFault) (a b : ℕ) → (IsErrOf r e → Rose a b) → ((IsErrOf r e → ⊥) → b ≡ a) → HasNotFallen a b
stays_by (Ok x) e a b rose quiet = same_stays a b (quiet (λ is. cc))
stays_by (Err over.Disk) over.Disk a b rose quiet = rose_stays a b (rose refl)
stays_by (Err over.Disk) over.Output a b rose quiet = same_stays a b (quiet (λ is. cc))
stays_by (Err over.Output) over.Disk a b rose quiet = same_stays a b (quiet (λ is. cc))
stays_by (Err over.Output) over.Output a b rose quiet = rose_stays a b (rose refl)

-- it rose within, or behind
pub rose_by : {A : Type 0} (r : Result A SessionFault) (e : SessionFault) (a b c : ℕ) → (IsErrOf r e → Rose a b) → ((IsErrOf r e → ⊥) → b ≡ a) → b ≤ c →
    IsErrOf r e ⊎ Rose b c → Rose a c
rose_by (Ok x) e a b c rose quiet later (inl is) = absurd cc
rose_by (Ok x) e a b c rose quiet later (inr more) = subst (λ (n : ℕ). Rose n c) (quiet (λ is. cc)) more
rose_by (Err over.Disk) over.Disk a b c rose quiet later more = rose_then a b c (rose refl) later
rose_by (Err over.Disk) over.Output a b c rose quiet later (inl is) = absurd cc
rose_by (Err over.Disk) over.Output a b c rose quiet later (inr more) = subst (λ (n : ℕ). Rose n c) (quiet (λ is. cc)) more
rose_by (Err over.Output) over.Disk a b c rose quiet later (inl is) = absurd cc
rose_by (Err over.Output) over.Disk a b c rose quiet later (inr more) = subst (λ (n : ℕ). Rose n c) (quiet (λ is. cc)) more
rose_by (Err over.Output) over.Output a b c rose quiet later more = rose_then a b c (rose refl) later
