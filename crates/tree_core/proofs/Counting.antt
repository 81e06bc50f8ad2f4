-- The whole number from 1 on that a value is.
use Rattle.std.proofs.Common.{◌≡◌, ◌≤◌, ◌<◌, ◌^◌, ℕ, ap, sym, subst, ◌∙◌, arith, Result, Ok, Err, MatchResult}
use Rattle.serde_json.specs.Data.{Data, Num, number, unsigned}
use Rattle.tree_core.specs.Counts.{IsCount, IsNoCount}
use Rattle.tree_core.specs.declared.count.CountFault.{CountFault}
use Rattle.tree_core.specs.declared.count.CountFault.TheVariants.{OutOfRange}

same_number : (v : Data) (m : Num) (n : ℕ) → v ≡ number m → v ≡ number (unsigned n) → m ≡ unsigned n
same_number v m n a b = cc

same_value : (m : Num) (a b : ℕ) → m ≡ unsigned a → m ≡ unsigned b → b ≡ a
same_value m a b e f = cc

too_large : (n most : ℕ) → most < 2 ^ 64 → 2 ^ 64 ≤ n → n ≤ most → ⊥
too_large n most w a b = omega arith

pub count_none : (v : Data) (m : Num) (most : ℕ) → most < 2 ^ 64 → v ≡ number m → ((n : ℕ) → m ≡ unsigned n → 2 ^ 64 ≤ n) → IsNoCount most v OutOfRange
count_none v m most within is large = ((m, is), λ r. too_large r.0 most within (large r.0 (same_number v m r.0 is r.1)) r.3)

pub count_some : (v : Data) (m : Num) (n most : ℕ) (result : Result ℕ CountFault) → v ≡ number m → m ≡ unsigned n
    → MatchResult result (λ k. (k ≡ n) × (1 ≤ k) × (k ≤ most)) (λ f. (f ≡ OutOfRange) × ((1 ≤ n) × (n ≤ most) → ⊥))
    → MatchResult result (λ k. (v ≡ number (unsigned k)) × (1 ≤ k) × (k ≤ most)) (IsNoCount most v)
count_some v m n most (Ok k) is value h = (is ∙ ap number (value ∙ ap unsigned (sym h.0)), h.1, h.2)
count_some v m n most (Err f) is value h =
    let out : IsCount most v → ⊥ = λ r. let same : r.0 ≡ n = same_value m n r.0 value (same_number v m r.0 is r.1) in
    h.1 (subst (λ k. 1 ≤ k) same r.2, subst (λ k. k ≤ most) same r.3) in
    subst (IsNoCount most v) (sym h.0) ((m, is), out)
