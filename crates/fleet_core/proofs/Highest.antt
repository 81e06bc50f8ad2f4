-- The highest revision among packets and among reports.
use Rattle.std.proofs.Common.{◌≡◌, ℕ, zero, suc, ◌≤◌, Bool, true, false, List, [], ◌∷◌, ◌++◌, Some, None, refl, sym, ap, subst, arith}
use Rattle.std.specs.Prelude.{slice_get, Option, max, if◌then◌else◌, ◌==◌}
use Rattle.std.specs.Option.{option_to_list}
use Rattle.fleet_core.specs.declared.packet.Packet.{Packet}
use Rattle.fleet_core.specs.Meaning.{is_to, highest, told, kept, Report}

pub highest-append : (d : ℕ) (g : List ℕ) (ps qs : List Packet) → highest d g (ps ++ qs) ≡ max (highest d g ps) (highest d g qs)
highest-append d g [] qs = omega arith
highest-append d g (p ∷ ps) qs = by (is_to d g p) (highest-append d g ps qs)
  where
    by : (b : Bool) → highest d g (ps ++ qs) ≡ max (highest d g ps) (highest d g qs)
        → (if b then max p.revision (highest d g (ps ++ qs)) else highest d g (ps ++ qs))
        ≡ max (if b then max p.revision (highest d g ps) else highest d g ps) (highest d g qs)
    by true rest = omega arith
    by false rest = rest

pub told-append : (d : ℕ) (g : List ℕ) (rs qs : List Report) → told d g (rs ++ qs) ≡ max (told d g rs) (told d g qs)
told-append d g [] qs = omega arith
told-append d g (r ∷ rs) qs = by (r.device == d) (told-append d g rs qs)
  where
    by : (b : Bool) → told d g (rs ++ qs) ≡ max (told d g rs) (told d g qs)
        → (if b then max (kept r.past d g) (told d g (rs ++ qs)) else told d g (rs ++ qs))
        ≡ max (if b then max (kept r.past d g) (told d g rs) else told d g rs) (told d g qs)
    by true rest = omega arith
    by false rest = rest

pub highest-head : (d : ℕ) (g : List ℕ) (p : Packet) (ps : List Packet) → is_to d g p ≡ true → highest d g (p ∷ ps) ≡ max p.revision (highest d g ps)
highest-head d g p ps to = ap (λ (b : Bool). if b then max p.revision (highest d g ps) else highest d g ps) to

pub highest-other : (d : ℕ) (g : List ℕ) (p : Packet) (ps : List Packet) → is_to d g p ≡ false → highest d g (p ∷ ps) ≡ highest d g ps
highest-other d g p ps to = ap (λ (b : Bool). if b then max p.revision (highest d g ps) else highest d g ps) to

highest-tail : (d : ℕ) (g : List ℕ) (p : Packet) (ps : List Packet) → highest d g ps ≤ highest d g (p ∷ ps)
highest-tail d g p ps = by (is_to d g p)
  where
    by : (b : Bool) → highest d g ps ≤ (if b then max p.revision (highest d g ps) else highest d g ps)
    by true = omega arith
    by false = omega arith

pub highest-get : (d : ℕ) (g : List ℕ) (ps : List Packet) (n : ℕ) (p : Packet) → slice_get ps n ≡ Some p → is_to d g p ≡ true → p.revision ≤ highest d g ps
highest-get d g [] n p at to = absurd cc
highest-get d g (q ∷ ps) zero p at to =
    let same : p ≡ q = cc in
    let here = highest-head d g q ps (subst (λ (x : Packet). is_to d g x ≡ true) same to) in
    subst (λ (x : Packet). x.revision ≤ highest d g (q ∷ ps)) (sym same) (omega (arith, here))
highest-get d g (q ∷ ps) (suc n) p at to = let rest = highest-get d g ps n p at to in omega (arith, rest, highest-tail d g q ps)

-- what is got of some packets is no higher than they are
pub highest-option : (d : ℕ) (g : List ℕ) (ps : List Packet) (n : ℕ) → highest d g (option_to_list (slice_get ps n)) ≤ highest d g ps
highest-option d g ps n = by (slice_get ps n) (λ p at. at)
  where
    one : (p : Packet) → slice_get ps n ≡ Some p → (b : Bool) → is_to d g p ≡ b → highest d g (p ∷ []) ≤ highest d g ps
    one p at true to = let here = highest-head d g p [] to in omega (arith, here, highest-get d g ps n p at to)
    one p at false to = let here = highest-other d g p [] to in omega (arith, here)

    by : (o : Option Packet) → ((p : Packet) → o ≡ Some p → slice_get ps n ≡ Some p) → highest d g (option_to_list o) ≤ highest d g ps
    by None got = omega arith
    by (Some p) got = one p (got p refl) (is_to d g p) refl
