-- Children whose numbers fall: the last one has the least number.
use Rattle.std.proofs.Common.{◌≡◌, ◌≤◌, ◌<◌, ◌==◌, ℕ, Bool, true, false, not, cond, List, [], ◌∷◌}
use Rattle.std.proofs.Common.{◌++◌, All, Contains, Option, Some, None, IfSome, filter, refl, ap, arith, rules, eq-eqb}
use Rattle.std.specs.Prelude.{slice_index_or}
use Rattle.std.specs.Option.{option_to_list}
use Rattle.std.proofs.lemmas.List.{append-nil}
use Rattle.std.proofs.lemmas.List.Elements.{All-nil, All-cons}
use Rattle.step_runner.specs.Entries.{without}
use Rattle.workload.specs.declared.children.LivingChild.{LivingChild}
use Rattle.workload.specs.Children.{FallBelow, numbers, other_children}

pub falls_raise : (n m : ℕ) (cs : List LivingChild) → n ≤ m → FallBelow n cs → FallBelow m cs
falls_raise n m [] le f = tt
falls_raise n m (c ∷ cs) le f = (omega (arith, f.0), f.1)

falls_all : (n : ℕ) (cs : List LivingChild) → FallBelow n cs → All (λ (m : ℕ). m < n) (numbers cs)
falls_all n [] f = All-nil (λ (m : ℕ). m < n)
falls_all n (c ∷ cs) f = All-cons (λ (m : ℕ). m < n) c.number (numbers cs) f.0
    (λ k d lt. let below : slice_index_or (numbers cs) k d < c.number = falls_all c.number cs f.1 k d lt in omega (arith, f.0))

-- a number that all are below is fresh
pub falls_fresh : (n : ℕ) (cs : List LivingChild) → FallBelow n cs → ¬ Contains (numbers cs) n
falls_fresh n cs f = λ h. let below : slice_index_or (numbers cs) h.0 n < n = falls_all n cs f h.0 n h.1 in omega (arith, h.2)

-- ---- some are taken out

falls_kept : (b : Bool) (n : ℕ) (c : LivingChild) (rest : List LivingChild) → c.number < n → FallBelow c.number rest → FallBelow n (cond b (c ∷ rest) rest)
falls_kept true n c rest lt f = (lt, f)
falls_kept false n c rest lt f = falls_raise c.number n rest (omega arith) f

pub falls_filter : (test : LivingChild → Bool) (n : ℕ) (cs : List LivingChild) → FallBelow n cs → FallBelow n (filter test cs)
falls_filter test n [] f = tt
falls_filter test n (c ∷ cs) f = falls_kept (test c) n c (filter test cs) f.0 (falls_filter test c.number cs f.1)

numbers_kept : (b : Bool) (c : LivingChild) (rest : List LivingChild) (others : List ℕ) → numbers rest ≡ others →
    numbers (cond b (c ∷ rest) rest) ≡ cond b (c.number ∷ others) others
numbers_kept true c rest others e = ap (λ (ns : List ℕ). c.number ∷ ns) e
numbers_kept false c rest others e = e

pub numbers_other : (child : ℕ) (cs : List LivingChild) → numbers (other_children child cs) ≡ without child (numbers cs)
numbers_other child [] = refl
numbers_other child (c ∷ cs) = numbers_kept (not (c.number == child)) c (other_children child cs) (without child (numbers cs)) (numbers_other child cs)

-- ---- the last one is taken

falls_prefix : (n : ℕ) (cs : List LivingChild) (c : LivingChild) → FallBelow n (cs ++ c ∷ []) → FallBelow n cs
falls_prefix n [] c f = tt
falls_prefix n (x ∷ cs) c f = (f.0, falls_prefix x.number cs c f.1)

last_below : (n : ℕ) (cs : List LivingChild) (c : LivingChild) → FallBelow n (cs ++ c ∷ []) → c.number < n
last_below n [] c f = f.0
last_below n (x ∷ cs) c f = let below : c.number < x.number = last_below x.number cs c f.1 in omega (arith, f.0)

last_least : (n : ℕ) (cs : List LivingChild) (c : LivingChild) → FallBelow n (cs ++ c ∷ []) → All (λ (m : ℕ). c.number ≤ m) (numbers (cs ++ c ∷ []))
last_least n [] c f = All-cons (λ (m : ℕ). c.number ≤ m) c.number [] (omega arith) (All-nil (λ (m : ℕ). c.number ≤ m))
last_least n (x ∷ cs) c f =
    let below : c.number < x.number = last_below x.number cs c f.1 in
    All-cons (λ (m : ℕ). c.number ≤ m) x.number (numbers (cs ++ c ∷ [])) (omega arith) (last_least x.number cs c f.1)

differ : (m n : ℕ) → n < m → (m == n) ≡ false
differ m n lt = search rules

without_last : (n : ℕ) (cs : List LivingChild) (c : LivingChild) → FallBelow n (cs ++ c ∷ []) → numbers cs ≡ without c.number (numbers (cs ++ c ∷ []))
without_last n [] c f = rw (eq-eqb c.number c.number refl) refl
without_last n (x ∷ cs) c f =
    rw (differ x.number c.number (last_below x.number cs c f.1)) (ap (λ (ns : List ℕ). x.number ∷ ns) (without_last x.number cs c f.1))

pub took_least : (n : ℕ) (r : Option LivingChild) (old new : List LivingChild) → old ≡ new ++ option_to_list r → FallBelow n old →
    IfSome r (λ c. All (λ (m : ℕ). c.number ≤ m) (numbers old))
took_least n None old new e f = tt
took_least n (Some c) old new e f = rw e (last_least n new c (rw e at f))

pub took_without : (n : ℕ) (r : Option LivingChild) (old new : List LivingChild) → old ≡ new ++ option_to_list r → FallBelow n old →
    IfSome r (λ c. numbers new ≡ without c.number (numbers old))
took_without n None old new e f = tt
took_without n (Some c) old new e f = rw e (without_last n new c (rw e at f))

pub took_falls : (n : ℕ) (r : Option LivingChild) (old new : List LivingChild) → old ≡ new ++ option_to_list r → FallBelow n old → FallBelow n new
took_falls n None old new e f = rw append-nil at (rw e at f)
took_falls n (Some c) old new e f = falls_prefix n new c (rw e at f)
