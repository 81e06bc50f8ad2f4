-- Children that are fewer.
use Rattle.std.proofs.Common.{◌≡◌, ◌≤◌, ◌+◌, ◌*◌, ◌==◌, ℕ, suc, List, [], ◌∷◌, length, Option, Some, None, Bool, true, false, refl, inl, inr, arith}
use Rattle.std.specs.Prelude.{◌||◌, not, if◌then◌else◌, IsSomeAnd}
use Rattle.std.specs.List.{list_any}
use Rattle.std.proofs.lemmas.Bool.{or_parts}
use Rattle.nuc_base.specs.declared.kinds.Step.{Step}
use Rattle.lifecycle.specs.Awaits.{is_same_step, is_busy_with}
use Rattle.components.specs.Components.{Child, child_of}
use Rattle.law_supervisor.proofs.Alone.{but}
use Rattle.law_supervisor.proofs.Lists.{either}
use Rattle.law_termination.specs.Rank.{start_weight}

-- ---- children

abbrev count : (Child → Bool) → List Child → ℕ
count t [] = 0
count t (c ∷ cs) = (if t c then 1 else 0) + count t cs

fewer : (t : Child → Bool) (n : ℕ) (cs : List Child) → count t (but n cs) ≤ count t cs
fewer t n [] = omega arith
fewer t n (c ∷ cs) = let i = fewer t n cs in elim (either (c.number == n)) [ inl e ↦ rw e (omega (arith, i)) | inr e ↦ rw e (omega (arith, i)) ]

one_less : (t : Child → Bool) (n : ℕ) (cs : List Child) → IsSomeAnd (child_of n cs) (λ c. t c ≡ true) → count t (but n cs) + 1 ≤ count t cs
one_less t n [] h = absurd h
one_less t n (c ∷ cs) h = elim (c.number == n) as (λ b. IsSomeAnd (if b then Some c else child_of n cs) (λ d. t d ≡ true) →
    count t (if not b then c ∷ but n cs else but n cs) + 1 ≤ (if t c then 1 else 0) + count t cs) [
      | true ↦ λ y. (let i = fewer t n cs in rw y (omega (arith, i)))
      | false ↦ λ y. (let i = one_less t n cs y in omega (arith, i))
    ] h

count_both : (t : Child → Bool) (cs : List Child) → count t cs + count (λ c. not (t c)) cs ≡ length cs
count_both t [] = refl
count_both t (c ∷ cs) = let i = count_both t cs in elim (either (t c)) [ inl e ↦ rw e (omega (arith, i)) | inr e ↦ rw e (omega (arith, i)) ]

any_count : (t : Child → Bool) (cs : List Child) → list_any t cs ≡ true → 1 ≤ count t cs
any_count t [] e = absurd (cc)
any_count t (c ∷ cs) e = elim (t c) as (λ b. (b || list_any t cs) ≡ true → 1 ≤ (if b then 1 else 0) + count t cs)
    [ true ↦ λ y. omega arith | false ↦ λ y. (let i = any_count t cs y in omega (arith, i)) ] e

no_count : (t : Child → Bool) (cs : List Child) → list_any t cs ≡ false → count t cs ≡ 0
no_count t [] e = refl
no_count t (c ∷ cs) e = let x = or_parts (t c) (list_any t cs) e in let i = no_count t cs x.1 in rw x.0 (omega (arith, i))

pub shorter : (n : ℕ) (P : Child → Type 0) (cs : List Child) → IsSomeAnd (child_of n cs) P → length (but n cs) + 1 ≤ length cs
shorter n P [] h = absurd h
shorter n P (c ∷ cs) h = elim (c.number == n) as (λ b. IsSomeAnd (if b then Some c else child_of n cs) P →
    length (if not b then c ∷ but n cs else but n cs) + 1 ≤ suc (length cs)) [
      | true ↦ λ y. (let a = fewer (λ d. true) n cs in let b = count_all cs in let d = count_all (but n cs) in omega (arith, a, b, d))
      | false ↦ λ y. (let i = shorter n P cs y in omega (arith, i))
    ] h
  where
    count_all : (ds : List Child) → count (λ d. true) ds ≡ length ds
    count_all [] = refl
    count_all (d ∷ ds) = let i = count_all ds in omega (arith, i)

other_step : (s t : Step) → is_same_step s t ≡ false → is_same_step t s ≡ false
other_step s t e = grind (arith, e)

-- a child of another step than the one that is busy is gone
pub other_gone : (busy : Option Step) (n : ℕ) (cs : List Child) → IsSomeAnd (child_of n cs) (λ c. is_busy_with c.of busy ≡ false)
    → start_weight busy (but n cs) + 3 * length (but n cs) + 1 ≤ start_weight busy cs + 3 * length cs
other_gone None n cs h = let i = shorter n (λ c. is_busy_with c.of None ≡ false) cs h in omega (arith, i)
other_gone (Some s) n cs h =
    let t = λ (c : Child). is_same_step s c.of in
    let o = one_less (λ (c : Child). not (is_same_step s c.of)) n cs (some_map (child_of n cs) (λ c. is_same_step c.of s ≡ false)
    (λ c. not (is_same_step s c.of) ≡ true) (λ c e. rw (other_step c.of s e) refl) h) in
    let f = fewer (λ (c : Child). is_same_step s c.of) n cs in
    let a = count_both (λ (c : Child). is_same_step s c.of) cs in
    let b = count_both (λ (c : Child). is_same_step s c.of) (but n cs) in
    elim (either (list_any (λ (c : Child). is_same_step s c.of) (but n cs))) [
      | inl y ↦ rw y (omega (arith, o, f, a, b))
      | inr y ↦ (let z = no_count (λ (c : Child). is_same_step s c.of) (but n cs) y in elim (either (list_any (λ (c : Child). is_same_step s c.of) cs)) [
        | inl x ↦ (let v = any_count (λ (c : Child). is_same_step s c.of) cs x in rw y (rw x (omega (arith, o, f, a, b, z, v))))
        | inr x ↦ rw y (rw x (omega (arith, o, f, a, b)))
      ])
    ]
  where
    some_map : {X : Type 0} (o : Option X) (P Q : X → Type 0) → ((x : X) → P x → Q x) → IsSomeAnd o P → IsSomeAnd o Q
    some_map None P Q f h = absurd h
    some_map (Some x) P Q f h = f x h
