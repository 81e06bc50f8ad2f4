-- A valid set of candidates, as a valid set of the chosen ones alone.
use Rattle.std.proofs.Common.{◌≡◌, ◌⊎◌, ℕ, zero, suc, ◌+◌, ◌<◌, ◌≤◌, List, [], ◌∷◌, length, map, get_or, refl, sym, ap, subst, ◌∙◌, inl, inr, arith}
use Rattle.std.specs.Prelude.{Option, Some, None, option_map, slice_get}
use Rattle.std.specs.List.{All, AllPairs, Contains, range_with_len}
use Rattle.std.specs.List.Sorted.{IsStrictlyIncreasing}
use Rattle.std.proofs.lemmas.Bool.{cases_order}
use Rattle.std.proofs.lemmas.List.{length-map}
use Rattle.std.proofs.lemmas.List.Elements.{All-contains, All-head, All-tail, All-weaker}
use Rattle.std.proofs.lemmas.List.FromFn.{length-range_with_len, get_or-range_with_len}
use Rattle.std.proofs.lemmas.List.Kept.{AllPairs-from_increasing}
use Rattle.std.proofs.lemmas.Option.{slice_get-get_or, slice_get-map, slice_get_within, slice_get_read, get_or_from_slice_get}
use Rattle.nuc_base.proofs.Lists.{all_from_in, in_cons, in_nil}
use Rattle.recipe_reader.specs.Members.{Need, Member, member, members}
use Rattle.recipe_reader.specs.Sets.{IsValid, name_in, name_of}
use Rattle.recipe_reader.specs.declared.candidate.Candidate.{Candidate}
use Rattle.plan_core.specs.Set.{chosen, with_candidate}
use Rattle.plan_core.proofs.Growing.{IsChosenAt, chosen_at, element, some_below}
use Rattle.law_whole.specs.Whole.{IsValidWhole}
use Rattle.law_whole.proofs.Transfer.{Beside, valid_over}

-- ---- the places of a list

abbrev pub places : ℕ → List ℕ
places n = range_with_len 0 n

pub in_places : (n k : ℕ) → k < n → Contains (places n) k
in_places n k below =
    let long = length-range_with_len 0 n in
    let at = get_or-range_with_len 0 n k k below in
    (k, omega (arith, long, below), at ∙ omega arith)

pub below_places : (n k : ℕ) → Contains (places n) k → k < n
below_places n k i =
    let long = length-range_with_len 0 n in
    let within = i.1 in
    let low : i.0 < n = omega (arith, long, within) in
    let at = get_or-range_with_len 0 n i.0 k low in
    let is = i.2 in
    omega (arith, at, is, low)

pub places_rise : (n : ℕ) → IsStrictlyIncreasing (places n)
places_rise n k within =
    let long = length-range_with_len 0 n in
    let first = get_or-range_with_len 0 n k 0 (omega (arith, long, within)) in
    let second = get_or-range_with_len 0 n (k + 1) 0 (omega (arith, long, within)) in
    omega (arith, first, second)

-- ---- members and candidates

pub at_place : (cs : List Candidate) (q : ℕ) (c : Candidate) → slice_get cs q ≡ Some c → slice_get (members cs) q ≡ Some (member c)
at_place cs q c is = slice_get-map member cs q ∙ ap (option_map member) is

pub inside : (cs : List Candidate) (wanted : List Need) (set : List ℕ) → IsValid (members cs) wanted set → All (λ p. p < length cs) set
inside cs wanted set valid =
    let long = length-map cs member in
    All-weaker (λ p. p < length (members cs)) (λ p. p < length cs) (λ p h. omega (arith, h, long)) set valid.inside

here_step : (cs : List Candidate) (p : ℕ) (ps : List ℕ) (o : Option Candidate) → slice_get cs p ≡ o → p < length cs → (q : ℕ) (c : Candidate) →
    slice_get cs q ≡ Some c
    → (p ≡ q) ⊎ Contains ps q → (Contains ps q → (a : ℕ) × (slice_get (chosen cs ps) a ≡ Some c)) → (a : ℕ) ×
    (slice_get (with_candidate o (chosen cs ps)) a ≡ Some c)
here_step cs p ps None is below q c at i more = absurd (some_below cs p below is)
here_step cs p ps (Some x) is below q c at (inl same) more = (0, sym is ∙ ap (slice_get cs) same ∙ at)
here_step cs p ps (Some x) is below q c at (inr there) more = let m = more there in (suc m.0, m.1)

pub chosen_here : (cs : List Candidate) (ps : List ℕ) → All (λ p. p < length cs) ps → (q : ℕ) (c : Candidate) → Contains ps q → slice_get cs q ≡ Some c →
    (a : ℕ) × (slice_get (chosen cs ps) a ≡ Some c)
chosen_here cs [] below q c i at = absurd (in_nil q i)
chosen_here cs (p ∷ ps) below q c i at =
    here_step cs p ps (slice_get cs p) refl (All-head (λ r. r < length cs) p ps below) q c at (in_cons p ps q i)
    (λ there. chosen_here cs ps (All-tail (λ r. r < length cs) p ps below) q c there at)

-- ---- what stands at a place that is there

pub record IsAt {X : Type 0} (xs : List X) (p : ℕ) : Type 0 where
  pub value : X
  pub there : slice_get xs p ≡ Some value

pub stands_at : {X : Type 0} (xs : List X) (p : ℕ) → p < length xs → IsAt xs p
stands_at {X = X} xs p below = by (slice_get xs p) refl
  where
    by : (o : Option X) → slice_get xs p ≡ o → IsAt xs p
    by None is = absurd (some_below xs p below is)
    by (Some x) is = record { value = x; there = is }

-- a place stands once in a rising list
once : (xs : List ℕ) → IsStrictlyIncreasing xs → (a b p q : ℕ) → slice_get xs a ≡ Some p → slice_get xs b ≡ Some q → p ≡ q → a ≡ b
once xs rising a b p q at to same =
    let pairs = AllPairs-from_increasing xs rising in
    let low = slice_get_within xs a p at in
    let high = slice_get_within xs b q to in
    let first = get_or_from_slice_get xs a p 0 at in
    let second = get_or_from_slice_get xs b q 0 to in
    elim (cases_order a b) [
      | inl e ↦ e
      | inr (inl less) ↦ (let climbs = pairs a b 0 less high in absurd (omega (arith, climbs, first, second, same)))
      | inr (inr more) ↦ (let climbs = pairs b a 0 more low in absurd (omega (arith, climbs, first, second, same)))
    ]

-- ---- the chosen ones alone

module _ (cs : List Candidate) (wanted : List Need) (set : List ℕ) (valid : IsValid (members cs) wanted set) where
  below : All (λ p. p < length cs) set
  below = inside cs wanted set valid

  many : ℕ
  many = length (members (chosen cs set))

  to : (p : ℕ) → Contains set p → Beside (members cs) (members (chosen cs set)) (places (length (members (chosen cs set)))) p
  to p i =
      let c = stands_at cs p (All-contains (λ r. r < length cs) set p below i) in
      let a = chosen_here cs set below p c.value i c.there in
      let there = at_place (chosen cs set) a.0 c.value a.1 in (
        a.0,
        in_places (length (members (chosen cs set))) a.0 (slice_get_within (members (chosen cs set)) a.0 (member c.value) there),
        at_place cs p c.value c.there ∙ sym there,
      )

  -- what stands at a place of the chosen ones
  came : (q : ℕ) → Contains (places (length (members (chosen cs set)))) q → (c : Candidate) × (slice_get (chosen cs set) q ≡ Some c) × IsChosenAt cs set q c
  came q i =
      let long = length-map (chosen cs set) member in
      let low = below_places (length (members (chosen cs set))) q i in
      let c = stands_at (chosen cs set) q (omega (arith, long, low)) in
      (c.value, c.there, chosen_at cs set below q c.value c.there)

  from : (q : ℕ) → Contains (places (length (members (chosen cs set)))) q → Beside (members (chosen cs set)) (members cs) set q
  from q i =
      let r = came q i in
      (r.2.place, element set q r.2.place r.2.listed, at_place (chosen cs set) q r.0 r.1 ∙ sym (at_place cs r.2.place r.0 r.2.there))

  single : (p q : ℕ) → Contains (places (length (members (chosen cs set)))) p → Contains (places (length (members (chosen cs set)))) q
      → name_of (members (chosen cs set)) p ≡ name_of (members (chosen cs set)) q → p ≡ q
  single p q i j same =
      let a = came p i in
      let b = came q j in
      let first : name_of (members cs) a.2.place ≡ name_of (members (chosen cs set)) p = ap name_in (at_place cs a.2.place a.0 a.2.there
      ∙ sym (at_place (chosen cs set) p a.0 a.1)) in
      let second : name_of (members (chosen cs set)) q ≡ name_of (members cs) b.2.place =
      ap name_in (at_place (chosen cs set) q b.0 b.1 ∙ sym (at_place cs b.2.place b.0 b.2.there)) in
      once set valid.rising p q a.2.place b.2.place a.2.listed b.2.listed
      (valid.one_version a.2.place b.2.place (element set p a.2.place a.2.listed) (element set q b.2.place b.2.listed) (first ∙ same ∙ second))

  pub chosen_valid : IsValidWhole (members (chosen cs set)) wanted
  chosen_valid = record {
    set = places (length (members (chosen cs set)));
    valid = valid_over (members cs) (members (chosen cs set)) wanted set (places (length (members (chosen cs set)))) valid to from
        (places_rise (length (members (chosen cs set))))
        (all_from_in (λ p. p < length (members (chosen cs set))) (places (length (members (chosen cs set)))) (below_places (length (members (chosen cs set)))))
        single;
    all = in_places (length (members (chosen cs set)));
  }
