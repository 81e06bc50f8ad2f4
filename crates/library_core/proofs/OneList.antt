-- Candidates in order with the same sources are one list.
use Rattle.std.proofs.Common.{◌≡◌, ℕ, suc, List, [], ◌∷◌, map, get_or, refl, sym, ap, ap₂, subst, ◌∙◌, inl, inr, arith}
use Rattle.std.specs.Prelude.{AllPairs}
use Rattle.std.specs.List.{Contains}
use Rattle.std.specs.Ordering.{ordering_reverse}
use Rattle.std.specs.declared.cmp.Ordering.TheVariants.{Less, Greater}
use Rattle.nuc_base.proofs.Lists.{in_nil, in_cons, in_here, in_there, from_map}
use Rattle.nuc_base.specs.declared.platform.Platform.{Platform}
use Rattle.recipe_reader.specs.Members.{Member, member, IsBefore}
use Rattle.recipe_reader.specs.declared.candidate.Candidate.{Candidate}
use Rattle.recipe_reader.proofs.Orders.{Precedes, rising_pairs, before_is_less, member_total, never_before}
use Rattle.library_core.specs.Sources.{Source, source}
use Rattle.library_core.specs.Gathered.{AreGathered}

both_ways : (a b : Member) → IsBefore a b → IsBefore b a → ⊥
both_ways a b h k =
    let e : Less ≡ Greater = sym (before_is_less a b h) ∙ member_total.antisymm a b ∙ ap ordering_reverse (before_is_less b a k) in cc e

-- the first is before all behind it
first_before : (c : Candidate) (cs : List Candidate) → AllPairs Precedes (c ∷ cs) → (d : Candidate) → Contains cs d → Precedes c d
first_before c cs rising d i =
    let h : Precedes c (get_or cs i.0 d) = rising 0 (suc i.0) d (omega arith) (omega (arith, i.1)) in
    subst (λ (x : Candidate). Precedes c x) i.2 h

behind : (c : Candidate) (cs : List Candidate) → AllPairs Precedes (c ∷ cs) → AllPairs Precedes cs
behind c cs h i j d below within = h (suc i) (suc j) d (omega (arith, below)) (omega (arith, within))

-- order looks at a source alone
abbrev seen : Source → Member
seen s = record { name = s.name; version = s.version; needs = [] }

heads : (c d : Candidate) (cs ds : List Candidate) → AllPairs Precedes (c ∷ cs) → AllPairs Precedes (d ∷ ds)
    → Contains (map source (d ∷ ds)) (source c) → Contains (map source (c ∷ cs)) (source d) → source c ≡ source d
heads c d cs ds p q i j = elim (in_cons (source d) (map source ds) (source c) i) [
  | inl e ↦ sym e
  | inr k ↦ elim (in_cons (source c) (map source cs) (source d) j) [
    | inl e ↦ e
    | inr l ↦
        let x = from_map source ds (source c) k in
        let y = from_map source cs (source d) l in
        let P : Source → Type 0 = λ s. IsBefore (member d) (seen s) in
        let Q : Source → Type 0 = λ s. IsBefore (member c) (seen s) in
        absurd (both_ways (member d) (member c) (subst P x.2 (first_before d ds q x.0 x.1)) (subst Q y.2 (first_before c cs p y.0 y.1)))
  ]
]

-- what is behind the first of the one is behind the first of the other
others : (c d : Candidate) (cs ds : List Candidate) → AllPairs Precedes (c ∷ cs) → source c ≡ source d →
    ((s : Source) → Contains (map source (c ∷ cs)) s → Contains (map source (d ∷ ds)) s)
    → (s : Source) → Contains (map source cs) s → Contains (map source ds) s
others c d cs ds p same f s i = elim (in_cons (source d) (map source ds) s (f s (in_there (source c) (map source cs) s i))) [
  | inl e ↦
      let y = from_map source cs s i in
      let one : source c ≡ source y.0 = same ∙ e ∙ sym y.2 in
      absurd (never_before (member c) (member y.0) (ap (λ (x : Source). x.name) one) (ap (λ (x : Source). x.version) one) (first_before c cs p y.0 y.1))
  | inr r ↦ r
]

one_list : (cs ds : List Candidate) → AllPairs Precedes cs → AllPairs Precedes ds → ((s : Source) → Contains (map source cs) s → Contains (map source ds) s)
    → ((s : Source) → Contains (map source ds) s → Contains (map source cs) s) → map source cs ≡ map source ds
one_list [] [] p q f g = refl
one_list [] (d ∷ ds) p q f g = absurd (in_nil (source d) (g (source d) (in_here (source d) (map source ds))))
one_list (c ∷ cs) [] p q f g = absurd (in_nil (source c) (f (source c) (in_here (source c) (map source cs))))
one_list (c ∷ cs) (d ∷ ds) p q f g =
    let same : source c ≡ source d = heads c d cs ds p q (f (source c) (in_here (source c) (map source cs)))
    (g (source d) (in_here (source d) (map source ds))) in
    ap₂ (λ (x : Source) (xs : List Source). x ∷ xs) same
    (one_list cs ds (behind c cs p) (behind d ds q) (others c d cs ds p same f) (others d c ds cs q (sym same) g))

pub one_gathered : (mine : List Source) (p : Platform) (recipes : List (List ℕ)) (cs ds : List Candidate) → AreGathered mine p recipes cs →
    AreGathered mine p recipes ds → map source cs ≡ map source ds
one_gathered mine p recipes cs ds g h =
    one_list cs ds (rising_pairs cs g.rising) (rising_pairs ds h.rising) (λ s i. (h.whole s).1 ((g.whole s).0 i)) (λ s i. (g.whole s).1 ((h.whole s).0 i))
