-- Names that rise: items of one name, and two lists in the order of their names.
use Rattle.std.proofs.Common.{◌≡◌, ◌⊎◌, ℕ, zero, List, [], ◌∷◌, map, sym, ap, subst, ◌∙◌, inl, inr, nat_cmp}
use Rattle.std.specs.List.{AllByRecursion, AllZip, Contains}
use Rattle.std.specs.List.Sorted.{IsStrictlySortedBy}
use Rattle.std.specs.Ordering.{ordering_reverse}
use Rattle.std.specs.Cmp.Lexicographic.{slice_cmp, nat_list_cmp_total}
use Rattle.std.specs.declared.cmp.Ordering.TheVariants.{Less, Greater}
use Rattle.std.proofs.lemmas.List.Elements.{All-contains, All-from_recursion}
use Rattle.nuc_base.proofs.Lists.{in_cons, in_here, in_map, in_nil, in_there}
use Rattle.recipe_reader.specs.declared.candidate.Candidate.{Candidate}
use Rattle.records.specs.Stored.{Item}
use Rattle.device.specs.Plans.{AreRising, item_name}
use Rattle.plan_core.specs.Looks.{IsOf}
use Rattle.plan_core.proofs.Supplying.{candidate_name}

-- ---- names in order

less_head : (n m : List ℕ) (ns : List (List ℕ)) → AreRising (n ∷ ns) → Contains ns m → slice_cmp nat_cmp n m ≡ Less
unfolding IsStrictlySortedBy
less_head n m ns rise i = All-contains (λ x. slice_cmp nat_cmp n x ≡ Less) ns m (All-from_recursion (λ x. slice_cmp nat_cmp n x ≡ Less) ns rise.0) i

rise_behind : (n : List ℕ) (ns : List (List ℕ)) → AreRising (n ∷ ns) → AreRising ns
unfolding IsStrictlySortedBy
rise_behind n ns rise = rise.1

both_ways : (n m : List ℕ) → slice_cmp nat_cmp n m ≡ Less → slice_cmp nat_cmp m n ≡ Less → ⊥
both_ways n m h k = let e : Less ≡ Greater = sym h ∙ nat_list_cmp_total.antisymm n m ∙ ap ordering_reverse k in cc e

-- two items of one name are one
pub one_named : (items : List Item) → AreRising (map item_name items) → (i j : Item) → Contains items i → Contains items j → i.name ≡ j.name → i ≡ j
one_named [] rise i j a b same = absurd (in_nil i a)
one_named (x ∷ items) rise i j a b same = elim (in_cons x items i a) [
  | inl e ↦ elim (in_cons x items j b) [
    | inl f ↦ sym e ∙ f
    | inr k ↦ (
        let up = less_head x.name j.name (map item_name items) rise (in_map item_name items j k) in
        let twice = subst (λ n. slice_cmp nat_cmp x.name n ≡ Less) (sym same ∙ ap item_name (sym e)) up in
        absurd (both_ways x.name x.name twice twice))
  ]
  | inr h ↦ elim (in_cons x items j b) [
    | inl f ↦ (
        let up = less_head x.name i.name (map item_name items) rise (in_map item_name items i h) in
        let twice = subst (λ n. slice_cmp nat_cmp x.name n ≡ Less) (same ∙ ap item_name (sym f)) up in
        absurd (both_ways x.name x.name twice twice))
    | inr k ↦ one_named items (rise_behind x.name (map item_name items) rise) i j h k same
  ]
]

-- ---- two lists in the order of their names

abbrev Partner : Candidate → List Item → Type 0
Partner x ys = (y : Item) × Contains ys y × IsOf x y

abbrev Other : List Candidate → Item → Type 0
Other xs y = (x : Candidate) × Contains xs x × IsOf x y

heads : (x : Candidate) (xs : List Candidate) (y : Item) (ys : List Item) → AreRising (map candidate_name (x ∷ xs)) → AreRising (map item_name (y ∷ ys)) →
    Partner x (y ∷ ys) → Other (x ∷ xs) y → IsOf x y
heads x xs y ys first second p o = elim (in_cons y ys p.0 p.1) [
  | inl e ↦ subst (IsOf x) (sym e) p.2
  | inr i ↦ elim (in_cons x xs o.0 o.1) [
    | inl e ↦ subst (λ (c : Candidate). IsOf c y) (sym e) o.2
    | inr j ↦ (
        let up = less_head y.name p.0.name (map item_name ys) second (in_map item_name ys p.0 i) in
        let down = less_head x.recipe.name o.0.recipe.name (map candidate_name xs) first (in_map candidate_name xs o.0 j) in
        absurd (both_ways y.name x.recipe.name
        (subst (λ n. slice_cmp nat_cmp y.name n ≡ Less) p.2.0 up)
        (subst (λ n. slice_cmp nat_cmp x.recipe.name n ≡ Less) (sym o.2.0) down)))
  ]
]

pub zip_sorted : (xs : List Candidate) (ys : List Item) → AreRising (map candidate_name xs) → AreRising (map item_name ys)
    → ((x : Candidate) → Contains xs x → (y : Item) × Contains ys y × IsOf x y) → ((y : Item) → Contains ys y → (x : Candidate) × Contains xs x × IsOf x y) →
    AllZip IsOf xs ys
zip_sorted [] [] first second f g = tt
zip_sorted [] (y ∷ ys) first second f g = let o = g y (in_here y ys) in absurd (in_nil o.0 o.1)
zip_sorted (x ∷ xs) [] first second f g = let p = f x (in_here x xs) in absurd (in_nil p.0 p.1)
zip_sorted (x ∷ xs) (y ∷ ys) first second f g =
    let here = heads x xs y ys first second (f x (in_here x xs)) (g y (in_here y ys)) in (
      here,
      zip_sorted xs ys (rise_behind x.recipe.name (map candidate_name xs) first) (rise_behind y.name (map item_name ys) second)
          (λ c i. (let p = f c (in_there x xs c i) in elim (in_cons y ys p.0 p.1) [
            | inl e ↦ (
                let down = less_head x.recipe.name c.recipe.name (map candidate_name xs) first (in_map candidate_name xs c i) in
                let same : c.recipe.name ≡ x.recipe.name = sym p.2.0 ∙ ap item_name (sym e) ∙ here.0 in
                let twice = subst (λ n. slice_cmp nat_cmp x.recipe.name n ≡ Less) same down in
                absurd (both_ways x.recipe.name x.recipe.name twice twice))
            | inr j ↦ (p.0, j, p.2)
          ]))
          (λ i among. (let o = g i (in_there y ys i among) in elim (in_cons x xs o.0 o.1) [
            | inl e ↦ (
                let up = less_head y.name i.name (map item_name ys) second (in_map item_name ys i among) in
                let same : i.name ≡ y.name = o.2.0 ∙ ap candidate_name (sym e) ∙ sym here.0 in
                let twice = subst (λ n. slice_cmp nat_cmp y.name n ≡ Less) same up in
                absurd (both_ways y.name y.name twice twice))
            | inr j ↦ (o.0, j, o.2)
          ])),
    )
