-- Items that were made ready have the places of the items that they were made from.
use Rattle.std.proofs.Common.{◌≡◌, ◌<◌, ◌≤◌, ◌+◌, ◌⊎◌, inl, inr, ℕ, suc, zero, List, [], ◌∷◌, map, length, Option, Some, None, true, refl, sym, ap, ◌∙◌}
use Rattle.std.proofs.Common.{arith, subst}
use Rattle.std.specs.Prelude.{slice_get, get_or, option_map, option_and_then}
use Rattle.std.specs.List.{All}
use Rattle.std.specs.Ordering.{nat_cmp, is_eq}
use Rattle.std.specs.declared.cmp.Ordering.TheVariants.{Less}
use Rattle.std.specs.Cmp.Lexicographic.{slice_cmp}
use Rattle.std.specs.Str.{bytes_eq}
use Rattle.std.proofs.lemmas.Slice.Eq.{bytes_eq-Decides}
use Rattle.std.proofs.lemmas.Map.Text.{is_eq-slice_cmp}
use Rattle.std.proofs.lemmas.Map.Keys.{Less-from_sorted}
use Rattle.std.proofs.lemmas.List.Elements.{All-get_or}
use Rattle.std.proofs.lemmas.Option.{slice_get-map, slice_get-get_or, get_or_from_slice_get, slice_get_within}
use Rattle.records.specs.Stored.{Item}
use Rattle.records.specs.declared.record.Origin.{Origin}
use Rattle.device.specs.Devices.{Device, Pending}
use Rattle.device.specs.Lawful.{running, failing_place, place, place_from}
use Rattle.device.specs.Plans.{AreRising, item_name}
use Rattle.components.specs.Fitted.{Fitted, name_of}
use Rattle.components.specs.Made.{AreFitted}
use Rattle.law_supervisor.specs.Keeps.{AreCounted, ItemsDiffer}
use Rattle.law_supervisor.proofs.Lists.{either, clash, some_same, no_some}

-- ---- names that rise stand once

not_below : (n : List ℕ) → slice_cmp nat_cmp n n ≡ Less → ⊥
not_below n e = clash (bytes_eq n n) ((bytes_eq-Decides n n).1 refl) (sym (is_eq-slice_cmp n n) ∙ ap is_eq e)

named : (items : List Item) (k : ℕ) (i : Item) → slice_get items k ≡ Some i → slice_get (map item_name items) k ≡ Some (item_name i)
named items k i e = slice_get-map item_name items k ∙ ap (option_map item_name) e

rise_once : (items : List Item) → AreRising (map item_name items) → (j k : ℕ) (a b : Item) → slice_get items j ≡ Some a → slice_get items k ≡ Some b →
    item_name a ≡ item_name b → j < k → ⊥
rise_once items r j k a b x y n l =
    let m = Less-from_sorted (slice_cmp nat_cmp) (map item_name items) j k [] r l (slice_get_within (map item_name items) k (item_name b) (named items k b y))
    in
    let p = get_or_from_slice_get (map item_name items) j (item_name a) [] (named items j a x) in
    let q = get_or_from_slice_get (map item_name items) k (item_name b) [] (named items k b y) in
    not_below (item_name b) (subst (λ (c : List ℕ). slice_cmp nat_cmp c (item_name b) ≡ Less) (p ∙ n)
    (subst (λ (c : List ℕ). slice_cmp nat_cmp (get_or (map item_name items) j []) c ≡ Less) q m))

same_place : (items : List Item) → AreRising (map item_name items) → (j k : ℕ) (a b : Item) → slice_get items j ≡ Some a → slice_get items k ≡ Some b →
    item_name a ≡ item_name b → j ≡ k
same_place items r j k a b x y n = elim (three j k) [
  | inl l ↦ absurd (rise_once items r j k a b x y n l)
  | inr o ↦ elim o [ inl e ↦ e | inr l ↦ absurd (rise_once items r k j b a y x (sym n) l) ]
]
  where
    three : (j k : ℕ) → (j < k) ⊎ ((j ≡ k) ⊎ (k < j))
    three zero zero = inr (inl refl)
    three zero (suc k) = inl (omega arith)
    three (suc j) zero = inr (inr (omega arith))
    three (suc j) (suc k) = elim (three j k) [
      | inl l ↦ inl (omega (arith, l))
      | inr o ↦ elim o [
        | inl e ↦ inr (inl (ap suc e))
        | inr l ↦ inr
            (inr (omega (arith, l)))
      ]
    ]

-- ---- the place of a name

place_is : (j k : ℕ) (n : List ℕ) (items : List Item) (i : Item) → slice_get items k ≡ Some i → item_name i ≡ n →
    ((m : ℕ) (a : Item) → slice_get items m ≡ Some a → item_name a ≡ n → m ≡ k) → place_from j n items ≡ Some (j + k)
place_is j k n [] i e s u = no_some i e
place_is j zero n (x ∷ items) i e s u =
    let y : bytes_eq n x.name ≡ true = (bytes_eq-Decides n x.name).1 (sym (ap item_name (some_same x i e) ∙ s)) in
    let z : j ≡ j + 0 = omega arith in rw y (ap (λ (v : ℕ). Some v) z)
place_is j (suc k) n (x ∷ items) i e s u =
    let rest = place_is (j + 1) k n items i e s (λ m a g h. let z = u (suc m) a g h in let y : m ≡ k = omega (arith, z) in y) in
    let z : j + 1 + k ≡ j + suc k = omega arith in
    elim (either (bytes_eq n x.name)) [
      | inl y ↦ (let w = u 0 x refl (sym ((bytes_eq-Decides n x.name).0 y)) in absurd (omega (arith, w)))
      | inr y ↦ rw y (rest ∙ ap (λ (v : ℕ). Some v) z)
    ]

-- ---- items that were made ready

item_at : (o : Origin) (items : List Item) (fitted : List Fitted) → AreFitted o items fitted → (k : ℕ) (f : Fitted) → slice_get fitted k ≡ Some f →
    slice_get items k ≡ Some f.item
item_at o items fitted a k f e = let x = a.each k f e in x.is_scope.there ∙ ap (λ (i : Item). Some i) (sym x.item)

pub ready_differ : (o : Origin) (items : List Item) (fitted : List Fitted) → AreRising (map item_name items) → AreFitted o items fitted → ItemsDiffer fitted
ready_differ o items fitted r a = λ j k f g x y n. same_place items r j k f.item g.item (item_at o items fitted a j f x) (item_at o items fitted a k g y) n

pub ready_counted : (o : Origin) (d : Device) (q : Pending) (items : List Item) (fitted : List Fitted) → d.pending ≡ Some q → running d.set q ≡ Some items →
    AreRising (map item_name items)
    → AreFitted o items fitted → length items ≤ length q.failures → All (λ (n : ℕ). n < 3) q.failures → AreCounted d fitted q.failures
ready_counted o d q items fitted p s r a l u = λ k f e.
    let i = item_at o items fitted a k f e in
    let w = slice_get_within items k f.item i in
    let at = place_is 0 k (name_of f) items f.item i refl (λ m b g h. same_place items r m k b f.item g i h) in (
      ap (λ (x : Option Pending). elim x [ None ↦ None | Some y ↦ option_and_then (slice_get y.failures) (failing_place d.set y (name_of f)) ]) p
          ∙ ap (λ (x : Option (List Item)). option_and_then (slice_get q.failures) (option_and_then (place (name_of f)) x)) s
          ∙ ap (λ (x : Option ℕ). option_and_then (slice_get q.failures) x) at
          ∙ (let z : 0 + k ≡ k = omega arith in ap (slice_get q.failures) z)
          ∙ slice_get-get_or q.failures k 0 (omega (arith, w, l)),
      All-get_or (λ (n : ℕ). n < 3) q.failures k 0 (omega (arith, w, l)) u,
    )
