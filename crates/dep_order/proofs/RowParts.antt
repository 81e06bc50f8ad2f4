-- The part of sorted rows that two searches find.
use Rattle.std.proofs.Common.{◌≡◌, ℕ, ◌+◌, ◌<◌, true, false, eqb, leb, ltb, List, length, get_or, take, drop, sym, subst, arith, length-take, length-drop}
use Rattle.std.specs.List.{All, AllWithin, filter}
use Rattle.std.proofs.lemmas.List.{get_or-take, get_or-drop}
use Rattle.std.proofs.lemmas.List.Elements.{All-take}
use Rattle.std.proofs.lemmas.Bool.Decides.{nat_tests}
use Rattle.dep_order.specs.declared.Need.{Need}
use Rattle.dep_order.proofs.Filtered.{filter_part}

take_within : {X : Type 0} (P : X → Type 0) (xs : List X) (i : ℕ) → AllWithin P xs 0 i → All P (take i xs)
take_within P xs i h = λ k d lt.
    let below : k < i = omega (arith, lt, length-take i xs) in
    subst P (sym (get_or-take i xs k d below)) (h k d (omega arith) below)

drop_within : {X : Type 0} (P : X → Type 0) (xs : List X) (i : ℕ) → AllWithin P xs i (length xs) → All P (drop i xs)
drop_within P xs i h = λ k d lt.
    subst P (sym (get_or-drop i xs k d)) (h (i + k) d (omega arith) (omega (arith, lt, length-drop i xs)))

below_differs : (a p : ℕ) → ltb a p ≡ true → eqb a p ≡ false
below_differs a p h = grind (arith, nat_tests)

above_differs : (a p : ℕ) → leb a p ≡ false → eqb a p ≡ false
above_differs a p h = grind (arith, nat_tests)

between_same : (a p : ℕ) → ltb a p ≡ false → leb a p ≡ true → eqb a p ≡ true
between_same a p h g = grind (arith, nat_tests)

pub row_is : (rows : List Need) (place i n : ℕ) → AllWithin (λ (e : Need). ltb e.to place ≡ true) rows 0 i →
    AllWithin (λ (e : Need). ltb e.to place ≡ false) rows i (length rows) → AllWithin (λ (e : Need). leb e.to place ≡ true) (drop i rows) 0 n →
    AllWithin (λ (e : Need). leb e.to place ≡ false) (drop i rows) n (length (drop i rows)) → filter (λ e. eqb e.to place) rows ≡ take n (drop i rows)
row_is rows place i n a b c d =
    let low = take_within (λ (e : Need). ltb e.to place ≡ true) rows i a in
    let from = All-take (λ (e : Need). ltb e.to place ≡ false) n (drop i rows) (drop_within (λ (e : Need). ltb e.to place ≡ false) rows i b) in
    let upto = take_within (λ (e : Need). leb e.to place ≡ true) (drop i rows) n c in
    let high = drop_within (λ (e : Need). leb e.to place ≡ false) (drop i rows) n d in
    filter_part (λ (e : Need). eqb e.to place) rows i n
    (λ k z lt. below_differs (get_or (take i rows) k z).to place (low k z lt))
    (λ k z lt. between_same (get_or (take n (drop i rows)) k z).to place (from k z lt) (upto k z lt))
    (λ k z lt. above_differs (get_or (drop n (drop i rows)) k z).to place (high k z lt))
