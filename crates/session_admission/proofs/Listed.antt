-- Steps beside their names.
use Rattle.std.proofs.Common.{◌≡◌, ℕ, zero, suc, List, [], ◌∷◌, ◌++◌, Some, subst}
use Rattle.std.specs.Prelude.{slice_get}
use Rattle.std.specs.Option.{IsSomeAnd}
use Rattle.std.specs.List.{AllZip}
use Rattle.records.specs.Stored.{Item}
use Rattle.records.specs.declared.record.Origin.{Origin}
use Rattle.components.specs.declared.kinds.Prepared.{Prepared}
use Rattle.session_boots.specs.Made.{AreBootsOf, IsBootOf}

pub listed : (o : Origin) (items : List Item) (names : List (List ℕ)) (made : List Prepared) → AllZip (IsBootOf o items) names made →
    AreBootsOf o items names made
listed o items [] [] z k name is = absurd (cc)
listed o items [] (m ∷ made) z k name is = absurd z
listed o items (n ∷ names) [] z k name is = absurd z
listed o items (n ∷ names) (m ∷ made) z zero name is =
    let same : n ≡ name = cc in
    subst (λ (x : List ℕ). IsBootOf o items x m) same z.0
listed o items (n ∷ names) (m ∷ made) z (suc k) name is = listed o items names made z.1 k name is

-- one more of both
pub zip_push : {A B : Type 0} (R : A → B → Type 0) (xs : List A) (ys : List B) (x : A) (y : B) → AllZip R xs ys → R x y → AllZip R (xs ++ x ∷ []) (ys ++ y ∷ [])
zip_push R [] [] x y z r = (r, tt)
zip_push R [] (b ∷ ys) x y z r = absurd z
zip_push R (a ∷ xs) [] x y z r = absurd z
zip_push R (a ∷ xs) (b ∷ ys) x y z r = (z.0, zip_push R xs ys x y z.1 r)
