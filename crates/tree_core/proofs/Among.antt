-- What a reader's loop over the fields or the items of a tree keeps and answers.
use Rattle.std.proofs.Common.{◌≡◌, ℕ, ◌<◌, ◌≤◌, ◌+◌, List, [], ◌∷◌, ◌++◌, length, map, drop, get_or, Result, refl, ap, sym, subst}
use Rattle.std.specs.List.{AllZip}
use Rattle.std.specs.Result.{IsErrAnd}
use Rattle.serde_json.specs.Data.{array, object}
use Rattle.nuc_base.specs.Tables.{Table, AllHold, AnswerBy, IsFaultBy, IsPass, each}
use Rattle.nuc_base.proofs.Tables.{handed_on, passes_start, goes_more, goes_fault, goes_end}
use Rattle.tree_core.specs.Regular.{IsRegular}
use Rattle.tree_core.specs.View.{view, fields_view, items_view}
use Rattle.tree_core.specs.declared.tree.Tree.{Tree}
use Rattle.tree_core.proofs.Fields.{Field}
use Rattle.tree_core.proofs.RegularParts.{AreRegular, ItemsAreRegular, members_regular, items_regular, field_regular, item_regular}

module _ {X A B Fault : Type 0} (f : X → A) (lines : A → Table Fault) (Is : A → B → Type 0) where
  pub among_start : (xs : List X) (done : List B) → done ≡ [] → IsPass lines Is (map f xs) (map f xs) done
  among_start xs done e = subst (λ (ys : List B). IsPass lines Is (map f xs) (map f xs) ys) (sym e) (passes_start lines Is (map f xs))

  pub among_more : (xs : List X) (i : ℕ) (x : X) (done next : List B) (y : B) → i < length xs → x ≡ get_or xs i x
      → IsPass lines Is (map f xs) (map f (drop i xs)) done → AllHold (lines (f x)) × Is (f x) y → next ≡ done ++ y ∷ []
      → IsPass lines Is (map f xs) (map f (drop (i + 1) xs)) next
  among_more xs i x done next y below at p h e =
      subst (λ (ys : List B). IsPass lines Is (map f xs) (map f (drop (i + 1) xs)) ys) (sym e) (goes_more f lines Is (map f xs) xs i x done y below at p h.0
      h.1)

  -- xs is what the loop goes over, ys what was lent
  pub among_fault : (memory : Fault) (xs ys : List X) (i : ℕ) (x : X) (done : List B) (fault : Fault) (result : Result (List B) Fault) → xs ≡ ys →
      i < length xs → x ≡ get_or xs i x
      → IsPass lines Is (map f xs) (map f (drop i xs)) done → IsFaultBy memory (lines (f x)) fault → IsErrAnd result (λ e. e ≡ fault)
      → AnswerBy memory (each lines (map f ys)) (AllZip Is (map f ys)) result
  among_fault memory xs ys i x done fault result same below at p h e =
      handed_on memory (each lines (map f ys)) (AllZip Is (map f ys)) result fault e
      (subst (λ (zs : List X). IsFaultBy memory (each lines (map f zs)) fault) same (goes_fault memory f lines Is (map f xs) xs i x done fault below at p h))

  pub among_end : (xs ys : List X) (i : ℕ) (done all : List B) → xs ≡ ys → length xs ≤ i → IsPass lines Is (map f xs) (map f (drop i xs)) done → all ≡ done
      → AllHold (each lines (map f ys)) × AllZip Is (map f ys) all
  among_end xs ys i done all same past p e =
      let end = goes_end f lines Is (map f xs) xs i done past p in
      subst (λ (zs : List X). AllHold (each lines (map f zs)) × AllZip Is (map f zs) all) same (
        end.0,
        subst (λ (bs : List B). AllZip Is (map f xs) bs) (sym e) end.1,
      )

-- a field and an item of what is regular are regular
pub field_among : (xs ys : List Field) (i : ℕ) (x : Field) → xs ≡ ys → IsRegular (object (fields_view ys)) → i < length xs → x ≡ get_or xs i x →
    IsRegular (view x.1)
field_among xs ys i x same h below at =
    field_regular xs i x (subst (λ (fs : List Field). AreRegular (fields_view fs)) (sym same) (members_regular (fields_view ys) h)) below at

pub item_among : (xs ys : List Tree) (i : ℕ) (x : Tree) → xs ≡ ys → IsRegular (array (items_view ys)) → i < length xs → x ≡ get_or xs i x → IsRegular (view x)
item_among xs ys i x same h below at =
    item_regular xs i x (subst (λ (ts : List Tree). ItemsAreRegular (items_view ts)) (sym same) (items_regular (items_view ys) h)) below at

-- ---- what is read of the same values is alike

pub zip_alike : {A B : Type 0} (R : A → B → Type 0) (S : B → B → Type 0) → ((a : A) (b c : B) → R a b → R a c → S b c) → (xs : List A) (ys zs : List B) →
    AllZip R xs ys → AllZip R xs zs → AllZip S ys zs
zip_alike R S one [] [] [] h k = tt
zip_alike R S one [] [] (z ∷ zs) h k = absurd k
zip_alike R S one [] (y ∷ ys) zs h k = absurd h
zip_alike R S one (x ∷ xs) [] zs h k = absurd h
zip_alike R S one (x ∷ xs) (y ∷ ys) [] h k = absurd k
zip_alike R S one (x ∷ xs) (y ∷ ys) (z ∷ zs) h k = (one x y z h.0 k.0, zip_alike R S one xs ys zs h.1 k.1)

zip_same : {B : Type 0} (ys zs : List B) → AllZip (λ y z. y ≡ z) ys zs → ys ≡ zs
zip_same [] [] h = refl
zip_same [] (z ∷ zs) h = absurd h
zip_same (y ∷ ys) [] h = absurd h
zip_same (y ∷ ys) (z ∷ zs) h = let first = h.0 in let rest = zip_same ys zs h.1 in cc (first, rest)

pub zip_one : {A B : Type 0} (R : A → B → Type 0) → ((a : A) (b c : B) → R a b → R a c → b ≡ c) → (xs : List A) (ys zs : List B) → AllZip R xs ys →
    AllZip R xs zs → ys ≡ zs
zip_one R one xs ys zs h k = zip_same ys zs (zip_alike R (λ y z. y ≡ z) one xs ys zs h k)
