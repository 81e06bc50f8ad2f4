-- The records of lists of elements, one list behind another.
use Rattle.std.proofs.Common.{◌≡◌, ℕ, ◌<◌, List, [], ◌∷◌, ◌++◌, length, map, refl, sym, ap, subst, arith}
use Rattle.nuc_base.specs.declared.kinds.Outcome.{Outcome}
use Rattle.records.specs.declared.record.Group.{Group}
use Rattle.records.specs.Stored.{Item, Record, Grouped, Kept}
use Rattle.device.specs.Fronts.{ended}

-- of two lists the longer one goes on with this element, whose record is the next
pub record Beyond {A : Type 0} (f : A → Record) (bs ds : List A) (zs ws : List Record) : Type 0 where
  pub element : A
  pub more : List A
  pub split : ds ≡ bs ++ element ∷ more
  pub rest : ws ≡ f element ∷ (map f more ++ zs)

with_head : {A : Type 0} (x y : A) (xs ys : List A) → x ≡ y → xs ≡ ys → x ∷ xs ≡ y ∷ ys
with_head x y xs ys head tail = cc

module _ {A : Type 0} (f : A → Record) (one : (x y : A) → f x ≡ f y → x ≡ y) where
  pub beyond : (bs ds : List A) (zs ws : List Record) → length bs < length ds → map f ds ++ zs ≡ map f bs ++ ws → Beyond f bs ds zs ws
  beyond [] [] zs ws lt is = absurd (omega (arith, lt))
  beyond [] (d ∷ ds) zs ws lt is = record { element = d; more = ds; split = refl; rest = sym is }
  beyond (b ∷ bs) [] zs ws lt is = absurd (omega (arith, lt))
  beyond (b ∷ bs) (d ∷ ds) zs ws lt is =
      let head : f d ≡ f b = cc in
      let tail : map f ds ++ zs ≡ map f bs ++ ws = cc in
      let rest = beyond bs ds zs ws (omega (arith, lt)) tail in
      record {
        element = rest.element;
        more = rest.more;
        split = with_head d b ds (bs ++ rest.element ∷ rest.more) (one d b head) rest.split;
        rest = rest.rest;
      }

  pub alike : (bs ds : List A) (zs ws : List Record) → length ds ≡ length bs → map f ds ++ zs ≡ map f bs ++ ws → (ds ≡ bs) × (zs ≡ ws)
  alike [] [] zs ws same is = (refl, is)
  alike [] (d ∷ ds) zs ws same is = absurd (omega (arith, same))
  alike (b ∷ bs) [] zs ws same is = absurd (omega (arith, same))
  alike (b ∷ bs) (d ∷ ds) zs ws same is =
      let head : f d ≡ f b = cc in
      let tail : map f ds ++ zs ≡ map f bs ++ ws = cc in
      let rest = alike bs ds zs ws (omega (arith, same)) tail in
      (with_head d b ds bs (one d b head) rest.0, rest.1)

pub one_group : (x y : Group) → Grouped x ≡ Grouped y → x ≡ y
one_group x y same = cc

pub one_item : (x y : Item) → Kept x ≡ Kept y → x ≡ y
one_item x y same = cc

pub one_ended : (x y : List ℕ × Outcome) → ended x ≡ ended y → x ≡ y
one_ended x y same =
    let id : x.0 ≡ y.0 = cc in
    let outcome : x.1 ≡ y.1 = cc in
    by x.0 y.0 x.1 y.1 id outcome
  where
    by : (i j : List ℕ) (a b : Outcome) → i ≡ j → a ≡ b → ◌≡◌ {A = List ℕ × Outcome} (i, a) (j, b)
    by i j a b is same = cc

-- one more, where none of the later ones came yet
pub at_end : {A : Type 0} (f : A → Record) (xs : List A) (x : A) (zs : List Record) → zs ≡ [] → (map f xs ++ zs) ++ f x ∷ [] ≡ map f (xs ++ x ∷ []) ++ zs
at_end f [] x zs none = subst (λ (l : List Record). l ++ f x ∷ [] ≡ f x ∷ l) (sym none) refl
at_end f (y ∷ xs) x zs none = ap (λ (l : List Record). f y ∷ l) (at_end f xs x zs none)
