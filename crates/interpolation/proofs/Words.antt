-- The words of variables.
use Rattle.std.proofs.Common.{◌≡◌, ◌≢◌, ℕ, List, [], ◌∷◌, ◌++◌, length, Option, Some, None, Bool, false, refl, ap, ◌∙◌, eqb-true, leb-true, IfSome, arith}
use Rattle.std.specs.Prelude.{codes, nat_eq, nat_le}
use Rattle.std.specs.List.{All, find}
use Rattle.std.specs.Str.{bytes_eq}
use Rattle.std.proofs.lemmas.List.Elements.{All-head, All-tail}
use Rattle.std.proofs.lemmas.Bool.{cond_both}
use Rattle.interpolation.specs.declared.scope.Place.{Place}
use Rattle.interpolation.specs.Lookups.{IsLong}
use Rattle.interpolation.specs.Values.{behind, short, of_component}

pub behind_other : (prefix w : List ℕ) → ((rest : List ℕ) → w ≢ prefix ++ rest) → behind prefix w ≡ None
behind_other [] w h = absurd (h w refl)
behind_other (c ∷ prefix) [] h = refl
behind_other (c ∷ prefix) (x ∷ w) h =
    cond_both (nat_eq x c) (behind prefix w) None (λ r. r ≡ None)
    (λ e. behind_other prefix w (λ rest is. h rest (ap (λ l. x ∷ l) is ∙ ap (λ y. y ∷ (prefix ++ rest)) (eqb-true x c e))))
    (λ e. refl)

-- a long value is no short one
pub long_none : (value : Option (List ℕ)) → IsLong value → None ≡ short value
long_none None h = absurd h
long_none (Some given) h =
    cond_both (nat_le (length given) 4096) (Some given) None (λ r. None ≡ r) (λ e. absurd (omega (arith, h, leb-true (length given) 4096 e))) (λ e. refl)

-- what holds of each element holds of the one that is found
pub found_holds : {X : Type 0} (P : X → Type 0) (test : X → Bool) (xs : List X) → All P xs → IfSome (find test xs) P
found_holds P test [] h = tt
found_holds P test (x ∷ xs) h =
    cond_both (test x) (Some x) (find test xs) (λ r. IfSome r P) (λ e. All-head P x xs h) (λ e. found_holds P test xs (All-tail P x xs h))

-- ---- the rows of a component

-- a variable of no row
pub no_row : (root : List ℕ) (place : Place) (w : List ℕ) → ((rest : List ℕ) → w ≢ codes "configuration:" ++ rest) → bytes_eq w (codes "artifacts:path") ≡ false
    → bytes_eq w (codes "artifacts:decompressedPath") ≡ false → bytes_eq w (codes "work:path") ≡ false → of_component root place w ≡ None
no_row root place w h a b c = rw (behind_other (codes "configuration:") w h, a, b, c) refl
