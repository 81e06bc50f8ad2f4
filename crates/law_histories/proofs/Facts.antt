-- Facts of options and tests.
use Rattle.std.proofs.Common.{◌≡◌, ◌∙◌, ℕ, Bool, true, false, [], None, Some, sym}
use Rattle.std.specs.Prelude.{slice_get}
use Rattle.std.proofs.lemmas.Bool.{false≢true}

pub none_at : {A : Type 0} (k : ℕ) (x : A) → slice_get [] k ≡ Some x → ⊥
none_at k x h = absurd cc

pub some_same : {A : Type 0} (x y : A) → Some x ≡ Some y → x ≡ y
some_same x y e = cc

pub no_some : {A : Type 0} {X : Type 0} (x : X) → None ≡ Some x → A
no_some x e = absurd cc

pub clash : (b : Bool) → b ≡ true → b ≡ false → ⊥
clash b on off = absurd (false≢true (sym off ∙ on))
