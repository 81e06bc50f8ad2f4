-- Whether a plan of which nothing was done has a bootstrap.
use Rattle.std.specs.Prelude.{ℕ, Bool, true, false, ◌||◌, List, Option, Some, None, IsSome, is_none, is_some, option_map, if◌then◌else◌}
use Rattle.std.proofs.Common.{◌≡◌, ◌∙◌, refl, sym, ap, subst}
use Rattle.std.proofs.lemmas.Bool.{false≢true}
use Rattle.device.specs.Devices.{Device}
use Rattle.device.specs.declared.staged.Stage.TheVariants as stages
use Rattle.deploy_state.specs.Fields.{has_failed, next_name}
use Rattle.deploy_state.specs.States.{IsIn}
use Rattle.histories.specs.Phases.{duty_of}
use Rattle.session_boots.proofs.Turning.{through_is}

mapped_none : {A : Type 0} (f : A → List ℕ) (r : Option A) (o : Option (List ℕ)) (b : Bool) → option_map f r ≡ o → is_some r ≡ b → is_none o ≡ is_none r
mapped_none f None o b told some = sym (ap (λ (x : Option (List ℕ)). is_none x) told)
mapped_none f (Some x) o b told some = sym (ap (λ (x : Option (List ℕ)). is_none x) told)

next_none : (d : Device) → IsIn stages.Booting d → has_failed d ≡ false → is_none (next_name d) ≡ is_none (duty_of d).next_bootstrap
next_none d is fresh = sym (ap (λ (b : Bool). b || is_none (next_name d)) fresh) ∙ through_is d

is_none_of : {A : Type 0} (o : Option A) → is_none o ≡ true → o ≡ None
is_none_of None is = refl
is_none_of (Some x) is = absurd (false≢true is)

some_of : {A : Type 0} (o : Option A) → is_none o ≡ false → IsSome o
some_of None is = absurd (false≢true (sym is))
some_of (Some x) is = refl

other : {A : Type 0} (r : Option A) (b : Bool) → is_some r ≡ b → is_none r ≡ (if b then false else true)
other None b is = ap (λ (x : Bool). if x then false else true) is
other (Some x) b is = ap (λ (x : Bool). if x then false else true) is

module _ {A : Type 0} (f : A → List ℕ) (r : Option A) (some : Bool) (d : Device) (is : IsIn stages.Booting d) (fresh : has_failed d ≡ false)
    (told : option_map f r ≡ next_name d) (some_is : is_some r ≡ some) where
  next_is : is_none (duty_of d).next_bootstrap ≡ (if some then false else true)
  next_is = sym (next_none d is fresh) ∙ mapped_none f r (next_name d) some told some_is ∙ other r some some_is

  pub some_next : some ≡ true → IsSome (duty_of d).next_bootstrap
  some_next found = some_of (duty_of d).next_bootstrap (next_is ∙ ap (λ (x : Bool). if x then false else true) found)

  pub no_next : some ≡ false → (duty_of d).next_bootstrap ≡ None
  no_next found = is_none_of (duty_of d).next_bootstrap (next_is ∙ ap (λ (x : Bool). if x then false else true) found)
