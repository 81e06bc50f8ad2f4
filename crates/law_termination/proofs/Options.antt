-- Tests, options and steps.
use Rattle.std.proofs.Common.{◌≡◌, Option, Some, None, is_some, true, refl}
use Rattle.std.specs.Option.{IsSomeAnd}
use Rattle.nuc_base.specs.declared.kinds.Step.{Step}
use Rattle.nuc_base.specs.declared.kinds.Step.TheVariants as step
use Rattle.lifecycle.specs.Awaits.{is_same_step}

pub of_some : {X : Type 0} (o : Option X) → is_some o ≡ true → (x : X) × (o ≡ Some x)
of_some None e = absurd (cc)
of_some (Some x) e = (x, refl)

pub same_self : (s : Step) → is_same_step s s ≡ true
same_self step.Install = refl
same_self step.Run = refl
same_self step.Startup = refl
same_self step.Shutdown = refl
same_self step.Recover = refl
same_self step.Bootstrap = refl

pub some_map : {X : Type 0} (o : Option X) {P R : X → Type 0} → IsSomeAnd o P → ((x : X) → P x → R x) → IsSomeAnd o R
some_map None h f = absurd h
some_map (Some x) h f = f x h
