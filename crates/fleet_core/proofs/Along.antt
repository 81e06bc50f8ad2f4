-- What the events of a list give, with one more event, or with more of them.
use Rattle.std.proofs.Common.{◌≡◌, ℕ, zero, suc, List, [], ◌∷◌, ◌++◌, Some, sym, ap, subst, ◌∙◌, append_assoc, append-nil}
use Rattle.std.specs.Prelude.{slice_get}
use Rattle.std.specs.Option.{option_to_list}
use Rattle.std.specs.List.{AllByRecursion}
use Rattle.fleet_core.specs.Events.{Event, each, along}

pub each-append : {X : Type 0} (f : List Event → Event → List X) (past es more : List Event) → each f past (es ++ more) ≡ each f past es ++ each f
    (past ++ es) more
each-append f past [] more = ap (λ (p : List Event). each f p more) (sym (append-nil past))
each-append f past (e ∷ es) more =
    ap (λ l. f past e ++ l) (each-append f (past ++ e ∷ []) es more)
    ∙ ap (λ (p : List Event). f past e ++ (each f (past ++ e ∷ []) es ++ each f p more)) (append_assoc past (e ∷ []) es)
    ∙ sym (append_assoc (f past e) (each f (past ++ e ∷ []) es) (each f (past ++ e ∷ es) more))

pub along-append : {X : Type 0} (f : List Event → Event → List X) (past more : List Event) → along f (past ++ more) ≡ along f past ++ each f past more
along-append f past more = each-append f [] past more

pub along-step : {X : Type 0} (f : List Event → Event → List X) (past : List Event) (e : Event) → along f (past ++ e ∷ []) ≡ along f past ++ f past e
along-step f past e = along-append f past (e ∷ []) ∙ ap (λ l. along f past ++ l) (append-nil (f past e))

-- where the event gives nothing
pub along-same : {X : Type 0} (f : List Event → Event → List X) (past : List Event) (e : Event) → f past e ≡ [] → along f (past ++ e ∷ []) ≡ along f past
along-same f past e none = along-step f past e ∙ ap (λ l. along f past ++ l) none ∙ append-nil (along f past)

-- what holds of no events, and lasts from event to event, holds of every list
steps_on : (P : List Event → Type 0) → ((past : List Event) (e : Event) → P past → P (past ++ e ∷ [])) → (past es : List Event) → P past → P (past ++ es)
steps_on P step past [] here = subst P (sym (append-nil past)) here
steps_on P step past (e ∷ es) here = subst P (append_assoc past (e ∷ []) es) (steps_on P step (past ++ e ∷ []) es (step past e here))

pub by_steps : (P : List Event → Type 0) → P [] → ((past : List Event) (e : Event) → P past → P (past ++ e ∷ [])) → (es : List Event) → P es
by_steps P none step es = steps_on P step [] es none

-- ---- elements

pub all-weaken : {X : Type 0} (P Q : X → Type 0) → ((x : X) → P x → Q x) → (xs : List X) → AllByRecursion P xs → AllByRecursion Q xs
all-weaken P Q weak [] all = tt
all-weaken P Q weak (x ∷ xs) all = (weak x all.0, all-weaken P Q weak xs all.1)

pub all-append : {X : Type 0} (P : X → Type 0) (xs ys : List X) → AllByRecursion P xs → AllByRecursion P ys → AllByRecursion P (xs ++ ys)
all-append P [] ys first second = second
all-append P (x ∷ xs) ys first second = (first.0, all-append P xs ys first.1 second)

pub all-get : {X : Type 0} (P : X → Type 0) (xs : List X) (n : ℕ) (x : X) → AllByRecursion P xs → slice_get xs n ≡ Some x → P x
all-get P [] n x all at = absurd cc
all-get P (y ∷ xs) zero x all at = let same : y ≡ x = cc in subst P same all.0
all-get P (y ∷ xs) (suc n) x all at = all-get P xs n x all.1 at

pub all-option : {X : Type 0} (P : X → Type 0) (xs : List X) (n : ℕ) → AllByRecursion P xs → AllByRecursion P (option_to_list (slice_get xs n))
all-option P [] n all = tt
all-option P (x ∷ xs) zero all = (all.0, tt)
all-option P (x ∷ xs) (suc n) all = all-option P xs n all.1

pub get-append : {X : Type 0} (xs ys : List X) (n : ℕ) (x : X) → slice_get xs n ≡ Some x → slice_get (xs ++ ys) n ≡ Some x
get-append [] ys n x at = absurd cc
get-append (y ∷ xs) ys zero x at = at
get-append (y ∷ xs) ys (suc n) x at = get-append xs ys n x at
