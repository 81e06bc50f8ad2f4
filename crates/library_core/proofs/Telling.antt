-- What a library tells stays told, call after call.
use Rattle.std.proofs.Common.{◌≡◌, Bool, ℕ, List, refl, sym, ◌∙◌, ap, subst}
use Rattle.std.specs.Prelude.{Option, Some}
use Rattle.library_core.specs.Library.{Artifacts, Content, Extends, StaysTold}

pub extends_itself : (a : Content) → Extends a a
extends_itself a = record { recipes = λ rs e. e; artifacts = refl; tells = refl }

pub extends_then : {a b c : Content} → Extends a b → Extends b c → Extends a c
extends_then first next = record {
  recipes = λ rs e. next.recipes rs (first.recipes rs e);
  artifacts = next.artifacts ∙ first.artifacts;
  tells = next.tells ∙ first.tells;
}

-- where nothing is asked
pub stays_same : {T : Type 0} (content : T → Content) (coming : T → Option (List Content)) (a : T) → StaysTold content coming a a
stays_same content coming a = record { content = extends_itself (content a); coming = refl }

pub stays_then : {T : Type 0} {content : T → Content} {coming : T → Option (List Content)} {a b c : T} → StaysTold content coming a b →
    StaysTold content coming b c → StaysTold content coming a c
stays_then first next = record { content = extends_then first.content next.content; coming = next.coming ∙ first.coming }

-- by a call that leaves it as it is
pub stays_still : {T : Type 0} {content : T → Content} {coming : T → Option (List Content)} {a b c : T} → StaysTold content coming a b →
    content c ≡ content b → coming c ≡ coming b → StaysTold content coming a c
stays_still {content = content} {a = a} told same comes =
    record { content = subst (Extends (content a)) (sym same) told.content; coming = comes ∙ told.coming }

-- where the recipes are told, all stays
pub still_whole : (old new : Content) (rs : List (List ℕ)) → old.recipes ≡ Some rs → Extends old new → new ≡ old
still_whole old new rs told next =
    ap (λ (x : Option (List (List ℕ))). made x new.artifacts new.tells) (next.recipes rs told ∙ sym told)
    ∙ ap (λ (x : Option Artifacts). made old.recipes x new.tells) next.artifacts
    ∙ ap (made old.recipes old.artifacts) next.tells
  where
    made : Option (List (List ℕ)) → Option Artifacts → Bool → Content
    made recipes artifacts tells = record { recipes = recipes; artifacts = artifacts; tells = tells }
