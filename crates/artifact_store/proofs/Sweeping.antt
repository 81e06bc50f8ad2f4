-- The files that a sweep removes.
use Rattle.std.proofs.Common.{◌≡◌, ◌≢◌, ℕ, ◌+◌, ◌<◌, List, [], ◌∷◌, ◌++◌, length, take, get_or, refl, sym, ap, subst, ◌∙◌, inl, inr}
use Rattle.std.specs.Prelude.{Bool, true, false, IsTrue}
use Rattle.std.specs.List.{Contains}
use Rattle.std.proofs.lemmas.List.{take_more}
use Rattle.std.proofs.lemmas.List.Elements.{Contains-push_cases}
use Rattle.disk_model.specs.Disk.{Image, IsAfter, HasLeft, DiskLaws}
use Rattle.disk_model.specs.Moments.{weaker, then_spares, tells_of}
use Rattle.disk_model.specs.Spares.{IsSameBut}
use Rattle.disk_model.specs.Listing.{artifacts, IsListing}
use Rattle.records.specs.Stored.{Item}
use Rattle.artifact_store.specs.Needed.{is_file_among}
use Rattle.artifact_store.specs.Paths.{IsFileAmong}
use Rattle.artifact_store.specs.Swept.{IsStray, IsSwept, IsUnneeded}
use Rattle.artifact_store.proofs.Needing.{among_found, not_among}

less_next : (files : List ℕ → Type 0) (mid new : Image) → ((f : List ℕ) → files f → new f ≡ []) → IsSameBut files mid new → (f : List ℕ) → new f ≢ []
    → mid f ≢ []
less_next files mid new gone spares f some empty = some (spares f (λ is. some (gone f is)) ∙ empty)

gone_is : (needed : Bool) (x : List ℕ) (new : Image) → (needed ≡ false → new x ≡ []) → (f : List ℕ) → IsUnneeded needed x f → new f ≡ []
gone_is needed x new gone f is = ap new is.1 ∙ gone is.0

-- a file that is swept, or left since it is needed
pub still_less : (needed : Bool) (x : List ℕ) (mid new : Image) → (needed ≡ false → new x ≡ []) → IsSameBut (IsUnneeded needed x) mid new → (f : List ℕ) →
    new f ≢ [] → mid f ≢ []
still_less needed x mid new gone spares f some = less_next (IsUnneeded needed x) mid new (gone_is needed x new gone) spares f some

one_gone : (items : List Item) (f : List ℕ) (needed : Bool) (new : Image) → needed ≡ is_file_among items f → (needed ≡ false → new f ≡ []) → new f ≢ [] →
    IsFileAmong items f
one_gone items f true new is gone some = among_found items f (sym is)
one_gone items f false new is gone some = absurd (some (gone refl))

pub gone_next : (items : List Item) (xs : List (List ℕ)) (i : ℕ) (x : List ℕ) (needed : Bool) (mid new : Image) → i < length xs → x ≡ get_or xs i x →
    needed ≡ is_file_among items x → (needed ≡ false → new x ≡ []) → IsSameBut (IsUnneeded needed x) mid new
    → ((f : List ℕ) → Contains (take i xs) f → mid f ≢ [] → IsFileAmong items f) → (f : List ℕ) → Contains (take (i + 1) xs) f → new f ≢ [] →
    IsFileAmong items f
gone_next items xs i x needed mid new below at is gone spares so f has some =
    let there : Contains (take i xs ++ x ∷ []) f = subst (λ (ys : List (List ℕ)). Contains ys f)
    (take_more xs i x below ∙ ap (λ (y : List ℕ). take i xs ++ y ∷ []) (sym at)) has in
    elim (Contains-push_cases (take i xs) x f there) [
      | inl before ↦ so f before (still_less needed x mid new gone spares f some)
      | inr e ↦ subst (λ (y : List ℕ). IsFileAmong items y) e (one_gone items x needed new is gone (λ empty. some (subst (λ (y : List ℕ). new y ≡ []) e empty)))
    ]

-- a file that is listed and not needed
pub stray_of : (items : List Item) (names : List (List ℕ)) (image : Image) (x : List ℕ) (needed : Bool) → IsListing artifacts image names → Contains names x →
    needed ≡ is_file_among items x → (name : List ℕ) → IsUnneeded needed x name → IsStray items name
stray_of items names image x needed listing has is name un =
    subst (λ (y : List ℕ). IsStray items y) (sym un.1) (((listing.exact x).0 has).0, not_among items x (sym is ∙ un.0))

pub spares_told : (is_modelled : Type 0) (fewer files : List ℕ → Type 0) (old mid new : Image) → is_modelled →
    (is_modelled → (name : List ℕ) → fewer name → files name) → IsSameBut files old mid → IsSameBut fewer mid new → IsSameBut files old new
spares_told is_modelled fewer files old mid new told wider first second name spared = second name (λ is. spared (wider told name is)) ∙ first name spared

module _ {D : Type 0} {is_modelled : Bool} {seen : D → Image} {may_leave : D → Image → Type 0} {moment : D → ℕ} {left_since : D → ℕ → Image → Type 0}
    (laws : DiskLaws is_modelled seen may_leave moment left_since) where
  -- a call that changes some of the files, as is known where the disk tells
  pub told_spares : (fewer files : List ℕ → Type 0) (old mid new : D) → (IsTrue is_modelled → (name : List ℕ) → fewer name → files name) →
      HasLeft moment left_since old mid (IsAfter (may_leave old) (IsSameBut files))
      → HasLeft moment left_since mid new (IsAfter (may_leave mid) (IsSameBut fewer))
      → HasLeft moment left_since old new (IsAfter (may_leave old) (IsSameBut files))
  told_spares fewer files old mid new wider first second =
      then_spares laws files old mid new first
      (weaker laws mid new _ _ (λ c was. (was.0, was.1, λ name spared. was.2 name (λ is. spared (wider (tells_of laws mid was.0 was.1) name is)))) second)

pub all_swept : (items : List Item) (names : List (List ℕ)) (old new : Image) → IsListing artifacts old names → ((f : List ℕ) → new f ≢ [] → old f ≢ []) →
    ((f : List ℕ) → Contains names f → new f ≢ [] → IsFileAmong items f) → IsSwept items new
all_swept items names old new listing less gone f below some = gone f ((listing.exact f).1 (below, less f some)) some
