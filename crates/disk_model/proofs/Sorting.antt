-- A list of names, sorted and without repeats.
use Rattle.std.proofs.Common.{◌≡◌, ◌≢◌, ◌↔◌, List, ℕ, [], nat_eq, true, refl, sym, ◌∙◌}
use Rattle.std.specs.List.{Contains, dedup}
use Rattle.std.specs.List.Sorted.{IsSorted, IsPermutation}
use Rattle.std.specs.Cmp.Lexicographic.{slice_cmp, pointwise, texts_ties}
use Rattle.std.specs.Ordering.{nat_cmp}
use Rattle.std.proofs.lemmas.Bool.Decides.{Decides-eqb}
use Rattle.std.proofs.lemmas.Cmp.{nat_list_cmp_total, nat_list_eq_equiv}
use Rattle.std.proofs.lemmas.List.Folds.{list_any-from_Any}
use Rattle.std.proofs.lemmas.List.Kept.{IsStrictlySortedBy-dedup, Contains-from_dedup, Any-dedup}
use Rattle.std.proofs.lemmas.List.Sorted.{Contains-permutation, IsPermutation-sym}
use Rattle.std.proofs.lemmas.Map.Views.{Contains-from_any}
use Rattle.std.proofs.lemmas.Slice.Eq.{slice_eq-Decides}
use Rattle.disk_model.specs.Disk.{Image}
use Rattle.disk_model.specs.Listing.{IsBelow, IsListing}

same_names : (x y : List ℕ) → pointwise nat_eq x y ≡ true → x ≡ y
same_names x y is = (slice_eq-Decides Decides-eqb x y (pointwise nat_eq x y) refl).0 is

pub sorted_listing : (folder : List ℕ) (image : Image) (names ordered : List (List ℕ))
    → ((n : List ℕ) → Contains names n ↔ (IsBelow folder n × (image n ≢ []))) → IsPermutation names ordered → IsSorted (slice_cmp nat_cmp) ordered
    → IsListing folder image (dedup (pointwise nat_eq) ordered)
sorted_listing folder image names ordered exact moved up = record {
  exact = λ n. (
    λ there. (exact n).0 (Contains-permutation ordered names n (IsPermutation-sym names ordered moved)
        (Contains-from_dedup (pointwise nat_eq) ordered n there)),
    λ listed. Contains-from_any same_names n (dedup (pointwise nat_eq) ordered)
        (list_any-from_Any (pointwise nat_eq n) (dedup (pointwise nat_eq) ordered)
        (Any-dedup nat_list_eq_equiv ordered n (Contains-permutation names ordered n moved ((exact n).1 listed)))),
  );
  rising = IsStrictlySortedBy-dedup nat_list_cmp_total texts_ties ordered up;
}

pub listing_same : (folder : List ℕ) (s t : Image) (names : List (List ℕ)) → ((n : List ℕ) → s n ≡ t n) → IsListing folder s names → IsListing folder t names
listing_same folder s t names same listing = record {
  exact = λ n.
      let is = listing.exact n in (
        λ there. let found = is.0 there in (found.0, λ none. found.1 (same n ∙ none)),
        λ listed. is.1 (listed.0, λ none. listed.1 (sym (same n) ∙ none)),
      );
  rising = listing.rising;
}
