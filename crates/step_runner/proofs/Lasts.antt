-- The last of a list, and one place more of what is shown.
use Rattle.std.specs.Prelude.{ℕ, Bool, true, false, Option, Some, None, slice_get, Result, Ok, Err, is_ok, OnOk, if◌then◌else◌}
use Rattle.std.specs.List.{last_or}
use Rattle.std.specs.Option.{option_to_list}
use Rattle.std.proofs.Common.{◌≡◌, ◌+◌, List, [], ◌∷◌, ◌++◌, refl, ap, sym, ◌∙◌, subst, take, add-one}
use Rattle.std.proofs.Math.Seq.{take-suc}
use Rattle.std.proofs.lemmas.Option.{get_or_from_slice_get, slice_get_within}
use Rattle.std.proofs.lemmas.List.Elements.{filter_map-append}
use Rattle.step_runner.specs.declared.shown.ShownComponent.{ShownComponent}
use Rattle.step_runner.specs.KeptViews.{last_view}
use Rattle.step_runner.specs.Views.{those_shown, WasShown}

last_or-append : {A : Type 0} (o : Option A) (xs : List A) (x : A) → last_or o (xs ++ x ∷ []) ≡ Some x
last_or-append o [] x = refl
last_or-append o (y ∷ ys) x = last_or-append (Some y) ys x

pub on_ok : {A E : Type 0} {P : Type 0} (r : Result A E) → is_ok r ≡ true → OnOk r P → P
on_ok (Ok x) holds p = p
on_ok (Err e) holds p = absurd cc

-- where the last view was added, it is what was shown last
pub last_told : (told : Bool) (views before : List (List ShownComponent)) (places : List (Option ShownComponent)) →
    (told ≡ true → views ≡ before ++ those_shown places ∷ []) → WasShown (last_view (if told then Some views else None)) places
last_told true views before places added = let P : Option (List ShownComponent) → Type 0 = λ o. WasShown o places in
    subst P (sym (ap (λ (vs : List (List ShownComponent)). last_or None vs) (added refl) ∙ last_or-append None before (those_shown places))) refl
last_told false views before places added = tt

-- the places up to the next one
pub take_one_more : {A : Type 0} (xs : List A) (k : ℕ) (x : A) → slice_get xs k ≡ Some x → take (k + 1) xs ≡ take k xs ++ x ∷ []
take_one_more xs k x there =
    ap (λ n. take n xs) (add-one k) ∙ take-suc xs k x (slice_get_within xs k x there)
    ∙ ap (λ y. take k xs ++ y ∷ []) (get_or_from_slice_get xs k x x there)

pub shown_up_to : (places : List (Option ShownComponent)) (k : ℕ) (o : Option ShownComponent) → slice_get places k ≡ Some o →
    those_shown (take (k + 1) places) ≡ those_shown (take k places) ++ option_to_list o
shown_up_to places k None there = ap (λ (l : List (Option ShownComponent)). those_shown l) (take_one_more places k None there) ∙ filter_map-append (λ c. c) (take k places) (None ∷ [])
shown_up_to places k (Some c) there = ap (λ (l : List (Option ShownComponent)). those_shown l) (take_one_more places k (Some c) there) ∙ filter_map-append (λ c. c) (take k places) (Some c ∷ [])
