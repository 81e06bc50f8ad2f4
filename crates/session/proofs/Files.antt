-- How a file is shown.
use Rattle.std.specs.Prelude.{ℕ, Bool, true, false, List, ◌++◌, length, take, drop, if◌then◌else◌}
use Rattle.std.specs.Str.{bytes_eq}
use Rattle.std.proofs.Common.{◌≡◌, ◌∙◌, refl, sym, ap, subst}
use Rattle.std.proofs.lemmas.List.{take-append-drop}
use Rattle.std.proofs.lemmas.Slice.Eq.{bytes_eq-Decides}
use Rattle.disk_model.specs.Listing.{artifacts}
use Rattle.session.specs.Declines.{file_text}

-- one in the folder of the artifacts
pub shown_below : (file rest : List ℕ) → file ≡ artifacts ++ rest → file_text file ≡ rest
shown_below file rest is = subst (λ (f : List ℕ). file_text f ≡ rest) (sym is) refl

-- and any other
pub shown_apart : (file : List ℕ) → ((rest : List ℕ) → file ≡ artifacts ++ rest → ⊥) → file_text file ≡ file
shown_apart file apart = by (bytes_eq (take (length artifacts) file) artifacts) refl
  where
    by : (b : Bool) → bytes_eq (take (length artifacts) file) artifacts ≡ b → (if b then drop (length artifacts) file else file) ≡ file
    by false is = refl
    by true is =
        absurd (apart (drop (length artifacts) file)
        (sym (take-append-drop (length artifacts) file) ∙ ap (λ (l : List ℕ). l ++ drop (length artifacts) file)
        ((bytes_eq-Decides (take (length artifacts) file) artifacts).0 is)))
