-- The document of a request, and its refusals.
use Rattle.std.proofs.Common.{◌≡◌, ◌<◌, ℕ, List, [], ◌∷◌, true, false, length, refl, ap, subst, ◌∙◌, arith}
use Rattle.std.specs.Prelude.{Option, None, if◌then◌else◌}
use Rattle.config_ops.specs.declared.update.Update.{Update}
use Rattle.records.specs.declared.record.Requirement.{Requirement}
use Rattle.device.specs.Devices.{Device}
use Rattle.local_deploy.specs.Documents.{HasNone, IsListAfter, IsNotAsked}
use Rattle.local_deploy.specs.Lists.{Asked, asked_in, local_requirements, IsLocalList, range_at}
use Rattle.local_deploy.specs.declared.request.LocalRequest.{LocalRequest}
use Rattle.local_deploy.proofs.Lookups.{Entries}
use Rattle.local_deploy.proofs.Rooting.{has_name}

module _ (d : Device) (request : LocalRequest) (rs : List Requirement) (is : rs ≡ local_requirements d.groups) where
  pub list_after : (list : Asked) → HasNone (IsNotAsked (asked_in rs) request.remove) → IsLocalList (asked_in rs) request.merge request.remove list
      → IsListAfter d request list
  list_after list none h = record {
    removed = subst (λ (l : List Requirement). HasNone (IsNotAsked (asked_in l) request.remove)) is none;
    is = subst (λ (l : List Requirement). IsLocalList (asked_in l) request.merge request.remove list) is h;
  }

-- nothing is left where no first one is
pub empty_from : {X : Type 0} (es : List X) → (0 < length es → false ≡ true) → es ≡ []
empty_from [] h = refl
empty_from (x ∷ es) h = absurd (let no = h (omega arith) in cc)

-- what is left of the updates, by the updates themselves
pub left_of : (us named left : Entries Update) (es : Asked) → ((q : List ℕ) → range_at q named ≡ range_at q us)
    → ((q : List ℕ) → range_at q left ≡ (if has_name q es then None else range_at q named))
    → (q : List ℕ) → range_at q left ≡ (if has_name q es then None else range_at q us)
left_of us named left es same taken q = taken q ∙ ap (λ (o : Option Update). if has_name q es then None else o) (same q)
