-- The request that the lines name.
use Rattle.std.specs.Prelude.{◌≡◌, ℕ, List, [], ◌∷◌, ◌++◌, Option, Some, if◌then◌else◌}
use Rattle.std.specs.List.{AllZip, list_any}
use Rattle.std.specs.Str.{bytes_eq}
use Rattle.serde_json.specs.Data.{Data, string}
use Rattle.serde_json.specs.Find.{get}
use Rattle.config_ops.specs.declared.update.Update.{Update}
use Rattle.deployment_doc.specs.Named.{IsPolicy, IsUpdateOf, components as members_in}
use Rattle.local_deploy.specs.Lines.{value_of, values_in}
use Rattle.local_deploy.specs.Spelled.{spelled}
use Rattle.local_deploy.specs.declared.fault.Key.TheVariants as key
use Rattle.local_deploy.specs.declared.request.LocalRequest.{LocalRequest}

abbrev pub IsMerged : List ℕ × Data → List ℕ × List ℕ → Type 0
IsMerged m r = (r.0 ≡ m.0) × (m.1 ≡ string r.1)

abbrev pub IsNamed : Data → List ℕ → Type 0
IsNamed v name = v ≡ string name

abbrev pub IsUpdated : List ℕ × Data → List ℕ × Update → Type 0
IsUpdated m u = (u.0 ≡ m.0) × IsUpdateOf m.1 u.1

-- the names with one more at the end, unless it is there
abbrev pub with_name : List (List ℕ) → List ℕ → List (List ℕ)
with_name names name = if list_any (bytes_eq name) names then names else names ++ name ∷ []

abbrev pub with_names : List (List ℕ) → List (List ℕ) → List (List ℕ)
with_names done [] = done
with_names done (name ∷ names) = with_names (with_name done name) names

-- each once, where it stands first
abbrev pub once : List (List ℕ) → List (List ℕ)
once names = with_names [] names

-- the texts of the list, each once
pub record AreRemoved (o : Option Data) (remove : List (List ℕ)) : Type 0 where
  pub names : List (List ℕ)
  pub are : AllZip IsNamed (values_in o) names
  pub each_once : remove ≡ once names

pub record IsRequest (d : Data) (request : LocalRequest) : Type 0 where
  pub id : get (spelled key.DeploymentId) d ≡ Some (string request.id)
  pub policy : IsPolicy (value_of key.FailureHandlingPolicy d) request.policy
  pub merge : AllZip IsMerged (members_in (value_of key.Merge d)) request.merge
  pub remove : AreRemoved (value_of key.Remove d) request.remove
  pub updates : AllZip IsUpdated (members_in (value_of key.UpdateConfig d)) request.updates
