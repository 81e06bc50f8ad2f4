-- The document that a request makes of a device, and when it makes none.
use Rattle.std.specs.Prelude.{◌≡◌, ◌<◌, ◌≤◌, ◌⊎◌, ℕ, List, length, map, Contains, Option, Some, None, Result, MatchResult}
use Rattle.std.specs.Cmp.Lexicographic.{slice_cmp}
use Rattle.std.specs.Map.{keys_of}
use Rattle.std.specs.Ordering.{nat_cmp}
use Rattle.std.specs.declared.cmp.Ordering.TheVariants.{Less}
use Rattle.config_ops.specs.declared.update.Update.{Update}
use Rattle.deployment_doc.specs.declared.document.Document.{Document}
use Rattle.deployment_doc.specs.declared.document.Root.{Root}
use Rattle.device.specs.Devices.{Device}
use Rattle.local_deploy.specs.Lists.{Asked, range_at, local_arn, local_asked, IsLocalList}
use Rattle.local_deploy.specs.declared.refusal.LocalRefusal.{LocalRefusal}
use Rattle.local_deploy.specs.declared.refusal.LocalRefusal.TheVariants as refusal
use Rattle.local_deploy.specs.declared.request.LocalRequest.{LocalRequest}

-- ---- names in byte order

-- the least name of which P holds
pub record IsLeast (P : List ℕ → Type 0) (name : List ℕ) : Type 0 where
  pub holds : P name
  pub least : (other : List ℕ) → P other → slice_cmp nat_cmp other name ≡ Less → ⊥

abbrev pub HasNone : (List ℕ → Type 0) → Type 0
HasNone P = (name : List ℕ) → P name → ⊥

-- the least name, or none where P holds of none
abbrev pub IsLeastOf : (List ℕ → Type 0) → Option (List ℕ) → Type 0
IsLeastOf P None = HasNone P
IsLeastOf P (Some name) = IsLeast P name

-- ---- what is refused

-- removed, and not asked
abbrev pub IsNotAsked : Asked → List (List ℕ) → List ℕ → Type 0
IsNotAsked asked remove name = Contains remove name × (range_at name asked ≡ None)

-- updated, and not on the list
abbrev pub IsUnlisted : Asked → List (List ℕ × Update) → List ℕ → Type 0
IsUnlisted list updates name = Contains (keys_of updates) name × (range_at name list ≡ None)

-- the group asks each removed name, and this is its list after the request
pub record IsListAfter (d : Device) (request : LocalRequest) (list : Asked) : Type 0 where
  pub removed : HasNone (IsNotAsked (local_asked d.groups) request.remove)
  pub is : IsLocalList (local_asked d.groups) request.merge request.remove list

abbrev pub IsLocalRefusal : Device → LocalRequest → LocalRefusal → Type 0
IsLocalRefusal d request (refusal.NotLocal name) = IsLeast (IsNotAsked (local_asked d.groups) request.remove) name
IsLocalRefusal d request (refusal.TooManyLocal count) = (list : Asked) × IsListAfter d request list × (count ≡ length list) × (128 < length list)
IsLocalRefusal d request (refusal.Unlisted name) =
    (list : Asked) × IsListAfter d request list × (length list ≤ 128) × IsLeast (IsUnlisted list request.updates) name
IsLocalRefusal d request refusal.NoMemory = ⊥

-- ---- the document

-- one name of the list, with its update
abbrev pub root_for : List (List ℕ × Update) → List ℕ × List ℕ → Root
root_for updates e = record { name = e.0; range = e.1; update = range_at e.0 updates }

pub record IsLocalDocument (d : Device) (request : LocalRequest) (document : Document) : Type 0 where
  pub list : Asked
  pub after : IsListAfter d request list
  pub few : length list ≤ 128
  pub listed : HasNone (IsUnlisted list request.updates)
  pub id : document.id ≡ request.id
  pub group : document.group ≡ local_arn
  pub revision : document.revision ≡ 0
  pub policy : document.policy ≡ request.policy
  pub roots : document.roots ≡ map (root_for request.updates) list

-- The document where nothing is refused, else the first refusal. Want of memory is free.
abbrev pub MakesLocal : Device → LocalRequest → Result Document LocalRefusal → Type 0
MakesLocal d request result = MatchResult result (IsLocalDocument d request) (λ f. (f ≡ refusal.NoMemory) ⊎ IsLocalRefusal d request f)
