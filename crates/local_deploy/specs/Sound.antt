-- What a document of a request may rest on.
use Rattle.std.specs.Prelude.{ℕ, ◌≤◌, List, length, Contains}
use Rattle.std.specs.List.{All}
use Rattle.std.specs.List.Sorted.{IsStrictlySortedBy}
use Rattle.std.specs.Cmp.Lexicographic.{slice_cmp}
use Rattle.std.specs.Map.{keys_of}
use Rattle.std.specs.Ordering.{nat_cmp}
use Rattle.config_ops.specs.declared.update.Update.{Update}
use Rattle.deployment_doc.specs.Sound.{MergesObject}
use Rattle.local_deploy.specs.declared.request.LocalRequest.{LocalRequest}

abbrev pub IsApart : List (List ℕ) → List ℕ × List ℕ → Type 0
IsApart remove m = ¬ Contains remove m.0

abbrev pub UpdatesByObject : List ℕ × Update → Type 0
UpdatesByObject u = MergesObject u.1

-- Merged names and updated names are at most 128 each and rise strictly in byte order; none is merged and removed; and
-- each update merges an object, or nothing.
pub record IsSoundRequest (request : LocalRequest) : Type 0 where
  pub few_merged : length request.merge ≤ 128
  pub merged_rise : IsStrictlySortedBy (slice_cmp nat_cmp) (keys_of request.merge)
  pub few_updated : length request.updates ≤ 128
  pub updated_rise : IsStrictlySortedBy (slice_cmp nat_cmp) (keys_of request.updates)
  pub apart : All (IsApart request.remove) request.merge
  pub objects : All UpdatesByObject request.updates
