-- The document of a change asks of its group what that asks already.
use Rattle.std.proofs.Common.{◌≡◌, ℕ, List, [], ◌∷◌, Bool, true, false, map, refl, ap, subst, ◌∙◌}
use Rattle.std.specs.Prelude.{Option, Some, None, find, if◌then◌else◌}
use Rattle.std.specs.List.{Contains}
use Rattle.nuc_base.proofs.Lists.{in_here, in_there}
use Rattle.config_ops.specs.declared.update.Update.{Update}
use Rattle.config_cmd.specs.Documents.{group_for, requires_name, root_for}
use Rattle.records.specs.declared.record.Requirement.{Requirement}
use Rattle.device.specs.Devices.{Group}
use Rattle.plan_core.specs.Requests.{root_requirement}
use Rattle.law_whole.specs.Taking.{ChangesKeepGroup}

some_is : {X : Type 0} (x y : X) → ◌≡◌ {A = Option X} (Some x) (Some y) → x ≡ y
some_is x y is = cc

group_in : (name : List ℕ) (groups : List Group) (g : Group) → group_for name groups ≡ Some g → Contains groups g
group_in name [] g is = absurd cc
group_in name (h ∷ groups) g is = by (requires_name name h) (group_in name groups g) is
  where
    by : (b : Bool) → (group_for name groups ≡ Some g → Contains groups g) → (if b then Some h else group_for name groups) ≡ Some g
        → Contains (h ∷ groups) g
    by true more found = subst (Contains (h ∷ groups)) (some_is h g found) (in_here h groups)
    by false more found = in_there h groups g (more found)

same_requirements : (name : List ℕ) (update : Update) (rs : List Requirement) → map root_requirement (map (root_for name update) rs) ≡ rs
same_requirements name update [] = refl
same_requirements name update (r ∷ rs) = ap (λ (l : List Requirement). r ∷ l) (same_requirements name update rs)

pub changes_keep_group : ChangesKeepGroup
changes_keep_group d name change document is = (
  is.group,
  group_in name d.groups is.group is.first,
  is.named,
  ap (map root_requirement) is.roots ∙ same_requirements name change.update is.group.requirements,
)
