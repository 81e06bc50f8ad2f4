-- The lines by which a request is read, in their order: what each asks of the tree, and the fault where that fails.
use Rattle.std.specs.Prelude.{◌≤◌, ℕ, List, [], ◌∷◌, ◌++◌, length, Contains, Option, Some, None}
use Rattle.serde_json.specs.Data.{Data, string}
use Rattle.serde_json.specs.Find.{get}
use Rattle.nuc_base.specs.Names.{IsName, IsLabel}
use Rattle.nuc_base.specs.Tables.{Table, each}
use Rattle.tree_core.specs.Parts.{present, IsText, IsTextOf, IsObject, IsList, members, values, check, optional, required}
use Rattle.npm_ranges.specs.Ranges.{IsRange}
use Rattle.deployment_doc.specs.Lines.{IsPolicyWord, update_lines}
use Rattle.deployment_doc.specs.Named.{components as members_in}
use Rattle.deployment_doc.specs.declared.fault.DocFault.{DocFault}
use Rattle.deployment_doc.specs.declared.fault.DocFault.TheVariants as doc
use Rattle.local_deploy.specs.Spelled.{spelled}
use Rattle.local_deploy.specs.declared.fault.Key.{Key}
use Rattle.local_deploy.specs.declared.fault.Key.TheVariants as key
use Rattle.local_deploy.specs.declared.fault.LocalFault.{LocalFault}
use Rattle.local_deploy.specs.declared.fault.LocalFault.TheVariants as fault

-- ---- keys

-- the value of a key, where it is there and not null
abbrev pub value_of : Key → Data → Option Data
value_of k d = present (get (spelled k) d)

-- the lines on that value
abbrev pub at_optional : Key → Data → (Data → Table LocalFault) → Table LocalFault
at_optional k d lines = optional (spelled k) d lines

-- the key is there, and the lines on its value
abbrev pub at_required : Key → Data → (Data → Table LocalFault) → Table LocalFault
at_required k d lines = required (spelled k) (fault.Missing k) d lines

-- the values of a list that may be absent, in order
abbrev pub values_in : Option Data → List Data
values_in None = []
values_in (Some v) = values v

-- lines of another table, whose faults are handed on
abbrev pub handed : {F G : Type 0} → (F → G) → Table F → Table G
handed on_fault [] = []
handed on_fault (line ∷ lines) = record { holds = line.holds; fault = on_fault line.fault } ∷ handed on_fault lines

-- a fault of an update, which names its place itself
abbrev pub update_fault : DocFault → LocalFault
update_fault doc.NoMemory = fault.NoMemory
update_fault f = fault.Update f

-- ---- the id and the policy

abbrev pub label_lines : Data → Table LocalFault
label_lines v = check (IsText v) (fault.WrongKind key.DeploymentId) ++ check (IsTextOf IsLabel v) (fault.BadName key.DeploymentId)

abbrev pub policy_lines : Data → Table LocalFault
policy_lines v = check (IsText v) (fault.WrongKind key.FailureHandlingPolicy) ++ check (IsTextOf IsPolicyWord v) fault.BadPolicy

-- ---- what is merged, removed and updated

abbrev pub range_lines : List ℕ → Data → Table LocalFault
range_lines name v = check (IsText v) (fault.WrongKind key.Merge) ++ check (IsTextOf IsRange v) (fault.BadRange name)

-- of a key with its value
abbrev pub merged_lines : List ℕ × Data → Table LocalFault
merged_lines m = check (IsName m.0) (fault.BadName key.Merge) ++ range_lines m.0 m.1

abbrev pub merge_lines : Data → Table LocalFault
merge_lines v =
    check (IsObject v) (fault.WrongKind key.Merge)
    ++ check (length (members v) ≤ 128) (fault.TooMany key.Merge)
    ++ each merged_lines (members v)

abbrev pub removed_lines : Data → Table LocalFault
removed_lines v = check (IsText v) (fault.WrongKind key.Remove) ++ check (IsTextOf IsName v) (fault.BadName key.Remove)

abbrev pub remove_lines : Data → Table LocalFault
remove_lines v =
    check (IsList v) (fault.WrongKind key.Remove)
    ++ check (length (values v) ≤ 128) (fault.TooMany key.Remove)
    ++ each removed_lines (values v)

abbrev pub updated_lines : List ℕ × Data → Table LocalFault
updated_lines m =
    check (IsName m.0) (fault.BadName key.UpdateConfig)
    ++ check (IsObject m.1) (fault.WrongKind key.UpdateConfig)
    ++ handed update_fault (update_lines m.0 m.1)

abbrev pub updates_lines : Data → Table LocalFault
updates_lines v =
    check (IsObject v) (fault.WrongKind key.UpdateConfig)
    ++ check (length (members v) ≤ 128) (fault.TooMany key.UpdateConfig)
    ++ each updated_lines (members v)

-- a merged name is not removed; they come in byte order, so the first that is both is the least
abbrev pub apart_lines : List Data → List ℕ × Data → Table LocalFault
apart_lines removed m = check (¬ Contains removed (string m.0)) (fault.Both m.0)

-- the same of names that were read
abbrev pub names_apart : List (List ℕ) → List ℕ × List ℕ → Table LocalFault
names_apart removed m = check (¬ Contains removed m.0) (fault.Both m.0)

-- ---- the whole tree

abbrev pub request_lines : Data → Table LocalFault
request_lines d =
    check (IsObject d) (fault.WrongKind key.Request)
    ++ at_required key.DeploymentId d label_lines
    ++ at_optional key.FailureHandlingPolicy d policy_lines
    ++ at_optional key.Merge d merge_lines
    ++ at_optional key.Remove d remove_lines
    ++ at_optional key.UpdateConfig d updates_lines
    ++ each (apart_lines (values_in (value_of key.Remove d))) (members_in (value_of key.Merge d))
