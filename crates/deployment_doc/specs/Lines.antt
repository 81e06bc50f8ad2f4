-- The lines by which a document is read, in their order: what each asks of the tree, and the fault where that fails.
-- (AWS IoT Greengrass V2 developer guide, "Create deployments"; JSON pointers: RFC 6901.)
use Rattle.std.specs.Prelude.{◌≡◌, ◌≤◌, ◌-◌, ◌^◌, ◌⊎◌, ℕ, List, ◌++◌, length, codes, Option, IsSome}
use Rattle.std.specs.Option.{option_or}
use Rattle.serde_json.specs.Data.{Data, string}
use Rattle.serde_json.specs.Find.{get}
use Rattle.nuc_base.specs.Limits.{document_limit}
use Rattle.nuc_base.specs.Names.{IsName, IsLabel}
use Rattle.nuc_base.specs.Pointers.{IsPointer}
use Rattle.nuc_base.specs.Tables.{Table, on, each}
use Rattle.tree_core.specs.Counts.{IsCount}
use Rattle.tree_core.specs.Parts.{present, IsText, IsTextOf, IsNumber, IsObject, IsList, members, values, check, optional, required}
use Rattle.tree_core.specs.Reading.{IsTreeOf}
use Rattle.npm_ranges.specs.Ranges.{IsRange}
use Rattle.deployment_doc.specs.Spelled.{spelled}
use Rattle.deployment_doc.specs.declared.fault.Key.{Key}
use Rattle.deployment_doc.specs.declared.fault.Key.TheVariants as key
use Rattle.deployment_doc.specs.declared.fault.DocFault.{DocFault}
use Rattle.deployment_doc.specs.declared.fault.DocFault.TheVariants as fault

-- the most bytes of a document, and of the text of a merge
abbrev pub text_limit : ℕ
text_limit = document_limit

-- ---- keys

-- the lines on the value of a key, where it is there and not null
abbrev pub at_optional : Key → Data → (Data → Table DocFault) → Table DocFault
at_optional k d lines = optional (spelled k) d lines

-- the key is there, and the lines on its value
abbrev pub at_required : Key → Data → (Data → Table DocFault) → Table DocFault
at_required k d lines = required (spelled k) (fault.Missing k) d lines

-- the value of a key that has two spellings, where it is not null
abbrev pub either : List ℕ → List ℕ → Data → Option Data
either small large d = present (option_or (get small d) (get large d))

-- both spellings are there, whatever their values
abbrev pub HasBoth : List ℕ → List ℕ → Data → Type 0
HasBoth small large d = IsSome (get small d) × IsSome (get large d)

-- ---- labels, the revision and the policy

abbrev pub label_lines : Key → Data → Table DocFault
label_lines k v = check (IsText v) (fault.WrongKind k) ++ check (IsTextOf IsLabel v) (fault.BadName k)

abbrev pub greatest_revision : ℕ
greatest_revision = 2 ^ 63 - 1

abbrev pub revision_lines : Data → Table DocFault
revision_lines v = check (IsNumber v) (fault.WrongKind key.Revision) ++ check (IsCount greatest_revision v) fault.BadRevision

abbrev pub IsPolicyWord : List ℕ → Type 0
IsPolicyWord s = (s ≡ codes "ROLLBACK") ⊎ (s ≡ codes "DO_NOTHING")

abbrev pub policy_lines : Data → Table DocFault
policy_lines v = check (IsText v) (fault.WrongKind key.FailureHandlingPolicy) ++ check (IsTextOf IsPolicyWord v) fault.BadPolicy

abbrev pub policies_lines : Data → Table DocFault
policies_lines v = check (IsObject v) (fault.WrongKind key.DeploymentPolicies) ++ at_optional key.FailureHandlingPolicy v policy_lines

-- ---- the update of a component

abbrev pub pointer_lines : List ℕ → Data → Table DocFault
pointer_lines name v = check (IsText v) (fault.WrongKind key.Reset) ++ check (IsTextOf IsPointer v) (fault.BadPointer name)

abbrev pub reset_lines : List ℕ → Data → Table DocFault
reset_lines name v =
    check (IsList v) (fault.WrongKind key.Reset)
    ++ check (length (values v) ≤ 256) (fault.TooMany key.Reset)
    ++ each (pointer_lines name) (values v)

-- the object d is the value, or the value is its text
abbrev pub IsMergeObject : Data → Data → Type 0
IsMergeObject v d = IsObject d × ((v ≡ d) ⊎ ((s : List ℕ) × (v ≡ string s) × IsTreeOf s text_limit d))

abbrev pub merge_lines : List ℕ → Data → Table DocFault
merge_lines name v = check ((d : Data) × IsMergeObject v d) (fault.BadMerge name)

abbrev pub reset_in : Data → Option Data
reset_in = either (codes "reset") (codes "RESET")

abbrev pub merge_in : Data → Option Data
merge_in = either (codes "merge") (codes "MERGE")

abbrev pub update_lines : List ℕ → Data → Table DocFault
update_lines name v =
    check (IsObject v) (fault.WrongKind key.ConfigurationUpdate)
    ++ check (¬ HasBoth (codes "reset") (codes "RESET") v) (fault.DuplicateKey key.Reset)
    ++ check (¬ HasBoth (codes "merge") (codes "MERGE") v) (fault.DuplicateKey key.Merge)
    ++ on (reset_in v) (reset_lines name)
    ++ on (merge_in v) (merge_lines name)

-- ---- components

abbrev pub range_lines : List ℕ → Data → Table DocFault
range_lines name v = check (IsText v) (fault.WrongKind key.ComponentVersion) ++ check (IsTextOf IsRange v) (fault.BadRange name)

-- of a key with its value
abbrev pub component_lines : List ℕ × Data → Table DocFault
component_lines m =
    check (IsName m.0) (fault.BadName key.Components)
    ++ check (IsObject m.1) (fault.WrongKind key.Components)
    ++ at_required key.ComponentVersion m.1 (range_lines m.0)
    ++ at_optional key.ConfigurationUpdate m.1 (update_lines m.0)

abbrev pub components_lines : Data → Table DocFault
components_lines v =
    check (IsObject v) (fault.WrongKind key.Components)
    ++ check (length (members v) ≤ 128) (fault.TooMany key.Components)
    ++ each component_lines (members v)

-- ---- the whole tree

abbrev pub document_lines : Data → Table DocFault
document_lines d =
    check (IsObject d) (fault.WrongKind key.Document)
    ++ at_optional key.DeploymentId d (label_lines key.DeploymentId)
    ++ at_required key.TargetArn d (label_lines key.TargetArn)
    ++ at_optional key.Revision d revision_lines
    ++ at_optional key.DeploymentPolicies d policies_lines
    ++ at_optional key.Components d components_lines
