-- How a fault is printed: its word, and where it has a field one space and the field.
use Rattle.std.specs.Prelude.{ℕ, List, codes, Option, Some, None}
use Rattle.tree_core.specs.Reasons.{with_field}
use Rattle.tree_core.specs.Words.{word_of as tree_word}
use Rattle.deployment_doc.specs.Reasons.{reason_of as update_reason}
use Rattle.local_deploy.specs.Spelled.{spelled}
use Rattle.local_deploy.specs.declared.fault.LocalFault.{LocalFault}
use Rattle.local_deploy.specs.declared.fault.LocalFault.TheVariants as fault

abbrev pub word_of : LocalFault → List ℕ
word_of (fault.Tree t) = tree_word t
word_of (fault.Missing k) = codes "Missing"
word_of (fault.WrongKind k) = codes "WrongKind"
word_of (fault.TooMany k) = codes "TooMany"
word_of (fault.BadName k) = codes "BadName"
word_of fault.BadPolicy = codes "BadPolicy"
word_of (fault.BadRange name) = codes "BadRange"
word_of (fault.Update f) = codes "Update"
word_of (fault.Both name) = codes "Both"
word_of fault.NoMemory = codes "NoMemory"

abbrev pub field_of : LocalFault → Option (List ℕ)
field_of (fault.Tree t) = None
field_of (fault.Missing k) = Some (spelled k)
field_of (fault.WrongKind k) = Some (spelled k)
field_of (fault.TooMany k) = Some (spelled k)
field_of (fault.BadName k) = Some (spelled k)
field_of fault.BadPolicy = None
field_of (fault.BadRange name) = Some name
field_of (fault.Update f) = None
field_of (fault.Both name) = Some name
field_of fault.NoMemory = None

-- that of an update is the one of the same fault in a document
abbrev pub reason_of : LocalFault → List ℕ
reason_of (fault.Update f) = update_reason f
reason_of f = with_field (word_of f) (field_of f)
