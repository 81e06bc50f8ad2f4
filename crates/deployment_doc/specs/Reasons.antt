-- How a fault is printed: its word, and where it has a field one space and the field.
use Rattle.std.specs.Prelude.{ℕ, List, codes, Option, Some, None}
use Rattle.tree_core.specs.Reasons.{with_field}
use Rattle.tree_core.specs.Words.{word_of as tree_word}
use Rattle.deployment_doc.specs.Spelled.{spelled}
use Rattle.deployment_doc.specs.declared.fault.DocFault.{DocFault}
use Rattle.deployment_doc.specs.declared.fault.DocFault.TheVariants as fault

abbrev pub word_of : DocFault → List ℕ
word_of (fault.Tree t) = tree_word t
word_of (fault.Missing k) = codes "Missing"
word_of (fault.WrongKind k) = codes "WrongKind"
word_of (fault.TooMany k) = codes "TooMany"
word_of (fault.DuplicateKey k) = codes "DuplicateKey"
word_of (fault.BadName k) = codes "BadName"
word_of fault.BadRevision = codes "BadRevision"
word_of fault.BadPolicy = codes "BadPolicy"
word_of (fault.BadRange name) = codes "BadRange"
word_of (fault.BadPointer name) = codes "BadPointer"
word_of (fault.BadMerge name) = codes "BadMerge"
word_of fault.NoMemory = codes "NoMemory"

abbrev pub field_of : DocFault → Option (List ℕ)
field_of (fault.Tree t) = None
field_of (fault.Missing k) = Some (spelled k)
field_of (fault.WrongKind k) = Some (spelled k)
field_of (fault.TooMany k) = Some (spelled k)
field_of (fault.DuplicateKey k) = Some (spelled k)
field_of (fault.BadName k) = Some (spelled k)
field_of fault.BadRevision = None
field_of fault.BadPolicy = None
field_of (fault.BadRange name) = Some name
field_of (fault.BadPointer name) = Some name
field_of (fault.BadMerge name) = Some name
field_of fault.NoMemory = None

abbrev pub reason_of : DocFault → List ℕ
reason_of f = with_field (word_of f) (field_of f)
