-- How a fault is printed: its word, and where it has a field one space and the field.
use Rattle.std.specs.Prelude.{ℕ, List, codes, Option, Some, None}
use Rattle.tree_core.specs.Reasons.{with_field}
use Rattle.tree_core.specs.Words.{word_of as tree_word}
use Rattle.recipe_reader.specs.Spelled.{spelled}
use Rattle.recipe_reader.specs.declared.fault.RecipeFault.{RecipeFault}
use Rattle.recipe_reader.specs.declared.fault.RecipeFault.TheVariants as fault

abbrev pub word_of : RecipeFault → List ℕ
word_of (fault.Tree t) = tree_word t
word_of (fault.Missing k) = codes "Missing"
word_of (fault.WrongKind k) = codes "WrongKind"
word_of fault.FormatVersion = codes "FormatVersion"
word_of (fault.BadName k) = codes "BadName"
word_of fault.BadVersion = codes "BadVersion"
word_of fault.UnsupportedType = codes "UnsupportedType"
word_of fault.GlobalLifecycle = codes "GlobalLifecycle"
word_of (fault.TooMany k) = codes "TooMany"
word_of fault.BadRange = codes "BadRange"
word_of fault.UnsupportedPlatform = codes "UnsupportedPlatform"
word_of fault.NoManifest = codes "NoManifest"
word_of (fault.DuplicateKey k) = codes "DuplicateKey"
word_of fault.BadSkipif = codes "BadSkipif"
word_of fault.BadTimeout = codes "BadTimeout"
word_of fault.RunAndStartup = codes "RunAndStartup"
word_of fault.UnsupportedUri = codes "UnsupportedUri"
word_of fault.ZipArtifact = codes "ZipArtifact"
word_of fault.BadDigest = codes "BadDigest"
word_of fault.DuplicateArtifact = codes "DuplicateArtifact"
word_of fault.NoMemory = codes "NoMemory"

abbrev pub field_of : RecipeFault → Option (List ℕ)
field_of (fault.Tree t) = None
field_of (fault.Missing k) = Some (spelled k)
field_of (fault.WrongKind k) = Some (spelled k)
field_of fault.FormatVersion = None
field_of (fault.BadName k) = Some (spelled k)
field_of fault.BadVersion = None
field_of fault.UnsupportedType = None
field_of fault.GlobalLifecycle = None
field_of (fault.TooMany k) = Some (spelled k)
field_of fault.BadRange = None
field_of fault.UnsupportedPlatform = None
field_of fault.NoManifest = None
field_of (fault.DuplicateKey k) = Some (spelled k)
field_of fault.BadSkipif = None
field_of fault.BadTimeout = None
field_of fault.RunAndStartup = None
field_of fault.UnsupportedUri = None
field_of fault.ZipArtifact = None
field_of fault.BadDigest = None
field_of fault.DuplicateArtifact = None
field_of fault.NoMemory = None

abbrev pub reason_of : RecipeFault → List ℕ
reason_of f = with_field (word_of f) (field_of f)
