-- What reading a document answers.
use Rattle.std.specs.Prelude.{◌≡◌, ◌⊎◌, ℕ, List, Result, MatchResult}
use Rattle.serde_json.specs.Data.{Data}
use Rattle.nuc_base.specs.Tables.{AllHold, IsFirst}
use Rattle.tree_core.specs.Reading.{IsTreeOf, IsFirstFault}
use Rattle.tree_core.specs.declared.fault.TreeFault.{TreeFault}
use Rattle.tree_core.specs.declared.fault.TreeFault.TheVariants as tree
use Rattle.deployment_doc.specs.Lines.{text_limit, document_lines}
use Rattle.deployment_doc.specs.Named.{IsDocument}
use Rattle.deployment_doc.specs.declared.document.Document.{Document}
use Rattle.deployment_doc.specs.declared.fault.DocFault.{DocFault}
use Rattle.deployment_doc.specs.declared.fault.DocFault.TheVariants as fault

-- The fault of the first line that fails, where the first line of all asks that the bytes are a tree.
abbrev pub IsFault : List ℕ → DocFault → Type 0
IsFault bytes f =
    ((t : TreeFault) × (f ≡ fault.Tree t) × IsFirstFault bytes text_limit t × (t ≡ tree.NoMemory → ⊥))
    ⊎ ((d : Data) × IsTreeOf bytes text_limit d × IsFirst (document_lines d) f)

-- The document that the lines name where none fails, else the fault of the first that does. Want of memory is free.
abbrev pub ReadsDocument : List ℕ → Result Document DocFault → Type 0
ReadsDocument bytes result = MatchResult result
    (λ document. (d : Data) × IsTreeOf bytes text_limit d × AllHold (document_lines d) × IsDocument bytes d document)
    (λ f. (f ≡ fault.NoMemory) ⊎ IsFault bytes f)
