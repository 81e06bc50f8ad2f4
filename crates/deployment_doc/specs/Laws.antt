-- Laws of reading a document.
use Rattle.std.specs.Prelude.{◌≡◌, ℕ, List}
use Rattle.serde_json.specs.Data.{Data}
use Rattle.nuc_base.specs.Tables.{AllHold}
use Rattle.tree_core.specs.Reading.{IsTreeOf}
use Rattle.deployment_doc.specs.Lines.{text_limit, document_lines}
use Rattle.deployment_doc.specs.Reads.{IsFault}
use Rattle.deployment_doc.specs.declared.fault.DocFault.{DocFault}

-- bytes have one fault at most
abbrev pub IsOneFault : Type 0
IsOneFault = (bytes : List ℕ) (f g : DocFault) → IsFault bytes f → IsFault bytes g → f ≡ g

-- bytes of which every line holds have no fault
abbrev pub HasNoFault : Type 0
HasNoFault = (bytes : List ℕ) (d : Data) (f : DocFault) → IsTreeOf bytes text_limit d → AllHold (document_lines d) → IsFault bytes f → ⊥
