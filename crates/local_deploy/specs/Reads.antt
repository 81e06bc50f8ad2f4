-- What reading a request answers.
use Rattle.std.specs.Prelude.{◌≡◌, ◌⊎◌, ℕ, List, Result, MatchResult}
use Rattle.serde_json.specs.Data.{Data}
use Rattle.nuc_base.specs.Limits.{document_limit}
use Rattle.nuc_base.specs.Tables.{AllHold, IsFirst}
use Rattle.tree_core.specs.Reading.{IsTreeOf, IsFirstFault}
use Rattle.tree_core.specs.declared.fault.TreeFault.{TreeFault}
use Rattle.tree_core.specs.declared.fault.TreeFault.TheVariants as tree
use Rattle.local_deploy.specs.Lines.{request_lines}
use Rattle.local_deploy.specs.Named.{IsRequest}
use Rattle.local_deploy.specs.declared.fault.LocalFault.{LocalFault}
use Rattle.local_deploy.specs.declared.fault.LocalFault.TheVariants as fault
use Rattle.local_deploy.specs.declared.request.LocalRequest.{LocalRequest}

-- The fault of the first line that fails, where the first line of all asks that the bytes are a tree.
abbrev pub IsFault : List ℕ → LocalFault → Type 0
IsFault bytes f =
    ((t : TreeFault) × (f ≡ fault.Tree t) × IsFirstFault bytes document_limit t × (t ≡ tree.NoMemory → ⊥))
    ⊎ ((d : Data) × IsTreeOf bytes document_limit d × IsFirst (request_lines d) f)

-- The request that the lines name where none fails, else the fault of the first that does. Want of memory is free.
abbrev pub ReadsRequest : List ℕ → Result LocalRequest LocalFault → Type 0
ReadsRequest bytes result = MatchResult result
    (λ request. (d : Data) × IsTreeOf bytes document_limit d × AllHold (request_lines d) × IsRequest d request)
    (λ f. (f ≡ fault.NoMemory) ⊎ IsFault bytes f)
