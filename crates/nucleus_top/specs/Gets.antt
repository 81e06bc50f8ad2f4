-- What `config-get` answers.
use Rattle.std.specs.Prelude.{◌≡◌, ◌⊎◌, ℕ, List, [], ◌∷◌, ◌++◌, if◌then◌else◌, ◌==◌, IsTrue, codes, Result, Ok, Err, ⊤}
use Rattle.std.specs.List.{flat_map}
use Rattle.nuc_base.specs.Tables.{IsFirst}
use Rattle.nuc_base.specs.declared.status.Status.{Status}
use Rattle.nuc_base.specs.declared.status.Status.TheVariants as status
use Rattle.device.specs.Devices.{Device}
use Rattle.status_text.specs.Status.{line}
use Rattle.config_cmd.specs.Nodes.{IsNodeText, get_lines}
use Rattle.config_cmd.specs.declared.fault.GetFault.{GetFault}
use Rattle.config_cmd.specs.declared.fault.GetFault.TheVariants as fault
use Rattle.nucleus_top.specs.Answers.{Store, Printed, IsUnchanged, HasPrinted, IsOrFault, status_of}
use Rattle.nucleus_top.specs.Drives.{RefusedParts}
use Rattle.nucleus_top.specs.Looks.{LookAnswer}
use Rattle.nucleus_top.specs.Opening.{IsImageOf, HasEntry}
use Rattle.nucleus_top.specs.Planning.{IsFound}
use Rattle.nucleus_top.specs.declared.answer.Answer.{Answer}
use Rattle.nucleus_top.specs.declared.answer.Answer.TheVariants.{Got, Absent, NoMemory}

-- ---- a pointer as a text (RFC 6901, section 3)

-- `~` is written as `~0`, and `/` as `~1`
abbrev pub escaped_byte : ℕ → List ℕ
escaped_byte b = if b == 126 then codes "~0" else (if b == 47 then codes "~1" else b ∷ [])

abbrev pub escaped : List ℕ → List ℕ
escaped token = flat_map escaped_byte token

-- a `/` before each token
abbrev pub pointer_text : List (List ℕ) → List ℕ
pointer_text tokens = flat_map (λ token. 47 ∷ escaped token) tokens

-- ---- a device

-- what is printed where there is no node
abbrev pub absent_line : List ℕ → List (List ℕ) → GetFault → List ℕ
absent_line name at fault.NoComponent = line (codes "refused 19 NoComponent") (name ∷ [])
absent_line name at fault.NoNode = line (codes "refused 19 NoNode") (name ∷ pointer_text at ∷ [])
absent_line name at fault.NoMemory = []

-- the first reason why the device has no such node, as a line
abbrev pub IsAbsence : Device → List ℕ → List (List ℕ) → List ℕ → Type 0
IsAbsence d name at text = (f : GetFault) × IsFirst (get_lines d name at) f × (text ≡ absent_line name at f)

-- the compact text of the node that the pointer names in the configuration of the component, as a line
abbrev pub IsNodeLine : Device → List ℕ → List (List ℕ) → List ℕ → Type 0
IsNodeLine d name at text = (node : List ℕ) × IsNodeText d name at node × (text ≡ node ++ codes "\n")

-- the line of an absence, or want of memory
abbrev pub TellsAbsence : {E : Type 0} → Result (List ℕ) E → Answer → Type 0
TellsAbsence (Ok text) (Absent line) = line ≡ text
TellsAbsence (Err e) NoMemory = ⊤
TellsAbsence _ _ = ⊥

-- the text of a node as a line, or want of memory
abbrev pub TellsNode : List ℕ → Answer → Type 0
TellsNode node (Got line) = line ≡ node ++ codes "\n"
TellsNode node NoMemory = ⊤
TellsNode node _ = ⊥

-- why an answer comes on a device
abbrev pub GetAnswerOn : Device → List ℕ → List (List ℕ) → Answer → Type 0
GetAnswerOn d name at (Got text) = IsNodeLine d name at text
GetAnswerOn d name at (Absent text) = IsAbsence d name at text
GetAnswerOn d name at NoMemory = ⊤
GetAnswerOn d name at _ = ⊥

-- ---- the command

-- why an answer comes
abbrev pub GetAnswer : List ℕ → List (List ℕ) → Store → Answer → Type 0
GetAnswer name at store = LookAnswer store (λ d. GetAnswerOn d name at)

pub record GetParts (name : List ℕ) (at : List (List ℕ)) (store : Store) (printed : Printed) (result : Status) : Type 0 where
  -- The status is that of an answer that comes by its cause, or 6.
  pub which : (result ≡ status.Edge) ⊎ ((answer : Answer) × GetAnswer name at store answer × (result ≡ status_of answer))
  -- Whatever it answers, every file reads as before.
  pub reads_only : IsUnchanged store
  -- 0 comes exactly where the device has the node, which is printed.
  pub done : result ≡ status.Done → (d : Device) × IsFound store d × ((text : List ℕ) × IsNodeLine d name at text × HasPrinted printed text)
  pub done_comes : IsTrue store.is_modelled → HasEntry store.before → (d : Device) → IsImageOf store.before d → (text : List ℕ) → IsNodeLine d name at text →
      IsOrFault result status.Done
  -- 19 comes exactly where it has none: it runs no such component, or the pointer names nothing in its configuration.
  pub absent : result ≡ status.Absent → (d : Device) × IsFound store d × ((text : List ℕ) × IsAbsence d name at text × HasPrinted printed text)
  pub absent_comes : IsTrue store.is_modelled → HasEntry store.before → (d : Device) → IsImageOf store.before d → (text : List ℕ) → IsAbsence d name at text →
      IsOrFault result status.Absent
  -- 8 and 9 come exactly where the journal gives no device.
  pub refused : RefusedParts store printed result
