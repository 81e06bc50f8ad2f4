-- What a device, candidates and a document have to be for a plan.
use Rattle.std.specs.Prelude.{◌≡◌, ◌⊎◌, ◌≤◌, List, Some, None, All}
use Rattle.std.specs.Str.{bytes_eq}
use Rattle.std.specs.Map.{lookup}
use Rattle.recipe_reader.specs.Candidates.{IsReadFor}
use Rattle.recipe_reader.specs.declared.candidate.Candidate.{Candidate}
use Rattle.records.specs.declared.record.Origin.{Origin}
use Rattle.library_core.specs.Gathered.{IsGatheredOf, KeepBytes}
use Rattle.device.specs.Devices.{Device, IsRegularDevice}
use Rattle.device.specs.Grouped.{revision_of}
use Rattle.device.specs.Plans.{AreItems, AreRegularItems}
use Rattle.device.specs.Sound.{IsSound}
use Rattle.deployment_doc.specs.Sound.{AreSound}
use Rattle.deployment_doc.specs.declared.document.Document.{Document}

-- no deployment of the document's id is closed
abbrev pub IsOpen : Device → Document → Type 0
IsOpen d document = lookup (bytes_eq document.id) d.closed ≡ None

-- it has no revision, or none before its group's
abbrev pub IsFresh : Device → Document → Type 0
IsFresh d document = (document.revision ≡ 0) ⊎ (revision_of document.group d.groups ≤ document.revision)

pub record MayPlan (origin : Origin) (d : Device) (cs : List Candidate) (document : Document) : Type 0 where
  pub idle : d.pending ≡ None
  pub is_open : IsOpen d document
  pub fresh : IsFresh d document
  pub set : AreItems origin.platform d.set
  pub regular : AreRegularItems d.set
  pub read : All (IsReadFor origin.platform) cs
  pub kept : KeepBytes d.set cs
  pub roots : AreSound document.roots

-- a sound device with nothing pending, candidates that are gathered for it, and a document that is read make a plan
abbrev pub GatheredMayPlan : Type 0
GatheredMayPlan = (origin : Origin) (d : Device) (cs : List Candidate) (document : Document)
    → IsSound d → IsRegularDevice d → d.origin ≡ Some origin → d.pending ≡ None
    → IsOpen d document → IsFresh d document
    → IsGatheredOf origin d.set cs → KeepBytes d.set cs → AreSound document.roots
    → MayPlan origin d cs document
