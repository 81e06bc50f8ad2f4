-- What a plan meets that is taken in.
use Rattle.std.specs.Prelude.{ℕ, Ok}
use Rattle.library_core.specs.Library.{Content}
use Rattle.records.specs.Stored.{Accepted, plan_view}
use Rattle.records.specs.declared.record.Plan as code
use Rattle.records.specs.declared.record.Origin.{Origin}
use Rattle.deployment_doc.specs.declared.document.Document.{Document}
use Rattle.device.specs.Devices.{Device}
use Rattle.device.specs.Met.{BringsMet}
use Rattle.device.specs.Sound.{IsSound}
use Rattle.admission.specs.Takes.{TakesIn}

-- the plan of a document that is taken in on a sound device meets what all groups then ask
abbrev pub TakenAreMet : Type 0
TakenAreMet = (d : Device) (o : Origin) (content : Content) (before after : ℕ) (document : Document) (plan : code.Plan)
    → IsSound d → TakesIn d o content before after document (Ok plan) → BringsMet d (Accepted (plan_view plan))
