-- A preferred set is a valid one.
use Rattle.std.proofs.Common.{◌≡◌, List, inl, inr}
use Rattle.nuc_base.specs.Tables.{AllHold}
use Rattle.recipe_reader.specs.declared.candidate.Candidate.{Candidate}
use Rattle.device.specs.Devices.{Device}
use Rattle.deployment_doc.specs.declared.document.Document.{Document}
use Rattle.plan_core.specs.Plans.{room_lines, IsRefused, HasNoSet}
use Rattle.plan_core.specs.declared.fault.PlanFault.{PlanFault}
use Rattle.plan_core.specs.declared.fault.PlanFault.TheVariants as fault
use Rattle.plan_core.proofs.laws.limits_in_order.Goals as goal

third : (d : Device) (cs : List Candidate) (document : Document) (f : PlanFault)
    → AllHold (room_lines d document) → HasNoSet d cs document → IsRefused d cs document f → f ≡ fault.NoVersion
third d cs document f room none (inl (inl first)) = absurd (first.0 room.0)
third d cs document f room none (inl (inr (first, inl second))) = absurd (second.0 room.1.0)
third d cs document f room none (inl (inr (first, inr second))) = absurd second.1
third d cs document f room none (inr (inl refused)) = refused.1
third d cs document f room none (inr (inr refused)) = absurd (none refused.1.1.0 refused.1.1.1.valid)

pub returns-clause-versions : goal.returns-clause-versions
returns-clause-versions c = third
