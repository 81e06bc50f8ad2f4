-- Laws of the checks of a plan, and of what comes of it.
use Rattle.std.specs.Prelude.{◌≡◌, ◌<◌, ◌≤◌, ◌+◌, IsTrue, List, length, Some}
use Rattle.nuc_base.specs.Tables.{AllHold}
use Rattle.recipe_reader.specs.Members.{members, IsRising}
use Rattle.recipe_reader.specs.declared.candidate.Candidate.{Candidate}
use Rattle.records.specs.Stored.{Draft, Plan, Accepted}
use Rattle.records.specs.declared.record.Origin.{Origin}
use Rattle.device.specs.Devices.{Device}
use Rattle.device.specs.Grouped.{has_group}
use Rattle.deployment_doc.specs.declared.document.Document.{Document}
use Rattle.device.specs.Lawful.{Allowed}
use Rattle.device.specs.Limits.{most_closed, most_groups}
use Rattle.device.specs.Filled.{PlanFilled}
use Rattle.plan_core.specs.Ready.{MayPlan}
use Rattle.plan_core.specs.Plans.{room_lines, IsPlanned, IsRefused, HasNoSet}
use Rattle.plan_core.specs.declared.fault.PlanFault.{PlanFault}
use Rattle.plan_core.specs.declared.fault.PlanFault.TheVariants as fault

-- where as many closed as may, nothing else is looked at
abbrev pub ClosedComesFirst : Type 0
ClosedComesFirst = (d : Device) (cs : List Candidate) (document : Document) (f : PlanFault)
    → most_closed ≤ length d.closed → IsRefused d cs document f → f ≡ fault.TooManyClosed most_closed

-- then the groups
abbrev pub GroupsComeSecond : Type 0
GroupsComeSecond = (d : Device) (cs : List Candidate) (document : Document) (f : PlanFault)
    → length d.closed < most_closed → (IsTrue (has_group document.group d.groups) → ⊥) → most_groups ≤ length d.groups
    → IsRefused d cs document f → f ≡ fault.TooManyGroups (most_groups + 1)

-- then the set, before its size and its configurations
abbrev pub VersionsComeThird : Type 0
VersionsComeThird = (d : Device) (cs : List Candidate) (document : Document) (f : PlanFault)
    → AllHold (room_lines d document) → HasNoSet d cs document → IsRefused d cs document f → f ≡ fault.NoVersion

-- a plan that fills a draft which was made of candidates in order may be accepted
abbrev pub FilledIsAllowed : Type 0
FilledIsAllowed = (origin : Origin) (d : Device) (cs : List Candidate) (document : Document) (draft : Draft) (plan : Plan)
    → d.origin ≡ Some origin → IsRising (members cs) → MayPlan origin d cs document → IsPlanned origin d cs document draft → PlanFilled draft plan
    → Allowed d (Accepted plan)
