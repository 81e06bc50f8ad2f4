-- What the accepted plans and their closings give, where stages, counts and bootstraps are left out.
use Rattle.std.specs.Prelude.{ℕ, List, [], ◌∷◌, ◌++◌, Option, Some, None, option_map, if◌then◌else◌}
use Rattle.nuc_base.specs.declared.kinds.Outcome.{Outcome}
use Rattle.records.specs.Stored.{Item, Plan, Record, Accepted, Closed}
use Rattle.device.specs.Grouped.{with_group}
use Rattle.device.specs.Devices.{Device, Group}
use Rattle.device.specs.Lawful.{takes_plan}

pub record Course : Type 0 where
  pub groups : List Group
  pub set : List Item
  pub closed : List (List ℕ × Outcome)
  -- the plan that is accepted and not closed
  pub plan : Option Plan

abbrev pub course : Device → Course
course d = record { groups = d.groups; set = d.set; closed = d.closed; plan = option_map (λ q. q.plan) d.pending }

abbrev pub closing : Outcome → Course → Option Plan → Course
closing o c None = c
closing o c (Some p) = record {
  groups = if takes_plan o then with_group c.groups p else c.groups;
  set = if takes_plan o then p.items else c.set;
  closed = c.closed ++ (p.id, o) ∷ [];
  plan = None;
}

-- only `Accepted` and `Closed` are looked at, and a `Closed` belongs to the last `Accepted`
abbrev pub course_after : Course → Record → Course
course_after c (Accepted p) = record c { plan = Some p }
course_after c (Closed o) = closing o c c.plan
course_after c _ = c

abbrev pub After : Course → List Record → Course
After c [] = c
After c (r ∷ records) = After (course_after c r) records
