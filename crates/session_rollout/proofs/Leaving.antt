-- How a course ends is said of it behind an older history too.
use Rattle.std.specs.Prelude.{ℕ, List, ◌++◌}
use Rattle.std.proofs.Common.{ap}
use Rattle.nuc_base.specs.declared.kinds.Outcome.{Outcome}
use Rattle.step_runner.specs.Entries.{Told}
use Rattle.components.specs.Components.{Components}
use Rattle.histories.specs.TraceEvents.{TraceEvent}
use Rattle.histories.specs.States.{SessionState}
use Rattle.session_boots.proofs.Joins.{ends_on}
use Rattle.session_startup.specs.Ended.{ClosesLast}
use Rattle.session_rollout.specs.Driven.{DrivenLeft}
use Rattle.session_rollout.specs.declared.driven.Driven.{Driven}
use Rattle.session_rollout.specs.declared.driven.Driven.TheVariants as driven

closes_on : (o : Outcome) (h g : List TraceEvent) → ClosesLast o g → ClosesLast o (g ++ h)
closes_on o h g e = (e.0 ++ h, ap (λ (l : List TraceEvent). l ++ h) e.1)

pub driven_on : {J : Type 0} (world : Components) (told : Told) (living : List ℕ) (h : List TraceEvent) (x : Driven J) (g : List TraceEvent)
    (q : SessionState) → DrivenLeft x g q world told living → DrivenLeft x (g ++ h) q world told living
driven_on world told living h (driven.Closed s o k) g q c = record {
  stands = c.stands;
  back = c.back;
  generation_is = c.generation_is;
  quiet = c.quiet;
  orderly = c.orderly;
  closed = closes_on o h g c.closed;
}
driven_on world told living h (driven.Restart s) g q c = (c.0, c.1, (c.2.0, ends_on c.2.0 h g c.2.1, c.2.2))
driven_on world told living h (driven.Reboot s) g q c = (c.0, c.1, (c.2.0, ends_on c.2.0 h g c.2.1, c.2.2))
