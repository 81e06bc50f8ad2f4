use Rattle.std.proofs.Common.{◌≡◌, ◌≤◌, ◌+◌, ℕ, Option, sym, ◌∙◌, ap, subst}
use Rattle.std.specs.Prelude.{IfSome}
use Rattle.components.specs.Deadlines.{least_of}
use Rattle.components.proofs.Deadline.{least_near}
use Rattle.supervisor.proofs.supervisor.Supervisor.next_deadline.Goals as goal

pub returns-clause-near : goal.returns-clause-near
returns-clause-near c =
    let e : c.deadline_in.result ≡ least_of c.self.inside.slots.items = c.deadline_in.ensures ∙ ap least_of c.as_slice.ensures.value in
    rw (← c.self.view_is) (subst (λ (o : Option ℕ). IfSome o (λ d. d ≤ c.self.inside.moment + 1000000000)) (sym e)
    (least_near c.self.inside.moment c.self.inside.slots.items c.self.invariant.0.near))
