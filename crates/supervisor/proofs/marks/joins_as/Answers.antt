use Rattle.std.proofs.Common.{◌≡◌, List, arith, subst, true, ℕ}
use Rattle.components.specs.Flags.{with_flags}
use Rattle.components.specs.Marks.{needs_flagged}
use Rattle.components.proofs.Each.{at_is}
use Rattle.supervisor.proofs.marks.joins_as.Goals as goal

pub returns : goal.returns
returns c = λ e.
    let fs = with_flags c.args.slots.now c.args.flags.now in
    at_is (λ p. needs_flagged p.fitted.hard fs ≡ true) c.args.slots.now c.args.user.component c.index-slots-at.result (omega arith) c.index-slots-at.is
    (subst (λ (ns : List (List ℕ)). needs_flagged ns fs ≡ true) c.hard.ensures (c.is_flagged_need.ensures e))
