use Rattle.std.proofs.Common.{subst}
use Rattle.histories.specs.States.{state_after}
use Rattle.histories.specs.Phases.{duty_of}
use Rattle.histories.specs.Follows.{MayRun, MayBooted, MaySleep}
use Rattle.histories.proofs.laws.causes.Goals as goal

pub returns-clause-starts : goal.returns-clause-starts
returns-clause-starts c = λ p h e k s n command is proper. (subst (λ x. MayRun (duty_of (state_after p h).device) (state_after p h) x k s) is
    proper.0.0.0).0.owes_none

pub returns-clause-boot_starts : goal.returns-clause-boot_starts
returns-clause-boot_starts c = λ p h e m n command is proper. (subst (λ x. MayBooted (duty_of (state_after p h).device) (state_after p h) x m) is
    proper.0.0.0).0.owes_none

pub returns-clause-sleeps : goal.returns-clause-sleeps
returns-clause-sleeps c = λ p h e limit is proper. (subst (λ x. MaySleep (duty_of (state_after p h).device) (state_after p h) x) is
    proper.0.0.0).quiet.owes_none

pub returns-clause-child_ends : goal.returns-clause-child_ends
returns-clause-child_ends c = λ p h e k s n x limit is proper. (subst (λ y. MayRun (duty_of (state_after p h).device) (state_after p h) y k s) is
    proper.0.0.0).0.quiet.owes_none

pub returns-clause-boot_ends : goal.returns-clause-boot_ends
returns-clause-boot_ends c = λ p h e m n x limit is proper. (subst (λ y. MayBooted (duty_of (state_after p h).device) (state_after p h) y m) is
    proper.0.0.0).0.quiet.owes_none

pub returns-clause-records : goal.returns-clause-records
returns-clause-records c = λ p h name s e proper. proper.0.0

pub returns-clause-recorded : goal.returns-clause-recorded
returns-clause-recorded c = λ p h status rose whole closed. whole.end.owes_none closed

pub returns-clause-ends : goal.returns-clause-ends
returns-clause-ends c = λ p h name e proper. proper.0.0.1

pub returns-clause-boots : goal.returns-clause-boots
returns-clause-boots c = λ p h e m n command is proper.
    let may = (subst (λ x. MayBooted (duty_of (state_after p h).device) (state_after p h) x m) is proper.0.0.0).0 in
    record { begun = may.begun; item = may.item; next = may.next; recorded = may.no_end }

pub returns-clause-rollbacks : goal.returns-clause-rollbacks
returns-clause-rollbacks c = λ p h name proper. proper.0.0.1
