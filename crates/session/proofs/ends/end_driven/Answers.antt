use Rattle.std.specs.Prelude.{Ok}
use Rattle.std.proofs.Common.{◌≡◌, [], inl, inr, refl, sym, subst}
use Rattle.disk_model.specs.Disk.{HasLeft}
use Rattle.disk_model.specs.Listing.{artifacts, IsBelow}
use Rattle.nuc_base.specs.Faults.{Rose}
use Rattle.nuc_base.specs.declared.status.Status.TheVariants as statuses
use Rattle.artifact_store.specs.Holding.{AllHoldDevice, HoldsDevice}
use Rattle.artifact_store.specs.Swept.{IsSwept, items_of}
use Rattle.artifact_store.proofs.Sparing.{still_safe}
use Rattle.artifact_store.proofs.Walking.{start_spares}
use Rattle.deploy_state.specs.States.{loaded_device}
use Rattle.step_runner.specs.Entries.{Listed}
use Rattle.session_boots.proofs.Acting.{acts_none}
use Rattle.session_boots.specs.Lines.{id_of}
use Rattle.session_rollout.specs.Driven.{DrivenLeft, OwnsDriven, driven_device}
use Rattle.session.specs.Parts.{status_of_ran}
use Rattle.session.proofs.Ending.{end_rises}
use Rattle.session_rollout.specs.declared.driven.Driven.{Driven}
use Rattle.session.specs.Calls.{DrivenStatus, DrivenEnding, SaysEnding}
use Rattle.session.specs.Endings.{ByDiskFault, ByReboot, ByRestart}
use Rattle.session.proofs.States.{bare_none, between_bare, restart_ends}
use Rattle.session.proofs.Statuses.{two_never}
use Rattle.session.proofs.Sweeping.{close_is, no_close}
use Rattle.session.proofs.Returning.{edge_ends}
use Rattle.session.proofs.ends.end_driven.Goals as goal

-- ---- it closed

pub end_closed-requires-clause-held : goal.end_closed-requires-clause-held
end_closed-requires-clause-held g c = subst (λ (x : Driven _). OwnsDriven g.D.Disk.is_modelled g.D.Disk.may_leave g.J.Journal.stands g.J.Journal.end x
    c.args.disk.now) c.in-Closed.is c.requires.held

pub end_closed-requires-clause-from_state : goal.end_closed-requires-clause-from_state
end_closed-requires-clause-from_state g c =
    let q = c.requires.from_state in
    let told = Listed g.R.Runner.list g.R.Runner.told g.R.Runner.asked c.args.runner.now in
    let l = subst (λ (x : Driven _). DrivenLeft x q.1 q.0 (g.S.Supervise.world c.args.supervisor.now) told (g.R.Runner.living c.args.runner.now))
    c.in-Closed.is q.2 in
    (q.0, q.1, l)

pub returns-in-Closed-clause-trace : goal.returns-in-Closed-clause-trace
returns-in-Closed-clause-trace g c = λ p h before left.
    let told = Listed g.R.Runner.list g.R.Runner.told g.R.Runner.asked c.args.runner.now in
    let l = subst (λ (x : Driven _). DrivenLeft x h p (g.S.Supervise.world c.args.supervisor.now) told (g.R.Runner.living c.args.runner.now)) c.in-Closed.is
    left in
    c.end_closed.ensures.trace p h before l

pub returns-in-Closed-clause-safe : goal.returns-in-Closed-clause-safe
returns-in-Closed-clause-safe g c =
    subst (λ (x : Driven _). AllHoldDevice (g.D.Disk.may_leave c.args.disk.now) (driven_device x) →
    HasLeft g.D.Disk.moment g.D.Disk.left_since c.args.disk.now c.end_closed.new.disk (λ i. HoldsDevice i (driven_device x))) (sym c.in-Closed.is)
    c.end_closed.ensures.safe

pub returns-in-Closed-clause-answers : goal.returns-in-Closed-clause-answers
returns-in-Closed-clause-answers g c =
    subst (λ (x : Driven _). DrivenStatus (Ok x) (status_of_ran c.end_closed.result)) (sym c.in-Closed.is) c.end_closed.ensures.answers

pub returns-in-Closed-clause-ends : goal.returns-in-Closed-clause-ends
returns-in-Closed-clause-ends g c =
    subst (λ (x : Driven _). SaysEnding (g.K.Sink.held c.args.sink.now) (g.K.Sink.held c.end_closed.new.sink) (status_of_ran c.end_closed.result)
    (λ e. DrivenEnding (Ok x) e × (e ≡ ByDiskFault → Rose (g.D.Disk.faults c.args.disk.now) (g.D.Disk.faults c.end_closed.new.disk)))) (sym c.in-Closed.is)
    c.end_closed.ensures.ends

-- ---- it ends for a restart

pub returns-in-Restart-clause-trace : goal.returns-in-Restart-clause-trace
returns-in-Restart-clause-trace g c = λ p h before left.
    let list = g.R.Runner.list c.args.runner.now in
    let told = Listed g.R.Runner.list g.R.Runner.told g.R.Runner.asked c.args.runner.now in
    let world = g.S.Supervise.world c.args.supervisor.now in
    let living = g.R.Runner.living c.args.runner.now in
    let l = subst (λ (x : Driven _). DrivenLeft x h p world told living) c.in-Restart.is left in
    let end = restart_ends p (loaded_device c.in-Restart.state) world told living c.say_again-status.result statuses.Restart l.0 l.1 refl
    c.say_again-status.ensures.answers in
    ([], acts_none p list list refl, (tt, λ stopped. refl), λ rose. end_rises p c.say_again-status.result rose end)

pub returns-in-Restart-clause-none : goal.returns-in-Restart-clause-none
returns-in-Restart-clause-none g c = λ over.
    let q = c.requires.from_state in
    let d = loaded_device c.in-Restart.state in
    let told = Listed g.R.Runner.list g.R.Runner.told g.R.Runner.asked c.args.runner.now in
    let world = g.S.Supervise.world c.args.supervisor.now in
    let living = g.R.Runner.living c.args.runner.now in
    let l = subst (λ (x : Driven _). DrivenLeft x q.1 q.0 world told living) c.in-Restart.is q.2 in
    bare_none q.0 d world told living l.0.stands (between_bare q.0 d world told living l.0)

pub returns-in-Restart-clause-spared : goal.returns-in-Restart-clause-spared
returns-in-Restart-clause-spared g c = start_spares g.met.D.Disk.laws (IsBelow artifacts) c.args.disk.now

pub returns-in-Restart-clause-safe : goal.returns-in-Restart-clause-safe
returns-in-Restart-clause-safe g c =
    subst (λ (x : Driven _). AllHoldDevice (g.D.Disk.may_leave c.args.disk.now) (driven_device x) →
    HasLeft g.D.Disk.moment g.D.Disk.left_since c.args.disk.now c.args.disk.now (λ i. HoldsDevice i (driven_device x))) (sym c.in-Restart.is)
    (still_safe g.met.D.Disk.laws (loaded_device c.in-Restart.state) c.args.disk.now)

pub returns-in-Restart-clause-answers : goal.returns-in-Restart-clause-answers
returns-in-Restart-clause-answers g c =
    subst (λ (x : Driven _). DrivenStatus (Ok x) c.say_again-status.result) (sym c.in-Restart.is) c.say_again-status.ensures.answers

pub returns-in-Restart-clause-ends : goal.returns-in-Restart-clause-ends
returns-in-Restart-clause-ends g c =
    subst (λ (x : Driven _). SaysEnding (g.K.Sink.held c.args.sink.now) (g.K.Sink.held c.say_again-status.new.sink) c.say_again-status.result
    (λ e. DrivenEnding (Ok x) e × (e ≡ ByDiskFault → Rose (g.D.Disk.faults c.args.disk.now) (g.D.Disk.faults c.args.disk.now)))) (sym c.in-Restart.is)
    (ByRestart (id_of (loaded_device c.in-Restart.state)), (refl, λ fails. absurd cc), c.say_again-status.ensures.says, c.say_again-status.ensures.answers)

pub returns-in-Restart-clause-disk : goal.returns-in-Restart-clause-disk
returns-in-Restart-clause-disk g c = λ is. absurd (two_never c.say_again-status.result statuses.Restart statuses.Edge statuses.Disk
    c.say_again-status.ensures.answers
    (λ e. cc) (λ e. cc) is)

-- ---- for a reboot

pub returns-in-Reboot-clause-trace : goal.returns-in-Reboot-clause-trace
returns-in-Reboot-clause-trace g c = λ p h before left.
    let list = g.R.Runner.list c.args.runner.now in
    let told = Listed g.R.Runner.list g.R.Runner.told g.R.Runner.asked c.args.runner.now in
    let world = g.S.Supervise.world c.args.supervisor.now in
    let living = g.R.Runner.living c.args.runner.now in
    let l = subst (λ (x : Driven _). DrivenLeft x h p world told living) c.in-Reboot.is left in
    let end = restart_ends p (loaded_device c.in-Reboot.state) world told living c.say_again-status-in-Reboot.result statuses.Reboot l.0 l.1 refl
    c.say_again-status-in-Reboot.ensures.answers in
    ([], acts_none p list list refl, (tt, λ stopped. refl), λ rose. end_rises p c.say_again-status-in-Reboot.result rose end)

pub returns-in-Reboot-clause-none : goal.returns-in-Reboot-clause-none
returns-in-Reboot-clause-none g c = λ over.
    let q = c.requires.from_state in
    let d = loaded_device c.in-Reboot.state in
    let told = Listed g.R.Runner.list g.R.Runner.told g.R.Runner.asked c.args.runner.now in
    let world = g.S.Supervise.world c.args.supervisor.now in
    let living = g.R.Runner.living c.args.runner.now in
    let l = subst (λ (x : Driven _). DrivenLeft x q.1 q.0 world told living) c.in-Reboot.is q.2 in
    bare_none q.0 d world told living l.0.stands (between_bare q.0 d world told living l.0)

pub returns-in-Reboot-clause-spared : goal.returns-in-Reboot-clause-spared
returns-in-Reboot-clause-spared g c = start_spares g.met.D.Disk.laws (IsBelow artifacts) c.args.disk.now

pub returns-in-Reboot-clause-safe : goal.returns-in-Reboot-clause-safe
returns-in-Reboot-clause-safe g c =
    subst (λ (x : Driven _). AllHoldDevice (g.D.Disk.may_leave c.args.disk.now) (driven_device x) →
    HasLeft g.D.Disk.moment g.D.Disk.left_since c.args.disk.now c.args.disk.now (λ i. HoldsDevice i (driven_device x))) (sym c.in-Reboot.is)
    (still_safe g.met.D.Disk.laws (loaded_device c.in-Reboot.state) c.args.disk.now)

pub returns-in-Reboot-clause-answers : goal.returns-in-Reboot-clause-answers
returns-in-Reboot-clause-answers g c = subst (λ (x : Driven _). DrivenStatus (Ok x) c.say_again-status-in-Reboot.result) (sym c.in-Reboot.is)
    c.say_again-status-in-Reboot.ensures.answers

pub returns-in-Reboot-clause-ends : goal.returns-in-Reboot-clause-ends
returns-in-Reboot-clause-ends g c =
    subst (λ (x : Driven _). SaysEnding (g.K.Sink.held c.args.sink.now) (g.K.Sink.held c.say_again-status-in-Reboot.new.sink)
    c.say_again-status-in-Reboot.result
    (λ e. DrivenEnding (Ok x) e × (e ≡ ByDiskFault → Rose (g.D.Disk.faults c.args.disk.now) (g.D.Disk.faults c.args.disk.now)))) (sym c.in-Reboot.is) (
      ByReboot (id_of (loaded_device c.in-Reboot.state)),
      (refl, λ fails. absurd cc),
      c.say_again-status-in-Reboot.ensures.says,
      c.say_again-status-in-Reboot.ensures.answers,
    )

pub returns-in-Reboot-clause-disk : goal.returns-in-Reboot-clause-disk
returns-in-Reboot-clause-disk g c = λ is. absurd (two_never c.say_again-status-in-Reboot.result statuses.Reboot statuses.Edge statuses.Disk
    c.say_again-status-in-Reboot.ensures.answers (λ e. cc) (λ e. cc) is)

-- ---- no stray file is left behind a close

pub returns-in-Closed-clause-swept : goal.returns-in-Closed-clause-swept
returns-in-Closed-clause-swept g c = λ told o is.
    subst (λ (x : Driven _). IsSwept (items_of (driven_device x)) (g.D.Disk.seen c.end_closed.new.disk)) (sym c.in-Closed.is)
    (c.end_closed.ensures.swept told (close_is _ o (status_of_ran c.end_closed.result) c.end_closed.ensures.answers is))

pub returns-in-Restart-clause-swept : goal.returns-in-Restart-clause-swept
returns-in-Restart-clause-swept g c = λ told o is. absurd (no_close o c.say_again-status.result statuses.Restart refl c.say_again-status.ensures.answers is)

pub returns-in-Reboot-clause-swept : goal.returns-in-Reboot-clause-swept
returns-in-Reboot-clause-swept g c = λ told o is. absurd (no_close o c.say_again-status-in-Reboot.result statuses.Reboot refl
    c.say_again-status-in-Reboot.ensures.answers is)

-- ---- with which status the call ends

pub returns-in-Restart-clause-ends_call : goal.returns-in-Restart-clause-ends_call
returns-in-Restart-clause-ends_call g c = edge_ends c.say_again-status.result statuses.Restart c.say_again-status.ensures.answers (inr refl)

pub returns-in-Reboot-clause-ends_call : goal.returns-in-Reboot-clause-ends_call
returns-in-Reboot-clause-ends_call g c =
    edge_ends c.say_again-status-in-Reboot.result statuses.Reboot c.say_again-status-in-Reboot.ensures.answers (inr refl)

pub returns-in-Restart-clause-no_memory : goal.returns-in-Restart-clause-no_memory
returns-in-Restart-clause-no_memory g c = λ is. two_never c.say_again-status.result statuses.Restart statuses.Edge statuses.Memory
    c.say_again-status.ensures.answers (λ e. cc) (λ e. cc) is

pub returns-in-Reboot-clause-no_memory : goal.returns-in-Reboot-clause-no_memory
returns-in-Reboot-clause-no_memory g c = λ is. two_never c.say_again-status-in-Reboot.result statuses.Reboot statuses.Edge statuses.Memory
    c.say_again-status-in-Reboot.ensures.answers (λ e. cc) (λ e. cc) is
