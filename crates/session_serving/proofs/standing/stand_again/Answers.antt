use Rattle.std.specs.Prelude.{[], false}
use Rattle.std.proofs.Common.{refl, sym, subst}
use Rattle.nuc_base.specs.declared.status.Status.TheVariants as statuses
use Rattle.deploy_state.specs.States.{idle_device}
use Rattle.step_runner.specs.Entries.{Listed}
use Rattle.components.specs.Components.{Components}
use Rattle.session_boots.proofs.Acting.{acts_none}
use Rattle.session.specs.declared.ran.Standing.{Standing}
use Rattle.session.specs.Parts.{IsReturned}
use Rattle.session_serving.specs.Turns.{IsReady}
use Rattle.session_serving.proofs.Again.{ready_serves}
use Rattle.session_serving.proofs.standing.stand_again.Goals as goal

-- ---- they are there

pub returns-in_default-clause-trace : goal.returns-in_default-clause-trace
returns-in_default-clause-trace g c = λ p ready.
    let list = g.R.Runner.list c.args.runner.now in
    let told = Listed g.R.Runner.list g.R.Runner.told g.R.Runner.asked c.args.runner.now in (
      [],
      acts_none p list list refl,
      (
        ready_serves c.args.standing p (idle_device c.args.idle) (g.S.Supervise.world c.args.supervisor.now) told
            (g.R.Runner.living c.args.runner.now) c.in_default.not-Nobody ready,
        refl,
      ),
    )

-- ---- they are brought up

pub open_set-requires-clause-from_state : goal.open_set-requires-clause-from_state
open_set-requires-clause-from_state g c =
    let q = c.requires.from_state in
    let told = Listed g.R.Runner.list g.R.Runner.told g.R.Runner.asked c.args.runner.now in
    let world = g.S.Supervise.world c.args.supervisor.now in
    let living = g.R.Runner.living c.args.runner.now in
    (q.0, told, living, subst (λ (s : Standing). IsReady s q.0 (idle_device c.args.idle) world told living) c.in-Nobody.is q.1)

pub returns-in-Ok-clause-trace : goal.returns-in-Ok-clause-trace
returns-in-Ok-clause-trace g c = λ p ready.
    let told = Listed g.R.Runner.list g.R.Runner.told g.R.Runner.asked c.args.runner.now in
    let world = g.S.Supervise.world c.args.supervisor.now in
    let living = g.R.Runner.living c.args.runner.now in
    let t = c.in-Ok.ensures.trace p told living (subst (λ (s : Standing). IsReady s p (idle_device c.args.idle) world told living) c.in-Nobody.is ready) in
    (t.0, t.1, (t.2, t.3))

-- ---- there is no memory

pub give_up-requires : goal.give_up-requires
give_up-requires g c =
    let q = c.requires.from_state in
    let d = idle_device c.args.idle in
    let told = Listed g.R.Runner.list g.R.Runner.told g.R.Runner.asked c.args.runner.now in
    let world = g.S.Supervise.world c.args.supervisor.now in
    let living = g.R.Runner.living c.args.runner.now in
    let u = subst (λ (s : Standing). IsReady s q.0 d world told living) c.in-Nobody.is q.1 in
    record { from_state = (q.0, d, subst (λ (w : Components). IsReturned q.0 d w told living) (sym c.in-Err.ensures.same) u.returned) }

pub returns-in-Err-clause-trace : goal.returns-in-Err-clause-trace
returns-in-Err-clause-trace g c = λ p ready.
    let d = idle_device c.args.idle in
    let told = Listed g.R.Runner.list g.R.Runner.told g.R.Runner.asked c.args.runner.now in
    let world = g.S.Supervise.world c.args.supervisor.now in
    let living = g.R.Runner.living c.args.runner.now in
    let u = subst (λ (s : Standing). IsReady s p d world told living) c.in-Nobody.is ready in
    let k = c.give_up.ensures.trace p d (subst (λ (w : Components). IsReturned p d w told living) (sym c.in-Err.ensures.same) u.returned) in
    (k.0, k.1, (refl, k.2 statuses.Memory false refl))
