use Rattle.std.specs.Prelude.{◌++◌, false}
use Rattle.std.proofs.Common.{◌∙◌, refl, sym, subst}
use Rattle.nuc_base.specs.declared.status.Status.TheVariants as statuses
use Rattle.step_runner.specs.Entries.{Listed}
use Rattle.histories.specs.Courses.{IsEnd}
use Rattle.histories.specs.States.{SessionState, state_after}
use Rattle.histories.proofs.Joined.{left-append}
use Rattle.session_boots.proofs.Acting.{acts_on}
use Rattle.session_serving.proofs.Asking.{spent_stops}
use Rattle.session_serving.proofs.Steady.{settled_none, settled_some, up_on}
use Rattle.session_serving.proofs.ends.stop_spent.Goals as goal

pub settle-requires-clause-drives : goal.settle-requires-clause-drives
settle-requires-clause-drives g c = (c.requires.up.1.drives, c.requires.up.1.steady)

pub settle-requires-clause-from_state : goal.settle-requires-clause-from_state
settle-requires-clause-from_state g c = let q = c.requires.from_state in (q.0, q.1, q.2)

pub stop_all-requires-clause-up : goal.stop_all-requires-clause-up
stop_all-requires-clause-up g c = (
  c.requires.up.0,
  up_on c.requires.up.0 (g.S.Supervise.world c.args.supervisor.now) (g.S.Supervise.world c.settle.new.supervisor)
      c.requires.up.1 c.settle.ensures.stays,
)

pub stop_all-requires-clause-from_state : goal.stop_all-requires-clause-from_state
stop_all-requires-clause-from_state g c =
    let q = c.requires.from_state in
    let told = Listed g.R.Runner.list g.R.Runner.told g.R.Runner.asked c.settle.new.runner in
    let world = g.S.Supervise.world c.settle.new.supervisor in
    let living = g.R.Runner.living c.settle.new.runner in
    let k = c.settle.ensures.trace q.0 q.1 q.2 in
    let s = settled_some q.0 (state_after q.0 k.0) q.1 world told living c.settle.result c.in-Some._settled c.in-Some.is k.2 in
    (state_after q.0 k.0, q.1, spent_stops (state_after q.0 k.0) q.1 world told living s.0 (s.1.turns ∙ q.3))

pub returns-in-Some-clause-stopped : goal.returns-in-Some-clause-stopped
returns-in-Some-clause-stopped g c = λ yes p d serving none.
    let told = Listed g.R.Runner.list g.R.Runner.told g.R.Runner.asked c.settle.new.runner in
    let world = g.S.Supervise.world c.settle.new.supervisor in
    let living = g.R.Runner.living c.settle.new.runner in
    let k = c.settle.ensures.trace p d serving in
    let q = state_after p k.0 in
    let s = settled_some p q d world told living c.settle.result c.in-Some._settled c.in-Some.is k.2 in
    let t = c.stop_all.ensures.trace q d (spent_stops q d world told living s.0 (s.1.turns ∙ none)) in (
      t.0 ++ k.0,
      acts_on p k.0 t.0 (g.R.Runner.list c.args.runner.now) (g.R.Runner.list c.settle.new.runner) (g.R.Runner.list c.stop_all.new.runner) k.1 t.1,
      λ status other. subst (λ (x : SessionState). IsEnd x status false) (sym (left-append p t.0 k.0)) (t.2 status other),
    )

pub give_up_serving-requires : goal.give_up_serving-requires
give_up_serving-requires g c =
    let q = c.requires.from_state in
    let told = Listed g.R.Runner.list g.R.Runner.told g.R.Runner.asked c.settle.new.runner in
    let world = g.S.Supervise.world c.settle.new.supervisor in
    let living = g.R.Runner.living c.settle.new.runner in
    let k = c.settle.ensures.trace q.0 q.1 q.2 in
    let s = settled_none q.0 (state_after q.0 k.0) q.1 world told living c.settle.result c.in-None.is k.2 in
    record { from_state = (state_after q.0 k.0, q.1, s.0) }

pub returns-in-None-clause-killed : goal.returns-in-None-clause-killed
returns-in-None-clause-killed g c = λ no p d serving.
    let told = Listed g.R.Runner.list g.R.Runner.told g.R.Runner.asked c.settle.new.runner in
    let world = g.S.Supervise.world c.settle.new.supervisor in
    let living = g.R.Runner.living c.settle.new.runner in
    let k = c.settle.ensures.trace p d serving in
    let q = state_after p k.0 in
    let s = settled_none p q d world told living c.settle.result c.in-None.is k.2 in
    let t = c.give_up_serving.ensures.trace q d s.0 in (
      t.0 ++ k.0,
      acts_on p k.0 t.0 (g.R.Runner.list c.args.runner.now) (g.R.Runner.list c.settle.new.runner) (g.R.Runner.list c.give_up_serving.new.runner) k.1 t.1,
      subst (λ (x : SessionState). IsEnd x statuses.Memory false) (sym (left-append p t.0 k.0)) (t.2 statuses.Memory false refl),
    )
