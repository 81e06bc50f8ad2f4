use Rattle.std.specs.Prelude.{ℕ, List}
use Rattle.std.proofs.Common.{◌≡◌, ◌∙◌, subst}
use Rattle.nuc_base.specs.declared.kinds.Outcome.TheVariants as outcomes
use Rattle.deploy_state.specs.States.{activating_device}
use Rattle.step_runner.specs.Entries.{Listed, Told}
use Rattle.components.specs.Components.{Components}
use Rattle.histories.specs.TraceEvents.{TraceEvent}
use Rattle.histories.specs.States.{SessionState, state_after}
use Rattle.session_startup.specs.Ended.{ActivatedLeft, ActivatedSame}
use Rattle.session_startup.specs.declared.activating.Activated.{Activated}
use Rattle.session_startup.specs.declared.activating.Activated.TheVariants as activated
use Rattle.session_transitions.proofs.GivenUp.{quits_given_up}
use Rattle.session_rollout.specs.declared.driven.Driven.TheVariants as driven
use Rattle.session_rollout.specs.declared.driven.Presence.TheVariants as presences
use Rattle.session_rollout.proofs.Endings.{ended}
use Rattle.session_rollout.proofs.Joining.{cut_off, joined}
use Rattle.session_rollout.proofs.Leaving.{driven_on}
use Rattle.session_rollout.proofs.Ways.{way_on}
use Rattle.session_rollout.proofs.items.bring_up.Goals as goal

left_as : {J : Type 0} (x y : Activated J) (h : List TraceEvent) (q : SessionState) (world : Components) (told : Told) (living : List ℕ) → x ≡ y →
    ActivatedLeft x h q world told living → ActivatedLeft y h q world told living
left_as x y h q world told living is left = subst (λ (z : Activated _). ActivatedLeft z h q world told living) is left

-- ---- they are up

pub returns-in-Ok-Closed-clause-course : goal.returns-in-Ok-Closed-clause-course
returns-in-Ok-Closed-clause-course g c = λ p comes.
    let told = Listed g.R.Runner.list g.R.Runner.told g.R.Runner.asked c.args.runner.now in
    let new = Listed g.R.Runner.list g.R.Runner.told g.R.Runner.asked c.activate.new.runner in
    let t = c.in-Ok-Closed.ensures.trace p comes in
    let left = left_as c.in-Ok-Closed.field-0 (activated.Closed c.in-Ok-Closed.idle) t.0 (state_after p t.0) (g.S.Supervise.world c.activate.new.supervisor)
    new (g.R.Runner.living c.activate.new.runner) c.in-Ok-Closed.field-0-is t.3 in
    ended g.J.Journal.entries g.J.Journal.files c.args.disk.now c.activate.new.disk told.list new.list
    (g.K.Sink.held c.args.sink.now) (g.K.Sink.held c.activate.new.sink) p t.0 (driven.Closed c.in-Ok-Closed.idle outcomes.Successful presences.Present) _
    t.1 t.2 left

-- ---- one failed three times

pub fail_items-requires-clause-ready : goal.fail_items-requires-clause-ready
fail_items-requires-clause-ready g c =
    way_on c.args.backs.now (g.S.Supervise.coming c.args.ready) (activating_device c.args.state) (activating_device c.in-Ok-Broken.state)
    (subst (λ (x : Activated _). ActivatedSame (activating_device c.args.state) x) c.in-Ok-Broken.field-0-is c.in-Ok-Broken.ensures.same) c.requires.ready

pub fail_items-requires-clause-from_state : goal.fail_items-requires-clause-from_state
fail_items-requires-clause-from_state g c =
    let q = c.requires.from_state in
    let new = Listed g.R.Runner.list g.R.Runner.told g.R.Runner.asked c.activate.new.runner in
    let t = c.in-Ok-Broken.ensures.trace q.0 q.1 in (
      state_after q.0 t.0,
      left_as c.in-Ok-Broken.field-0 (activated.Broken c.in-Ok-Broken.state) t.0 (state_after q.0 t.0)
          (g.S.Supervise.world c.activate.new.supervisor) new (g.R.Runner.living c.activate.new.runner) c.in-Ok-Broken.field-0-is t.3,
    )

pub returns-in-Ok-Broken-clause-course : goal.returns-in-Ok-Broken-clause-course
returns-in-Ok-Broken-clause-course g c = λ p comes.
    let last = Listed g.R.Runner.list g.R.Runner.told g.R.Runner.asked c.fail_items.new.runner in
    let new = Listed g.R.Runner.list g.R.Runner.told g.R.Runner.asked c.activate.new.runner in
    let t = c.in-Ok-Broken.ensures.trace p comes in
    let left = left_as c.in-Ok-Broken.field-0 (activated.Broken c.in-Ok-Broken.state) t.0 (state_after p t.0) (g.S.Supervise.world c.activate.new.supervisor)
    new (g.R.Runner.living c.activate.new.runner) c.in-Ok-Broken.field-0-is t.3 in
    joined g.J.Journal.entries g.J.Journal.files g.met.D.Disk.laws c.args.disk.now c.activate.new.disk c.fail_items.new.disk
    (g.R.Runner.list c.args.runner.now) new.list last.list
    (g.K.Sink.held c.args.sink.now) (g.K.Sink.held c.activate.new.sink) (g.K.Sink.held c.fail_items.new.sink) p t.0 c.fail_items.result _
    t.1 t.2
    (driven_on (g.S.Supervise.world c.fail_items.new.supervisor) last (g.R.Runner.living c.fail_items.new.runner) t.0)
    (c.fail_items.ensures.course (state_after p t.0) left)

pub fail_items-requires-clause-drives : goal.fail_items-requires-clause-drives
fail_items-requires-clause-drives g c = c.activate.ensures.drives

pub returns-in-Ok-Closed-clause-drives : goal.returns-in-Ok-Closed-clause-drives
returns-in-Ok-Closed-clause-drives g c = c.activate.ensures.drives

pub returns-in-Ok-Broken-clause-drives : goal.returns-in-Ok-Broken-clause-drives
returns-in-Ok-Broken-clause-drives g c = c.fail_items.ensures.drives

-- ---- it gives up

pub kill_all-requires : goal.kill_all-requires
kill_all-requires g c =
    let q = c.requires.from_state in
    let t = c.in-Err.ensures.trace q.0 q.1 in
    let new = Listed g.R.Runner.list g.R.Runner.told g.R.Runner.asked c.activate.new.runner in
    record {
      from_state = (
        state_after q.0 t.0,
        quits_given_up (state_after q.0 t.0) (g.S.Supervise.world c.activate.new.supervisor) new
            (g.R.Runner.living c.activate.new.runner) t.4,
      );
    }

pub returns-in-Err-clause-course : goal.returns-in-Err-clause-course
returns-in-Err-clause-course g c = λ p comes.
    let t = c.in-Err.ensures.trace p comes in
    let new = Listed g.R.Runner.list g.R.Runner.told g.R.Runner.asked c.activate.new.runner in
    let k = c.kill_all.ensures.trace (state_after p t.0) (quits_given_up (state_after p t.0) (g.S.Supervise.world c.activate.new.supervisor) new
    (g.R.Runner.living c.activate.new.runner) t.4) in
    cut_off g.J.Journal.entries g.J.Journal.files c.args.disk.now c.activate.new.disk (g.R.Runner.list c.args.runner.now) new.list
    (g.R.Runner.list c.kill_all.new.runner)
    (g.K.Sink.held c.args.sink.now) (g.K.Sink.held c.activate.new.sink) p t.0 k.0 c.in-Err.over _
    t.1 t.2 t.3 k.1 k.2 k.3 k.4
