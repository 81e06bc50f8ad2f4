use Rattle.std.specs.Prelude.{ℕ, [], false}
use Rattle.std.proofs.Common.{◌≤◌, ◌++◌, refl, sym, subst}
use Rattle.nuc_base.specs.declared.status.Status.TheVariants as statuses
use Rattle.std.proofs.KnownBytes.{Appends-nil}
use Rattle.deploy_state.specs.States.{idle_device}
use Rattle.step_runner.specs.Entries.{Listed}
use Rattle.histories.specs.Courses.{IsEnd}
use Rattle.histories.specs.States.{SessionState, state_after}
use Rattle.histories.proofs.Joined.{left-append}
use Rattle.session_boots.proofs.Acting.{acts_on}
use Rattle.session_serving.specs.Causes.{observation}
use Rattle.session_serving.specs.Documents.{IsDeployedThere}
use Rattle.session_serving.specs.Parts.{outside}
use Rattle.session_serving.specs.Rounds.{WantOfMemory}
use Rattle.session_serving.proofs.Causing.{caused_none, memory_quiet}
use Rattle.session_serving.proofs.Held.{idle_stands}
use Rattle.session_serving.proofs.Steady.{settled_none, settled_some}
use Rattle.session_serving.proofs.Turning.{given_up, never_memory, over_at, turn_behind}
use Rattle.session_serving.proofs.turns.take_turn.Goals as goal

pub settle_turn-requires-clause-from_state : goal.settle_turn-requires-clause-from_state
settle_turn-requires-clause-from_state g c = let q = c.requires.from_state in (q.0, q.1)

-- ---- every act was taken

pub ask-requires-clause-now : goal.ask-requires-clause-now
ask-requires-clause-now g c = c.in-Some.ensures.now

pub ask-requires-clause-up : goal.ask-requires-clause-up
ask-requires-clause-up g c = c.settle_turn.ensures.up

pub ask-requires-clause-from_state : goal.ask-requires-clause-from_state
ask-requires-clause-from_state g c =
    let q = c.requires.from_state in
    let d = idle_device c.args.idle in
    let told = Listed g.R.Runner.list g.R.Runner.told g.R.Runner.asked c.settle_turn.new.runner in
    let world = g.S.Supervise.world c.settle_turn.new.supervisor in
    let living = g.R.Runner.living c.settle_turn.new.runner in
    let k = c.settle_turn.ensures.trace q.0 q.1 in
    let s = settled_some q.0 (state_after q.0 k.0) d world told living c.settle_turn.result c.in-Some.settled c.in-Some.is k.2 in
    (state_after q.0 k.0, s.0, subst (λ (n : ℕ). 1 ≤ n) (sym s.1.turns) q.2)

pub returns-in-Some-clause-left : goal.returns-in-Some-clause-left
returns-in-Some-clause-left g c = λ p serving left.
    let d = idle_device c.args.idle in
    let told = Listed g.R.Runner.list g.R.Runner.told g.R.Runner.asked c.settle_turn.new.runner in
    let world = g.S.Supervise.world c.settle_turn.new.supervisor in
    let living = g.R.Runner.living c.settle_turn.new.runner in
    let k = c.settle_turn.ensures.trace p serving in
    let q = state_after p k.0 in
    let s = settled_some p q d world told living c.settle_turn.result c.in-Some.settled c.in-Some.is k.2 in
    let t = c.ask.ensures.left q s.0 (subst (λ (n : ℕ). 1 ≤ n) (sym s.1.turns) left) in
    let stands = idle_stands g.D.Disk g.J.Journal g.met.D.Disk.laws g.met.J.Journal.laws c.args.idle c.args.disk.now c.requires.held p.device
    serving.stands.device_is in
    let old = outside g.D.Disk g.K.Sink g.R.Runner g.L.Library g.I.Inbox c.args.disk.now c.args.sink.now c.args.runner.now c.args.library.now c.args.inbox.now
    in
    let new = outside g.D.Disk g.K.Sink g.R.Runner g.L.Library g.I.Inbox c.ask.new.disk c.ask.new.sink c.ask.new.runner c.ask.new.library c.ask.new.inbox in (
      t.0 ++ k.0,
      turn_behind g.D.Disk g.J.Journal g.met.D.Disk.laws IsDeployedThere old p stands
          (g.R.Runner.list c.settle_turn.new.runner) new k.0 t.0 c.ask.result (g.S.Supervise.world c.ask.new.supervisor)
          (Listed g.R.Runner.list g.R.Runner.told g.R.Runner.asked c.ask.new.runner) (g.R.Runner.living c.ask.new.runner) k.1 s.1.turns t.1,
    )

-- ---- the clock stands at its end

pub give_up_serving-requires : goal.give_up_serving-requires
give_up_serving-requires g c =
    let q = c.requires.from_state in
    let d = idle_device c.args.idle in
    let told = Listed g.R.Runner.list g.R.Runner.told g.R.Runner.asked c.settle_turn.new.runner in
    let world = g.S.Supervise.world c.settle_turn.new.supervisor in
    let living = g.R.Runner.living c.settle_turn.new.runner in
    let k = c.settle_turn.ensures.trace q.0 q.1 in
    let s = settled_none q.0 (state_after q.0 k.0) d world told living c.settle_turn.result c.in-None.is k.2 in
    record { from_state = (state_after q.0 k.0, d, s.0) }

pub returns-in-None-clause-left : goal.returns-in-None-clause-left
returns-in-None-clause-left g c = λ p serving left.
    let d = idle_device c.args.idle in
    let told = Listed g.R.Runner.list g.R.Runner.told g.R.Runner.asked c.settle_turn.new.runner in
    let world = g.S.Supervise.world c.settle_turn.new.supervisor in
    let living = g.R.Runner.living c.settle_turn.new.runner in
    let k = c.settle_turn.ensures.trace p serving in
    let q = state_after p k.0 in
    let s = settled_none p q d world told living c.settle_turn.result c.in-None.is k.2 in
    let t = c.give_up_serving.ensures.trace q d s.0 in
    let stands = idle_stands g.D.Disk g.J.Journal g.met.D.Disk.laws g.met.J.Journal.laws c.args.idle c.args.disk.now c.requires.held p.device
    serving.stands.device_is in
    let old = outside g.D.Disk g.K.Sink g.R.Runner g.L.Library g.I.Inbox c.args.disk.now c.args.sink.now c.args.runner.now c.args.library.now c.args.inbox.now
    in
    let new = outside g.D.Disk g.K.Sink g.R.Runner g.L.Library g.I.Inbox c.args.disk.now c.args.sink.now c.give_up_serving.new.runner c.args.library.now
    c.args.inbox.now in
    let h = t.0 ++ k.0 in (
      h,
      over_at g.D.Disk g.J.Journal g.met.D.Disk.laws IsDeployedThere old p stands WantOfMemory statuses.Memory false new h
          (given_up g.D.Disk g.J.Journal g.met.D.Disk.laws IsDeployedThere old p stands WantOfMemory statuses.Memory [] new h refl refl never_memory
          (acts_on p k.0 t.0 (g.R.Runner.list c.args.runner.now) (g.R.Runner.list c.settle_turn.new.runner) (g.R.Runner.list c.give_up_serving.new.runner) k.1 t.1)
          refl refl refl (refl, record { answered = refl; waiting = refl; library = refl }) ([], [], refl, Appends-nil (g.K.Sink.held c.args.sink.now))
          (λ other. Appends-nil (g.K.Sink.held c.args.sink.now))
          (subst (λ (x : SessionState). IsEnd x statuses.Memory false) (sym (left-append p t.0 k.0)) (t.2 statuses.Memory false refl))),
    )

pub returns-in-None-clause-caused : goal.returns-in-None-clause-caused
returns-in-None-clause-caused g c =
    caused_none g.D.Disk.is_modelled g.J.Journal.files statuses.Memory
    (observation g.D.Disk g.K.Sink g.L.Library g.I.Inbox c.args.disk.now c.args.sink.now c.args.library.now c.args.inbox.now) memory_quiet
