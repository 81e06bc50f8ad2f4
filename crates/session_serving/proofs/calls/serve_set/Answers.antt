use Rattle.std.specs.Prelude.{[], false}
use Rattle.std.proofs.Common.{◌++◌, refl, sym, subst, ◌∙◌, arith}
use Rattle.std.proofs.KnownBytes.{Appends-nil}
use Rattle.std.proofs.lemmas.Bool.{false≢true}
use Rattle.nuc_base.specs.declared.status.Status.TheVariants as statuses
use Rattle.deploy_state.specs.States.{idle_device}
use Rattle.step_runner.specs.Entries.{Listed}
use Rattle.components.specs.Components.{Components}
use Rattle.histories.specs.States.{state_after}
use Rattle.session.specs.Parts.{IsReturned}
use Rattle.session_serving.specs.Causes.{observation}
use Rattle.session_serving.specs.Documents.{IsDeployedThere}
use Rattle.session_serving.specs.Parts.{outside}
use Rattle.session_serving.specs.Rounds.{WantOfMemory}
use Rattle.session_serving.proofs.Causing.{caused_none, memory_quiet}
use Rattle.session_serving.proofs.Ending.{ended, served_behind}
use Rattle.session_serving.proofs.Held.{idle_stands}
use Rattle.session_serving.proofs.Joining.{goes_acts, stands_acts, sure_acts, turns_none}
use Rattle.session_serving.proofs.Turning.{never_memory}
use Rattle.session_serving.proofs.calls.serve_set.Goals as goal

pub open_set-requires-clause-from_state : goal.open_set-requires-clause-from_state
open_set-requires-clause-from_state g c =
    let q = c.requires.from_state in
    (q.0, Listed g.R.Runner.list g.R.Runner.told g.R.Runner.asked c.args.runner.now, g.R.Runner.living c.args.runner.now, q.1)

-- ---- it is there

pub serve_turns-requires-clause-up : goal.serve_turns-requires-clause-up
serve_turns-requires-clause-up g c = c.in-Ok.ensures.up

pub serve_turns-requires-clause-from_state : goal.serve_turns-requires-clause-from_state
serve_turns-requires-clause-from_state g c =
    let q = c.requires.from_state in
    let told = Listed g.R.Runner.list g.R.Runner.told g.R.Runner.asked c.args.runner.now in
    let t = c.in-Ok.ensures.trace q.0 told (g.R.Runner.living c.args.runner.now) q.1 in
    (state_after q.0 t.0, t.2, t.3 ∙ q.2)

pub returns-in-Ok-clause-served : goal.returns-in-Ok-clause-served
returns-in-Ok-clause-served g c = λ p un turns.
    let told = Listed g.R.Runner.list g.R.Runner.told g.R.Runner.asked c.args.runner.now in
    let old = outside g.D.Disk g.K.Sink g.R.Runner g.L.Library g.I.Inbox c.args.disk.now c.args.sink.now c.args.runner.now c.args.library.now c.args.inbox.now
    in
    let new = outside g.D.Disk g.K.Sink g.R.Runner g.L.Library g.I.Inbox c.serve_turns.new.disk c.serve_turns.new.sink c.serve_turns.new.runner
    c.serve_turns.new.library c.serve_turns.new.inbox in
    let t = c.in-Ok.ensures.trace p told (g.R.Runner.living c.args.runner.now) un in
    let s = c.serve_turns.ensures.served (state_after p t.0) t.2 (t.3 ∙ turns) in
    let stands = idle_stands g.D.Disk g.J.Journal g.met.D.Disk.laws g.met.J.Journal.laws c.args.idle c.args.disk.now c.requires.held p.device
    un.returned.stands.device_is in
    (s.0 ++ t.0, served_behind g.D.Disk g.J.Journal g.met.D.Disk.laws IsDeployedThere c.args.turns old new p t.0 s.0 c.serve_turns.result stands t.1 t.3 s.1)

-- ---- there is no memory

pub give_up-requires : goal.give_up-requires
give_up-requires g c =
    let q = c.requires.from_state in
    let d = idle_device c.args.idle in
    let told = Listed g.R.Runner.list g.R.Runner.told g.R.Runner.asked c.args.runner.now in
    record {
      from_state = (q.0, d, subst (λ (w : Components). IsReturned q.0 d w told (g.R.Runner.living c.args.runner.now)) (sym c.in-Err.ensures.same) q.1.returned);
    }

pub returns-in-Err-clause-served : goal.returns-in-Err-clause-served
returns-in-Err-clause-served g c = λ p un turns.
    let d = idle_device c.args.idle in
    let told = Listed g.R.Runner.list g.R.Runner.told g.R.Runner.asked c.args.runner.now in
    let a = g.R.Runner.list c.args.runner.now in
    let b = g.R.Runner.list c.give_up.new.runner in
    let held = g.K.Sink.held c.args.sink.now in
    let disk = c.args.disk.now in
    let old = outside g.D.Disk g.K.Sink g.R.Runner g.L.Library g.I.Inbox c.args.disk.now c.args.sink.now c.args.runner.now c.args.library.now c.args.inbox.now
    in
    let new = outside g.D.Disk g.K.Sink g.R.Runner g.L.Library g.I.Inbox c.args.disk.now c.args.sink.now c.give_up.new.runner c.args.library.now
    c.args.inbox.now in
    let stands = idle_stands g.D.Disk g.J.Journal g.met.D.Disk.laws g.met.J.Journal.laws c.args.idle disk c.requires.held p.device
    un.returned.stands.device_is in
    let k = c.give_up.ensures.trace p d
    (subst (λ (w : Components). IsReturned p d w told (g.R.Runner.living c.args.runner.now)) (sym c.in-Err.ensures.same) un.returned) in (
      k.0 ++ [],
      ended g.D.Disk g.J.Journal g.met.D.Disk.laws IsDeployedThere c.args.turns old old new p [] k.0 [] WantOfMemory statuses.Memory false []
          (turns_none g.D.Disk g.J.Journal g.met.D.Disk.laws IsDeployedThere old p stands) (omega arith)
          (goes_acts g.D.Disk g.J.Journal g.met.D.Disk.laws disk a b p k.0 stands k.1) (sure_acts g.D.Disk g.J.Journal g.met.D.Disk.laws disk a b p k.0 stands
          k.1)
          k.1.none (refl, record { answered = refl; waiting = refl; library = refl }) ([], [], refl, Appends-nil held)
          (λ other. Appends-nil held) (λ is. cc) refl
          (λ none. stands_acts g.D.Disk g.J.Journal g.met.D.Disk.laws disk a b p k.0 stands k.1) tt (λ is. absurd (never_memory is)) (λ disk edge. refl)
          (λ on. absurd (false≢true on))
          (k.2 statuses.Memory false refl),
    )

pub returns-in-Err-clause-caused : goal.returns-in-Err-clause-caused
returns-in-Err-clause-caused g c =
    caused_none g.D.Disk.is_modelled g.J.Journal.files statuses.Memory
    (observation g.D.Disk g.K.Sink g.L.Library g.I.Inbox c.args.disk.now c.args.sink.now c.args.library.now c.args.inbox.now) memory_quiet
