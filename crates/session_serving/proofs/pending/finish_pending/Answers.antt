use Rattle.std.specs.Prelude.{[], None, is_some}
use Rattle.std.proofs.Common.{◌≡◌, ◌∙◌, inl, refl, ap, subst, arith}
use Rattle.nuc_base.specs.declared.status.Status.TheVariants as statuses
use Rattle.device.specs.Devices.{Device}
use Rattle.deploy_state.specs.States.{OwnsLoaded, idle_device, loaded_device}
use Rattle.deploy_state.specs.declared.state.Loaded.{Loaded}
use Rattle.step_runner.specs.Entries.{Listed}
use Rattle.components.specs.Components.{Components}
use Rattle.histories.specs.States.{SessionState, state_after}
use Rattle.law_serving.specs.Alike.{alone}
use Rattle.law_termination.proofs.Comes.{none_drives}
use Rattle.deploy_state.specs.Objects.{OwnsOver}
use Rattle.session.specs.Endings.{is_failing}
use Rattle.session.specs.Parts.{OwnsRan, status_of_ran}
use Rattle.session.specs.declared.ran.Ran.{Ran}
use Rattle.session.specs.declared.ran.Standing.TheVariants as standings
use Rattle.session.proofs.States.{orderly_none}
use Rattle.session.proofs.Resuming.{loaded_hand, loaded_idle, loaded_pending, loaded_stands}
use Rattle.session_serving.specs.Causes.{observation}
use Rattle.session_serving.specs.Parts.{outside}
use Rattle.session_serving.specs.States.{IsBegun}
use Rattle.session_serving.proofs.Causing.{caused_none, done_quiet, stays_same}
use Rattle.session_serving.proofs.Deploying.{ran_course, stays_ran}
use Rattle.session_serving.proofs.Finishing.{begun_alone, begun_deploys, begun_unopened, finish_left, unfinished}
use Rattle.session_serving.proofs.Held.{idle_stands, origin_of}
use Rattle.session_serving.proofs.Up.{begun_steady, none_run, none_up, up_ran}
use Rattle.session_serving.proofs.pending.finish_pending.Goals as goal

-- ---- nothing is pending

pub returns-in-Idle-clause-left : goal.returns-in-Idle-clause-left
returns-in-Idle-clause-left g c = λ p turns begun.
    let world = g.S.Supervise.world c.args.supervisor.now in
    let told = Listed g.R.Runner.list g.R.Runner.told g.R.Runner.asked c.args.runner.now in
    let living = g.R.Runner.living c.args.runner.now in
    let d = idle_device c.in-Idle.idle in
    let b = subst (λ (s : Loaded _). IsBegun p turns (loaded_device s) world told living) c.in-Idle.is begun in
    let none = loaded_idle g.D.Disk.is_modelled g.D.Disk.may_leave g.J.Journal.stands g.J.Journal.end c.args.state c.in-Idle.idle c.args.disk.now c.in-Idle.is
    c.requires.held in
    let own = subst (λ (s : Loaded _). (loaded_device s).pending ≡ None) c.in-Idle.is none in
    let stands = loaded_stands g.met.D.Disk.laws g.met.J.Journal.laws c.args.state c.args.disk.now c.requires.held p.device
    begun.stage.between.stands.device_is in
    let old = outside g.D.Disk g.K.Sink g.R.Runner g.L.Library g.I.Inbox c.args.disk.now c.args.sink.now c.args.runner.now c.args.library.now c.args.inbox.now
    in (
      [],
      unfinished g.D.Disk g.J.Journal g.met.D.Disk.laws old p stands
          (ap (λ (x : Device). x.pending) b.stage.between.stands.device_is ∙ own) c.in-Idle.idle statuses.Done standings.Nobody world told living
          (begun_unopened p turns d world told living b (orderly_none world c.requires.empty) own),
    )

pub returns-in-Idle-clause-stays : goal.returns-in-Idle-clause-stays
returns-in-Idle-clause-stays g c = ((λ is. cc), refl)

pub returns-in-Idle-clause-held : goal.returns-in-Idle-clause-held
returns-in-Idle-clause-held g c = subst (λ (s : Loaded _). OwnsOver g.D.Disk g.J.Journal OwnsLoaded s c.args.disk.now) c.in-Idle.is c.requires.held

pub returns-in-Idle-clause-up : goal.returns-in-Idle-clause-up
returns-in-Idle-clause-up g c =
    let q = c.requires.from_state in
    none_up q.0 (idle_device c.in-Idle.idle) (g.S.Supervise.world c.args.supervisor.now) c.requires.empty
    (begun_steady q.0 (loaded_device c.args.state) (g.S.Supervise.world c.args.supervisor.now)
    (Listed g.R.Runner.list g.R.Runner.told g.R.Runner.asked c.args.runner.now) (g.R.Runner.living c.args.runner.now) q.2.start q.2.stage.between.stands)

-- ---- a deployment is pending

pub resume-requires-clause-drives : goal.resume-requires-clause-drives
resume-requires-clause-drives g c = none_drives (g.S.Supervise.world c.args.supervisor.now) c.requires.empty

pub resume-requires-clause-orderly : goal.resume-requires-clause-orderly
resume-requires-clause-orderly g c = orderly_none (g.S.Supervise.world c.args.supervisor.now) c.requires.empty

pub resume-requires-clause-from_state : goal.resume-requires-clause-from_state
resume-requires-clause-from_state g c =
    let q = c.requires.from_state in
    let told = Listed g.R.Runner.list g.R.Runner.told g.R.Runner.asked c.args.runner.now in (
      alone q.0,
      begun_alone q.0 q.1 (loaded_device c.args.state) (g.S.Supervise.world c.args.supervisor.now) told (g.R.Runner.living c.args.runner.now) q.2,
    )

pub returns-in_default-clause-left : goal.returns-in_default-clause-left
returns-in_default-clause-left g c = λ p turns b.
    let d = loaded_device c.args.state in
    let world = g.S.Supervise.world c.args.supervisor.now in
    let told = Listed g.R.Runner.list g.R.Runner.told g.R.Runner.asked c.args.runner.now in
    let living = g.R.Runner.living c.args.runner.now in
    let later = g.S.Supervise.world c.resume.new.supervisor in
    let now = Listed g.R.Runner.list g.R.Runner.told g.R.Runner.asked c.resume.new.runner in
    let lives = g.R.Runner.living c.resume.new.runner in
    let r = c.resume.result in
    let some = loaded_pending g.D.Disk.is_modelled g.D.Disk.may_leave g.J.Journal.stands g.J.Journal.end c.args.state c.args.disk.now c.requires.held
    c.in_default.not-Idle in
    let stands = loaded_stands g.met.D.Disk.laws g.met.J.Journal.laws c.args.state c.args.disk.now c.requires.held p.device b.stage.between.stands.device_is in
    let t = c.resume.ensures.call (alone p) (begun_alone p turns d world told living b) (inl (refl, refl)) in
    let part = t.0 in
    let own_some = ap (λ (x : Device). is_some x.pending) b.stage.between.stands.device_is ∙ some in
    let alike = c.deployments_serve_alike.ensures p part.history (begun_deploys p turns d world told living b own_some) b.stage.over part.trace.proper
    part.trace.run
    (ran_course r (alone p) part.history (alone p).generation (is_failing part.ending) later now lives c.resume.ensures.ends_call part.quits part.left) in
    let old = outside g.D.Disk g.K.Sink g.R.Runner g.L.Library g.I.Inbox c.args.disk.now c.args.sink.now c.args.runner.now c.args.library.now c.args.inbox.now
    in
    let new = outside g.D.Disk g.K.Sink g.R.Runner g.L.Library g.I.Inbox c.resume.new.disk c.resume.new.sink c.resume.new.runner c.args.library.now
    c.args.inbox.now in (
      part.history,
      finish_left g.D.Disk g.J.Journal g.met.D.Disk.laws g.met.J.Journal.laws c.requires.apart c.requires.own old new p turns d world told living b some
          stands refl
          r later now lives c.resume.ensures.ends_call (c.resume.ensures.anew some) part alike t.1 t.3 t.2
          c.resume.ensures.quiet_disk
          (λ s status standing is. idle_stands g.D.Disk g.J.Journal g.met.D.Disk.laws g.met.J.Journal.laws s c.resume.new.disk
          (subst (λ (x : Ran _). OwnsOver g.D.Disk g.J.Journal OwnsRan x c.resume.new.disk) is c.resume.ensures.held) (idle_device s) refl),
    )

pub returns-in_default-clause-stays : goal.returns-in_default-clause-stays
returns-in_default-clause-stays g c =
    let q = c.requires.from_state in
    let p = q.0 in
    let told = Listed g.R.Runner.list g.R.Runner.told g.R.Runner.asked c.args.runner.now in
    let now = Listed g.R.Runner.list g.R.Runner.told g.R.Runner.asked c.resume.new.runner in
    let t = c.resume.ensures.call (alone p)
    (begun_alone p q.1 (loaded_device c.args.state) (g.S.Supervise.world c.args.supervisor.now) told (g.R.Runner.living c.args.runner.now) q.2)
    (inl (refl, refl)) in
    let part = t.0 in
    stays_ran c.resume.result (alone p).generation (is_failing part.ending) (state_after (alone p) part.history)
    (g.S.Supervise.world c.resume.new.supervisor) now (g.R.Runner.living c.resume.new.runner) part.left

pub returns-in_default-clause-up : goal.returns-in_default-clause-up
returns-in_default-clause-up g c =
    let q = c.requires.from_state in
    let p = q.0 in
    let b = q.2 in
    let d = loaded_device c.args.state in
    let world = g.S.Supervise.world c.args.supervisor.now in
    let told = Listed g.R.Runner.list g.R.Runner.told g.R.Runner.asked c.args.runner.now in
    let living = g.R.Runner.living c.args.runner.now in
    let later = g.S.Supervise.world c.resume.new.supervisor in
    let now = Listed g.R.Runner.list g.R.Runner.told g.R.Runner.asked c.resume.new.runner in
    let lives = g.R.Runner.living c.resume.new.runner in
    let t = c.resume.ensures.call (alone p) (begun_alone p q.1 d world told living b) (inl (refl, refl)) in
    let part = t.0 in
    let hand = loaded_hand g.D.Disk.is_modelled g.D.Disk.may_leave g.J.Journal.stands g.J.Journal.end c.args.state c.args.disk.now c.requires.held in
    let o = origin_of d.origin hand.1.origin in
    up_ran c.components_run_their_items.ensures c.idle_calls_are_steady.ensures (alone p) part.history o.0
    (ap (λ (x : Device). x.origin) b.stage.between.stands.device_is ∙ o.1) part.trace.proper part.trace.run
    (none_run o.0 p.world (ap (λ (w : Components). w.parts) b.stage.between.stands.world_is ∙ c.requires.empty))
    (λ is. ap (λ (x : SessionState). x.world.steady) b.start) c.resume.result (is_failing part.ending) (alone p).generation later
    now lives part.left c.resume.ensures.drives

-- ---- the counts of faults

pub returns-in-Idle-clause-caused : goal.returns-in-Idle-clause-caused
returns-in-Idle-clause-caused g c = caused_none g.D.Disk.is_modelled g.J.Journal.files statuses.Done
    (observation g.D.Disk g.K.Sink g.L.Library g.I.Inbox c.args.disk.now c.args.sink.now c.args.library.now c.args.inbox.now) done_quiet

pub returns-in_default-clause-caused : goal.returns-in_default-clause-caused
returns-in_default-clause-caused g c = record {
  disk = c.resume.ensures.disk;
  edge = λ is. inl (c.resume.ensures.edge is);
  quiet_edges = λ edge. (c.resume.ensures.quiet_sink edge, refl);
  later = (c.resume.ensures.later.0, c.resume.ensures.later.1, stays_same (g.I.Inbox.faults c.args.inbox.now));
  library_later = omega arith;
  others = c.resume.ensures.others;
}
