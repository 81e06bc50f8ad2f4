use Rattle.std.proofs.Common.{◌≡◌, ◌∙◌, List, ℕ, [], ◌∷◌, sym, ap, subst}
use Rattle.std.specs.Io.KnownBytes.{Appends}
use Rattle.edges.specs.Pieces.{AppendsPrefix}
use Rattle.records.specs.Stored as stored
use Rattle.device.specs.Devices.{Device}
use Rattle.device.specs.Lawful.{Allowed, applied}
use Rattle.device.specs.Standing.{StandsFor}
use Rattle.histories.specs.TraceEvents.{Recorded}
use Rattle.histories.specs.States.{state_after}
use Rattle.session_boots.specs.Same.{IsSameDeployment}
use Rattle.session_boots.proofs.Same.{same_counted}
use Rattle.session_boots.proofs.Told.{last_unprinted, stops_last}
use Rattle.session_startup.specs.Coming.{coming_device}
use Rattle.session_startup.proofs.Stages.{coming_stands, is_pending}
use Rattle.session_startup.proofs.Failed.{can_tell, within_told}
use Rattle.session_startup.proofs.Recorded.{fail_doubt, fail_runs, fail_went, line_failed, still_pends}
use Rattle.session_startup.proofs.Turning.{quits_of}
use Rattle.session_startup.proofs.failures.note_failure.Goals as goal

pub name-name-requires : goal.name-name-requires
name-name-requires g c =
    let q = c.requires.from_state in
    within_told q.0.world (g.S.Supervise.world c.args.supervisor.now) c.args.who c.args.step c.args.exit q.3.breaks q.3.owes q.3.world_is

pub failed-requires-clause-may : goal.failed-requires-clause-may
failed-requires-clause-may g c =
    let q = c.requires.from_state in
    let can = can_tell q.0.device q.0.world (g.S.Supervise.world c.args.supervisor.now) c.args.who c.args.step c.args.exit q.3.breaks c.name-name.result.now
    q.3.within.keeps q.3.owes q.3.world_is c.name-name.ensures in
    subst (λ (d : Device). Allowed d (stored.StepFailed c.name-name.result.now c.args.step c.args.exit)) q.4 can.allowed

pub tell_failed-requires : goal.tell_failed-requires
tell_failed-requires g c = still_pends (coming_device c.args.state) (coming_device c.in-Ok.next) c.name-name.result.now c.args.step c.args.exit
    (is_pending g.D.Disk.is_modelled g.D.Disk.may_leave g.J.Journal.stands g.J.Journal.end c.args.state c.args.disk.now c.requires.held) c.in-Ok.ensures.taken

pub returns-in-Ok-tell_failed-clause-trace : goal.returns-in-Ok-tell_failed-clause-trace
returns-in-Ok-tell_failed-clause-trace g c = λ p told living h device.
    let d = coming_device c.args.state in
    let e = coming_device c.in-Ok.next in
    let world = g.S.Supervise.world c.args.supervisor.now in
    let n = c.name-name.result.now in
    let r = stored.StepFailed n c.args.step c.args.exit in
    let can = can_tell p.device p.world world c.args.who c.args.step c.args.exit h.breaks n h.within.keeps h.owes h.world_is c.name-name.ensures in (
      Recorded r ∷ [],
      fail_went g.J.Journal.entries g.J.Journal.files g.met.D.Disk.laws c.args.disk.now c.failed.new.disk told.list p d c.args.who c.args.step c.args.exit n
          world told living device h can c.failed.ensures.moments,
      subst (λ (l : List ℕ). Appends (g.K.Sink.held c.args.sink.now) (g.K.Sink.held c.tell_failed.new.sink) l)
          (line_failed p d e n c.args.step c.args.exit device c.in-Ok.ensures.taken) c.in-Ok-tell_failed.ensures.line,
      (
        fail_runs c.driving_laws.ensures p c.args.who c.args.step c.args.exit n world told living h can,
        ap (λ (x : Device). applied x r) device ∙ sym c.in-Ok.ensures.taken,
      ),
      tt,
    )

pub returns-in-Ok-tell_failed-clause-deployment : goal.returns-in-Ok-tell_failed-clause-deployment
returns-in-Ok-tell_failed-clause-deployment g c =
    let d = coming_device c.args.state in
    subst (λ (e : Device). IsSameDeployment d e) (sym c.in-Ok.ensures.taken) (same_counted d c.name-name.result.now c.args.step c.args.exit)

pub returns-in-Err-tell_failed-clause-trace : goal.returns-in-Err-tell_failed-clause-trace
returns-in-Err-tell_failed-clause-trace g c = λ p told living h device.
    let d = coming_device c.args.state in
    let e = coming_device c.in-Ok.next in
    let world = g.S.Supervise.world c.args.supervisor.now in
    let n = c.name-name.result.now in
    let r = stored.StepFailed n c.args.step c.args.exit in
    let can = can_tell p.device p.world world c.args.who c.args.step c.args.exit h.breaks n h.within.keeps h.owes h.world_is c.name-name.ensures in
    let back : e ≡ applied p.device r = c.in-Ok.ensures.taken ∙ ap (λ (y : Device). applied y r) (sym device) in (
      Recorded r ∷ [],
      fail_went g.J.Journal.entries g.J.Journal.files g.met.D.Disk.laws c.args.disk.now c.failed.new.disk told.list p d c.args.who c.args.step c.args.exit n
          world told living device h can c.failed.ensures.moments,
      subst (λ (l : List ℕ). AppendsPrefix (g.K.Sink.held c.args.sink.now) (g.K.Sink.held c.tell_failed.new.sink) l)
          (line_failed p d e n c.args.step c.args.exit device c.in-Ok.ensures.taken) c.in-Err-tell_failed.ensures.line,
      (
        stops_last r,
        h.within.on.boot_end,
        λ i left. subst (λ (y : Device). StandsFor g.J.Journal.entries i y) back
            (coming_stands g.met.D.Disk.laws g.met.J.Journal.laws c.in-Ok.next c.failed.new.disk c.in-Ok.ensures.held i left),
      ),
      quits_of (state_after p (Recorded r ∷ [])) world told living (fail_runs c.driving_laws.ensures p c.args.who c.args.step c.args.exit n world told living
          h can),
    )

pub returns-in-Err-clause-trace : goal.returns-in-Err-clause-trace
returns-in-Err-clause-trace g c = λ p told living h device.
    let d = coming_device c.args.state in
    let world = g.S.Supervise.world c.args.supervisor.now in
    let n = c.name-name.result.now in
    let r = stored.StepFailed n c.args.step c.args.exit in
    let can = can_tell p.device p.world world c.args.who c.args.step c.args.exit h.breaks n h.within.keeps h.owes h.world_is c.name-name.ensures in (
      Recorded r ∷ [],
      fail_went g.J.Journal.entries g.J.Journal.files g.met.D.Disk.laws c.args.disk.now c.failed.new.disk told.list p d c.args.who c.args.step c.args.exit n
          world told living device h can c.failed.ensures.moments,
      last_unprinted (g.K.Sink.held c.args.sink.now) p.device r,
      fail_doubt g.J.Journal.entries g.J.Journal.files g.met.D.Disk.laws c.args.disk.now c.failed.new.disk p d c.args.who c.args.step c.args.exit n device can
          c.failed.ensures.moments,
      quits_of (state_after p (Recorded r ∷ [])) world told living (fail_runs c.driving_laws.ensures p c.args.who c.args.step c.args.exit n world told living
          h can),
    )
