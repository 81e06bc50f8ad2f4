use Rattle.std.proofs.Common.{◌≡◌, ◌∙◌, List, ℕ, [], ◌∷◌, sym, ap, refl, subst}
use Rattle.std.specs.Prelude.{IfOk}
use Rattle.std.specs.Io.KnownBytes.{Appends}
use Rattle.edges.specs.Pieces.{AppendsPrefix}
use Rattle.deploy_state.proofs.Steps.{in_hand_stands}
use Rattle.deploy_state.specs.Accepting.{idle_log}
use Rattle.deploy_state.specs.Turning.{plan_bytes, start_of}
use Rattle.deploy_state.specs.States.{OwnsIdle, booting_device, idle_device}
use Rattle.device.specs.Devices.{Device}
use Rattle.device.specs.Lawful.{applied}
use Rattle.device.specs.Standing.{StandsFor}
use Rattle.records.specs.Stored.{Accepted, plan_view}
use Rattle.histories.specs.TraceEvents.{Recorded}
use Rattle.session_boots.specs.Lines.{accepted_line}
use Rattle.session_boots.proofs.Told.{stops_last}
use Rattle.session_admission.specs.Accepts.{AcceptAnswer, HasDiskFailed, HasTaken, OwnsTaken, IsFullAt, IsFullOrShort, IsTakenOf}
use Rattle.session_admission.proofs.Opening.{accept_went, disk_refusal, line_is, opened_by, refusal_back, refusal_disk, refusal_edge, refusal_fails, refusal_fills, refusal_full}
use Rattle.session_admission.proofs.Opening.{refusal_held, refusal_taken, sited_at, stopped_answer}
use Rattle.session_admission.proofs.accepting.accept_plan.Goals as goal

-- ---- it is accepted and acknowledged

pub returns-in-Ok-acknowledge-clause-trace : goal.returns-in-Ok-acknowledge-clause-trace
returns-in-Ok-acknowledge-clause-trace g c = λ taken p world told living opens.
    let d = idle_device c.args.idle in
    let plan = plan_view c.args.plan in (
      Recorded (Accepted plan) ∷ [],
      accept_went g.J.Journal.entries g.J.Journal.files g.met.D.Disk.laws c.args.disk.now c.accept.new.disk told.list p d world told living plan opens
          c.requires.lawful c.accept.ensures.moments,
      subst (λ (l : List ℕ). Appends (g.K.Sink.held c.args.sink.now) (g.K.Sink.held c.acknowledge.new.sink) l)
          (ap accepted_line c.in-Ok.ensures.receipt ∙ line_is p.device plan) c.in-Ok-acknowledge.ensures.line,
      opened_by p d (booting_device c.in-Ok.accepted.0) world told living plan opens c.in-Ok.ensures.taken,
      refl,
    )

-- ---- it is accepted, and the line is not written

pub returns-in-Err-acknowledge-clause-trace : goal.returns-in-Err-acknowledge-clause-trace
returns-in-Err-acknowledge-clause-trace g c = λ taken p world told living opens.
    let d = idle_device c.args.idle in
    let plan = plan_view c.args.plan in
    let e = booting_device c.in-Ok.accepted.0 in
    let back : e ≡ applied p.device (Accepted plan) = c.in-Ok.ensures.taken ∙ ap (λ (y : Device). applied y (Accepted plan)) (sym opens.stands.device_is) in (
      Recorded (Accepted plan) ∷ [],
      accept_went g.J.Journal.entries g.J.Journal.files g.met.D.Disk.laws c.args.disk.now c.accept.new.disk told.list p d world told living plan opens
          c.requires.lawful c.accept.ensures.moments,
      subst (λ (l : List ℕ). AppendsPrefix (g.K.Sink.held c.args.sink.now) (g.K.Sink.held c.acknowledge.new.sink) l)
          (ap accepted_line c.in-Ok.ensures.receipt ∙ line_is p.device plan) c.in-Err-acknowledge.ensures.line,
      (
        stops_last (Accepted plan),
        opens.boot_end,
        λ i left. subst (λ (y : Device). StandsFor g.J.Journal.entries i y) back
            (in_hand_stands g.met.D.Disk.laws g.met.J.Journal.laws _ c.accept.new.disk e c.in-Ok.ensures.held.0.0 i left),
      ),
      refl,
    )

-- ---- it is refused

pub returns-in-Err-clause-trace : goal.returns-in-Err-clause-trace
returns-in-Err-clause-trace g c = λ taken p world told living opens.
    stopped_answer g.J.Journal.entries g.J.Journal.files g.met.D.Disk.laws c.in-Err.refusal c.answer_to.result c.answer_to.ensures c.args.disk.now
    c.accept.new.disk (g.K.Sink.held c.args.sink.now) p
    (idle_device c.args.idle) world told living (plan_view c.args.plan) taken opens c.requires.lawful c.accept.ensures.moments

pub returns-in-Err-clause-taken : goal.returns-in-Err-clause-taken
returns-in-Err-clause-taken g c =
    subst (λ (r : AcceptAnswer _). IfOk r (IsTakenOf (idle_device c.args.idle) (plan_view c.args.plan))) (sym c.answer_to.ensures)
    (refusal_taken c.in-Err.refusal (λ s. OwnsIdle g.D.Disk.is_modelled g.D.Disk.may_leave g.J.Journal.stands g.J.Journal.end s c.accept.new.disk)
    (idle_device c.args.idle) (plan_view c.args.plan) c.in-Err.ensures.back)

pub returns-in-Err-clause-held : goal.returns-in-Err-clause-held
returns-in-Err-clause-held g c =
    subst (λ (r : AcceptAnswer _). IfOk r (λ x. OwnsTaken g.D.Disk.is_modelled g.D.Disk.may_leave g.J.Journal.stands g.J.Journal.end x c.accept.new.disk))
    (sym c.answer_to.ensures)
    (refusal_held g.D.Disk.is_modelled g.D.Disk.may_leave g.J.Journal.stands g.J.Journal.end c.in-Err.refusal c.accept.new.disk (idle_device c.args.idle)
    c.in-Err.ensures.back)

pub returns-in-Err-clause-full : goal.returns-in-Err-clause-full
returns-in-Err-clause-full g c = λ at is.
    c.in-Err.ensures.full at (refusal_full c.in-Err.refusal at (subst (λ (r : AcceptAnswer _). IsFullAt r at) c.answer_to.ensures is))

pub returns-in-Err-clause-fills : goal.returns-in-Err-clause-fills
returns-in-Err-clause-fills g c = λ far.
    let at = start_of g.J.Journal.end g.J.Journal.number g.J.Journal.turns (idle_log c.args.idle) (idle_device c.args.idle)
    (plan_bytes (plan_view c.args.plan)) in
    subst (λ (r : AcceptAnswer _). IsFullOrShort r at) (sym c.answer_to.ensures) (refusal_fills c.in-Err.refusal at (c.in-Err.ensures.fills far))

pub returns-in-Err-clause-disk : goal.returns-in-Err-clause-disk
returns-in-Err-clause-disk g c = λ failed.
    c.in-Err.ensures.cause (refusal_disk c.in-Err.refusal (subst HasDiskFailed c.answer_to.ensures failed))

pub returns-in-Err-clause-edge : goal.returns-in-Err-clause-edge
returns-in-Err-clause-edge g c = λ is. absurd (refusal_edge c.in-Err.refusal (sym c.answer_to.ensures ∙ is))

pub returns-in-Err-clause-quiet_disk : goal.returns-in-Err-clause-quiet_disk
returns-in-Err-clause-quiet_disk g c = λ other.
    c.in-Err.ensures.quiet (λ failed. other (subst HasDiskFailed (sym c.answer_to.ensures) (disk_refusal c.in-Err.refusal failed)))

pub returns-in-Err-clause-unmade : goal.returns-in-Err-clause-unmade
returns-in-Err-clause-unmade g c = λ given. c.in-Err.ensures.unmade
    (refusal_back c.in-Err.refusal (λ has. given (subst HasTaken (sym c.answer_to.ensures) has)))

-- ---- where its entry stands

pub returns-in-Ok-acknowledge-clause-site : goal.returns-in-Ok-acknowledge-clause-site
returns-in-Ok-acknowledge-clause-site g c = λ taken went image left.
    sited_at g.met.D.Disk.laws g.met.J.Journal.laws c.in-Ok.accepted.0 c.accept.new.disk (idle_device c.args.idle) (plan_view c.args.plan) _
    c.in-Ok.ensures.held c.in-Ok.ensures.taken c.in-Ok.ensures.end image left

pub returns-in-Err-acknowledge-clause-site : goal.returns-in-Err-acknowledge-clause-site
returns-in-Err-acknowledge-clause-site g c = λ taken went image left.
    sited_at g.met.D.Disk.laws g.met.J.Journal.laws c.in-Ok.accepted.0 c.accept.new.disk (idle_device c.args.idle) (plan_view c.args.plan) _
    c.in-Ok.ensures.held c.in-Ok.ensures.taken c.in-Ok.ensures.end image left

pub returns-in-Err-clause-site : goal.returns-in-Err-clause-site
returns-in-Err-clause-site g c = λ taken went image left.
    absurd (went (c.answer_to.ensures ∙ refusal_fails c.in-Err.refusal (subst HasTaken c.answer_to.ensures taken)))
