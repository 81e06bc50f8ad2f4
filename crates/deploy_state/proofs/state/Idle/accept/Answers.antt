use Rattle.std.proofs.Common.{◌≡◌, ◌∙◌, ◌+◌, ◌*◌, ◌≤◌, inl, ℕ, max, ap, length, sym, subst, arith}
use Rattle.records.specs.Layout.{Spelled}
use Rattle.records.specs.Stored as stored
use Rattle.records.specs.Stored.{plan_view}
use Rattle.device.specs.Lawful.{applied}
use Rattle.device.specs.Standing.{StandsFor}
use Rattle.deploy_state.specs.Accepting.{booting_log, idle_log}
use Rattle.deploy_state.specs.Owned.{StandsForEither}
use Rattle.deploy_state.specs.States.{idle_device}
use Rattle.deploy_state.specs.Turning.{can_turn, next_front, plan_bytes, starts_at}
use Rattle.deploy_state.proofs.Accepted.{plan_short}
use Rattle.deploy_state.proofs.Siting.{ok_within, stays_bounded}
use Rattle.deploy_state.proofs.Steps.{in_hand_stands}
use Rattle.deploy_state.proofs.Within.{start_within}
use Rattle.deploy_state.proofs.state.Idle.accept.Goals as goal

pub returns-in_default-clause-moments : goal.returns-in_default-clause-moments
returns-in_default-clause-moments g c =
    let d = idle_device c.args.self in
    start_within g.met.D.Disk.laws g.J.Journal.files c.args.disk.now
    (StandsForEither g.J.Journal.entries d (applied d (stored.Accepted (plan_view c.args.plan))))
    (λ image left. inl (in_hand_stands g.met.D.Disk.laws g.met.J.Journal.laws c.args.self.log c.args.disk.now d c.requires.held.0 image left))

pub site_of-requires-clause-small : goal.site_of-requires-clause-small
site_of-requires-clause-small g c =
    let long = c.len-size.ensures in
    let short = plan_short (idle_device c.args.self) c.in-Ok.kit.payload (plan_view c.args.plan) c.requires.lawful c.in-Ok.ensures.payload in
    omega (arith, long, short)

pub returns-in_default-site_of-clause-moments : goal.returns-in_default-site_of-clause-moments
returns-in_default-site_of-clause-moments g c =
    let d = idle_device c.args.self in
    start_within g.met.D.Disk.laws g.J.Journal.files c.args.disk.now
    (StandsForEither g.J.Journal.entries d (applied d (stored.Accepted (plan_view c.args.plan))))
    (λ image left. inl (in_hand_stands g.met.D.Disk.laws g.met.J.Journal.laws c.args.self.log c.args.disk.now d c.requires.held.0 image left))

pub returns-then-saturating_add-gt-MOST_FILE-clause-moments : goal.returns-then-saturating_add-gt-MOST_FILE-clause-moments
returns-then-saturating_add-gt-MOST_FILE-clause-moments g c =
    let d = idle_device c.args.self in
    start_within g.met.D.Disk.laws g.J.Journal.files c.args.disk.now
    (StandsForEither g.J.Journal.entries d (applied d (stored.Accepted (plan_view c.args.plan))))
    (λ image left. inl (in_hand_stands g.met.D.Disk.laws g.met.J.Journal.laws c.args.self.log c.args.disk.now d c.requires.held.0 image left))

pub enter_at-requires-clause-payload : goal.enter_at-requires-clause-payload
enter_at-requires-clause-payload g c = subst (λ x. Spelled c.in-Ok.kit.payload (stored.Accepted (plan_view x))) (sym c.in-Ok.ensures.plan)
    c.in-Ok.ensures.payload

pub returns-clause-bound : goal.returns-clause-bound
returns-clause-bound g c = λ can.
    let log = idle_log c.args.self in
    let d = idle_device c.args.self in
    let turns = can_turn (g.J.Journal.turns log) (g.J.Journal.number log) in
    let end = g.J.Journal.end log in
    let front = next_front g.J.Journal.number log d in
    let size = plan_bytes (plan_view c.args.plan) in
    let same = ap length c.in-Ok.ensures.payload.same in
    let start : c.in-Ok-site_of.site.start ≡ starts_at turns end front size =
    c.in-Ok-site_of.ensures.start ∙ ap (λ (n : ℕ). starts_at turns end front n) (c.len-size.ensures ∙ same) in
    let most = stays_bounded turns end front size can in
    let within : c.in-Ok-site_of.site.start + 5 + length c.in-Ok.kit.payload ≤ max (2 * front + 1048576) (front + 6 + size) =
    omega (arith, start, same, most) in
    ok_within c.enter_at.result (λ r. g.J.Journal.end (booting_log r.0)) (c.in-Ok-site_of.site.start + 5 + length c.in-Ok.kit.payload)
    (max (2 * front + 1048576) (front + 6 + size)) c.enter_at.ensures.end within

pub returns-in_default-clause-unmade : goal.returns-in_default-clause-unmade
returns-in_default-clause-unmade g c = λ back.
    let d = idle_device c.args.self in
    start_within g.met.D.Disk.laws g.J.Journal.files c.args.disk.now (λ image. StandsFor g.J.Journal.entries image d)
    (λ image left. in_hand_stands g.met.D.Disk.laws g.met.J.Journal.laws c.args.self.log c.args.disk.now d c.requires.held.0 image left)

pub returns-in_default-site_of-clause-unmade : goal.returns-in_default-site_of-clause-unmade
returns-in_default-site_of-clause-unmade g c = λ back.
    let d = idle_device c.args.self in
    start_within g.met.D.Disk.laws g.J.Journal.files c.args.disk.now (λ image. StandsFor g.J.Journal.entries image d)
    (λ image left. in_hand_stands g.met.D.Disk.laws g.met.J.Journal.laws c.args.self.log c.args.disk.now d c.requires.held.0 image left)

pub returns-then-saturating_add-gt-MOST_FILE-clause-unmade : goal.returns-then-saturating_add-gt-MOST_FILE-clause-unmade
returns-then-saturating_add-gt-MOST_FILE-clause-unmade g c = λ back.
    let d = idle_device c.args.self in
    start_within g.met.D.Disk.laws g.J.Journal.files c.args.disk.now (λ image. StandsFor g.J.Journal.entries image d)
    (λ image left. in_hand_stands g.met.D.Disk.laws g.met.J.Journal.laws c.args.self.log c.args.disk.now d c.requires.held.0 image left)
