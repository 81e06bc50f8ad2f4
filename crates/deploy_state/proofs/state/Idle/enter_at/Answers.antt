use Rattle.std.proofs.Common.{◌∙◌, inl, length, refl, sym, arith}
use Rattle.records.specs.Stored as stored
use Rattle.records.specs.Stored.{plan_view}
use Rattle.device.specs.Lawful.{applied}
use Rattle.device.specs.Standing.{StandsFor}
use Rattle.deploy_state.specs.Owned.{StandsForEither}
use Rattle.deploy_state.specs.States.{idle_device}
use Rattle.deploy_state.specs.Turning.{can_turn, next_front}
use Rattle.deploy_state.proofs.Handing.{hand_on}
use Rattle.deploy_state.proofs.Meaning.{of_payloads}
use Rattle.deploy_state.proofs.Siting.{staying_start}
use Rattle.deploy_state.proofs.Within.{more_within, then_within}
use Rattle.deploy_state.proofs.state.Idle.enter_at.Goals as goal

pub reserve-requires : goal.reserve-requires
reserve-requires g c = record { «open» = (c.requires.held.0.payloads, c.requires.held.0.behind) }

pub enter-requires-clause-held : goal.enter-requires-clause-held
enter-requires-clause-held g c = (
  hand_on g.D.Disk.is_modelled g.D.Disk.may_leave g.J.Journal.stands g.J.Journal.end c.args.self.log c.args.disk.now c.reserve.new.disk
      (idle_device c.args.self) c.requires.held.0 (c.reserve.ensures.stays c.requires.held.0.payloads c.requires.held.0.behind),
  c.requires.held.1,
)

pub returns-in_default-clause-unmade : goal.returns-in_default-clause-unmade
returns-in_default-clause-unmade g c = λ back.
    let h = c.requires.held.0 in
    of_payloads g.met.D.Disk.laws g.J.Journal.files g.J.Journal.entries c.args.disk.now c.reserve.new.disk h.payloads (idle_device c.args.self) h.means
    (c.reserve.ensures.any_moment h.payloads h.behind)

pub returns-in_default-clause-moments : goal.returns-in_default-clause-moments
returns-in_default-clause-moments g c =
    let h = c.requires.held.0 in
    let d = idle_device c.args.self in
    let e = applied d (stored.Accepted (plan_view c.args.kit.plan)) in
    more_within g.met.D.Disk.laws g.J.Journal.files c.args.disk.now c.reserve.new.disk (λ i. StandsFor g.J.Journal.entries i d)
    (StandsForEither g.J.Journal.entries d e) (λ i stands. inl stands)
    (of_payloads g.met.D.Disk.laws g.J.Journal.files g.J.Journal.entries c.args.disk.now c.reserve.new.disk h.payloads d h.means
    (c.reserve.ensures.any_moment h.payloads h.behind))

pub returns-in_default-clause-back : goal.returns-in_default-clause-back
returns-in_default-clause-back g c = (
  (
    hand_on g.D.Disk.is_modelled g.D.Disk.may_leave g.J.Journal.stands g.J.Journal.end c.args.self.log c.args.disk.now c.reserve.new.disk
        (idle_device c.args.self) c.requires.held.0 (c.reserve.ensures.stays c.requires.held.0.payloads c.requires.held.0.behind),
    c.requires.held.1,
  ),
  refl,
)

pub returns-in-Ok-enter-clause-moments : goal.returns-in-Ok-enter-clause-moments
returns-in-Ok-enter-clause-moments g c =
    let h = c.requires.held.0 in
    let d = idle_device c.args.self in
    let e = applied d (stored.Accepted (plan_view c.args.kit.plan)) in
    let entries = g.J.Journal.entries in
    then_within g.met.D.Disk.laws g.J.Journal.files c.args.disk.now c.reserve.new.disk c.enter.new.disk (λ i. StandsFor entries i d)
    (StandsForEither entries d e) (StandsForEither entries d e)
    (of_payloads g.met.D.Disk.laws g.J.Journal.files entries c.args.disk.now c.reserve.new.disk h.payloads d h.means
    (c.reserve.ensures.any_moment h.payloads h.behind))
    c.enter.ensures.moments (λ i stands. inl stands) (λ i either. either)

pub returns-in-Err-clause-moments : goal.returns-in-Err-clause-moments
returns-in-Err-clause-moments g c =
    let h = c.requires.held.0 in
    let d = idle_device c.args.self in
    let e = applied d (stored.Accepted (plan_view c.args.kit.plan)) in
    let entries = g.J.Journal.entries in
    then_within g.met.D.Disk.laws g.J.Journal.files c.args.disk.now c.reserve.new.disk c.enter.new.disk (λ i. StandsFor entries i d)
    (StandsForEither entries d e) (StandsForEither entries d e)
    (of_payloads g.met.D.Disk.laws g.J.Journal.files entries c.args.disk.now c.reserve.new.disk h.payloads d h.means
    (c.reserve.ensures.any_moment h.payloads h.behind))
    c.enter.ensures.moments (λ i stands. inl stands) (λ i either. either)

pub returns-in-Ok-enter-clause-ready : goal.returns-in-Ok-enter-clause-ready
returns-in-Ok-enter-clause-ready g c = λ told.
    let log = c.args.self.log in
    let d = idle_device c.args.self in
    let turns = can_turn (g.J.Journal.turns log) (g.J.Journal.number log) in
    let front = next_front g.J.Journal.number log d in
    let start = c.requires.start
    ∙ staying_start turns (g.J.Journal.end log) front (length c.args.kit.payload) (sym c.requires.turns ∙ c.if-site.false) in
    c.in-Ok-enter.ensures.ready (λ t. let room = c.in-Ok.ensures.room t in omega (arith, room, start, c.len.ensures)) told
