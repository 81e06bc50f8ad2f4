use Rattle.std.proofs.Common.{inl, [], refl, arith}
use Rattle.device.specs.Devices.{no_device}
use Rattle.device.specs.Lawful.{applied}
use Rattle.device.proofs.OneDevice.{none_stands_for}
use Rattle.records.specs.Stored as stored
use Rattle.deploy_state.specs.Owned.{StandsForEither}
use Rattle.deploy_state.proofs.Meaning.{append_rose, of_entry}
use Rattle.deploy_state.proofs.Creating.{begins_store, first_means, first_short, begun_in_hand, one_first}
use Rattle.deploy_state.proofs.Within.{more_within, then_within}
use Rattle.deploy_state.proofs.create.make.Goals as goal

pub append-requires-clause-first : goal.append-requires-clause-first
append-requires-clause-first g c = λ is_modelled on. let first = c.requires.first in begins_store c.args.payload.now first.0 first.1

pub append-requires-clause-some : goal.append-requires-clause-some
append-requires-clause-some g c = let first = c.requires.first in (first_short c.args.payload.now first.0 first.1 first.2.1).0

pub append-requires-clause-fits : goal.append-requires-clause-fits
append-requires-clause-fits g c = let first = c.requires.first in (first_short c.args.payload.now first.0 first.1 first.2.1).1

pub returns-in_err-log-clause-moments : goal.returns-in_err-log-clause-moments
returns-in_err-log-clause-moments g c = λ o spelled.
    more_within g.met.D.Disk.laws g.J.Journal.files c.args.disk.now c.create.new.disk g.J.Journal.holds_none
    (StandsForEither g.J.Journal.entries no_device (applied no_device (stored.Genesis o)))
    (λ c none. inl (none_stands_for g.met.J.Journal.laws c none)) c.create.ensures.any_moment

pub returns-in-Ok-clause-moments : goal.returns-in-Ok-clause-moments
returns-in-Ok-clause-moments g c = λ o spelled.
    let first = c.requires.first in
    let new = applied no_device (stored.Genesis o) in
    then_within g.met.D.Disk.laws g.J.Journal.files c.args.disk.now c.create.new.disk c.append.new.disk g.J.Journal.holds_none
    (StandsForEither g.J.Journal.entries no_device new) (StandsForEither g.J.Journal.entries no_device new)
    c.create.ensures.any_moment
    (of_entry g.met.D.Disk.laws g.J.Journal.files g.J.Journal.entries c.create.new.disk c.append.new.disk [] c.args.payload.now no_device new
    (λ told. (inl refl, tt)) (λ told. (first_means c.args.payload.now o spelled (one_first c.args.payload.now first.0 o first.1 spelled first.2), tt))
    (c.append.ensures.any_moment [] c.in_ok-log.ensures.made.1))
    (λ c none. inl (none_stands_for g.met.J.Journal.laws c none)) (λ c either. either)

pub returns-in-Err-clause-moments : goal.returns-in-Err-clause-moments
returns-in-Err-clause-moments g c = λ o spelled.
    let first = c.requires.first in
    let new = applied no_device (stored.Genesis o) in
    then_within g.met.D.Disk.laws g.J.Journal.files c.args.disk.now c.create.new.disk c.append.new.disk g.J.Journal.holds_none
    (StandsForEither g.J.Journal.entries no_device new) (StandsForEither g.J.Journal.entries no_device new)
    c.create.ensures.any_moment
    (of_entry g.met.D.Disk.laws g.J.Journal.files g.J.Journal.entries c.create.new.disk c.append.new.disk [] c.args.payload.now no_device new
    (λ told. (inl refl, tt)) (λ told. (first_means c.args.payload.now o spelled (one_first c.args.payload.now first.0 o first.1 spelled first.2), tt))
    (c.append.ensures.any_moment [] c.in_ok-log.ensures.made.1))
    (λ c none. inl (none_stands_for g.met.J.Journal.laws c none)) (λ c either. either)

pub returns-in-Ok-clause-hand : goal.returns-in-Ok-clause-hand
returns-in-Ok-clause-hand g c = λ o spelled.
    let first = c.requires.first in
    begun_in_hand g.D.Disk.is_modelled g.D.Disk.may_leave g.J.Journal.stands g.J.Journal.end c.append.new.self c.append.new.disk c.args.payload.now o spelled
    (one_first c.args.payload.now first.0 o first.1 spelled first.2)
    (c.in-Ok.ensures.added [] c.in_ok-log.ensures.made.1)

pub returns-in-Err-clause-cause : goal.returns-in-Err-clause-cause
returns-in-Err-clause-cause g c =
    let first = c.requires.first in
    let short = first_short c.args.payload.now first.0 first.1 first.2.1 in
    record {
      later = omega (arith, c.create.ensures.cause.later, c.append.ensures.later);
      failed = append_rose (g.D.Disk.faults c.args.disk.now) (g.D.Disk.faults c.append.new.disk) c.in-Err.field-0
          (λ is. omega (arith, c.in-Err.ensures.cause is, c.create.ensures.cause.later))
          (λ end is. let full = (c.in-Err.ensures.full end).0 is in omega (arith, full.1, c.in_ok-log.ensures.made.0, short.1));
    }
