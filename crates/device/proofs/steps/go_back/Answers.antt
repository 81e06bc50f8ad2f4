use Rattle.std.proofs.Common.{◌≡◌, true, refl, map, subst, rules}
use Rattle.std.proofs.lemmas.Bool.{false≢true}
use Rattle.records.specs.Stored.{item_view}
use Rattle.device.specs.Backing.{TellBacks}
use Rattle.device.specs.Devices.{pending_view}
use Rattle.device.specs.Lawful.{failing_name}
use Rattle.device.proofs.Flags.{went_back, no_backs}
use Rattle.device.proofs.SoundStages.{is_there}
use Rattle.device.proofs.steps.go_back.Goals as goal

pub has_flag-requires : goal.has_flag-requires
has_flag-requires c = is_there (failing_name (pending_view c.args.pending.now)) c.args.name.now (c.if-not-may_break.ensures.0 refl).1

pub send_back-requires : goal.send_back-requires
send_back-requires c = is_there (failing_name (pending_view c.args.pending.now)) c.args.name.now (c.if-not-may_break.ensures.0 refl).1

pub returns-then-not-has_flag : goal.returns-then-not-has_flag
returns-then-not-has_flag c =
    let o = c.in-Some.origin in
    let set = map item_view c.args.set.now in
    let names = c.as_slice.result.now in
    let flags = c.tell_backs.new.flags in
    let here : c.in_ok-are_told.are_told ≡ true = search rules in
    let told = subst (TellBacks o.platform set names flags) here c.in_ok-are_told.ensures in (
      no_backs c.args.origin.now o set (pending_view c.args.pending.now) c.args.name.now flags names c.in-Some.is c.as_slice.ensures told
          (λ some. false≢true (c.if-not-has_flag.ensures.1 some)),
      refl,
    )

pub returns : goal.returns
returns c =
    let o = c.in-Some.origin in
    let set = map item_view c.args.set.now in
    let names = c.as_slice.result.now in
    let flags = c.tell_backs.new.flags in
    let here : c.in_ok-are_told.are_told ≡ true = search rules in
    let told = subst (TellBacks o.platform set names flags) here c.in_ok-are_told.ensures in
    went_back c.args.origin.now o set (pending_view c.args.pending.now) (pending_view c.send_back.new.pending) c.args.name.now flags names c.in-Some.is
    c.as_slice.ensures
    (c.if-not-may_break.ensures.0 refl) told (c.if-not-has_flag.ensures.0 refl) c.send_back.ensures
