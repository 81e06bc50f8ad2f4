use Rattle.std.proofs.Common.{◌≡◌, ◌+◌, ℕ, ◌++◌, length, min, take, drop, ◌∙◌, ap, subst, arith}
use Rattle.std.proofs.lemmas.List.{take_at}
use Rattle.disk_model.specs.Disk.{Image}
use Rattle.disk_model.specs.Moments.{then_same}
use Rattle.gate_log.specs.Entries.{entry}
use Rattle.gate_log.proofs.Walk.{entry_size, entry_body}
use Rattle.gate_log.proofs.log.Log.entry_in.Goals as goal

pub returns-clause-moments : goal.returns-clause-moments
returns-clause-moments g c =
    then_same g.met.D.Disk.laws c.args.disk.now c.read.new.self c.read-2.new.self (g.D.Disk.may_leave c.args.disk.now) c.read.ensures.moments
    c.read-2.ensures.moments

pub returns-clause-told : goal.returns-clause-told
returns-clause-told g c told e place =
    let file = g.D.Disk.seen c.args.disk.now c.args.file.now in
    let first = c.in_ok-_read.ensures.told told in
    let read : c.length_in.result ≡ length e.1 =
    c.length_in.ensures.value ∙ entry_size (drop c.args.at file) c.read.new.into _ c.in_ok-_read._read e place.more place.good place.file_is first.0 first.1 in
    let size : c.allowed-len.result ≡ length e.1 = c.allowed-len.ensures.same (omega (arith, read, place.good.fits)) ∙ read in
    let room : length c.deref_mut.result.now ≡ length e.1 = omega (arith, size, c.deref_mut.ensures.len, c.in_ok-payload.ensures.len) in
    let mid = g.D.Disk.seen c.read.new.self c.args.file.now in
    let there : drop c.args.at mid ≡ entry e ++ place.more = ap (λ (i : Image). drop c.args.at (i c.args.file.now)) c.read.ensures.seen ∙ place.file_is in
    let behind : c.saturating_add.result ≡ c.args.at + 5 = omega (arith, place.within) in
    let second = subst
    (λ (k : ℕ). (c.in_ok-_filled._filled ≡ min (length c.deref_mut.result.now) (length (drop k mid)))
    × (c.read-2.new.into ≡ take c.in_ok-_filled._filled (drop k mid) ++ drop c.in_ok-_filled._filled c.deref_mut.result.now))
    behind (c.in_ok-_filled.ensures.told told) in
    let body : c.read-2.new.into ≡ e.1 = entry_body mid c.args.at c.in_ok-_filled._filled c.deref_mut.result.now c.read-2.new.into e place.more there room
    second.0 second.1 in
    let len : length c.read-2.new.into ≡ c.in_ok-payload.payload.len = omega (arith, ap length body, size, c.in_ok-payload.ensures.len) in
    (c.new.ensures ∙ take_at c.read-2.new.into _ c.in_ok-payload.payload.len len ∙ body, omega (arith, size, place.within))
