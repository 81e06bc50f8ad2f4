use Rattle.std.proofs.Common.{◌≡◌, ◌≤◌, ℕ, List, ◌+◌, length, ap, subst, arith}
use Rattle.std.proofs.lemmas.Result.{on_ok_weaker}
use Rattle.disk_model.specs.Disk.{IsPutAt, Step}
use Rattle.gate_log.proofs.Writes.{put_longer}
use Rattle.checkpoint_log.proofs.Opened.{put_long, head_long, entry_on}
use Rattle.checkpoint_log.proofs.Turning.{keeps_more}
use Rattle.checkpoint_log.proofs.turn.put_behind.Goals as goal

pub write_at-requires : goal.write_at-requires
write_at-requires g c told =
    let put = c.requires.there told in
    omega (arith, put_long _ _ c.args.end put.0 (c.in_ok-gate_behind.ensures.written told put.0 put.1))

pub write_at-requires-2 : goal.write_at-requires-2
write_at-requires-2 g c told =
    let put = c.requires.there told in
    head_long _ _ _ c.args.end put.0 (ap length c.to_be_bytes.ensures) (c.in_ok-gate_behind.ensures.written told put.0 put.1)
    (c.in_ok-write_at.ensures.told told).here

pub returns-in_err-write_at-clause-moments : goal.returns-in_err-write_at-clause-moments
returns-in_err-write_at-clause-moments g c =
    keeps_more g.met.D.Disk.laws c.args.file.now c.args.disk.now c.gate_behind.new.disk c.write_at.new.self (c.args.end + 1) _ (λ told. omega arith)
    c.gate_behind.ensures.moments c.write_at.ensures.moments

pub returns-clause-moments : goal.returns-clause-moments
returns-clause-moments g c =
    keeps_more g.met.D.Disk.laws c.args.file.now c.args.disk.now c.write_at.new.self c.write_at-2.new.self (c.args.end + 5) _ (λ told. omega arith)
    (keeps_more g.met.D.Disk.laws c.args.file.now c.args.disk.now c.gate_behind.new.disk c.write_at.new.self (c.args.end + 1) _ (λ told. omega arith)
    c.gate_behind.ensures.moments c.write_at.ensures.moments)
    c.write_at-2.ensures.moments

pub returns-clause-written : goal.returns-clause-written
returns-clause-written g c told payloads put =
    let head = (subst (λ (h : List ℕ). Step c.args.file.now (IsPutAt (c.args.end + 1) h) (g.D.Disk.seen c.gate_behind.new.disk)
    (g.D.Disk.seen c.write_at.new.self)) c.to_be_bytes.ensures (c.in_ok-write_at.ensures.told told)).here in
    on_ok_weaker c.write_at-2.result
    (λ body. entry_on _ _ _ c.args.end payloads c.args.payload.now c.requires.some c.requires.fits (c.in_ok-gate_behind.ensures.written told payloads put)
    head body)
    (c.write_at-2.ensures.told told).here

head_longer : (at : ℕ) (head bytes a b : List ℕ) → head ≡ bytes → IsPutAt at head a b → length a ≤ length b
head_longer at head bytes a b is put = put_longer at head a b put

pub returns-clause-longer : goal.returns-clause-longer
returns-clause-longer g c told =
    let file = c.args.file.now in
    let mid = g.D.Disk.seen c.gate_behind.new.disk file in
    let one = g.D.Disk.seen c.write_at.new.self file in
    let two = g.D.Disk.seen c.write_at-2.new.self file in
    let gate = c.in_ok-gate_behind.ensures.longer told in
    let head = head_longer (c.args.end + 1) _ _ mid one c.to_be_bytes.ensures (c.in_ok-write_at.ensures.told told).here in
    on_ok_weaker c.write_at-2.result (λ body. omega (arith, gate, head, put_longer (c.args.end + 5) c.args.payload.now one two body))
    (c.write_at-2.ensures.told told).here
