use Rattle.std.proofs.Common.{◌≡◌, ◌≢◌, ◌⊎◌, ℕ, List, IsTrue, length, get_or, ◌∙◌, ap}
use Rattle.disk_model.specs.Moments.{then_same}
use Rattle.gate_log.proofs.Walk.{first_of}
use Rattle.checkpoint_log.proofs.Opened.{not_shut}
use Rattle.checkpoint_log.proofs.Turning.{shut_moments}
use Rattle.checkpoint_log.proofs.turn.shut_start.Goals as goal
use Rattle.checkpoint_log.proofs.turn.shut_start.Goals.{else-n-eq1-via-then-n-eq1+else-first-eq0, else-n-eq1-via-else-n-eq1}

pub returns-then-first-eq0-clause-shut : goal.returns-then-first-eq0-clause-shut
returns-then-first-eq0-clause-shut g c told =
    let read = c.in_ok-n.ensures.told told in
    let is = first_of (g.D.Disk.seen c.sync.new.self c.args.file.now) c.read.new.into _ c.in_ok-n.n read.0 c.if-n-eq1.true read.1 c.if-first-eq0.true in
    (is.0, ap (λ (i : List ℕ → List ℕ). i c.args.file.now) c.read.ensures.seen ∙ is.1)

pub returns-in_err-write_at-clause-moments : goal.returns-in_err-write_at-clause-moments
returns-in_err-write_at-clause-moments g c =
    let file = g.D.Disk.seen c.sync.new.self c.args.file.now in
    let some : IsTrue g.D.Disk.is_modelled → (get_or file 0 0 ≢ 0) ⊎ (length file ≡ 0) = λ told.
    let read = c.in_ok-n.ensures.told told in
    not_shut file c.read.new.into _ c.in_ok-n.n read.0 read.1
    (elim c.else-n-eq1.branch [
      | else-n-eq1-via-then-n-eq1+else-first-eq0 w ↦ λ one shut. w.if-first-eq0.false shut
      | else-n-eq1-via-else-n-eq1 w ↦ λ one shut. w.if-n-eq1.false one
    ]) in
    shut_moments g.met.D.Disk.laws c.args.file.now c.args.disk.now c.sync.new.self c.read.new.self c.write_at.new.self c.sync.ensures.moments
    c.in_ok-sync.ensures.durable c.read.ensures.moments c.write_at.ensures.moments some

pub returns-clause-moments : goal.returns-clause-moments
returns-clause-moments g c =
    let file = g.D.Disk.seen c.sync.new.self c.args.file.now in
    let some : IsTrue g.D.Disk.is_modelled → (get_or file 0 0 ≢ 0) ⊎ (length file ≡ 0) = λ told.
    let read = c.in_ok-n.ensures.told told in
    not_shut file c.read.new.into _ c.in_ok-n.n read.0 read.1
    (elim c.else-n-eq1.branch [
      | else-n-eq1-via-then-n-eq1+else-first-eq0 w ↦ λ one shut. w.if-first-eq0.false shut
      | else-n-eq1-via-else-n-eq1 w ↦ λ one shut. w.if-n-eq1.false one
    ]) in
    then_same g.met.D.Disk.laws c.args.disk.now c.write_at.new.self c.sync-2.new.self _
    (shut_moments g.met.D.Disk.laws c.args.file.now c.args.disk.now c.sync.new.self c.read.new.self c.write_at.new.self c.sync.ensures.moments
    c.in_ok-sync.ensures.durable c.read.ensures.moments c.write_at.ensures.moments some)
    c.sync-2.ensures.moments
