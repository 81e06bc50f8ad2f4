use Rattle.std.proofs.Common.{◌≡◌, ◌≤◌, ◌+◌, ℕ, Bool, IsTrue, List, [], ◌∷◌, ◌++◌, inl, inr, take, length, refl, sym, ◌∙◌, ap, subst, arith, length-append}
use Rattle.std.specs.Int.{w32, to_be_bytes}
use Rattle.disk_model.specs.Disk.{Image, Step, Torn, IsAfter, Settled, HasLeft, DiskLaws}
use Rattle.disk_model.specs.Moments.{step_as, then_step, tells_of}
use Rattle.gate_log.specs.Entries.{most_payload, joined, ClosedAt, HasEntries}
use Rattle.gate_log.specs.Journal.{IsChangeIn, IsBehind, BeforeOrAfter, files_of, entries_in, stands_in, reads_behind}
use Rattle.gate_log.specs.declared.log.Log.{Log}
use Rattle.gate_log.proofs.Gates.{has_gate, kept, staged_is, torn_gate, opened}
use Rattle.gate_log.proofs.Whole.{as_within}
use Rattle.gate_log.proofs.log.Log.append_in.Goals as goal

all_closed : (images : Image → Type 0) (file bytes : List ℕ) (place : ℕ) (payloads : List (List ℕ)) → Settled images file bytes →
    ClosedAt bytes place payloads → (i : Image) → images i → ClosedAt (i file) place payloads
all_closed images file bytes place payloads settled closed i left = subst (λ (l : List ℕ). ClosedAt l place payloads) (sym (settled i left)) closed

reaches : (file prefix rest : List ℕ) (end : ℕ) → file ≡ prefix ++ 0 ∷ rest → end ≡ length prefix → end ≤ length file
reaches file prefix rest end is end_is = omega (arith, ap length is, length-append prefix (0 ∷ rest), end_is)

-- an entry is staged behind the closed gate, stable, and the gate is opened: the moments of both
opened_moments : {D : Type 0} {is_modelled : Bool} {seen : D → Image} {may_leave : D → Image → Type 0} {moment : D → ℕ} {left_since : D → ℕ → Image → Type 0}
    → DiskLaws is_modelled seen may_leave moment left_since → (file : List ℕ) (log : Log) (old mid new : D) (payloads : List (List ℕ)) (payload : List ℕ)
    → IsBehind may_leave (stands_in file) log old payloads → 1 ≤ length payload → length payload ≤ most_payload
    → HasLeft moment left_since old mid (IsAfter (may_leave old) (Step file (λ a b. take (log.end + 1) b ≡ take (log.end + 1) a)))
    → Settled (may_leave mid) file (seen mid file)
    → (IsTrue is_modelled → (rest : List ℕ) × (seen mid file ≡ take (log.end + 1) (seen old file) ++ to_be_bytes w32 (length payload) ++ payload ++ 0 ∷ rest))
    → HasLeft moment left_since mid new (IsAfter (may_leave mid) (Step file (Torn log.end 1)))
    → HasLeft moment left_since old new (IsAfter (may_leave old) (IsChangeIn (files_of file) (BeforeOrAfter (entries_in file) payloads payload)))
opened_moments {seen = seen} laws file log old mid new payloads payload behind some fits staging settled written opening =
    let end = log.end in
    let closed = reads_behind laws (stands_in file) log old payloads behind in
    as_within laws file old new (BeforeOrAfter HasEntries payloads payload)
    (then_step laws file old mid new _ _ (λ _ b. BeforeOrAfter HasEntries payloads payload b) (λ a. ClosedAt a end payloads) (λ b. b ≡ seen mid file)
    staging opening behind.each settled
    (λ told a b at is. inl (inr (end, kept a end payloads at b is)))
    (λ told a b d at is same torn.
    let there = written told in
    torn_gate (seen old file) end payloads (closed told) payload there.0 some fits b d
    (same ∙ staged_is (seen old file) end payloads (closed told) payload there.0 some fits (seen mid file) there.1) torn))

pub stage-requires-clause-within : goal.stage-requires-clause-within
stage-requires-clause-within g c told =
    has_gate _ c.args.self.now.end c.requires.open.0 (reads_behind g.met.D.Disk.laws (stands_in c.args.file.now) c.args.self.now c.args.disk.now
    c.requires.open.0 c.requires.open.1 told)

pub open_gate-requires : goal.open_gate-requires
open_gate-requires g c = record {
  within = λ told.
      let end = c.args.self.now.end in
      let closed = reads_behind g.met.D.Disk.laws (stands_in c.args.file.now) c.args.self.now c.args.disk.now c.requires.open.0 c.requires.open.1 told in
      let written = (c.in_ok-stage.ensures.written told).here in
      let is = staged_is _ end c.requires.open.0 closed c.args.payload.now written.0 c.requires.some c.requires.fits _ written.1 in
      reaches _ (joined closed.entries) _ end is closed.end_is;
}

pub returns-in_err-stage-clause-any_moment : goal.returns-in_err-stage-clause-any_moment
returns-in_err-stage-clause-any_moment g c payloads is_open =
    let end = c.args.self.now.end in
    as_within g.met.D.Disk.laws c.args.file.now c.args.disk.now c.stage.new.disk (BeforeOrAfter HasEntries payloads c.args.payload.now)
    (step_as g.met.D.Disk.laws c.args.file.now c.args.disk.now c.stage.new.disk _ (λ _ new. BeforeOrAfter HasEntries payloads c.args.payload.now new)
    (λ a. ClosedAt a end payloads)
    c.stage.ensures.moments is_open.each
    (λ told a b closed is. inl (inr (end, kept a end payloads closed b is))))

pub returns-in_err-open_gate-clause-any_moment : goal.returns-in_err-open_gate-clause-any_moment
returns-in_err-open_gate-clause-any_moment g c payloads is_open =
    opened_moments g.met.D.Disk.laws c.args.file.now c.args.self.now c.args.disk.now c.stage.new.disk c.open_gate.new.disk payloads c.args.payload.now is_open
    c.requires.some c.requires.fits
    c.stage.ensures.moments c.in_ok-stage.ensures.durable (λ told. (c.in_ok-stage.ensures.written told).here) c.open_gate.ensures.moments

pub returns-clause-any_moment : goal.returns-clause-any_moment
returns-clause-any_moment g c payloads is_open =
    opened_moments g.met.D.Disk.laws c.args.file.now c.args.self.now c.args.disk.now c.stage.new.disk c.open_gate.new.disk payloads c.args.payload.now is_open
    c.requires.some c.requires.fits
    c.stage.ensures.moments c.in_ok-stage.ensures.durable (λ told. (c.in_ok-stage.ensures.written told).here) c.open_gate.ensures.moments

pub returns-clause-added : goal.returns-clause-added
returns-clause-added g c payloads is_open =
    let file = g.D.Disk.seen c.args.disk.now c.args.file.now in
    let mid = g.D.Disk.seen c.stage.new.disk c.args.file.now in
    let last = g.D.Disk.seen c.open_gate.new.disk c.args.file.now in
    let end = c.args.self.now.end in
    record {
      each = λ i left.
          let told = tells_of g.met.D.Disk.laws c.open_gate.new.disk i left in
          let closed = reads_behind g.met.D.Disk.laws (stands_in c.args.file.now) c.args.self.now c.args.disk.now payloads is_open told in
          let written = (c.in_ok-stage.ensures.written told).here in
          all_closed _ _ _ _ _ c.in_ok-open_gate.ensures.durable
          (opened file end payloads closed c.args.payload.now written.0 c.requires.some c.requires.fits mid last _ (omega arith)
          (staged_is file end payloads closed c.args.payload.now written.0 c.requires.some c.requires.fits mid written.1)
          (c.in_ok-open_gate.ensures.written told).here) i left;
    }

pub returns-in_err-open_gate-clause-fits : goal.returns-in_err-open_gate-clause-fits
returns-in_err-open_gate-clause-fits g c told le =
    c.open_gate.ensures.fits (omega (arith, le, c.in_ok-stage.ensures.longer told)) ∙ c.stage.ensures.fits told le

pub returns-clause-fits : goal.returns-clause-fits
returns-clause-fits g c told le =
    c.open_gate.ensures.fits (omega (arith, le, c.in_ok-stage.ensures.longer told)) ∙ c.stage.ensures.fits told le
