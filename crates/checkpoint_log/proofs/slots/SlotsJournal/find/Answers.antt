use Rattle.std.proofs.Common.{List, ℕ, Ok, Err, ◌≡◌, ◌∙◌, sym, ap, subst}
use Rattle.disk_model.specs.Disk.{Image}
use Rattle.disk_model.specs.Moments.{then_same}
use Rattle.gate_log.specs.Entries.{ClosedAt}
use Rattle.gate_log.specs.Found.{FindsBy}
use Rattle.gate_log.specs.Journal.{none_in, damaged_in, stands_in}
use Rattle.checkpoint_log.specs.Beginnings.{slot}
use Rattle.checkpoint_log.specs.Laws.{slots_depend}
use Rattle.checkpoint_log.specs.Look.{IsNumber}
use Rattle.checkpoint_log.proofs.Finding.{end_fault, found_stands, found_open, all_settled, not_true}
use Rattle.checkpoint_log.proofs.slots.SlotsJournal.find.Goals as goal

pub returns-in-Err-clause-told : goal.returns-in-Err-clause-told
returns-in-Err-clause-told g c told =
    let image = g.D.Disk.seen c.args.disk.now in
    let number : IsNumber image (Ok c.in_ok-number.number) = subst (λ (i : Image). IsNumber i (Ok c.in_ok-number.number)) c.settle.ensures.seen
    (c.in_ok-number.ensures.told told) in
    let Answers : List ℕ → Image → Type 0 = λ file i. FindsBy (none_in file) (damaged_in file) (stands_in file) i (Err c.in-Err.fault) in
    end_fault image c.in_ok-number.number c.in-Err.fault number
    (subst (λ (file : List ℕ). Answers file image) c.slot_name.ensures
    (subst (λ (i : Image). Answers c.slot_name.result.now i) (c.live_number.ensures.seen ∙ c.settle.ensures.seen) (c.in-Err.ensures.told told)))

pub returns-in-Err-clause-moments : goal.returns-in-Err-clause-moments
returns-in-Err-clause-moments g c =
    then_same g.met.D.Disk.laws c.args.disk.now c.live_number.new.disk c.end_in.new.disk _
    (then_same g.met.D.Disk.laws c.args.disk.now c.settle.new.disk c.live_number.new.disk _ c.settle.ensures.moments c.live_number.ensures.moments)
    c.end_in.ensures.moments

pub returns-in-Ok-clause-moments : goal.returns-in-Ok-clause-moments
returns-in-Ok-clause-moments g c =
    then_same g.met.D.Disk.laws c.args.disk.now c.live_number.new.disk c.end_in.new.disk _
    (then_same g.met.D.Disk.laws c.args.disk.now c.settle.new.disk c.live_number.new.disk _ c.settle.ensures.moments c.live_number.ensures.moments)
    c.end_in.ensures.moments

pub returns-in-Ok-clause-told : goal.returns-in-Ok-clause-told
returns-in-Ok-clause-told g c told =
    let image = g.D.Disk.seen c.args.disk.now in
    let number : IsNumber image (Ok c.in_ok-number.number) = subst (λ (i : Image). IsNumber i (Ok c.in_ok-number.number)) c.settle.ensures.seen
    (c.in_ok-number.ensures.told told) in
    let file : g.D.Disk.seen c.live_number.new.disk c.slot_name.result.now ≡ image (slot c.in_ok-number.number) =
    ap (λ (i : Image). i c.slot_name.result.now) (c.live_number.ensures.seen ∙ c.settle.ensures.seen) ∙ ap image c.slot_name.ensures in
    let found = c.in-Ok.ensures.told told in
    (found.0, found_stands image _ found.0 number not_true (subst (λ (l : List ℕ). ClosedAt l c.in-Ok.live.end found.0) file found.1), found.2)

pub returns-in-Ok-clause-open : goal.returns-in-Ok-clause-open
returns-in-Ok-clause-open g c =
    let image = g.D.Disk.seen c.end_in.new.disk in
    let seen = c.end_in.ensures.seen ∙ c.live_number.ensures.seen in
    let settled = all_settled g.met.D.Disk.laws c.settle.new.disk c.end_in.new.disk
    (then_same g.met.D.Disk.laws c.settle.new.disk c.live_number.new.disk c.end_in.new.disk _ c.live_number.ensures.moments c.end_in.ensures.moments) seen
    c.in_ok-settle.ensures.settled in
    found_open g.D.Disk.is_modelled g.met.D.Disk.laws _ c.end_in.new.disk
    (λ told.
    let number : IsNumber image (Ok c.in_ok-number.number) = subst (λ (i : Image). IsNumber i (Ok c.in_ok-number.number)) (sym seen)
    (c.in_ok-number.ensures.told told) in
    let file : g.D.Disk.seen c.live_number.new.disk c.slot_name.result.now ≡ image (slot c.in_ok-number.number) =
    ap (λ (i : Image). i c.slot_name.result.now) (sym c.end_in.ensures.seen) ∙ ap image c.slot_name.ensures in
    let found = c.in-Ok.ensures.told told in
    (found.0, found_stands image _ found.0 number not_true (subst (λ (l : List ℕ). ClosedAt l c.in-Ok.live.end found.0) file found.1)))
    settled (λ i payloads same h. slots_depend _ image i payloads same h)
