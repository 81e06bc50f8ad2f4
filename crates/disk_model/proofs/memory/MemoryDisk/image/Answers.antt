use Rattle.std.proofs.Common.{◌≡◌, List, ℕ, Some, None, sym, ◌∙◌, subst}
use Rattle.std.proofs.lemmas.Result.{IfOk-weaker}
use Rattle.disk_model.specs.Crash.{IsFilled}
use Rattle.disk_model.specs.Disk.{Image}
use Rattle.disk_model.specs.Files.{image_of}
use Rattle.disk_model.specs.Images.{unsynced_of, PickedAs, picked_by}
use Rattle.disk_model.specs.Memory.{seen_by, left_by}
use Rattle.disk_model.specs.Laws.Replay.{reads}
use Rattle.disk_model.specs.declared.image.Pick.{Pick}
use Rattle.disk_model.specs.declared.memory.MemoryDisk.{MemoryDisk}
use Rattle.disk_model.proofs.Picks.{old_is_held, old_is_left, fill_is_filled, fill_is_left}
use Rattle.disk_model.proofs.memory.MemoryDisk.image.Goals as goal

-- what replaying gives of a file
old_held : (d e : MemoryDisk) → ((name : List ℕ) → seen_by e name ≡ picked_by None d name) → (name : List ℕ) → seen_by e name ≡ (unsynced_of d name).held
old_held d e holds name = holds name ∙ old_is_held d.calls.items (image_of d.start) name

fill_held : (byte : ℕ) (d e : MemoryDisk) → ((name : List ℕ) → seen_by e name ≡ picked_by (Some byte) d name) → (name : List ℕ) →
    IsFilled byte (unsynced_of d name) (seen_by e name)
fill_held byte d e holds name = subst (λ (l : List ℕ). IsFilled byte (unsynced_of d name) l) (sym (holds name))
    (fill_is_filled byte d.calls.items (image_of d.start) name)

pub returns-in-Old-clause-left : goal.returns-in-Old-clause-left
returns-in-Old-clause-left c =
    let d = c.args.self.now in
    IfOk-weaker c.replayed.result _ _ (λ e holds. old_is_left d.calls.items (image_of d.start) (seen_by e) (old_held d e holds)) c.replayed.ensures.holds

pub returns-in-Old-clause-picked : goal.returns-in-Old-clause-picked
returns-in-Old-clause-picked c =
    let d = c.args.self.now in
    IfOk-weaker c.replayed.result _ _ (λ e holds name. subst (λ (p : Pick). PickedAs p (unsynced_of d name) (seen_by d name) (seen_by e name))
    (sym c.in-Old.is) (old_held d e holds name)) c.replayed.ensures.holds

pub returns-in-New-clause-left : goal.returns-in-New-clause-left
returns-in-New-clause-left c =
    let d = c.args.self.now in
    IfOk-weaker c.kept.result _ _ (λ e holds.
    let same : seen_by d ≡ seen_by e = λ k name. (sym (holds name)) k in
    subst (λ (i : Image). left_by d i) same (reads d.calls.items (image_of d.start))) c.kept.ensures.holds

pub returns-in-Fill-clause-left : goal.returns-in-Fill-clause-left
returns-in-Fill-clause-left c =
    let d = c.args.self.now in
    IfOk-weaker c.replayed-in-Fill.result _ _ (λ e holds. fill_is_left c.in-Fill.byte d.calls.items (image_of d.start) (seen_by e)
    (fill_held c.in-Fill.byte d e holds)) c.replayed-in-Fill.ensures.holds

pub returns-in-Fill-clause-picked : goal.returns-in-Fill-clause-picked
returns-in-Fill-clause-picked c =
    let d = c.args.self.now in
    IfOk-weaker c.replayed-in-Fill.result _ _ (λ e holds name. subst (λ (p : Pick). PickedAs p (unsynced_of d name) (seen_by d name) (seen_by e name))
    (sym c.in-Fill.is) (fill_held c.in-Fill.byte d e holds name)) c.replayed-in-Fill.ensures.holds
