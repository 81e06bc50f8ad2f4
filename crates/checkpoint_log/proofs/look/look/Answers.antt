use Rattle.std.proofs.Common.{◌≡◌, ℕ, List, Some, length, refl, ◌∙◌, ap, subst}
use Rattle.disk_model.specs.Disk.{Image}
use Rattle.disk_model.specs.Moments.{then_same}
use Rattle.checkpoint_log.specs.Beginnings.{slot, IsBadSlot}
use Rattle.checkpoint_log.specs.Look.{IsHead, IsBeginning}
use Rattle.checkpoint_log.proofs.Looking.{head_is, holds_some, fourteen}
use Rattle.checkpoint_log.proofs.look.look.Goals as goal

pub returns-in-Some-clause-moments : goal.returns-in-Some-clause-moments
returns-in-Some-clause-moments g c = then_same g.met.D.Disk.laws c.args.disk.now c.read.new.self c.length.new.self _ c.read.ensures.moments
    c.length.ensures.moments

pub returns-in-None-clause-moments : goal.returns-in-None-clause-moments
returns-in-None-clause-moments g c = then_same g.met.D.Disk.laws c.args.disk.now c.read.new.self c.length.new.self _ c.read.ensures.moments
    c.length.ensures.moments

pub returns-in-Some-clause-told : goal.returns-in-Some-clause-told
returns-in-Some-clause-told g c told =
    let image = g.D.Disk.seen c.args.disk.now in
    let name = c.slot_name-file.result.now in
    let read = c.in_ok-_read.ensures.told told in
    let head : IsHead c.read.new.into (image name) = head_is (image name) c.read.new.into _ c.in_ok-_read._read read.0 read.1 fourteen in
    let size : c.in_ok-size.size ≡ length (image name) = c.in_ok-size.ensures.told told ∙ ap (λ (i : Image). length (i name)) c.read.ensures.seen in
    subst (λ (l : List ℕ). IsBeginning (slot c.args.odd) l (Some c.in-Some.number)) (ap image c.slot_name-file.ensures)
    (c.in-Some.ensures (image name) size head)

pub returns-in-None-clause-told : goal.returns-in-None-clause-told
returns-in-None-clause-told g c told =
    let image = g.D.Disk.seen c.args.disk.now in
    let name = c.slot_name-file.result.now in
    let read = c.in_ok-_read.ensures.told told in
    let head : IsHead c.read.new.into (image name) = head_is (image name) c.read.new.into _ c.in_ok-_read._read read.0 read.1 fourteen in
    let size : c.in_ok-size.size ≡ length (image name) = c.in_ok-size.ensures.told told ∙ ap (λ (i : Image). length (i name)) c.read.ensures.seen in (
      refl,
      subst (λ (l : List ℕ). IsBadSlot (slot c.args.odd) l) (ap image c.slot_name-file.ensures) (record {
        some = holds_some c.read.new.into (image name) c.in_ok-size.size head size c.if-size-le1.false c.if-head-eq0.false;
        none = c.in-None.ensures (image name) size head;
      }),
    )
