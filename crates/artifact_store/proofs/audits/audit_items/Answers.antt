use Rattle.std.proofs.Common.{◌≡◌, ◌+◌, ◌<◌, List, ◌∷◌, length, map, drop, sym, subst, ◌∙◌, arith}
use Rattle.std.specs.Prelude.{Some, None}
use Rattle.nuc_base.proofs.Tables.{map_next}
use Rattle.disk_model.specs.Disk.{Image}
use Rattle.disk_model.specs.Moments.{then_same}
use Rattle.records.specs.Stored.{item_view}
use Rattle.records.specs.Stored as stored
use Rattle.records.specs.declared.record.Item.{Item}
use Rattle.artifact_store.specs.Audited.{AuditOutcome, item_line, items_lines}
use Rattle.artifact_store.proofs.Auditing.{item_next, item_here, said_of}
use Rattle.artifact_store.proofs.audits.audit_items.Goals as goal

pub returns-in-Some-clause-told : goal.returns-in-Some-clause-told
returns-in-Some-clause-told g c = λ told.
    let so = c.loop-item.invariant in
    let all : List Item = c.args.items.now in
    let i = c.loop-item.item-index in
    let x : Item = c.item-item.result in
    let below : i < length all = omega arith in
    let next : map item_view (drop i all) ≡ item_view x ∷ map item_view (drop (i + 1) all) = map_next item_view all i x below c.item-item.is in
    let image = g.D.Disk.seen c.args.disk.now in
    let said : AuditOutcome (item_line image (item_view x)) (Some c.in-Some.found) =
    said_of (item_line image (item_view x)) c.in_ok-found.field-0 (Some c.in-Some.found) c.in-Some.is
    (subst (λ (m : Image). AuditOutcome (item_line m (item_view x)) c.in_ok-found.field-0) so.seen (c.in_ok-found.ensures.told told)) in
    so.rest told (Some c.in-Some.found)
    (subst (λ (ys : List stored.Item). AuditOutcome (items_lines image ys) (Some c.in-Some.found)) (sym next)
    (item_here image (item_view x) (map item_view (drop (i + 1) all)) c.in-Some.found said))

pub returns-in-Some-clause-moments : goal.returns-in-Some-clause-moments
returns-in-Some-clause-moments g c = then_same g.met.D.Disk.laws c.args.disk.now c.loop-item.disk c.audit_item.new.disk _ c.loop-item.invariant.goes
    c.audit_item.ensures.moments

pub loop-item-preserved : goal.loop-item-preserved
loop-item-preserved g c =
    let so = c.loop-item.invariant in
    let all : List Item = c.args.items.now in
    let i = c.loop-item.item-index in
    let x : Item = c.item-item.result in
    let below : i < length all = omega arith in
    let next : map item_view (drop i all) ≡ item_view x ∷ map item_view (drop (i + 1) all) = map_next item_view all i x below c.item-item.is in
    let image = g.D.Disk.seen c.args.disk.now in
    record {
      goes = then_same g.met.D.Disk.laws c.args.disk.now c.loop-item.disk c.audit_item.new.disk _ so.goes c.audit_item.ensures.moments;
      seen = c.audit_item.ensures.seen ∙ so.seen;
      faults = c.in_ok-found.ensures.quiet (λ e. cc e) ∙ so.faults;
      long = c.audit_item.ensures.long;
      rest = λ told r said.
          let held : AuditOutcome (item_line image (item_view x)) None =
          said_of (item_line image (item_view x)) c.in_ok-found.field-0 None c.in-None.is
          (subst (λ (m : Image). AuditOutcome (item_line m (item_view x)) c.in_ok-found.field-0) so.seen (c.in_ok-found.ensures.told told)) in
          so.rest told r (subst (λ (ys : List stored.Item). AuditOutcome (items_lines image ys) r) (sym next)
          (item_next image (item_view x) (map item_view (drop (i + 1) all)) r held said));
    }
