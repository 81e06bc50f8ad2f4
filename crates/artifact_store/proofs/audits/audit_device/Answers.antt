use Rattle.std.proofs.Common.{List, map, subst}
use Rattle.std.specs.Prelude.{Some, None, IfOk}
use Rattle.disk_model.specs.Disk.{Image}
use Rattle.disk_model.specs.Moments.{then_same}
use Rattle.records.specs.Stored.{item_view}
use Rattle.records.specs.declared.record.Item.{Item}
use Rattle.device.specs.Devices.{device_view}
use Rattle.artifact_store.specs.Audited.{AuditOutcome, items_lines}
use Rattle.artifact_store.specs.Swept.{pending_items}
use Rattle.artifact_store.proofs.Auditing.{set_found, pending_said, said_of}
use Rattle.artifact_store.proofs.audits.audit_device.Goals as goal

pub returns-in-Some-clause-told : goal.returns-in-Some-clause-told
returns-in-Some-clause-told g c = λ told.
    let image = g.D.Disk.seen c.args.disk.now in
    let d = device_view c.args.device.now in
    let said : AuditOutcome (items_lines image d.set) c.in_ok-found.field-0 =
    subst (λ (is : List Item). AuditOutcome (items_lines image (map item_view is)) c.in_ok-found.field-0) c.as_slice.ensures
    (c.in_ok-found.ensures.told told) in
    set_found image d c.in-Some.found (said_of (items_lines image d.set) c.in_ok-found.field-0 (Some c.in-Some.found) c.in-Some.is said)

pub returns-in-None-clause-told : goal.returns-in-None-clause-told
returns-in-None-clause-told g c = λ told.
    let image = g.D.Disk.seen c.args.disk.now in
    let d = device_view c.args.device.now in
    let said : AuditOutcome (items_lines image d.set) c.in_ok-found.field-0 =
    subst (λ (is : List Item). AuditOutcome (items_lines image (map item_view is)) c.in_ok-found.field-0) c.as_slice.ensures
    (c.in_ok-found.ensures.told told) in
    pending_said image d c.audit_pending.result (said_of (items_lines image d.set) c.in_ok-found.field-0 None c.in-None.is said)
    (subst (λ (m : Image). IfOk c.audit_pending.result (AuditOutcome (items_lines m (pending_items d.pending)))) c.audit_items.ensures.seen
    (c.audit_pending.ensures.told told))

pub returns-in-None-clause-moments : goal.returns-in-None-clause-moments
returns-in-None-clause-moments g c = then_same g.met.D.Disk.laws c.args.disk.now c.audit_items.new.disk c.audit_pending.new.disk _
    c.audit_items.ensures.moments c.audit_pending.ensures.moments
