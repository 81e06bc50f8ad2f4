use Rattle.std.proofs.Common.{◌≡◌, ℕ, List, Option, Some, None, subst}
use Rattle.device.specs.Devices.{device_view}
use Rattle.artifact_store.specs.Audited.{AuditOutcome, items_lines}
use Rattle.artifact_store.specs.Swept.{items_of}
use Rattle.nucleus_top.proofs.Comparing.{names_different}
use Rattle.nucleus_top.proofs.auditing.compare.Goals as goal

pub returns-in-Ok-clause-comes : goal.returns-in-Ok-clause-comes
returns-in-Ok-clause-comes g c = λ is_modelled.
    let image = g.D.Disk.seen c.args.disk.now in
    let d = device_view c.args.device.now in
    let found = c.in-Ok-Some.found in
    let is : c.in-Ok-Some.field-0 ≡ Some found = c.in-Ok-Some.field-0-is in
    names_different image d found c.in-Ok.text
    (subst (λ (o : Option (List ℕ × List ℕ)). AuditOutcome (items_lines image (items_of d)) o) is (c.in-Ok-Some.ensures.told is_modelled))
    (λ holds. let none : c.in-Ok-Some.field-0 ≡ None = (c.in-Ok-Some.ensures.whole is_modelled).1 holds in cc)
    c.in-Ok.ensures
