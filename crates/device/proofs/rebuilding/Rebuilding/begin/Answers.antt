use Rattle.std.proofs.Common.{◌≤◌, length, arith}
use Rattle.records.specs.Stored.{Turned}
use Rattle.device.specs.Limits.{most_root}
use Rattle.device.proofs.Fronting.{begins_orderly}
use Rattle.device.proofs.rebuilding.Rebuilding.begin.Goals as goal

pub returns-clause-orderly : goal.returns-clause-orderly
returns-clause-orderly c =
    let same = c.len.ensures in
    let root : length c.in-Turned.origin.root ≤ most_root = omega (arith, same, c.if-len-gt-MOST_ROOT.false) in
    begins_orderly (Turned c.in-Turned.field-0 c.in-Turned.origin c.in-Turned.groups c.in-Turned.items c.in-Turned.closed) _
    (root, omega arith, omega arith, omega arith)
    (rw (c.empty.ensures, c.empty-2.ensures, c.empty-3.ensures))
