use Rattle.std.proofs.Common.{sym, subst}
use Rattle.nuc_base.specs.Names.{IsLabel}
use Rattle.local_deploy.proofs.Rooting.{local_is_label}
use Rattle.local_deploy.proofs.document.local_group.Goals as goal

pub unreachable-requires : goal.unreachable-requires
unreachable-requires c =
    let label : IsLabel c.as_bytes.result.now = subst IsLabel (sym c.as_bytes.ensures.value) local_is_label in
    let refused : ¬ IsLabel c.as_bytes.result.now = rw c.in-Err-Bad.field-0-is at c.in-Err-Bad.ensures in
    refused label
