use Rattle.std.proofs.Common.{◌∙◌, ℕ, List, sym, subst, ap}
use Rattle.hex.specs.Hex.{encode_lower}
use Rattle.nuc_base.specs.Names.{IsLabel}
use Rattle.deployment_doc.proofs.Digests.{digits_are_label}
use Rattle.deployment_doc.proofs.labels.hex_label.Goals as goal

pub unreachable-requires : goal.unreachable-requires
unreachable-requires c =
    let label : IsLabel c.as_bytes.result.now =
    subst (λ (xs : List ℕ). IsLabel xs) (sym (c.as_bytes.ensures.value ∙ c.in_ok-text.ensures
    ∙ ap encode_lower c.as_slice.ensures)) (digits_are_label c.args.digest.now c.told-digest c.fits-digest) in
    let refused : ¬ IsLabel c.as_bytes.result.now = rw c.in-Err-Bad.field-0-is at c.in-Err-Bad.ensures in
    refused label
