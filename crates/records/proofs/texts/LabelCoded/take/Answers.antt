use Rattle.std.proofs.Common.{refl, Some, None, subst}
use Rattle.nuc_base.specs.Reading.{FaultsAs}
use Rattle.nuc_base.specs.Names.{IsLabel}
use Rattle.records.specs.Codec.{only_if}
use Rattle.records.specs.Layout.{is_label}
use Rattle.records.proofs.Leaves.{read_is, label_test, no_label}
use Rattle.records.proofs.texts.LabelCoded.take.Goals as goal

pub returns-in-Ok : goal.returns-in-Ok
returns-in-Ok c =
    let t = c.in_ok-text.text.now in
    read_is (λ t. only_if (is_label t) t) c.args.bytes.now t c.in_ok-text.rest.now (Some c.in-Ok.label) c.in_ok-text.ensures
    (rw (label_test t c.in-Ok.ensures.1, c.in-Ok.ensures.0) refl)

pub returns-in-Err-Bad : goal.returns-in-Err-Bad
returns-in-Err-Bad c =
    let t = c.in_ok-text.text.now in
    read_is (λ t. only_if (is_label t) t) c.args.bytes.now t c.in_ok-text.rest.now None c.in_ok-text.ensures
    (rw (no_label t (subst (λ f. FaultsAs (IsLabel t) f) c.in-Err-Bad.field-0-is c.in-Err-Bad.ensures)) refl)
