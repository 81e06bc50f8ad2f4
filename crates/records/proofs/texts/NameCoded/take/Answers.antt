use Rattle.std.proofs.Common.{refl, Some, None, subst}
use Rattle.nuc_base.specs.Reading.{FaultsAs}
use Rattle.nuc_base.specs.Names.{IsName}
use Rattle.records.specs.Codec.{only_if}
use Rattle.records.specs.Layout.{is_name}
use Rattle.records.proofs.Leaves.{read_is, name_test, no_name}
use Rattle.records.proofs.texts.NameCoded.take.Goals as goal

pub returns-in-Ok : goal.returns-in-Ok
returns-in-Ok c =
    let t = c.in_ok-text.text.now in
    read_is (λ t. only_if (is_name t) t) c.args.bytes.now t c.in_ok-text.rest.now (Some c.in-Ok.name) c.in_ok-text.ensures
    (rw (name_test t c.in-Ok.ensures.1, c.in-Ok.ensures.0) refl)

pub returns-in-Err-Bad : goal.returns-in-Err-Bad
returns-in-Err-Bad c =
    let t = c.in_ok-text.text.now in
    read_is (λ t. only_if (is_name t) t) c.args.bytes.now t c.in_ok-text.rest.now None c.in_ok-text.ensures
    (rw (no_name t (subst (λ f. FaultsAs (IsName t) f) c.in-Err-Bad.field-0-is c.in-Err-Bad.ensures)) refl)
