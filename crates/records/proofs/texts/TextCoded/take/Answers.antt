use Rattle.std.proofs.Common.{refl, Some, None}
use Rattle.std.specs.Str.{is_utf8}
use Rattle.std.proofs.lemmas.Str.{is_utf8-from_IsUtf8}
use Rattle.records.specs.Codec.{only_if}
use Rattle.records.proofs.Leaves.{read_is, no_utf8}
use Rattle.records.proofs.texts.TextCoded.take.Goals as goal

pub returns-in_default : goal.returns-in_default
returns-in_default c =
    let t = c.in_ok-text.text.now in
    read_is (λ t. only_if (is_utf8 t) t) c.args.bytes.now t c.in_ok-text.rest.now None c.in_ok-text.ensures (rw (no_utf8 t c.in_default.ensures.cases.0) refl)

pub returns : goal.returns
returns c =
    let t = c.in_ok-text.text.now in
    read_is (λ t. only_if (is_utf8 t) t) c.args.bytes.now t c.in_ok-text.rest.now (Some c.in_ok-from_str.field-0) c.in_ok-text.ensures
    (rw (is_utf8-from_IsUtf8 t (c.in-Ok.ensures.cases.1), c.in_ok-from_str.ensures, c.in-Ok.ensures.cases.0) refl)
