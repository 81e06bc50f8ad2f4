use Rattle.std.proofs.Common.{refl, Some, None, subst}
use Rattle.npm_ranges.specs.Reading.{RangeFaultsAs}
use Rattle.records.specs.Codec.{only_if}
use Rattle.records.specs.Layout.{is_range}
use Rattle.records.proofs.Leaves.{read_is, range_test, no_range, unreadable}
use Rattle.records.proofs.texts.RangeCoded.take.Goals as goal

pub returns-in-Ok : goal.returns-in-Ok
returns-in-Ok c =
    let t = c.in_ok-text.text.now in
    read_is (λ t. only_if (is_range t) t) c.args.bytes.now t c.in_ok-text.rest.now (Some c.in-Ok.range) c.in_ok-text.ensures
    (rw (range_test t c.in-Ok.ensures.1, c.in-Ok.ensures.0) refl)

pub returns-in-Err-Bad : goal.returns-in-Err-Bad
returns-in-Err-Bad c =
    let t = c.in_ok-text.text.now in
    read_is (λ t. only_if (is_range t) t) c.args.bytes.now t c.in_ok-text.rest.now None c.in_ok-text.ensures
    (rw (unreadable t (subst (λ f. RangeFaultsAs t f) c.in-Err-Bad.field-0-is c.in-Err-Bad.ensures)) refl)

pub returns-in-Err-TooManyParts : goal.returns-in-Err-TooManyParts
returns-in-Err-TooManyParts c =
    let t = c.in_ok-text.text.now in
    read_is (λ t. only_if (is_range t) t) c.args.bytes.now t c.in_ok-text.rest.now None c.in_ok-text.ensures
    (rw (no_range t (subst (λ f. RangeFaultsAs t f) c.in-Err-TooManyParts.field-0-is c.in-Err-TooManyParts.ensures).1) refl)
