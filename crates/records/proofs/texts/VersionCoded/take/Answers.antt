use Rattle.std.proofs.Common.{refl, Some, None, subst}
use Rattle.npm_ranges.specs.Reading.{VersionFaultsAs}
use Rattle.npm_ranges.specs.Versions.{IsVersion}
use Rattle.records.specs.Codec.{only_if}
use Rattle.records.specs.Layout.{is_version}
use Rattle.records.proofs.Leaves.{read_is, version_test, no_version}
use Rattle.records.proofs.texts.VersionCoded.take.Goals as goal

pub returns-in-Ok : goal.returns-in-Ok
returns-in-Ok c =
    let t = c.in_ok-text.text.now in
    read_is (λ t. only_if (is_version t) t) c.args.bytes.now t c.in_ok-text.rest.now (Some c.in-Ok.version) c.in_ok-text.ensures
    (rw (version_test t c.in-Ok.ensures.1, c.in-Ok.ensures.0) refl)

pub returns-in-Err-Bad : goal.returns-in-Err-Bad
returns-in-Err-Bad c =
    let t = c.in_ok-text.text.now in
    read_is (λ t. only_if (is_version t) t) c.args.bytes.now t c.in_ok-text.rest.now None c.in_ok-text.ensures
    (rw (no_version t (subst (λ f. VersionFaultsAs (IsVersion t) f) c.in-Err-Bad.field-0-is c.in-Err-Bad.ensures)) refl)
