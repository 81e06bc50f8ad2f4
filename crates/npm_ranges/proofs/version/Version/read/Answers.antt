use Rattle.std.proofs.Common.{◌≡◌, List, ℕ, length, ◌≤◌, subst, sym, ◌∙◌, arith}
use Rattle.npm_ranges.specs.Versions.{IsVersion, IsParsed}
use Rattle.npm_ranges.proofs.VersionTexts.{version_read, version_is_utf8, parts_read, fault_is}
use Rattle.npm_ranges.proofs.version.Version.read.Goals as goal

pub invariant_of-result : goal.invariant_of-result
invariant_of-result c =
    let t = c.in-Ok.text.now in
    let same : t ≡ c.args.bytes.now = c.in-Ok.ensures.cases.0 in
    let short : length t ≤ 128 = rw same (omega arith) in
    let b = c.in-Ok-parse.ensures.ok in
    let parsed : IsParsed t c.in-Ok-parse.parts = record { version = version_read t _ short b; parts = parts_read t _ b } in
    subst (λ (x : List ℕ). IsParsed x c.in-Ok-parse.parts) (sym c.in-Ok-from_str.ensures) parsed

pub returns-in_default : goal.returns-in_default
returns-in_default c = λ is. c.in_default.ensures.cases.0 (version_is_utf8 c.args.bytes.now is)

pub returns-in-Err : goal.returns-in-Err
returns-in-Err c =
    let t = c.in-Ok.text.now in
    let same : t ≡ c.args.bytes.now = c.in-Ok.ensures.cases.0 in
    let short : length t ≤ 128 = rw same (omega arith) in
    rw (← same) (fault_is t c.in-Err.error c.fault_of.result short c.in-Err.ensures.err c.in-Err.ensures.refused c.fault_of.ensures.memory
    c.fault_of.ensures.other)

pub returns-in-Ok-from_str : goal.returns-in-Ok-from_str
returns-in-Ok-from_str c =
    let t = c.in-Ok.text.now in
    let same : t ≡ c.args.bytes.now = c.in-Ok.ensures.cases.0 in
    let short : length t ≤ 128 = rw same (omega arith) in
    (c.in-Ok-from_str.ensures ∙ same, subst (λ (x : List ℕ). IsVersion x) same (version_read t _ short c.in-Ok-parse.ensures.ok))

pub returns-in-Err-from_str : goal.returns-in-Err-from_str
returns-in-Err-from_str c =
    let t = c.in-Ok.text.now in
    let same : t ≡ c.args.bytes.now = c.in-Ok.ensures.cases.0 in
    let short : length t ≤ 128 = rw same (omega arith) in
    subst (λ (x : List ℕ). IsVersion x) same (version_read t _ short c.in-Ok-parse.ensures.ok)
