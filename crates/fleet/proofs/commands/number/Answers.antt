use Rattle.std.proofs.Common.{◌≡◌, ◌∙◌, sym, ap, subst, arith}
use Rattle.std.specs.Fmt.{decimal}
use Rattle.std.specs.Str.{IsAscii}
use Rattle.std.proofs.lemmas.Fmt.{IsAscii-decimal}
use Rattle.std.proofs.lemmas.Str.{IsUtf8-from_ascii}
use Rattle.fleet.proofs.Numbers.{differ, read_as, unread}
use Rattle.fleet.proofs.commands.number.Goals as goal

pub returns-in_default : goal.returns-in_default
returns-in_default c n small is = c.in_default.ensures.cases.0 (IsUtf8-from_ascii c.args.bytes.now (subst IsAscii (sym is) (IsAscii-decimal n (omega arith))))

pub returns-in_default-parse : goal.returns-in_default-parse
returns-in_default-parse c n small is = unread c.in-Ok.text.now c.in_default-parse.ensures.value.0 n small (c.in-Ok.ensures.cases.0 ∙ is)

pub returns-then-ne : goal.returns-then-ne
returns-then-ne c n small is =
    let read : c.in-Ok-parse.number ≡ n = read_as c.in-Ok.text.now c.in-Ok-parse.number c.in-Ok-parse.ensures.value.0 n small (c.in-Ok.ensures.cases.0 ∙ is) in
    let text : c.as_bytes.result.now ≡ c.args.bytes.now = c.as_bytes.ensures.value ∙ c.format.ensures.text ∙ ap decimal read ∙ sym is in
    differ _ _ (sym c.ne.ensures ∙ c.if-ne.true) text
