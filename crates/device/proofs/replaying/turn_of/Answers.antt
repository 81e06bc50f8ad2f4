use Rattle.std.proofs.Common.{◌∙◌, Option, sym, subst}
use Rattle.std.specs.Option.{IfSome, IfNone}
use Rattle.records.specs.declared.record.Record as code
use Rattle.records.specs.Layout.{Spelled}
use Rattle.records.specs.Stored.{Record, record_view}
use Rattle.device.proofs.Begun.{turned_turn, no_turn, none_spelled}
use Rattle.device.proofs.replaying.turn_of.Goals as goal

pub returns-then-is_turn : goal.returns-then-is_turn
returns-then-is_turn c =
    let spelled = subst (λ (o : Option code.Record). IfSome o (λ r. Spelled c.args.payload.now (record_view r))) c.in-Ok-Some.field-0-is
    c.in-Ok-Some.ensures.found in
    (turned_turn c.args.payload.now (record_view c.in-Ok-Some.entry) (sym c.is_turn.ensures ∙ c.if-is_turn.true) spelled, spelled)

pub returns-else-is_turn : goal.returns-else-is_turn
returns-else-is_turn c =
    let spelled = subst (λ (o : Option code.Record). IfSome o (λ r. Spelled c.args.payload.now (record_view r))) c.in-Ok-Some.field-0-is
    c.in-Ok-Some.ensures.found in
    no_turn c.args.payload.now (record_view c.in-Ok-Some.entry) (sym c.is_turn.ensures ∙ c.if-is_turn.false) spelled

pub returns-in-Ok-None : goal.returns-in-Ok-None
returns-in-Ok-None c =
    none_spelled c.args.payload.now (subst (λ (o : Option code.Record). IfNone o ((r : Record) → Spelled c.args.payload.now r → ⊥)) c.in-Ok-None.field-0-is
    c.in-Ok-None.ensures.none)
