use Rattle.std.proofs.Common.{List, length, All, sym, ap, subst, arith}
use Rattle.std.proofs.lemmas.List.{length_push}
use Rattle.std.proofs.lemmas.List.Elements.{All-push, All-map}
use Rattle.records.specs.Stored.{item_view}
use Rattle.records.specs.declared.record.Item.{Item}
use Rattle.library_core.specs.Sources.{IsKept}
use Rattle.test_library.proofs.rows.items.Goals as goal

pub loop-letter-preserved : goal.loop-letter-preserved
loop-letter-preserved c =
    let P : Item → Type 0 = λ i. IsKept c.args.platform.now (item_view i) in
    let kept = c.loop-letter.kept in
    let item = c.in_ok-item.field-0 in
    let e = c.in_ok-push.ensures.ok in (
      omega (arith, ap length e, length_push kept item, c.loop-letter.invariant.0),
      subst (λ (items : List Item). All P items) (sym e) (All-push P kept item c.loop-letter.invariant.1 c.in_ok-item.ensures),
    )

pub returns-clause-read : goal.returns-clause-read
returns-clause-read c = All-map (IsKept c.args.platform.now) item_view c.loop-letter.kept c.loop-letter.invariant.1
