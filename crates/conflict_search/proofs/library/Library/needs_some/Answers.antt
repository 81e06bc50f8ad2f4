use Rattle.std.proofs.Common.{◌≡◌, ◌<◌, ℕ, List, get_or, map, sym, ap, ◌∙◌, subst}
use Rattle.std.specs.List.{Contains}
use Rattle.nuc_base.proofs.Lists.{in_map}
use Rattle.recipe_reader.specs.Members.{Need, need}
use Rattle.conflict_search.specs.Stands.{members_in}
use Rattle.conflict_search.specs.Endless.{IsAmong}
use Rattle.conflict_search.proofs.library.Library.needs_some.Goals as goal

pub returns-then-is_in : goal.returns-then-is_in
returns-then-is_in c = λ yes.
    let ms = members_in c.args.self.now in
    let names = c.requires.names in
    let d = need c.need-item.result in
    let i : Contains c.needs_at-need-items.result.now c.need-item.result = (c.loop-need.need-index, c.loop-need-test.true, sym c.need-item.is) in
    let number = c.in-Some.ensures in (
      d,
      subst (λ l. Contains l d) c.needs_at-need-items.ensures (in_map need c.needs_at-need-items.result.now c.need-item.result i),
      get_or c.args.self.now.names.now.first.items c.in-Some.number 0,
      names.first c.in-Some.number d.name number.named,
      subst (IsAmong c.args.among.now) c.first.ensures (sym c.is_in.ensures ∙ c.if-is_in.true),
    )
