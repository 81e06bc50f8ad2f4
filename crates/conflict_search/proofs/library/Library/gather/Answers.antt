use Rattle.std.proofs.Common.{get_or, sym, subst}
use Rattle.std.specs.List.{All}
use Rattle.std.proofs.lemmas.List.Elements.{All-push}
use Rattle.conflict_search.specs.Stands.{members_in}
use Rattle.conflict_search.specs.Facts.{IsGroup}
use Rattle.conflict_search.proofs.library.Library.gather.Goals as goal

pub returns : goal.returns
returns c =
    let ms = members_in c.args.self.now in
    let first = get_or c.args.self.now.names.now.first.items c.args.number 0 in
    let made = c.in_ok-group.ensures.group in
    let new = c.add-2.new.self in
    subst (All (IsGroup ms first)) (sym c.in_ok-push.ensures.items)
    (All-push (IsGroup ms first) c.args.groups.now.items new c.requires.groups (subst (λ f. IsGroup ms f new) made.from c.add-2.ensures))
