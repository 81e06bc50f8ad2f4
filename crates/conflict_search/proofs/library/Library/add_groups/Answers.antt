use Rattle.std.proofs.Common.{get_or, subst}
use Rattle.std.specs.Prelude.{IfSome}
use Rattle.std.proofs.lemmas.List.Elements.{All-pop}
use Rattle.conflict_search.specs.Stands.{members_in}
use Rattle.conflict_search.specs.Facts.{IsGroup}
use Rattle.conflict_search.proofs.library.Library.add_groups.Goals as goal

pub fact_of_group-requires-clause-group : goal.fact_of_group-requires-clause-group
fact_of_group-requires-clause-group c =
    let G = IsGroup (members_in c.args.self.now) (get_or c.args.self.now.names.now.first.items c.args.number 0) in
    let parts = All-pop G c.loop-group.left.items c.pop.new.self.items c.pop.result c.pop.ensures.items c.loop-group.invariant.left in
    subst (λ o. IfSome o G) c.in-Some.is parts.1
