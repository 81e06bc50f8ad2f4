use Rattle.std.proofs.Common.{◌++◌, ◌∷◌, [], List, Vec, Global, sym, subst}
use Rattle.std.specs.List.{All}
use Rattle.std.proofs.lemmas.List.Elements.{All-push}
use Rattle.conflict_search.specs.Stands.{members_in, wanted_in}
use Rattle.conflict_search.specs.Terms.{IsNogood}
use Rattle.conflict_search.specs.declared.terms.Term.{Term}
use Rattle.conflict_search.proofs.nogoods.Nogoods.add.Goals as goal

pub returns : goal.returns
returns c =
    let P = λ (v : Vec Term Global). IsNogood (members_in c.args.library.now) (wanted_in c.args.library.now) v.items in
    subst (All P) (sym c.in_ok-push.ensures.items) (All-push P c.args.self.now.list.items c.args.terms c.requires.nogoods c.requires.nogood)
