use Rattle.std.proofs.Common.{◌≡◌, ◌++◌, ◌∷◌, [], List, sym, ap, ◌∙◌, subst}
use Rattle.conflict_search.specs.Numbers.{IsFirstPlace}
use Rattle.conflict_search.specs.Claims.{demand_need}
use Rattle.conflict_search.specs.Stands.{members_in, wanted_in}
use Rattle.conflict_search.specs.Terms.{IsNogood}
use Rattle.conflict_search.specs.declared.terms.Term.{Term}
use Rattle.conflict_search.proofs.Demanding.{wish_fact}
use Rattle.conflict_search.proofs.library.Library.fact_of_wish.Goals as goal

pub returns : goal.returns
returns c =
    let ms = members_in c.args.self.now in
    let wanted = wanted_in c.args.self.now in
    let d = c.args.wish.now in
    let u = c.in_ok-against.field-0 in
    let wish = c.requires.wanted in
    let number = wish.number in
    let names = c.requires.names in
    let first = subst (IsFirstPlace ms d.name.now) (sym c.in_ok-against.ensures.from) (names.first d.number d.name.now number.named) in
    let items : c.push.new.self.items ≡ u ∷ [] = c.in_ok-push.ensures.items ∙ ap (λ (l : List Term). l ++ u ∷ []) c.in_ok-terms.ensures.items in
    subst (IsNogood ms wanted) (sym items)
    (wish_fact ms wanted (demand_need d) d.number u wish.among number c.in_ok-against.ensures.term first c.in_ok-against.ensures.against)
