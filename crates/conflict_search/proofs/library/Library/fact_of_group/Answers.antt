use Rattle.std.proofs.Common.{◌≡◌, ◌++◌, ◌∷◌, [], List, Vec, Global, get_or, sym, ap, ◌∙◌, subst, arith}
use Rattle.conflict_search.specs.Numbers.{IsFirstPlace}
use Rattle.conflict_search.specs.Stands.{members_in, wanted_in}
use Rattle.conflict_search.specs.Terms.{IsNogood}
use Rattle.conflict_search.specs.declared.terms.Term.{Term}
use Rattle.conflict_search.proofs.Demanding.{group_fact, own_fact}
use Rattle.conflict_search.proofs.library.Library.fact_of_group.Goals as goal
use Rattle.conflict_search.proofs.library.Library.fact_of_group.Goals.{then-group-number+in_ok-against+in_ok-push-2, else-group-number}

pub returns : goal.returns
returns c =
    let ms = members_in c.args.self.now in
    let wanted = wanted_in c.args.self.now in
    let g = c.args.group in
    let starts = c.args.self.now.names.now.first.items in
    let first = get_or starts c.args.number 0 in
    let group = c.requires.group in
    let number = group.number in
    let names = c.requires.names in
    let needed = names.first g.need.number g.need.name.now number.named in
    let one : c.push.new.self.items ≡ g.by ∷ [] = c.in_ok-push.ensures.items ∙ ap (λ (l : List Term). l ++ g.by ∷ []) c.in_ok-terms.ensures.items in
    elim c.if-group-number.branch [
      | then-group-number+in_ok-against+in_ok-push-2 w ↦ (let u = w.in_ok-against.field-0 in
          let items : c.if-group-number.terms.items ≡ g.by ∷ u ∷ [] = ap (λ (v : Vec Term Global). v.items) w.terms-is ∙ w.in_ok-push-2.ensures.items
          ∙ ap (λ (l : List Term). l ++ u ∷ []) one in
          subst (IsNogood ms wanted) (sym items) (group_fact ms wanted first g u group w.in_ok-against.ensures.term
          (subst (IsFirstPlace ms g.need.name.now) (sym w.in_ok-against.ensures.from) needed) w.in_ok-against.ensures.against))
      | else-group-number w ↦ (let items : c.if-group-number.terms.items ≡ g.by ∷ [] = ap (λ (v : Vec Term Global). v.items) w.terms-is ∙ one in
          let same : g.need.number ≡ c.args.number = omega (arith, w.if-group-number.false) in
          subst (IsNogood ms wanted) (sym items)
          (own_fact ms wanted first g group (subst (λ k. IsFirstPlace ms g.need.name.now (get_or starts k 0)) same needed)))
    ]
