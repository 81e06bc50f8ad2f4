use Rattle.std.proofs.Common.{◌≡◌, ◌∷◌, ◌++◌, [], List, ◌∙◌, sym, subst}
use Rattle.device.specs.Closings.{IsIndexed}
use Rattle.device.proofs.Ending.{ends_anew, indexed_so}
use Rattle.device.proofs.Indexing.{Entry}
use Rattle.device.proofs.closed.Closed.end_with.Goals as goal

pub invariant_of-self : goal.invariant_of-self
invariant_of-self c =
    let items = c.self.inside.list.items in
    let closed = c.requires.0 in
    let id = c.requires.1 in
    let e = c.requires.2 in
    let is : items ≡ closed ++ (id, e.outcome) ∷ [] = c.self.view_is ∙ e.is in
    let anew = ends_anew items closed id e.outcome c.args.outcome c.index_mut.result.now c.len-last.result is (c.len-last.ensures ∙ c.self.inside.list.ok.0)
    c.index_mut.ensures.value in
    subst (λ (l : List Entry). IsIndexed l c.self.inside.places) (sym anew)
    (indexed_so id c.args.outcome closed e.outcome c.self.inside.places e.fresh
    (subst (λ (l : List Entry). IsIndexed l c.self.inside.places) is c.self.invariant))

pub returns : goal.returns
returns c closed id e =
    let items = c.self.inside.list.items in
    ends_anew items closed id e.outcome c.args.outcome c.index_mut.result.now c.len-last.result (c.self.view_is ∙ e.is)
    (c.len-last.ensures ∙ c.self.inside.list.ok.0) c.index_mut.ensures.value
