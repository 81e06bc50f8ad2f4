use Rattle.std.proofs.Common.{◌∙◌, List, ap, arith, sym}
use Rattle.std.specs.List.{insert}
use Rattle.components.specs.Changes.{placed}
use Rattle.components.specs.Components.{ComponentState}
use Rattle.supervisor.proofs.merging.place.Goals as goal

pub insert_at-requires-clause-within : goal.insert_at-requires-clause-within
insert_at-requires-clause-within c = let w = c.place_among-at.ensures.within in let l = c.as_slice.ensures.len in omega (arith, w, l)

pub returns-clause-placed : goal.returns-clause-placed
returns-clause-placed c =
    let at = c.place_among-at.result in
    c.insert_at.ensures.items ∙ ap (λ (ps : List ComponentState). insert ps at c.args.slot) (sym c.as_slice.ensures.value) ∙ c.place_among-at.ensures.placed
    c.args.slot (sym c.name.ensures) ∙ ap (placed c.args.slot) c.as_slice.ensures.value
