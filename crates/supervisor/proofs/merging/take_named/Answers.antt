use Rattle.std.proofs.Common.{◌∙◌, Some, ap, arith, sym}
use Rattle.components.specs.Components.{place_of}
use Rattle.components.proofs.Meets.{found_place, lacks_place}
use Rattle.supervisor.proofs.merging.take_named.Goals as goal

pub remove-requires : goal.remove-requires
remove-requires c =
    let f = found_place c.args.name.now c.in-Some.at c.args.coming.now.items (c.in-Some.ensures ∙ ap (place_of c.args.name.now) c.as_slice.ensures.value) in
    let b = f.below in
    omega (arith, b)

pub returns-clause-found : goal.returns-clause-found
returns-clause-found c =
    let f = found_place c.args.name.now c.in-Some.at c.args.coming.now.items (c.in-Some.ensures ∙ ap (place_of c.args.name.now) c.as_slice.ensures.value) in
    ap Some c.remove.ensures.value ∙ sym (f.found c.remove.result)

pub returns-clause-rest : goal.returns-clause-rest
returns-clause-rest c =
    let f = found_place c.args.name.now c.in-Some.at c.args.coming.now.items (c.in-Some.ensures ∙ ap (place_of c.args.name.now) c.as_slice.ensures.value) in
    c.remove.ensures.items ∙ sym f.rest

pub returns-in_default-clause-found : goal.returns-in_default-clause-found
returns-in_default-clause-found c = let l = lacks_place c.args.name.now c.args.coming.now.items
    (c.in_default.ensures ∙ ap (place_of c.args.name.now) c.as_slice.ensures.value) in sym l.found

pub returns-in_default-clause-rest : goal.returns-in_default-clause-rest
returns-in_default-clause-rest c = let l = lacks_place c.args.name.now c.args.coming.now.items
    (c.in_default.ensures ∙ ap (place_of c.args.name.now) c.as_slice.ensures.value) in sym l.rest
