use Rattle.std.proofs.Common.{◌↔◌, ℕ, ◌+◌, List, map, take, subst}
use Rattle.std.specs.List.{Contains}
use Rattle.std.proofs.lemmas.List.{take_all}
use Rattle.recipe_reader.specs.Members.{Need}
use Rattle.recipe_reader.specs.Sets.{wanted_need, asked}
use Rattle.why_not.specs.Fronts.{listed}
use Rattle.why_not.proofs.Fronting.{same_more}
use Rattle.why_not.proofs.Picking.{names_next}
use Rattle.why_not.proofs.front.wanted_names.Goals as goal

pub loop-one-preserved : goal.loop-one-preserved
loop-one-preserved c = λ n.
    let i = c.loop-one.one-index in
    let new = listed c.add_name.new.names.items in
    subst (λ l. Contains new n ↔ Contains l n) (names_next wanted_need c.args.wanted.now i c.one-item.result c.loop-one-test.true c.one-item.is)
    (same_more (listed c.loop-one.names.items) new (map (λ (w : Need). w.name) (asked (take i c.args.wanted.now))) c.one-item.result.name c.loop-one.invariant
    c.in_ok-add_name.ensures n)

pub returns : goal.returns
returns c = λ n.
    subst (λ wanted. Contains (listed c.loop-one.names.items) n ↔ Contains (map (λ (w : Need). w.name) (asked wanted)) n)
    (take_all c.loop-one.one-index c.args.wanted.now c.loop-one-test.false) (c.loop-one.invariant n)
