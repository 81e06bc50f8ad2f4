use Rattle.std.proofs.Common.{◌∙◌, List, ℕ, [], ap, sym}
use Rattle.std.specs.List.{find}
use Rattle.nuc_base.proofs.Lists.{in_here, in_map}
use Rattle.components.specs.Merges.{has_name, without}
use Rattle.components.specs.Readied.{IsFresh}
use Rattle.components.specs.Components.{ComponentState}
use Rattle.components.proofs.Meets.{all_in, fate_none, fate_some, in_found}
use Rattle.supervisor.proofs.merging.meet_one.Goals as goal

pub returns-in-None-clause-met : goal.returns-in-None-clause-met
returns-in-None-clause-met c =
    let qs : List ComponentState = c.args.coming.now.items in
    c.leave.ensures ∙ fate_none c.args.slot.now qs (c.in-None.ensures.found ∙ ap (λ (n : List ℕ). find (has_name n) qs) c.name.ensures)

pub returns-in-None-clause-rest : goal.returns-in-None-clause-rest
returns-in-None-clause-rest c = c.in-None.ensures.rest ∙ ap (λ (n : List ℕ). without n c.args.coming.now.items) c.name.ensures

pub meet-requires-clause-fresh : goal.meet-requires-clause-fresh
meet-requires-clause-fresh c =
    let qs : List ComponentState = c.args.coming.now.items in
    all_in IsFresh qs c.in-Some.new c.requires.fresh (in_found (has_name c.name.result.now) qs c.in-Some.new (sym c.in-Some.ensures.found))

pub meet-requires-clause-same : goal.meet-requires-clause-same
meet-requires-clause-same c = λ s.
    let qs : List ComponentState = c.args.coming.now.items in
    let i = in_found (has_name c.name.result.now) qs c.in-Some.new (sym c.in-Some.ensures.found) in
    c.requires.same c.in-Some.new.fitted c.args.slot.now (in_map (λ (p : ComponentState). p.fitted) qs c.in-Some.new i) (in_here c.args.slot.now []) s

pub returns-in-Some-clause-met : goal.returns-in-Some-clause-met
returns-in-Some-clause-met c =
    let qs : List ComponentState = c.args.coming.now.items in
    c.meet.ensures ∙ fate_some c.args.slot.now c.in-Some.new qs (c.in-Some.ensures.found ∙ ap (λ (n : List ℕ). find (has_name n) qs) c.name.ensures)

pub returns-in-Some-clause-rest : goal.returns-in-Some-clause-rest
returns-in-Some-clause-rest c = c.in-Some.ensures.rest ∙ ap (λ (n : List ℕ). without n c.args.coming.now.items) c.name.ensures
