use Rattle.std.proofs.Common.{◌≡◌, ◌<◌, length, arith, refl, sym, ap, subst, ◌∙◌, get_or, take, List, [], ◌∷◌, map, false, not}
use Rattle.std.specs.List.{Contains}
use Rattle.std.proofs.lemmas.List.{take_all}
use Rattle.components.specs.Changes.{fate}
use Rattle.components.specs.Merges.{unmet, without}
use Rattle.components.specs.Readied.{AreFresh, IsFresh, KeepSteps, coming_of}
use Rattle.components.specs.Components.{ComponentState, component_name}
use Rattle.components.proofs.Each.{more_done}
use Rattle.components.proofs.Meets.{all_filter, among_before, fate_unmet, fits, got_same, in_got, is_among, keeps_one, unmet_more, unmet_none}
use Rattle.supervisor.proofs.merging.meet_each.Goals as goal

pub loop-slot-init : goal.loop-slot-init
loop-slot-init c = record { done = refl; rest = refl; left = unmet_none c.args.coming.now.items }

pub meet_one-requires-clause-fresh : goal.meet_one-requires-clause-fresh
meet_one-requires-clause-fresh c =
    subst AreFresh (sym c.loop-slot.invariant.left) (all_filter IsFresh
    (λ (q : ComponentState). not (is_among (take c.loop-slot.slot-index c.args.slots.now) q)) c.args.coming.now.items c.requires.fresh)

pub meet_one-requires-clause-same : goal.meet_one-requires-clause-same
meet_one-requires-clause-same c =
    let k = c.loop-slot.slot-index in
    let ps : List ComponentState = c.args.slots.now in
    let d : ComponentState = c.slot-item.result in
    let x : ComponentState = get_or c.loop-slot.slots k d in
    let l : k < length ps = omega (arith, c.loop-slot.auto.slots, c.loop-slot-test.true) in
    let e : x ≡ get_or ps k d = got_same ps c.loop-slot.slots k d l (omega (arith, c.loop-slot-test.true)) c.loop-slot.invariant.rest in
    let i : Contains ps x = subst (Contains ps) (sym e) (in_got ps k d l) in
    subst (λ (qs : List ComponentState). KeepSteps (fits qs) (x ∷ [])) (sym c.loop-slot.invariant.left)
    (keeps_one ps x c.args.coming.now.items (λ (q : ComponentState). not (is_among (take k ps) q)) i c.requires.same)

pub loop-slot-preserved : goal.loop-slot-preserved
loop-slot-preserved c =
    let k = c.loop-slot.slot-index in
    let ps : List ComponentState = c.args.slots.now in
    let qs : List ComponentState = c.args.coming.now.items in
    let d : ComponentState = c.slot-item.result in
    let x : ComponentState = get_or c.loop-slot.slots k d in
    let l : k < length ps = omega (arith, c.loop-slot.auto.slots, c.loop-slot-test.true) in
    let e : x ≡ get_or ps k d = got_same ps c.loop-slot.slots k d l (omega (arith, c.loop-slot-test.true)) c.loop-slot.invariant.rest in
    let n = subst (λ (p : ComponentState). is_among (take k ps) p ≡ false) (sym e) (among_before ps k d l c.requires.apart) in
    let f = c.meet_one.ensures.met ∙ ap (λ (rs : List ComponentState). fate (map coming_of rs) x) c.loop-slot.invariant.left ∙ fate_unmet (take k ps) x qs n in
    let a = more_done (fate (map coming_of qs)) c.loop-slot.slots ps k d c.meet_one.new.slot (omega (arith, c.loop-slot-test.true)) f
    c.loop-slot.invariant.done c.loop-slot.invariant.rest in
    let r = c.meet_one.ensures.rest ∙ ap (without (component_name x)) c.loop-slot.invariant.left in
    record { done = a.0; rest = a.1; left = unmet_more ps k d x qs c.meet_one.new.coming.items l e c.requires.coming_apart r }

pub returns-clause-rest : goal.returns-clause-rest
returns-clause-rest c = c.loop-slot.invariant.left ∙ ap (λ (ps : List ComponentState). unmet ps c.args.coming.now.items)
    (take_all c.loop-slot.slot-index c.args.slots.now (omega (arith, c.loop-slot.auto.slots, c.loop-slot-test.false)))
