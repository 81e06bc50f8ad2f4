use Rattle.std.proofs.Common.{◌∙◌, List, ap, arith, length, map, not, subst, sym}
use Rattle.components.specs.Changes.{counted, standing, with_items, with_newcomers}
use Rattle.components.specs.Fitted.{Fitted, name_of}
use Rattle.components.specs.Readied.{AreFresh, AreNamesApart, KeepSteps, Readied}
use Rattle.components.specs.Components.{ComponentState}
use Rattle.supervisor.proofs.Merged.{all_changed}
use Rattle.components.proofs.Meets.{began_fits, began_fresh, began_length, began_names, fit_names, fits, is_among}
use Rattle.components.proofs.Names.{names}
use Rattle.supervisor.proofs.Readies.{filter_few}
use Rattle.supervisor.proofs.merging.change_in.Goals as goal

pub begin_all-requires-clause-count : goal.begin_all-requires-clause-count
begin_all-requires-clause-count c = c.ready.invariant.5

pub begin_all-requires-clause-fresh : goal.begin_all-requires-clause-fresh
begin_all-requires-clause-fresh c = c.ready.invariant.6

pub meet_all-requires-clause-fresh : goal.meet_all-requires-clause-fresh
meet_all-requires-clause-fresh c = subst AreFresh (sym c.begin_all.ensures)
    (began_fresh 0 c.args.failures.now (fits c.ready.inside.coming.items) c.requires.few)

pub meet_all-requires-clause-coming_apart : goal.meet_all-requires-clause-coming_apart
meet_all-requires-clause-coming_apart c =
    let cs : List ComponentState = c.ready.inside.coming.items in
    subst (λ (ps : List ComponentState). AreNamesApart (names ps)) (sym c.begin_all.ensures)
    (subst AreNamesApart (sym (began_names 0 c.args.failures.now (fits cs) ∙ fit_names cs)) c.ready.invariant.7)

pub meet_all-requires-clause-same : goal.meet_all-requires-clause-same
meet_all-requires-clause-same c =
    let cs : List ComponentState = c.ready.inside.coming.items in
    let e = ap (λ (ps : List ComponentState). fits ps) c.begin_all.ensures ∙ began_fits 0 c.args.failures.now (fits cs) ∙ ap (λ (r : Readied). r.coming)
    c.ready.view_is in
    subst (λ (fs : List Fitted). KeepSteps fs (standing c.args.slots.now.items)) (sym e) c.requires.same

pub meet_all-requires-clause-empty : goal.meet_all-requires-clause-empty
meet_all-requires-clause-empty c = c.ready.invariant.1

pub meet_all-requires-clause-room : goal.meet_all-requires-clause-room
meet_all-requires-clause-room c =
    let r = rw (← c.ready.view_is) at c.requires.room in
    let i = c.ready.invariant.3 in
    omega (arith, r, i)

pub move_all-requires-clause-empty : goal.move_all-requires-clause-empty
move_all-requires-clause-empty c = c.ready.invariant.0

pub move_all-requires-clause-room : goal.move_all-requires-clause-room
move_all-requires-clause-room c =
    let r = rw (← c.ready.view_is) at c.requires.room in
    omega (arith, r, c.meet_all.ensures.parts)

pub place_all-requires-clause-room : goal.place_all-requires-clause-room
place_all-requires-clause-room c =
    let cs : List ComponentState = c.ready.inside.coming.items in
    let ds : List ComponentState = c.begin_all.new.coming.items in
    let r = rw (← c.ready.view_is) at c.requires.room in
    let f = filter_few (λ (q : ComponentState). not (is_among (standing c.args.slots.now.items) q)) ds in
    let b = ap length c.begin_all.ensures ∙ began_length 0 c.args.failures.now cs in
    let u = ap length c.meet_all.ensures.rest in
    let m = ap length c.move_all.ensures.moved in
    omega (arith, r, f, b, u, m, c.meet_all.ensures.parts, c.move_all.ensures.capacity, c.ready.invariant.2)

pub place_all-requires-clause-flags : goal.place_all-requires-clause-flags
place_all-requires-clause-flags c =
    let cs : List ComponentState = c.ready.inside.coming.items in
    let ds : List ComponentState = c.begin_all.new.coming.items in
    let r = rw (← c.ready.view_is) at c.requires.room in
    let f = filter_few (λ (q : ComponentState). not (is_among (standing c.args.slots.now.items) q)) ds in
    let b = ap length c.begin_all.ensures ∙ began_length 0 c.args.failures.now cs in
    let u = ap length c.meet_all.ensures.rest in
    omega (arith, r, f, b, u, c.meet_all.ensures.many, c.meet_all.ensures.capacity, c.ready.invariant.2, c.ready.invariant.3)

pub returns-clause-few : goal.returns-clause-few
returns-clause-few c =
    let cs : List ComponentState = c.ready.inside.coming.items in
    let ds : List ComponentState = c.begin_all.new.coming.items in
    let r = rw (← c.ready.view_is) at c.requires.room in
    let f = filter_few (λ (q : ComponentState). not (is_among (standing c.args.slots.now.items) q)) ds in
    let b = ap length c.begin_all.ensures ∙ began_length 0 c.args.failures.now cs in
    let u = ap length c.meet_all.ensures.rest in
    let m = ap length c.move_all.ensures.moved in
    rw c.swap.ensures.x_after (omega (arith, r, f, b, u, m, c.meet_all.ensures.parts, c.place_all.ensures.few, c.ready.invariant.2, c.ready.invariant.4))

pub returns-clause-changed : goal.returns-clause-changed
returns-clause-changed c =
    let fs : List Fitted = fits c.ready.inside.coming.items in
    let ps : List ComponentState = standing c.args.slots.now.items in
    rw c.swap.ensures.x_after (all_changed (counted 0 c.args.failures.now fs) ps c.begin_all.new.coming.items c.meet_all.new.coming.items
    c.meet_all.new.slots.items c.place_all.new.room.items c.begin_all.ensures c.meet_all.ensures.rest c.meet_all.ensures.met
    (c.place_all.ensures.placed ∙ ap (λ (xs : List ComponentState). with_newcomers c.meet_all.new.coming.items xs) c.move_all.ensures.moved)
    ∙ ap (λ (r : Readied). with_items (counted 0 c.args.failures.now r.coming) ps) c.ready.view_is)

pub returns-clause-coming_apart : goal.returns-clause-coming_apart
returns-clause-coming_apart c =
    let cs : List ComponentState = c.ready.inside.coming.items in
    subst AreNamesApart (sym (fit_names cs) ∙ ap (λ (r : Readied). map name_of r.coming) c.ready.view_is) c.ready.invariant.7
