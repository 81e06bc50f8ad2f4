use Rattle.std.proofs.Common.{◌∙◌, List, ap, arith, length, map, not, subst, sym}
use Rattle.std.proofs.lemmas.List.{length-map}
use Rattle.components.specs.Changes.{fate, replanned}
use Rattle.components.specs.Merges.{unmet}
use Rattle.components.specs.Readied.{AreNamesApart, KeepSteps, coming_of}
use Rattle.components.specs.Components.{ComponentState, is_over}
use Rattle.components.proofs.Changed.{fated_names, replanned_length}
use Rattle.components.proofs.Meets.{apart_filter, fits}
use Rattle.components.proofs.Names.{names}
use Rattle.supervisor.proofs.merging.meet_all.Goals as goal

pub meet_in-requires-clause-apart : goal.meet_in-requires-clause-apart
meet_in-requires-clause-apart c = subst (λ (ps : List ComponentState). AreNamesApart (names ps)) (sym c.drop_over.ensures)
    (apart_filter (λ (p : ComponentState). not (is_over p)) c.args.slots.now.items c.requires.names.apart)

pub meet_in-requires-clause-same : goal.meet_in-requires-clause-same
meet_in-requires-clause-same c =
    let qs : List ComponentState = c.args.coming.now.items in
    subst (λ (ps : List ComponentState). KeepSteps (fits qs) ps) (sym c.drop_over.ensures) c.requires.same

pub restart_all-requires-clause-room : goal.restart_all-requires-clause-room
restart_all-requires-clause-room c =
    let f = fate (map coming_of c.args.coming.now.items) in
    let e = ap length c.meet_in.ensures.met ∙ length-map c.drop_over.new.slots.items f ∙ ap length c.drop_over.ensures in
    omega (arith, e, c.requires.room)

pub restart_all-requires-clause-names : goal.restart_all-requires-clause-names
restart_all-requires-clause-names c =
    let f = fate (map coming_of c.args.coming.now.items) in
    subst (λ (ps : List ComponentState). AreNamesApart (names ps))
    (sym (c.meet_in.ensures.met ∙ ap (λ (ps : List ComponentState). map f ps) c.drop_over.ensures))
    (fated_names (map coming_of c.args.coming.now.items) c.args.slots.now.items c.requires.names)

pub returns-clause-met : goal.returns-clause-met
returns-clause-met c =
    let f = fate (map coming_of c.args.coming.now.items) in
    c.restart_all.ensures.replanned ∙ ap replanned (c.meet_in.ensures.met ∙ ap (λ (ps : List ComponentState). map f ps) c.drop_over.ensures)

pub returns-clause-rest : goal.returns-clause-rest
returns-clause-rest c = c.meet_in.ensures.rest ∙ ap (λ (ps : List ComponentState). unmet ps c.args.coming.now.items) c.drop_over.ensures

pub returns-clause-parts : goal.returns-clause-parts
returns-clause-parts c =
    let f = fate (map coming_of c.args.coming.now.items) in
    ap length c.restart_all.ensures.replanned ∙ replanned_length c.meet_in.new.slots.items ∙ ap length c.meet_in.ensures.met ∙ length-map
    c.drop_over.new.slots.items f ∙ ap length c.drop_over.ensures

pub returns-clause-many : goal.returns-clause-many
returns-clause-many c =
    let f = fate (map coming_of c.args.coming.now.items) in
    c.restart_all.ensures.many ∙ ap length c.meet_in.ensures.met ∙ length-map c.drop_over.new.slots.items f ∙ ap length c.drop_over.ensures
