use Rattle.std.proofs.Common.{◌≡◌, true, false, Some, sym, ap, ◌∙◌}
use Rattle.std.proofs.lemmas.Option.{slice_get-get_or}
use Rattle.components.specs.Flags.{at_moment}
use Rattle.components.specs.Turns.{may_act}
use Rattle.components.specs.Whole.{IsWhole}
use Rattle.components.specs.Components.{ComponentState}
use Rattle.components.proofs.Each.{at_is}
use Rattle.components.proofs.Whole.{each_at}
use Rattle.supervisor.proofs.Deeds.{may_do_all, no_deed_by}
use Rattle.supervisor.proofs.Held.{shown_at}
use Rattle.supervisor.proofs.acting.deed_at.Goals as goal

pub deed-requires-clause-whole : goal.deed-requires-clause-whole
deed-requires-clause-whole c = each_at IsWhole c.args.at c.args.slots.now c.index-slots-at.result c.requires.whole
    (slice_get-get_or c.args.slots.now c.args.at c.index-slots-at.result c.requires.at ∙ ap (λ (p : ComponentState). Some p) (sym c.index-slots-at.is))

pub stop_of-stop-requires : goal.stop_of-stop-requires
stop_of-stop-requires c = shown_at c.args.slots.now c.args.flags.now c.args.at c.index-slots-at.result c.requires.at c.index-slots-at.is c.requires.held

pub returns-clause-none : goal.returns-clause-none
returns-clause-none c = λ e. at_is (λ p. may_act (at_moment c.args.slots.now c.args.moment true) p ≡ false) c.args.slots.now c.args.at c.index-slots-at.result
    c.requires.at c.index-slots-at.is
    (no_deed_by (at_moment c.args.slots.now c.args.moment true) c.index-slots-at.result c.may_begin-begins.result c.stop_of-stop.result c.deed.result
    c.may_begin-begins.ensures c.stop_of-stop.ensures.may e c.deed.ensures.is_some)

pub returns-clause-some : goal.returns-clause-some
returns-clause-some c = may_do_all (at_moment c.args.slots.now c.args.moment true) c.args.at c.index-slots-at.result c.may_begin-begins.result
    c.stop_of-stop.result c.deed.result c.requires.apart
    (slice_get-get_or c.args.slots.now c.args.at c.index-slots-at.result c.requires.at ∙ ap (λ (p : ComponentState). Some p) (sym c.index-slots-at.is))
    c.may_begin-begins.ensures c.stop_of-stop.ensures.given c.stop_of-stop.ensures.may c.deed.ensures.deed
