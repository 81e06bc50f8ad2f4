use Rattle.std.proofs.Common.{◌≡◌, ◌∙◌, Some, ap, sym, true, false}
use Rattle.std.specs.Prelude.{is_some, slice_get}
use Rattle.std.proofs.lemmas.Option.{slice_get-get_or}
use Rattle.components.specs.Components.{ComponentState}
use Rattle.components.specs.Turns.{hard_needs}
use Rattle.components.proofs.Each.{at_is, at_more}
use Rattle.supervisor.specs.Holds.{HaveFlags, holds_others}
use Rattle.supervisor.proofs.Held.{at_one, holds_needs, holds_none, never}
use Rattle.supervisor.proofs.holds.hold_by.Goals as goal

pub returns-then-not-holds_others_at-clause-holds : goal.returns-then-not-holds_others_at-clause-holds
returns-then-not-holds_others_at-clause-holds c = holds_none c.args.slots.now c.args.flags.now (is_some c.args.first)

pub returns-then-not-holds_others_at-clause-flags : goal.returns-then-not-holds_others_at-clause-flags
returns-then-not-holds_others_at-clause-flags c = at_more (λ p. false ≡ holds_others c.args.flags.now c.args.at p)
    (λ p. holds_others c.args.flags.now c.args.at p ≡ true → HaveFlags c.args.slots.now c.args.flags.now (hard_needs p)) c.args.slots.now c.args.at
    (λ p n e. never (holds_others c.args.flags.now c.args.at p) n e) c.if-not-holds_others_at.ensures

pub returns-then-not-holds_others_at-clause-held : goal.returns-then-not-holds_others_at-clause-held
returns-then-not-holds_others_at-clause-held c = λ a. a

pub returns-clause-holds : goal.returns-clause-holds
returns-clause-holds c = c.hold_needs_of.ensures.holds

pub returns-clause-flags : goal.returns-clause-flags
returns-clause-flags c = at_is (λ p. holds_others c.args.flags.now c.args.at p ≡ true → HaveFlags c.args.slots.now c.hold_needs_of.new.flags (hard_needs p))
    c.args.slots.now c.args.at c.index-slots-at.result c.requires.at c.index-slots-at.is (λ e. c.hold_needs_of.ensures.flags)

pub returns-clause-held : goal.returns-clause-held
returns-clause-held c = λ a.
    let e : slice_get c.args.slots.now c.args.at ≡ Some c.index-slots-at.result =
    slice_get-get_or c.args.slots.now c.args.at c.index-slots-at.result c.requires.at ∙ ap (λ (p : ComponentState). Some p) (sym c.index-slots-at.is) in
    c.hold_needs_of.ensures.held (holds_needs c.args.slots.now c.args.flags.now c.args.at c.index-slots-at.result e a
    (sym (at_one (λ p. true ≡ holds_others c.args.flags.now c.args.at p) c.args.at c.args.slots.now c.index-slots-at.result e
    c.if-not-holds_others_at.ensures))) a
