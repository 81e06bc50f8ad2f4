use Rattle.std.proofs.Common.{◌++◌, ◌∙◌, List, ℕ, subst}
use Rattle.std.specs.Prelude.{is_some}
use Rattle.components.specs.Turns.{coming_needs}
use Rattle.supervisor.proofs.Held.{Needs, needs_more}
use Rattle.supervisor.proofs.holds.hold_needs_of.Goals as goal

pub hold_coming_needs-requires-clause-many : goal.hold_coming_needs-requires-clause-many
hold_coming_needs-requires-clause-many c = c.hold_needs-last.ensures.holds.adds.many ∙ c.requires.many

pub returns-clause-holds : goal.returns-clause-holds
returns-clause-holds c =
    let a : Needs c.args.slots.now c.args.flags.now c.hold_needs-last.new.flags (is_some c.args.first) (is_some c.hold_needs-last.result) c.hard.result.now
    = record { holds = c.hold_needs-last.ensures.holds; flags = c.hold_needs-last.ensures.flags; held = c.hold_needs-last.ensures.held } in
    let b : Needs c.args.slots.now c.hold_needs-last.new.flags c.hold_coming_needs.new.flags (is_some c.hold_needs-last.result)
    (is_some c.hold_coming_needs.result) (coming_needs c.args.slot.now)
    = record { holds = c.hold_coming_needs.ensures.holds; flags = c.hold_coming_needs.ensures.flags; held = c.hold_coming_needs.ensures.held } in
    let s = needs_more c.args.slots.now c.args.flags.now c.hold_needs-last.new.flags c.hold_coming_needs.new.flags (is_some c.args.first)
    (is_some c.hold_needs-last.result) (is_some c.hold_coming_needs.result) c.hard.result.now (coming_needs c.args.slot.now) a b in
    s.holds

pub returns-clause-flags : goal.returns-clause-flags
returns-clause-flags c =
    let a : Needs c.args.slots.now c.args.flags.now c.hold_needs-last.new.flags (is_some c.args.first) (is_some c.hold_needs-last.result) c.hard.result.now
    = record { holds = c.hold_needs-last.ensures.holds; flags = c.hold_needs-last.ensures.flags; held = c.hold_needs-last.ensures.held } in
    let b : Needs c.args.slots.now c.hold_needs-last.new.flags c.hold_coming_needs.new.flags (is_some c.hold_needs-last.result)
    (is_some c.hold_coming_needs.result) (coming_needs c.args.slot.now)
    = record { holds = c.hold_coming_needs.ensures.holds; flags = c.hold_coming_needs.ensures.flags; held = c.hold_coming_needs.ensures.held } in
    let s = subst (λ (ns : List (List ℕ)). Needs c.args.slots.now c.args.flags.now c.hold_coming_needs.new.flags (is_some c.args.first)
    (is_some c.hold_coming_needs.result) (ns ++ coming_needs c.args.slot.now)) c.hard.ensures
    (needs_more c.args.slots.now c.args.flags.now c.hold_needs-last.new.flags c.hold_coming_needs.new.flags (is_some c.args.first)
    (is_some c.hold_needs-last.result) (is_some c.hold_coming_needs.result) c.hard.result.now (coming_needs c.args.slot.now) a b) in
    s.flags

pub returns-clause-held : goal.returns-clause-held
returns-clause-held c =
    let a : Needs c.args.slots.now c.args.flags.now c.hold_needs-last.new.flags (is_some c.args.first) (is_some c.hold_needs-last.result) c.hard.result.now
    = record { holds = c.hold_needs-last.ensures.holds; flags = c.hold_needs-last.ensures.flags; held = c.hold_needs-last.ensures.held } in
    let b : Needs c.args.slots.now c.hold_needs-last.new.flags c.hold_coming_needs.new.flags (is_some c.hold_needs-last.result)
    (is_some c.hold_coming_needs.result) (coming_needs c.args.slot.now)
    = record { holds = c.hold_coming_needs.ensures.holds; flags = c.hold_coming_needs.ensures.flags; held = c.hold_coming_needs.ensures.held } in
    let s = subst (λ (ns : List (List ℕ)). Needs c.args.slots.now c.args.flags.now c.hold_coming_needs.new.flags (is_some c.args.first)
    (is_some c.hold_coming_needs.result) (ns ++ coming_needs c.args.slot.now)) c.hard.ensures
    (needs_more c.args.slots.now c.args.flags.now c.hold_needs-last.new.flags c.hold_coming_needs.new.flags (is_some c.args.first)
    (is_some c.hold_needs-last.result) (is_some c.hold_coming_needs.result) c.hard.result.now (coming_needs c.args.slot.now) a b) in
    s.held
