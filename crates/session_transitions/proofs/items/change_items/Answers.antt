use Rattle.std.proofs.Common.{◌≡◌, ℕ, List, false, sym, subst}
use Rattle.device.specs.Devices.{device_view, pending_view}
use Rattle.components.specs.Changes.{standing}
use Rattle.components.specs.Components.{Components}
use Rattle.histories.specs.TraceEvents.{TraceEvent}
use Rattle.histories.specs.Phases.{duty_of}
use Rattle.histories.specs.States.{state_after}
use Rattle.session_boots.specs.Traces.{ActTrace}
use Rattle.session_startup.specs.Runs.{IsAtTurnStart}
use Rattle.histories.specs.Waits.{has_three}
use Rattle.law_termination.specs.Drives.{AreDriven}
use Rattle.session_transitions.proofs.Entered.{entered}
use Rattle.session_transitions.proofs.Standing.{change_standing, drives_standing, standing_of}
use Rattle.session_transitions.proofs.Stage.{long_pending, pending_is, stage_with}
use Rattle.session_transitions.proofs.items.change_items.Goals as goal

pub change-requires-clause-few : goal.change-requires-clause-few
change-requires-clause-few g c =
    let d = device_view c.args.device.now in
    (stage_with d c.requires.ready.0 c.requires.ready.1 c.requires.sound (pending_view c.in-Some.pending)
    (pending_is c.args.device.now.pending c.in-Some.pending c.in-Some.is) c.requires.stage c.requires.few).below

pub change-requires-clause-same : goal.change-requires-clause-same
change-requires-clause-same g c =
    let d = device_view c.args.device.now in
    let ready = c.requires.ready in
    let fitted = g.S.Supervise.coming c.args.ready in
    c.one_platform.ensures.same ready.0.platform fitted (standing (g.S.Supervise.world c.args.supervisor.now).parts)
    (c.one_platform.ensures.ready ready.0 (duty_of d).items fitted ready.2) (c.requires.made ready.0 ready.1)

pub returns-clause-trace : goal.returns-clause-trace
returns-clause-trace g c = λ p told living enters.
    let d = device_view c.args.device.now in
    let q = pending_view c.in-Some.pending in
    let is = pending_is c.args.device.now.pending c.in-Some.pending c.in-Some.is in
    let ready = c.requires.ready in
    let fitted = g.S.Supervise.coming c.args.ready in
    let counts : List ℕ = c.in-Some.pending.failures in
    let stage = stage_with d ready.0 ready.1 c.requires.sound q is c.requires.stage c.requires.few in
    let counted = c.ready_items_are_counted.ensures.counted ready.0 d q (duty_of d).items fitted is stage.items stage.rise ready.2 stage.few stage.below in
    let differ = c.ready_items_are_counted.ensures.differ ready.0 (duty_of d).items fitted stage.rise ready.2 in
    let keeps = c.changes_keep.ensures.keeps d fitted counts p.world (long_pending d q is stage.long) counted differ enters.recorded enters.orderly in
    let few : has_three counts ≡ false = subst (λ (l : List ℕ). has_three l ≡ false) stage.counts c.requires.few in
    subst (λ (w : Components). (h : List TraceEvent) × ActTrace p h told.list told.list ×
    IsAtTurnStart (state_after p h) d w told living) (sym c.change.ensures)
    (entered c.marks_are_least.ensures.first d fitted counts p (g.S.Supervise.world c.args.supervisor.now) told living enters c.requires.stage ready
    (sym stage.counts) few keeps
    (λ n. c.changes_keep.ensures.owners n fitted counts false p.world))

pub returns-clause-drives : goal.returns-clause-drives
returns-clause-drives g c =
    let d = device_view c.args.device.now in
    let q = pending_view c.in-Some.pending in
    let is = pending_is c.args.device.now.pending c.in-Some.pending c.in-Some.is in
    let ready = c.requires.ready in
    let fitted = g.S.Supervise.coming c.args.ready in
    let counts : List ℕ = c.in-Some.pending.failures in
    let stage = stage_with d ready.0 ready.1 c.requires.sound q is c.requires.stage c.requires.few in
    let differ = c.ready_items_are_counted.ensures.differ ready.0 (duty_of d).items fitted stage.rise ready.2 in
    let world = g.S.Supervise.world c.args.supervisor.now in
    let old = standing_of world in
    let over = c.ready_items_may_come.ensures.take_over ready.0 (duty_of d).items fitted old stage.are_items ready.2 (c.requires.made ready.0 ready.1) in
    let new = c.changes_drive.ensures fitted counts false old (drives_standing world c.requires.drives) over stage.below_each differ in
    subst (λ (w : Components). AreDriven w) (sym c.change.ensures)
    (subst (λ (w : Components). AreDriven w) (change_standing fitted counts false world) new)
