use Rattle.std.specs.Prelude.{ℕ, List, true}
use Rattle.std.specs.List.{All}
use Rattle.std.proofs.Common.{◌≡◌, ◌<◌, refl, sym, subst}
use Rattle.records.specs.declared.record.Origin.{Origin}
use Rattle.device.specs.Devices.{IsRegularDevice, device_view}
use Rattle.device.specs.Lawful.{no_failures}
use Rattle.device.specs.Sound.{IsSound}
use Rattle.deploy_state.specs.States.{idle_device}
use Rattle.components.specs.Changes.{changed_to, standing}
use Rattle.components.specs.Components.{Components}
use Rattle.components.specs.Platforms.{AllRunFor}
use Rattle.histories.specs.States.{state_after}
use Rattle.histories.specs.TraceEvents.{TraceEvent}
use Rattle.law_termination.specs.Drives.{AreDriven}
use Rattle.session_boots.specs.Traces.{ActTrace}
use Rattle.session_steady.specs.Serves.{IsServing}
use Rattle.session_transitions.proofs.Standing.{change_standing, drives_standing, standing_of}
use Rattle.session_serving.specs.Pauses.{IsChangeAlone}
use Rattle.session_serving.specs.States.{AreUp}
use Rattle.session_serving.proofs.Entered.{opened}
use Rattle.session_serving.proofs.Opens.{all_few, changed_uncounted, given_fitted, given_items, given_origin, none_few}
use Rattle.session_serving.proofs.Up.{made_standing, one_origin}
use Rattle.session_serving.proofs.opening.open_set.Goals as goal

pub ready_set-requires-clause-items : goal.ready_set-requires-clause-items
ready_set-requires-clause-items g c =
    given_items (device_view c.device-device.result.now) (idle_device c.args.idle.now) c.in-Some.origin c.device-device.ensures c.in-Some.is c.requires.sound

pub ready_set-requires-clause-regular : goal.ready_set-requires-clause-regular
ready_set-requires-clause-regular g c = (subst IsRegularDevice (sym c.device-device.ensures) c.requires.regular).set

pub change-requires-clause-few : goal.change-requires-clause-few
change-requires-clause-few g c = subst (λ (l : List ℕ). All (λ (n : ℕ). n < 3) l) (sym c.uncounted.ensures) all_few

pub change-requires-clause-answered : goal.change-requires-clause-answered
change-requires-clause-answered g c = c.requires.from_state.3.returned.stands.answered

pub change-requires-clause-same : goal.change-requires-clause-same
change-requires-clause-same g c =
    let d = idle_device c.args.idle.now in
    let o = c.in-Some.origin in
    let world = g.S.Supervise.world c.args.supervisor.now in
    let fitted = g.S.Supervise.coming c.in-Ok.ready in
    let made = given_fitted (device_view c.device-device.result.now) d o fitted c.device-device.ensures c.in-Ok.ensures.made in
    c.one_platform.ensures.same o.platform fitted (standing world.parts) (c.one_platform.ensures.ready o d.set fitted made)
    (made_standing d world c.requires.up.made o (given_origin (device_view c.device-device.result.now) d o c.device-device.ensures c.in-Some.is))

pub returns-in-Ok-clause-trace : goal.returns-in-Ok-clause-trace
returns-in-Ok-clause-trace g c = λ p told living unopened.
    let e = device_view c.device-device.result.now in
    let d = idle_device c.args.idle.now in
    let o = c.in-Some.origin in
    let fitted = g.S.Supervise.coming c.in-Ok.ready in
    let items = given_items e e o refl c.in-Some.is (subst IsSound (sym c.device-device.ensures) c.requires.sound) in
    let made = given_fitted e d o fitted c.device-device.ensures c.in-Ok.ensures.made in
    let differ = c.ready_items_are_counted.ensures.differ o e.set fitted items.rise c.in-Ok.ensures.made in
    let world = g.S.Supervise.world c.args.supervisor.now in
    let changed = changed_uncounted fitted c.uncounted.result world (g.S.Supervise.world c.change.new.self) c.change.ensures c.uncounted.ensures in
    let orderly = c.changes_keep_order.ensures fitted no_failures true p.world all_few differ unopened.returned.orderly in
    subst (λ (w : Components). (h : List TraceEvent) × ActTrace p h told.list told.list × IsServing (state_after p h) d w told living
    × ((state_after p h).turns ≡ p.turns) × IsChangeAlone h) (sym changed)
    (opened c.marks_are_least.ensures.first d o (given_origin e d o c.device-device.ensures c.in-Some.is) c.requires.pending fitted made p
    world told living unopened (λ n. c.changes_keep.ensures.owners n fitted no_failures true p.world) orderly)

pub returns-in-Ok-clause-up : goal.returns-in-Ok-clause-up
returns-in-Ok-clause-up g c =
    let e = device_view c.device-device.result.now in
    let d = idle_device c.args.idle.now in
    let o = c.in-Some.origin in
    let world = g.S.Supervise.world c.args.supervisor.now in
    let fitted = g.S.Supervise.coming c.in-Ok.ready in
    let items = given_items e e o refl c.in-Some.is (subst IsSound (sym c.device-device.ensures) c.requires.sound) in
    let made = given_fitted e d o fitted c.device-device.ensures c.in-Ok.ensures.made in
    let differ = c.ready_items_are_counted.ensures.differ o e.set fitted items.rise c.in-Ok.ensures.made in
    let origin = given_origin e d o c.device-device.ensures c.in-Some.is in
    let changed = changed_uncounted fitted c.uncounted.result world (g.S.Supervise.world c.change.new.self) c.change.ensures c.uncounted.ensures in
    let old = standing_of world in
    let over = c.ready_items_may_come.ensures.take_over o e.set fitted old items c.in-Ok.ensures.made (made_standing d world c.requires.up.made o origin) in
    let new = c.changes_drive.ensures fitted no_failures true old (drives_standing world c.requires.up.drives) over none_few differ in
    subst (λ (w : Components). AreUp d w) (sym changed) (record {
      drives = subst AreDriven (change_standing fitted no_failures true world) new;
      steady = refl;
      made = λ x is. subst (λ (q : Origin). AllRunFor q.platform (changed_to fitted no_failures true world).parts) (one_origin o x d.origin origin is)
          (subst (λ (w : Components). AllRunFor o.platform w.parts) (change_standing fitted no_failures true world)
          (c.one_platform.ensures.change o.platform fitted no_failures true old (c.one_platform.ensures.ready o d.set fitted made)
          (made_standing d world c.requires.up.made o origin)));
    })
