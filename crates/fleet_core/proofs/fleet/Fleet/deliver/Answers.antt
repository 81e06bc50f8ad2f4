use Rattle.std.proofs.Common.{◌≡◌, ◌∙◌, ℕ, Some, length, sym, subst, refl, arith}
use Rattle.std.specs.Prelude.{slice_get, slice_set}
use Rattle.std.proofs.lemmas.Option.{slice_get_read}
use Rattle.fleet_core.specs.declared.packet.Sent.{Sent}
use Rattle.fleet_core.specs.Takings.{AreBy}
use Rattle.fleet_core.specs.Keeping.{Keeping, takings_of, level_before, IsOffered}
use Rattle.fleet_core.specs.Fleets.{FleetState}
use Rattle.fleet_core.specs.Replies.{verdict}
use Rattle.fleet_core.proofs.Stepping.{item_at, gone_steps, offered_steps, offered_sound}
use Rattle.fleet_core.proofs.fleet.Fleet.deliver.Goals as goal

pub returns-then-sent-clause-steps : goal.returns-then-sent-clause-steps
returns-then-sent-clause-steps c =
    let s : Sent = c.in-Some.sent.now in
    let at = item_at c.deref.result.now c.self.inside.sent.items c.args.number s c.deref.ensures.value c.in-Some.ensures.lookup.0 c.in-Some.ensures.lookup.1 in
    gone_steps c.args.self.now c.args.self.now refl c.args.number s (subst (λ (f : FleetState). slice_get f.sent c.args.number ≡ Some s) c.self.view_is at)
    c.if-sent.true

pub index_mut-device-requires : goal.index_mut-device-requires
index_mut-device-requires c =
    let s : Sent = c.in-Some.sent.now in
    let at = item_at c.deref.result.now c.self.inside.sent.items c.args.number s c.deref.ensures.value c.in-Some.ensures.lookup.0 c.in-Some.ensures.lookup.1 in
    let low = c.self.invariant.packets c.args.number s at in
    let many = c.self.inside.devices.ok.0 in
    omega (arith, low, many)

pub offer-requires-clause-later : goal.offer-requires-clause-later
offer-requires-clause-later c =
    let s : Sent = c.in-Some.sent.now in
    let at = item_at c.deref.result.now c.self.inside.sent.items c.args.number s c.deref.ensures.value c.in-Some.ensures.lookup.0 c.in-Some.ensures.lookup.1 in
    let v : FleetState = record { devices = c.self.inside.devices.items; sent = c.self.inside.sent.items; reports = c.self.inside.reports.items } in
    let device : Keeping = c.index_mut-device.result.now in
    let low = c.self.invariant.packets c.args.number s at in
    let there = slice_get_read c.self.inside.devices.items (length c.self.inside.devices.items) s.packet.device device refl low
    c.index_mut-device.ensures.value in
    let reports : c.len-reports.result ≡ length c.self.inside.reports.items = c.len-reports.ensures ∙ c.self.inside.reports.ok.0 in
    λ g. subst (λ (k : ℕ). AreBy k (takings_of device g)) (sym reports) (c.self.invariant.by s.packet.device device there g)

pub invariant_of-self-2 : goal.invariant_of-self-2
invariant_of-self-2 c =
    let s : Sent = c.in-Some.sent.now in
    let at = item_at c.deref.result.now c.self.inside.sent.items c.args.number s c.deref.ensures.value c.in-Some.ensures.lookup.0 c.in-Some.ensures.lookup.1 in
    let v : FleetState = record { devices = c.self.inside.devices.items; sent = c.self.inside.sent.items; reports = c.self.inside.reports.items } in
    let device : Keeping = c.index_mut-device.result.now in
    let low = c.self.invariant.packets c.args.number s at in
    let there = slice_get_read c.self.inside.devices.items (length c.self.inside.devices.items) s.packet.device device refl low
    c.index_mut-device.ensures.value in
    let reports : c.len-reports.result ≡ length c.self.inside.reports.items = c.len-reports.ensures ∙ c.self.inside.reports.ok.0 in
    offered_sound v s.packet device c.offer.new.self c.self.invariant there
    (subst (λ (k : ℕ). IsOffered device s.packet k c.offer.new.self) reports c.in_ok-offer.ensures.device)

pub returns-clause-steps : goal.returns-clause-steps
returns-clause-steps c =
    let s : Sent = c.in-Some.sent.now in
    let at = item_at c.deref.result.now c.self.inside.sent.items c.args.number s c.deref.ensures.value c.in-Some.ensures.lookup.0 c.in-Some.ensures.lookup.1 in
    let v : FleetState = record { devices = c.self.inside.devices.items; sent = c.self.inside.sent.items; reports = c.self.inside.reports.items } in
    let device : Keeping = c.index_mut-device.result.now in
    let low = c.self.invariant.packets c.args.number s at in
    let there = slice_get_read c.self.inside.devices.items (length c.self.inside.devices.items) s.packet.device device refl low
    c.index_mut-device.ensures.value in
    let reports : c.len-reports.result ≡ length c.self.inside.reports.items = c.len-reports.ensures ∙ c.self.inside.reports.ok.0 in
    offered_steps v c.args.self.now c.self.view_is c.args.number s device c.offer.new.self c.in_ok-offer.field-0
    (slice_set c.self.inside.devices.items s.packet.device c.offer.new.self) at c.if-sent.false there
    (subst (λ (k : ℕ). c.in_ok-offer.field-0 ≡ verdict s.packet (level_before device s.packet k)) reports c.in_ok-offer.ensures.reply)
    (subst (λ (k : ℕ). IsOffered device s.packet k c.offer.new.self) reports c.in_ok-offer.ensures.device) refl
