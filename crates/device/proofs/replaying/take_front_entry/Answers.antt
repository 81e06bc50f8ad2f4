use Rattle.std.proofs.Common.{◌∙◌, List, ℕ, Err, refl, sym, subst}
use Rattle.records.specs.Layout.{Spelled}
use Rattle.device.specs.Rebuilt.{building_view}
use Rattle.device.specs.Standing.{CamePayload}
use Rattle.device.proofs.replaying.take_front_entry.Goals as goal

pub returns-in-Err-NotSound-clause-told : goal.returns-in-Err-NotSound-clause-told
returns-in-Err-NotSound-clause-told g c told payload place =
    let read = c.in_ok-payload.ensures.told told payload place in
    let refused = subst (λ f. CamePayload (building_view c.args.building.now) c.as_slice.result.now (building_view c.take_payload.new.self) (Err f))
    c.in-Err-NotSound.field-0-is c.in-Err-NotSound.ensures.came in
    (refl, λ r spelled may. refused r (subst (λ (p : List ℕ). Spelled p r) (sym (c.as_slice.ensures ∙ read.0)) spelled) may)

pub returns-in-Ok-clause-told : goal.returns-in-Ok-clause-told
returns-in-Ok-clause-told g c told payload place =
    let read = c.in_ok-payload.ensures.told told payload place in
    let came = c.in-Ok.ensures.came in
    ((came.0, subst (λ (p : List ℕ). Spelled p came.0) (c.as_slice.ensures ∙ read.0) came.1, came.2, came.3), read.1)
