use Rattle.std.proofs.Common.{◌∙◌, List, ℕ, Err, length, refl, sym, ap, subst, arith}
use Rattle.device.specs.Devices.{device_view}
use Rattle.device.specs.Standing.{TakeOutcome, IsPayload}
use Rattle.device.proofs.Roomy.{takes_room}
use Rattle.device.proofs.replaying.take_entry.Goals as goal

pub returns-in-Err-NotLawful-clause-told : goal.returns-in-Err-NotLawful-clause-told
returns-in-Err-NotLawful-clause-told g c told payload place =
    let d = device_view c.args.device.now in
    let read = c.in_ok-payload.ensures.told told payload place in
    let refused = subst (λ f. TakeOutcome d c.as_slice.result.now (device_view c.take_payload.new.self) (Err f)) c.in-Err-NotLawful.field-0-is
    c.in-Err-NotLawful.ensures.took in
    (refl, λ x takes. refused x (subst (λ (p : List ℕ). IsPayload d p x) (sym (c.as_slice.ensures ∙ read.0)) takes))

pub returns-in-Ok-clause-told : goal.returns-in-Ok-clause-told
returns-in-Ok-clause-told g c told payload place =
    let d = device_view c.args.device.now in
    let read = c.in_ok-payload.ensures.told told payload place in
    (subst (λ (p : List ℕ). IsPayload d p (device_view c.take_payload.new.self)) (c.as_slice.ensures ∙ read.0) c.in-Ok.ensures.took, read.1)

pub returns-in-Ok-clause-room : goal.returns-in-Ok-clause-room
returns-in-Ok-clause-room g c sound =
    let same = ap length c.as_slice.ensures in
    let near = c.in_ok-payload.ensures.no_further in
    takes_room c.args.at c.in_ok-payload.next (device_view c.args.device.now) (device_view c.take_payload.new.self) c.as_slice.result.now sound
    c.in-Ok.ensures.took (omega (arith, same, near))
