use Rattle.std.proofs.Common.{◌≡◌, Option, Some, refl, ap, subst}
use Rattle.std.specs.Prelude.{option_map}
use Rattle.std.specs.Option.{IfSome}
use Rattle.device.specs.Devices.{Pending, device_view, pending_view}
use Rattle.device.specs.Spares.{IsSpareFor}
use Rattle.device.proofs.Marked.{closes_not, mark_step}
use Rattle.device.proofs.device.Device.apply_mark.Goals as goal

pub returns-in-Some : goal.returns-in-Some
returns-in-Some c =
    let d = device_view c.args.self.now in
    let q = pending_view c.in-Some.pending in
    let is : d.pending ≡ Some q = ap (option_map pending_view) c.in-Some.is in
    let spare = subst (λ (o : Option Pending). IfSome o (λ q. IsSpareFor c.args.spare.now d q.plan)) is c.requires.spare in
    record {
      applied = λ r mark. mark_step d q (pending_view c.mark_pending.new.pending) c.args.mark r c.args.spare.now.back_flags is
          (closes_not c.args.mark c.in_default.not-Closed) c.requires.lawful spare.backs c.mark_pending.ensures mark;
      kept = λ _. refl;
    }
