use Rattle.std.proofs.Common.{◌≡◌, List, [], Option, Some, ap, sym, subst, is_some, true}
use Rattle.std.specs.Prelude.{option_map, IsTrue, ◌↔◌}
use Rattle.std.specs.Option.{IfSome, IsSomeAnd}
use Rattle.device.specs.Devices.{Pending, device_view, pending_view}
use Rattle.device.specs.Lawful.{HasBacks, backs, failing_name, reach_of}
use Rattle.device.specs.Sound.{IsUnderWay}
use Rattle.device.specs.Spares.{IsSpareFor}
use Rattle.device.proofs.HavingBacks.{told_by}
use Rattle.device.proofs.device.Device.has_backs.Goals as goal

pub has_flag-requires : goal.has_flag-requires
has_flag-requires c =
    let is : (device_view c.args.self.now).pending ≡ Some (pending_view c.in-Some.pending) = ap (option_map pending_view) c.in-Some.is in
    subst (λ (o : Option Pending). IsSomeAnd o (λ q. is_some (failing_name q) ≡ true)) is c.requires.fails

pub returns-in-Some : goal.returns-in-Some
returns-in-Some c =
    let d = device_view c.args.self.now in
    let q = pending_view c.in-Some.pending in
    let is : d.pending ≡ Some q = ap (option_map pending_view) c.in-Some.is in
    let spare = subst (λ (o : Option Pending). IfSome o (λ q. IsSpareFor c.args.spare.now d q.plan)) is c.requires.spare in
    let way = subst (λ (o : Option Pending). IfSome o (IsUnderWay d)) is c.requires.sound.pending in
    let both = told_by d.origin d.set q c.args.spare.now.back_flags c.has_flag.result c.requires.sound.set way.0.plan_is spare.backs c.has_flag.ensures in
    record {
      answers = subst (λ (o : Option Pending). IfSome o (λ q. IsTrue c.has_flag.result ↔ (backs d.origin d.set q.plan (reach_of q) ≡ [] → ⊥))) (sym is) both.0;
      lawful = subst (λ (o : Option Pending). IfSome o (λ q. IsTrue c.has_flag.result ↔ IsSomeAnd d.origin (HasBacks d.set q))) (sym is) both.1;
    }
