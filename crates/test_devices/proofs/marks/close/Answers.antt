use Rattle.std.proofs.Common.{Option, refl, sym, ap, subst}
use Rattle.std.specs.Prelude.{option_map}
use Rattle.std.specs.Option.{IsSomeAnd}
use Rattle.nuc_base.specs.declared.kinds.Outcome.TheVariants as outcomes
use Rattle.records.specs.Stored as stored
use Rattle.device.specs.declared.mark.Mark.TheVariants as marks
use Rattle.device.specs.Devices.{Pending, device_view, pending_view}
use Rattle.device.specs.Lawful.{MayClose}
use Rattle.device.specs.Marks.{IsMarkOf}
use Rattle.test_devices.proofs.marks.close.Goals as goal

pub write_mark-size-requires : goal.write_mark-size-requires
write_mark-size-requires c =
    let d = device_view c.args.device.now in (
      stored.Closed outcomes.Successful,
      subst (λ (o : Option Pending). IsSomeAnd o
          (λ q. IsMarkOf d.set q (marks.Closed outcomes.Successful) (stored.Closed outcomes.Successful))) (sym (ap (option_map pending_view) c.in-Some.is))
          refl,
    )

pub apply_mark-requires-clause-lawful : goal.apply_mark-requires-clause-lawful
apply_mark-requires-clause-lawful c =
    let d = device_view c.args.device.now in
    let is = sym (ap (option_map pending_view) c.in-Some.is) in (
      stored.Closed outcomes.Successful,
      subst (λ (o : Option Pending). IsSomeAnd o (λ q. IsMarkOf d.set q (marks.Closed outcomes.Successful) (stored.Closed outcomes.Successful))) is refl,
      subst (λ (o : Option Pending). IsSomeAnd o (λ q. MayClose q outcomes.Successful)) is (c.if-not-may_close.ensures refl),
    )
