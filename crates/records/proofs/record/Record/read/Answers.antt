use Rattle.std.proofs.Common.{◌≡◌, Option, Some, None, sym, ap, subst, ◌∙◌, arith}
use Rattle.records.specs.Layout.{record_of}
use Rattle.records.specs.Gives.{IsReadFailure}
use Rattle.records.specs.Stored.{Record}
use Rattle.records.proofs.Leaves.{some_is}
use Rattle.records.proofs.Layouts.{record_takes, record_again, record_asks}
use Rattle.records.proofs.record.Record.read.Goals as goal

pub returns-in-Ok-clause-found : goal.returns-in-Ok-clause-found
returns-in-Ok-clause-found c = record_takes c.args.bytes.now _ (λ i. omega (arith, c.type_inv.bytes i)) c.in-Ok.ensures

pub returns-in-Ok-clause-writable : goal.returns-in-Ok-clause-writable
returns-in-Ok-clause-writable c = record_asks _ (record_takes c.args.bytes.now _ (λ i. omega (arith, c.type_inv.bytes i)) c.in-Ok.ensures).fits

pub returns-in-Ok-clause-only : goal.returns-in-Ok-clause-only
returns-in-Ok-clause-only c r spelled =
    some_is _ r (sym c.in-Ok.ensures ∙ ap record_of spelled.same ∙ record_again r spelled.fits)

contradict : (o : Option Record) (r : Record) → o ≡ None → o ≡ Some r → ⊥
contradict None r p q = absurd cc
contradict (Some x) r p q = absurd cc

pub returns-in-Err-Bad-clause-none : goal.returns-in-Err-Bad-clause-none
returns-in-Err-Bad-clause-none c r spelled =
    let none : record_of c.args.bytes.now ≡ None = subst (λ s. IsReadFailure s (record_of c.args.bytes.now)) c.in-Err-Bad.field-0-is c.in-Err-Bad.ensures in
    contradict (record_of c.args.bytes.now) r none (ap record_of spelled.same ∙ record_again r spelled.fits)
