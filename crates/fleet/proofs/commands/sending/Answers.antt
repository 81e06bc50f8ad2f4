use Rattle.std.proofs.Common.{◌+◌, ◌++◌, ◌∷◌, sym}
use Rattle.std.specs.Fmt.{decimal}
use Rattle.fleet.proofs.Lines.{behind_is}
use Rattle.fleet.proofs.Numbers.{is_sending, no_blank, no_number}
use Rattle.fleet.proofs.commands.sending.Goals as goal

pub returns-in_err-rest : goal.returns-in_err-rest
returns-in_err-rest c = rw c.from_residual.ensures (λ n document small e. c.in_err-rest.ensures (decimal n ++ 32 ∷ document) e)

pub returns-in_err-blank : goal.returns-in_err-blank
returns-in_err-blank c = rw c.from_residual-in_err-blank.ensures
    (no_blank c.args.line.now c.in_ok-rest.rest.now c.in_ok-rest.ensures (sym c.in_err-blank.ensures))

pub returns-in_err-device : goal.returns-in_err-device
returns-in_err-device c =
    rw c.from_residual-in_err-device.ensures
    (no_number c.args.line.now c.in_ok-rest.rest.now c.in_ok-blank.blank c.in_ok-rest.ensures (sym c.in_ok-blank.ensures) c.in_err-device.ensures)

pub returns : goal.returns
returns c =
    is_sending c.args.line.now c.in_ok-rest.rest.now _ c.in_ok-blank.blank c.in_ok-device.device c.in_ok-rest.ensures (sym c.in_ok-blank.ensures)
    c.in_ok-device.ensures
    (behind_is c.in_ok-rest.rest.now (c.in_ok-blank.blank + 1))
