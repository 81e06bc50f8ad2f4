use Rattle.std.proofs.Common.{sym}
use Rattle.std.specs.Prelude.{◌==◌}
use Rattle.fleet.proofs.Lines.{first_ended, nowhere, unended}
use Rattle.fleet.proofs.commands.first_line.Goals as goal

pub returns-in_err-end : goal.returns-in_err-end
returns-in_err-end c = rw c.from_residual.ensures (unended c.args.bytes.now (nowhere (λ b. b == 10) c.args.bytes.now (sym c.in_err-end.ensures)))

pub returns : goal.returns
returns c = first_ended c.args.bytes.now c.in_ok-end.end (sym c.in_ok-end.ensures)
