use Rattle.std.proofs.Common.{◌≡◌, ℕ, List, subst}
use Rattle.std.specs.Prelude.{IfOk}
use Rattle.device.specs.Devices.{Device}
use Rattle.workload.specs.Tallies.{tally_line, tally_of}
use Rattle.nucleus_top.proofs.workload_run.line_stored.Goals as goal

pub returns : goal.returns
returns g c =
    subst (λ (d : Device). IfOk c.line_on.result (λ (text : List ℕ). text ≡ tally_line c.args.seed (tally_of d.closed))) c.stored.ensures c.line_on.ensures
