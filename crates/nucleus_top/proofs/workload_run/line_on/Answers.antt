use Rattle.device.specs.Devices.{device_view}
use Rattle.nucleus_top.proofs.WorkloadEnds.{tallied}
use Rattle.nucleus_top.proofs.workload_run.line_on.Goals as goal

pub returns : goal.returns
returns c =
    tallied c.args.seed c.as_slice.result.now (device_view c.args.device.now).closed c.count_outcomes-tally.result c.tally_text.result c.as_slice.ensures
    c.count_outcomes-tally.ensures c.tally_text.ensures
