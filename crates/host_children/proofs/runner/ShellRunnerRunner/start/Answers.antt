use Rattle.host_children.proofs.runner.ShellRunnerRunner.start.Goals as goal

pub returns-in-Err-clause-err : goal.returns-in-Err-clause-err
returns-in-Err-clause-err g c = record {
  entry = λ now e. absurd (cc e);
  moment = c.try_start.ensures.same.1;
  asked = c.try_start.ensures.same.2;
}
