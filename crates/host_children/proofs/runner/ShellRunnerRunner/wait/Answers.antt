use Rattle.std.proofs.Common.{◌∙◌, ◌<◌, inl, inr, arith}
use Rattle.std.proofs.lemmas.Bool.{cases_lt}
use Rattle.host_children.proofs.runner.ShellRunnerRunner.wait.Goals as goal

pub returns-in-Some-clause-notes : goal.returns-in-Some-clause-notes
returns-in-Some-clause-notes g c = record {
  entry = λ now e. absurd (cc e);
  moment = c.end_child.ensures.same.2 ∙ c.poll_until.ensures.same.1;
  asked = c.end_child.ensures.same.3 ∙ c.poll_until.ensures.same.2;
}

pub returns-in-None-clause-notes : goal.returns-in-None-clause-notes
returns-in-None-clause-notes g c = record {
  entry = λ now e. absurd (cc e);
  moment = c.poll_until.ensures.same.1;
  asked = c.poll_until.ensures.same.2;
}

-- the clock came to the end of the wait, or stands at the last moment
pub returns-in-None-clause-time : goal.returns-in-None-clause-time
returns-in-None-clause-time g c =
    let clock = c.poll_until.new.self.clock in
    let bound : clock < 4611686018427387904 = c.poll_until.new.self.in_time in (
      c.in-None.ensures.later,
      elim (cases_lt clock 4611686018427387903) [
        | inl before ↦ inl (omega (arith, c.in-None.ensures.none, c.min-until.ensures))
        | inr past ↦ inr (omega arith)
      ],
    )
