use Rattle.std.proofs.Common.{inr, refl}
use Rattle.history_rows.proofs.calls.rows_are_histories.Goals as goal

pub returns-clause-closes : goal.returns-clause-closes
returns-clause-closes c = λ o r command is. record {
  start = refl;
  proper = c.bootstraps_on_rollback_row.ensures.unable o r command is;
  run = (
    _,
    record { allowed = (refl, refl, refl); leaves = refl },
    (_, record { allowed = (refl, refl, refl); leaves = refl }, (_, record { allowed = inr (refl, refl); leaves = refl }, refl)),
  );
}

pub returns-clause-restarts : goal.returns-clause-restarts
returns-clause-restarts c = λ o r command is. record {
  start = refl;
  proper = c.two_bootstraps_row.ensures.first o r command is;
  run = (_, record { allowed = (refl, refl, refl); leaves = refl }, (_, record { allowed = (refl, refl, refl); leaves = refl }, refl));
}
