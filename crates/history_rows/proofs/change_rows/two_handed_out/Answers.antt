use Rattle.std.proofs.Common.{rules, refl, [], ◌∷◌}
use Rattle.lifecycle.specs.declared.kinds.LifeEvent.TheVariants as event
use Rattle.components.specs.Events.{handed_at}
use Rattle.history_rows.specs.ChangeRows.{both_begun_first, both_begun}
use Rattle.history_rows.proofs.change_rows.two_handed_out.Goals as goal

pub returns-clause-first : goal.returns-clause-first
returns-clause-first c = record {
  made = record { who = 0; what = event.MayBegin } ∷ [];
  seen = both_begun_first;
  quietly = (search rules, search rules, refl);
  hands = (search rules, search rules, refl);
}

pub returns-clause-second : goal.returns-clause-second
returns-clause-second c = record {
  made = record { who = 1; what = event.MayBegin } ∷ [];
  seen = both_begun;
  quietly = (search rules, search rules, refl);
  hands = (search rules, search rules, refl);
}

pub returns-clause-none : goal.returns-clause-none
returns-clause-none c = record { made = []; seen = handed_at 1 both_begun; quietly = refl; hands = (search rules, refl) }
