use Rattle.std.proofs.Common.{refl, inl, [], ◌∷◌}
use Rattle.nuc_base.specs.declared.kinds.Step.TheVariants as step
use Rattle.lifecycle.specs.declared.kinds.LifeEvent.TheVariants as event
use Rattle.law_termination.specs.Replaced.{begun_again, one_stopped, replaced}
use Rattle.law_termination.proofs.Replaced.{both_drive, may_take_over, replaced_names, replaced_drives}
use Rattle.law_termination.proofs.rows.one_is_replaced.Goals as goal

pub returns-clause-stands : goal.returns-clause-stands
returns-clause-stands c = both_drive

pub returns-clause-may : goal.returns-clause-may
returns-clause-may c = may_take_over

pub returns-clause-names : goal.returns-clause-names
returns-clause-names c = replaced_names

pub returns-clause-drives : goal.returns-clause-drives
returns-clause-drives c = replaced_drives

pub returns-clause-falling : goal.returns-clause-falling
returns-clause-falling c = λ m. inl refl

pub returns-clause-stops : goal.returns-clause-stops
returns-clause-stops c = λ m. refl

pub returns-clause-held : goal.returns-clause-held
returns-clause-held c = λ m. refl

pub returns-clause-first : goal.returns-clause-first
returns-clause-first c = λ m. record {
  made = [];
  seen = replaced m;
  quietly = refl;
  hands =
      (1, step.Run, record { owes_none = refl; least = refl }, (refl, refl), refl);
}

pub returns-clause-then : goal.returns-clause-then
returns-clause-then c = λ m. record {
  made = [];
  seen = one_stopped m;
  quietly = refl;
  hands =
      (0, step.Run, record { owes_none = refl; least = refl }, (refl, refl), refl);
}

pub returns-clause-versions : goal.returns-clause-versions
returns-clause-versions c = λ m. refl

pub returns-clause-comes : goal.returns-clause-comes
returns-clause-comes c = λ m. record {
  made = record { who = 0; what = event.MayBegin } ∷ record { who = 0; what = event.MayBegin } ∷ [];
  seen = begun_again m;
  quietly = (record { owes_none = refl; least = refl }, refl, (record { owes_none = refl; least = refl }, refl, refl));
  hands = (record { owes_none = refl; least = refl }, record { begun = refl; new = refl; prepared = refl }, refl);
}
