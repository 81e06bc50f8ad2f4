-- The small world.
use Rattle.std.proofs.Common.{◌≡◌, true, ℕ, List, [], ◌∷◌, false, refl, arith}
use Rattle.std.specs.Prelude.{if◌then◌else◌}
use Rattle.std.specs.List.{AllByRecursion}
use Rattle.std.specs.Str.{bytes_eq}
use Rattle.components.specs.Fitted.{Fitted, is_same_item, steps_of}
use Rattle.components.specs.declared.kinds.Prepared.{Prepared}
use Rattle.law_supervisor.specs.Sound.{HaveOwnNames}
use Rattle.law_termination.specs.Drives.{MayTakeOver, AreDriven}
use Rattle.law_termination.specs.Kept.{IsKeptPart, IsRunnable}
use Rattle.law_termination.specs.Replaced.{both_up, fitted_a, fitted_b, newer, replaced, running}
use Rattle.law_termination.proofs.ChangedNeeds.{change_drives}
use Rattle.law_termination.proofs.Lists.{each_has}
use Rattle.law_termination.proofs.Near.{has_one}
use Rattle.law_termination.proofs.WorkedItems.{own_names, runnable}

abbrev order : List ℕ → ℕ
order n = if bytes_eq n (97 ∷ []) then 0 else 1

runnable_a : (v : ℕ) (m : Prepared) → IsRunnable (fitted_a v m)
runnable_a v m = runnable (fitted_a v m) refl tt tt tt tt tt

runnable_b : (m : Prepared) → IsRunnable (fitted_b m)
runnable_b m = runnable (fitted_b m) refl tt tt tt tt tt

kept_a : (m : Prepared) → IsKeptPart (running (fitted_a 49 m) 1)
kept_a m = record {
  sound = record { main = refl; failures = omega arith; busy = refl; runs = refl; stop = refl };
  steps = refl;
  runnable = runnable_a 49 m;
  coming = tt;
  timed = refl;
  run = refl;
  gone = refl;
  own = refl;
  asks = refl;
  waits = refl;
}

kept_b : (m : Prepared) → IsKeptPart (running (fitted_b m) 2)
kept_b m = record {
  sound = record { main = refl; failures = omega arith; busy = refl; runs = refl; stop = refl };
  steps = refl;
  runnable = runnable_b m;
  coming = tt;
  timed = refl;
  run = refl;
  gone = refl;
  own = refl;
  asks = refl;
  waits = refl;
}

pub both_drive : (m : Prepared) → AreDriven (both_up m)
both_drive m = record {
  alone = (kept_a m, (kept_b m, tt));
  names = own_names (both_up m).parts refl;
  r = order;
  s = order;
  ordered = (
    record { stands = λ g. tt; hard = λ l. tt; soft = λ l. tt; hard_there = λ l. refl; soft_there = λ l. refl },
    (record { stands = λ g. (omega arith, tt); hard = λ l. (omega arith, tt); soft = λ l. tt; hard_there = λ l. refl; soft_there = λ l. refl }, tt),
  );
  each = (
    record { needs = λ g. tt; apart = refl; takes = refl; in_time = (tt, tt) },
    (record { needs = λ g. ((omega arith, refl), tt); apart = refl; takes = refl; in_time = (tt, tt) }, tt),
  );
}

pub may_take_over : (m : Prepared) → MayTakeOver (newer m) (both_up m).parts
may_take_over m = record {
  come = record {
    runnable = (runnable_a 50 m, (runnable_b m, tt));
    s = order;
    placed = (
      record { hard = tt; soft = tt; hard_there = tt; soft_there = tt },
      (record { hard = (omega arith, tt); soft = tt; hard_there = (refl, tt); soft_there = tt }, tt),
    );
  };
  steps = λ f p i j. each_has (λ (g : Fitted). is_same_item g.item p.fitted.item ≡ true → steps_of g ≡ steps_of p.fitted) f (newer m) (has_one (newer m) f i)
      (each_has (λ q. AllByRecursion (λ (g : Fitted). is_same_item g.item q.fitted.item ≡ true → steps_of g ≡ steps_of q.fitted) (newer m)) p (both_up m).parts
      (has_one (both_up m).parts p j) ((λ e. absurd (cc), (λ e. absurd (cc), tt)), ((λ e. absurd (cc), (λ e. refl, tt)), tt)));
  needs = λ f p i j. each_has (λ (g : Fitted). is_same_item g.item p.fitted.item ≡ true → g.hard ≡ p.fitted.hard) f (newer m) (has_one (newer m) f i)
      (each_has (λ q. AllByRecursion (λ (g : Fitted). is_same_item g.item q.fitted.item ≡ true → g.hard ≡ q.fitted.hard) (newer m)) p (both_up m).parts
      (has_one (both_up m).parts p j) ((λ e. absurd (cc), (λ e. absurd (cc), tt)), ((λ e. absurd (cc), (λ e. refl, tt)), tt)));
}

pub replaced_names : (m : Prepared) → HaveOwnNames (replaced m).parts
replaced_names m = own_names (replaced m).parts refl

pub replaced_drives : (m : Prepared) → AreDriven (replaced m)
replaced_drives m = change_drives (newer m) [] (both_up m) (both_drive m) (may_take_over m) false tt (replaced_names m)
