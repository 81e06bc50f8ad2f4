-- The small world in which one waits for another.
use Rattle.std.proofs.Common.{◌≤◌, ℕ, List, [], ◌∷◌, refl, arith}
use Rattle.std.specs.Prelude.{if◌then◌else◌}
use Rattle.std.specs.Option.{IsSomeAnd}
use Rattle.std.specs.Str.{bytes_eq}
use Rattle.components.specs.Turns.{IsQuiet}
use Rattle.components.specs.declared.kinds.Prepared.{Prepared}
use Rattle.law_termination.specs.Drives.{AreDriven}
use Rattle.law_termination.specs.Kept.{IsKeptPart}
use Rattle.law_termination.specs.Small.{fitted_a, fitted_b, one_waits, part_a, part_b}
use Rattle.law_termination.specs.Time.{HasTime}
use Rattle.law_termination.proofs.WorkedItems.{own_names, runnable}

abbrev order : List ℕ → ℕ
order n = if bytes_eq n (97 ∷ []) then 0 else 1

kept_a : (m : Prepared) → IsSomeAnd m.limit_ms (λ l. 1 ≤ l) → IsKeptPart (part_a m)
kept_a m e = record {
  sound = record { main = refl; failures = omega arith; busy = refl; runs = refl; stop = refl };
  steps = refl;
  runnable = runnable (fitted_a m) refl tt e tt tt tt;
  coming = tt;
  timed = refl;
  run = refl;
  gone = refl;
  own = refl;
  asks = refl;
  waits = refl;
}

kept_b : IsKeptPart part_b
kept_b = record {
  sound = record { main = refl; failures = omega arith; busy = refl; runs = refl; stop = refl };
  steps = refl;
  runnable = runnable fitted_b refl tt tt tt tt tt;
  coming = tt;
  timed = refl;
  run = refl;
  gone = refl;
  own = refl;
  asks = refl;
  waits = refl;
}

pub waits_kept : (m : Prepared) → IsSomeAnd m.limit_ms (λ l. 1 ≤ l) → AreDriven (one_waits m)
waits_kept m e = record {
  alone = (kept_a m e, (kept_b, tt));
  names = own_names (one_waits m).parts refl;
  r = order;
  s = order;
  ordered = (
    record { stands = λ g. tt; hard = λ l. tt; soft = λ l. tt; hard_there = λ l. refl; soft_there = λ l. refl },
    (record { stands = λ g. (omega arith, tt); hard = λ l. (omega arith, tt); soft = λ l. tt; hard_there = λ l. refl; soft_there = λ l. refl }, tt),
  );
  each = (
    record { needs = λ g. tt; apart = refl; takes = refl; in_time = (omega arith, tt) },
    (record { needs = λ g. ((omega arith, refl), tt); apart = refl; takes = refl; in_time = tt }, tt),
  );
}

pub waits_quiet : (m : Prepared) → IsQuiet (one_waits m)
waits_quiet m = record { owes_none = refl; none = refl }

pub waits_time : (m : Prepared) → HasTime (one_waits m)
waits_time m = omega arith
