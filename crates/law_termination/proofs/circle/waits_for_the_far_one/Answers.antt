use Rattle.std.proofs.Common.{◌≡◌, true, false, refl, arith, ℕ, List, ◌∷◌, [], Some, None}
use Rattle.std.specs.Prelude.{if◌then◌else◌}
use Rattle.std.specs.Str.{bytes_eq}
use Rattle.law_termination.specs.Circle.{fails_up, item_b, item_y, name, runs, within}
use Rattle.law_termination.proofs.WorkedItems.{runnable}
use Rattle.law_termination.proofs.circle.waits_for_the_far_one.Goals as goal

abbrev order_before : List ℕ → ℕ
order_before n = if bytes_eq n (118 ∷ []) then 0 else (if bytes_eq n (98 ∷ []) then 1 else (if bytes_eq n (120 ∷ []) then 2 else 3))

abbrev order_later : List ℕ → ℕ
order_later n = if bytes_eq n (120 ∷ []) then 0 else (if bytes_eq n (118 ∷ []) then 1 else (if bytes_eq n (98 ∷ []) then 2 else 3))

never : false ≡ true → ⊥
never e = absurd (cc)

pub returns-clause-earlier : goal.returns-clause-earlier
returns-clause-earlier c = λ m. record {
  runnable = (
    runnable (item_b m) refl tt tt tt (omega arith) tt,
    (
      runnable (runs 118 49 [] None None m) refl tt tt tt tt tt,
      (
        runnable (runs 120 49 (name 98
            ∷ []) None (Some (within 50000 m)) m) refl tt tt tt tt (omega arith),
        (runnable (item_y m) refl tt tt tt (omega arith) tt, tt),
      ),
    ),
  );
  s =
      order_before;
  placed = (
    record { hard = (omega arith, tt); soft = tt; hard_there = (refl, tt); soft_there = tt },
    (
      record { hard = tt; soft = tt; hard_there = tt; soft_there = tt },
      (
        record {
          hard = (omega arith, tt);
          soft = tt;
          hard_there = (refl, tt);
          soft_there =
              tt;
        },
        (record { hard = (omega arith, tt); soft = tt; hard_there = (refl, tt); soft_there = tt }, tt),
      ),
    ),
  );
}

pub returns-clause-later : goal.returns-clause-later
returns-clause-later c = λ m. record {
  runnable = (
    runnable (item_b m) refl tt tt tt (omega arith) tt,
    (
      runnable (runs 118 50 (name 120 ∷ []) None None m) refl tt tt tt tt tt,
      (
        runnable (runs 120 50 [] None (Some (within 50000 m)) m) refl tt tt tt tt
            (omega arith),
        (runnable (item_y m) refl tt tt tt (omega arith) tt, (runnable (fails_up m) refl tt tt (omega arith) tt tt, tt)),
      ),
    ),
  );
  s =
      order_later;
  placed = (
    record { hard = (omega arith, tt); soft = tt; hard_there = (refl, tt); soft_there = tt },
    (
      record { hard = (omega arith, tt); soft = tt; hard_there = (refl, tt); soft_there = tt },
      (
        record { hard = tt; soft = tt; hard_there = tt; soft_there = tt },
        (
          record {
            hard = (omega arith, tt);
            soft = tt;
            hard_there = (refl, tt);
            soft_there =
                tt;
          },
          (record { hard = tt; soft = tt; hard_there = tt; soft_there = tt }, tt),
        ),
      ),
    ),
  );
}

pub returns-clause-comes_up : goal.returns-clause-comes_up
returns-clause-comes_up c = λ m. (
  (record { owes_none = refl; none = refl }, refl),
  (
    (record { owes_none = refl; least = refl }, refl),
    (
      (record { owes_none = refl; least = refl }, refl),
      (
        (record { owes_none = refl; least = refl }, record { begun = refl; new = refl; prepared = refl }, refl),
        (
          (record { owes_none = refl; least = refl }, refl),
          (
            (record { owes_none = refl; least = refl }, refl),
            (
              (record { owes_none = refl; least = refl }, record { begun = refl; new = refl; prepared = refl }, refl),
              (
                (record { owes_none = refl; least = refl }, refl),
                (
                  (record { owes_none = refl; least = refl }, refl),
                  (
                    (record { owes_none = refl; least = refl }, record { begun = refl; new = refl; prepared = refl }, refl),
                    (
                      (record { owes_none = refl; least = refl }, refl),
                      (
                        (record { owes_none = refl; least = refl }, refl),
                        ((record { owes_none = refl; least = refl }, record { begun = refl; new = refl; prepared = refl }, refl), tt),
                      ),
                    ),
                  ),
                ),
              ),
            ),
          ),
        ),
      ),
    ),
  ),
)

pub returns-clause-first_fails : goal.returns-clause-first_fails
returns-clause-first_fails c = λ m. (
  (record { owes_none = refl; none = refl }, refl, refl),
  (
    (refl, refl, refl),
    (
      (record { owes_none = refl; least = refl }, refl),
      (
        (record { owes_none = refl; least = refl }, record { begun = refl; new = refl; prepared = refl }, refl),
        (
          (record { owes_none = refl; least = refl }, (refl, refl, refl)),
          (
            (
              record { owes_none = refl; least = refl },
              record { begun = refl; new = refl; prepared = refl },
              refl,
            ),
            tt,
          ),
        ),
      ),
    ),
  ),
)

pub returns-clause-second_fails : goal.returns-clause-second_fails
returns-clause-second_fails c = λ m. (
  (record { owes_none = refl; none = refl }, refl, refl),
  (
    (refl, refl, refl),
    (
      (record { owes_none = refl; least = refl }, (refl, refl, refl)),
      (
        (
          record { owes_none = refl; least = refl },
          record { begun = refl; new = refl; prepared = refl },
          refl,
        ),
        (
          (record { owes_none = refl; least = refl }, refl),
          (
            (record { owes_none = refl; least = refl }, refl),
            (
              (record { owes_none = refl; least = refl }, record { begun = refl; new = refl; prepared = refl }, refl),
              tt,
            ),
          ),
        ),
      ),
    ),
  ),
)

pub returns-clause-others_come : goal.returns-clause-others_come
returns-clause-others_come c = λ m. (
  (record { owes_none = refl; none = refl }, refl),
  (
    (record { owes_none = refl; least = refl }, refl),
    (
      (record { owes_none = refl; least = refl }, refl),
      ((record { owes_none = refl; least = refl }, record { begun = refl; new = refl; prepared = refl }, refl), tt),
    ),
  ),
)

pub returns-clause-b_ends : goal.returns-clause-b_ends
returns-clause-b_ends c = λ m. ((record { owes_none = refl; none = refl }, refl, refl), ((record { owes_none = refl; least = refl }, (refl, refl)), tt))

pub returns-clause-held : goal.returns-clause-held
returns-clause-held c = λ m. refl

pub returns-clause-refused : goal.returns-clause-refused
returns-clause-refused c = λ m k. never k.1.1

pub returns-clause-quiet : goal.returns-clause-quiet
returns-clause-quiet c = λ m. record { owes_none = refl; none = refl }

pub returns-clause-answered : goal.returns-clause-answered
returns-clause-answered c = λ m. refl

pub returns-clause-y_ends : goal.returns-clause-y_ends
returns-clause-y_ends c = λ m. ((record { owes_none = refl; none = refl }, refl, refl), ((record { owes_none = refl; least = refl }, (refl, refl)), tt))

pub returns-clause-goes_on : goal.returns-clause-goes_on
returns-clause-goes_on c = λ m. refl
