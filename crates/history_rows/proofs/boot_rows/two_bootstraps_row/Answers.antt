use Rattle.std.proofs.Common.{rules, refl, inl, inr}
use Rattle.history_rows.specs.BootRows.{item_a, item_b}
use Rattle.history_rows.proofs.boot_rows.two_bootstraps_row.Goals as goal

pub returns-clause-first : goal.returns-clause-first
returns-clause-first c = λ o r command s. (
  search rules,
  (
    search rules,
    (
      (
        (
          (
            record {
              phase = refl;
              begun = refl;
              origin = o;
              of_device = refl;
              at = 0;
              item = record item_a { recipe = r item_a };
              there = refl;
              next =
                  refl;
              prepared = s;
              stopped = refl;
              owes_none = refl;
              alone = refl;
              no_end = refl;
            },
            (refl, inl refl),
          ),
          search rules,
        ),
        search rules,
        search rules,
      ),
      (search rules, (search rules, tt)),
    ),
  ),
)

pub returns-clause-second : goal.returns-clause-second
returns-clause-second c = λ o r command s. (
  search rules,
  (
    search rules,
    (
      (
        (
          (
            record {
              phase = refl;
              begun = refl;
              origin = o;
              of_device = refl;
              at = 1;
              item = record item_b { recipe = r item_b };
              there = refl;
              next =
                  refl;
              prepared = s;
              stopped = refl;
              owes_none = refl;
              alone = refl;
              no_end = refl;
            },
            (refl, inl refl),
          ),
          search rules,
        ),
        search rules,
        search rules,
      ),
      (search rules, (search rules, tt)),
    ),
  ),
)

pub returns-clause-long : goal.returns-clause-long
returns-clause-long c = λ o r command s. (
  search rules,
  (
    search rules,
    (
      search rules,
      (
        search rules,
        (
          (
            (
              (
                record {
                  phase = refl;
                  begun = refl;
                  origin = o;
                  of_device = refl;
                  at = 0;
                  item =
                      record item_a { recipe = r item_a };
                  there = refl;
                  next = refl;
                  prepared = s;
                  stopped = refl;
                  owes_none = refl;
                  alone = refl;
                  no_end = refl;
                },
                (refl, inl refl),
              ),
              search rules,
            ),
            search rules,
            search rules,
          ),
          (search rules, (search rules, tt)),
        ),
      ),
    ),
  ),
)

pub returns-clause-skipped : goal.returns-clause-skipped
returns-clause-skipped c = λ o r word command s. (
  search rules,
  (
    (
      (
        (
          record {
            phase = refl;
            begun = refl;
            origin = o;
            of_device = refl;
            at = 0;
            item = record item_a { recipe = r item_a };
            there = refl;
            next =
                refl;
            prepared = s;
            stopped = refl;
            owes_none = refl;
            alone = refl;
            no_end = refl;
          },
          (refl, refl),
        ),
        search rules,
      ),
      search rules,
      search rules,
    ),
    (search rules, (search rules, tt)),
  ),
)

pub returns-clause-probed : goal.returns-clause-probed
returns-clause-probed c = λ o r word command s. (
  (
    (
      (
        record {
          phase = refl;
          begun = refl;
          origin = o;
          of_device = refl;
          at = 0;
          item =
              record item_a { recipe = r item_a };
          there = refl;
          next = refl;
          prepared = s;
          stopped = refl;
          owes_none = refl;
          alone = refl;
          no_end = refl;
        },
        (refl, inr refl),
      ),
      search rules,
    ),
    search rules,
    search rules,
  ),
  (
    (
      (
        (
          record {
            phase = refl;
            begun = refl;
            origin = o;
            of_device = refl;
            at = 0;
            item = record item_a { recipe = r item_a };
            there = refl;
            next =
                refl;
            prepared = s;
            stopped = refl;
            owes_none = refl;
            alone = refl;
            no_end = refl;
          },
          (refl, refl),
        ),
        search rules,
      ),
      search rules,
      search rules,
    ),
    (search rules, (search rules, tt)),
  ),
)

pub returns-clause-refused : goal.returns-clause-refused
returns-clause-refused c = λ o r command s. (
  search rules,
  (
    (
      (
        (
          record {
            phase = refl;
            begun = refl;
            origin = o;
            of_device = refl;
            at = 0;
            item =
                record item_a { recipe = r item_a };
            there = refl;
            next = refl;
            prepared = s;
            stopped = refl;
            owes_none = refl;
            alone = refl;
            no_end = refl;
          },
          (refl, inl refl),
        ),
        search rules,
      ),
      search rules,
      search rules,
    ),
    (search rules, (search rules, tt)),
  ),
)
