use Rattle.std.proofs.Common.{rules, refl, inl}
use Rattle.history_rows.specs.BootRows.{item_a}
use Rattle.history_rows.proofs.boot_rows.bootstrap_again_row.Goals as goal

pub returns-clause-again : goal.returns-clause-again
returns-clause-again c = λ o r command s. (
  search rules,
  (
    search rules,
    (
      (
        (
          (
            record {
              phase = refl;
              begun = refl;
              origin = o;
              of_device = refl;
              at = 0;
              item = record item_a { recipe = r item_a };
              there = refl;
              next =
                  refl;
              prepared = s;
              stopped = refl;
              owes_none = refl;
              alone = refl;
              no_end = refl;
            },
            (refl, inl refl),
          ),
          search rules,
        ),
        search rules,
        search rules,
      ),
      (search rules, tt),
    ),
  ),
)
