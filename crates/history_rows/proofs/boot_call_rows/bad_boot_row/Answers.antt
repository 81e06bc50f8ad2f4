use Rattle.std.proofs.Common.{rules, refl, inl}
use Rattle.history_rows.specs.BootCallRows.{item_a}
use Rattle.history_rows.proofs.boot_call_rows.bad_boot_row.Goals as goal

pub returns-clause-boots : goal.returns-clause-boots
returns-clause-boots c = λ o r command s. (
  (
    (
      (
        record {
          phase = refl;
          begun = refl;
          origin = o;
          of_device = refl;
          at = 0;
          item =
              record item_a { recipe = r item_a };
          there = refl;
          next = refl;
          prepared = s;
          stopped = refl;
          owes_none = refl;
          alone = refl;
          no_end = refl;
        },
        (refl, inl refl),
      ),
      search rules,
    ),
    search rules,
    search rules,
  ),
  (search rules, tt),
)
