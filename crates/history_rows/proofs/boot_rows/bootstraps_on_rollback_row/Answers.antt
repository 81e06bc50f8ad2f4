use Rattle.std.proofs.Common.{◌≡◌, rules, refl, inl, subst}
use Rattle.std.specs.Prelude.{Bool, [], ◌∷◌, if◌then◌else◌}
use Rattle.recipe_reader.specs.Backs.{is_back}
use Rattle.history_rows.specs.Rows.{a}
use Rattle.history_rows.specs.BootRows.{item_a, newer_a}
use Rattle.history_rows.proofs.boot_rows.bootstraps_on_rollback_row.Goals as goal

pub returns-clause-fails : goal.returns-clause-fails
returns-clause-fails c = λ o r command s. (
  search rules,
  (
    search rules,
    (
      search rules,
      (
        (
          (
            (
              record {
                phase = refl;
                begun = refl;
                origin = o;
                of_device = refl;
                at = 0;
                item = record newer_a { recipe = r newer_a };
                there =
                    refl;
                next = refl;
                prepared = s;
                stopped = refl;
                owes_none = refl;
                alone = refl;
                no_end = refl;
              },
              (refl, inl refl),
            ),
            search rules,
          ),
          search rules,
          search rules,
        ),
        (search rules, (search rules, tt)),
      ),
    ),
  ),
)

pub returns-clause-backs : goal.returns-clause-backs
returns-clause-backs c = λ o r command s. (
  search rules,
  (
    search rules,
    (
      (
        (
          (
            record {
              phase = refl;
              begun = refl;
              origin = o;
              of_device = refl;
              at = 0;
              item = record item_a { recipe = r item_a };
              there = refl;
              next =
                  refl;
              prepared = s;
              stopped = refl;
              owes_none = refl;
              alone = refl;
              no_end = refl;
            },
            (refl, inl refl),
          ),
          search rules,
        ),
        search rules,
        search rules,
      ),
      (search rules, (search rules, tt)),
    ),
  ),
)

pub returns-clause-unable : goal.returns-clause-unable
returns-clause-unable c = λ o r command s. (
  search rules,
  (
    search rules,
    (
      search rules,
      (
        (
          (
            (
              record {
                phase = refl;
                begun = refl;
                origin = o;
                of_device = refl;
                at = 0;
                item = record item_a { recipe = r item_a };
                there =
                    refl;
                next = refl;
                prepared = s;
                stopped = refl;
                owes_none = refl;
                alone = refl;
                no_end = refl;
              },
              (refl, inl refl),
            ),
            search rules,
          ),
          search rules,
          search rules,
        ),
        (search rules, (search rules, tt)),
      ),
    ),
  ),
)

pub returns-clause-plainly : goal.returns-clause-plainly
returns-clause-plainly c = λ o r command back may.
    let none : (if is_back o.platform (r item_a) then a ∷ [] else []) ≡ [] = may.0.1 in
    let both : a ∷ [] ≡ [] = subst (λ (b : Bool). (if b then a ∷ [] else []) ≡ []) back none in
    absurd cc
