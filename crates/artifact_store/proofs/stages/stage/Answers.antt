use Rattle.std.proofs.Common.{map, refl}
use Rattle.records.specs.Stored.{item_view, draft_view}
use Rattle.artifact_store.proofs.Counting.{counts_good, counts_handed, still_disk, still_library, stages_err}
use Rattle.artifact_store.proofs.Sparing.{staged_safe}
use Rattle.artifact_store.proofs.stages.stage.Goals as goal

pub returns-in_err-items-clause-safe : goal.returns-in_err-items-clause-safe
returns-in_err-items-clause-safe g c = λ d is none holds.
    staged_safe g.met.D.Disk.laws (map item_view c.args.kept.now) (draft_view c.args.draft) d c.args.disk.now c.stage_items.new.disk c.requires.named
    c.requires.drafted c.stage_items.ensures.moments is none holds

pub returns-clause-safe : goal.returns-clause-safe
returns-clause-safe g c = λ d is none holds.
    staged_safe g.met.D.Disk.laws (map item_view c.args.kept.now) (draft_view c.args.draft) d c.args.disk.now c.stage_items.new.disk c.requires.named
    c.requires.drafted c.stage_items.ensures.moments is none holds

pub returns-in_err-items-clause-staged : goal.returns-in_err-items-clause-staged
returns-in_err-items-clause-staged g c = λ l e. stages_err _ _ _ _ c.from_residual.ensures.1 (c.in_err-items.ensures.staged l e)

pub returns-in_err-items-clause-counts : goal.returns-in_err-items-clause-counts
returns-in_err-items-clause-counts g c = counts_handed _ _ _ _ _ _ c.from_residual.ensures.1 c.in_err-items.ensures.counts

pub returns-clause-held : goal.returns-clause-held
returns-clause-held g c = λ holds. c.in_ok-items.ensures.held holds

pub returns-clause-fills : goal.returns-clause-fills
returns-clause-fills g c = record {
  id = refl;
  group = refl;
  revision = refl;
  policy = refl;
  requirements = refl;
  items = c.in_ok-items.ensures.fills;
  boots = refl;
}

pub returns-clause-staged : goal.returns-clause-staged
returns-clause-staged g c = λ l e.
    let said = c.in_ok-items.ensures.staged l e in (
      said.0,
      record {
        fills = record {
          id = refl;
          group = refl;
          revision = refl;
          policy = refl;
          requirements = refl;
          items = c.in_ok-items.ensures.fills;
          boots = refl;
        };
        files = said.1;
      },
    )

pub returns-clause-counts : goal.returns-clause-counts
returns-clause-counts g c =
    let counts = c.in_ok-items.ensures.counts in
    counts_good _ _ _ _ _ (still_disk _ _ _ _ _ counts) (still_library _ _ _ _ _ counts)
