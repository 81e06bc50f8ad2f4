use Rattle.std.proofs.Common.{List, map, refl, sym}
use Rattle.std.specs.List.{AllZip}
use Rattle.nuc_base.specs.declared.artifact.Artifact.{Artifact}
use Rattle.records.specs.Stored.{item_view, draft_item_view}
use Rattle.records.specs.declared.record.Held.{Held}
use Rattle.artifact_store.specs.Filled.{FillsFile}
use Rattle.artifact_store.specs.Staged.{IsFileOfDraft, IsStagedOf}
use Rattle.artifact_store.proofs.Counting.{counts_memory, stages_memory}
use Rattle.artifact_store.proofs.Walking.{kept_found, not_kept, kept_given, kept_helds, held_fors, fills_given, kept_stages, start_spares, wider_spares}
use Rattle.artifact_store.proofs.stages.item_files.Goals as goal

pub given_files-requires : goal.given_files-requires
given_files-requires g c =
    let kept = map item_view c.args.kept.now in
    let item = draft_item_view c.args.item.now in
    kept_given kept item c.requires.keeps (kept_found kept item (sym c.if-is_kept.ensures))

pub returns-in_err-helds-clause-moments : goal.returns-in_err-helds-clause-moments
returns-in_err-helds-clause-moments g c = start_spares g.met.D.Disk.laws (IsStagedOf (map item_view c.args.kept.now) (draft_item_view c.args.item.now))
    c.args.disk.now

pub returns-in_err-helds-clause-staged : goal.returns-in_err-helds-clause-staged
returns-in_err-helds-clause-staged g c = λ l e. stages_memory _ _ _ c.from_residual.ensures.1

pub returns-in_err-helds-clause-counts : goal.returns-in_err-helds-clause-counts
returns-in_err-helds-clause-counts g c = counts_memory _ _ _ _ _ c.from_residual.ensures.1 refl refl

pub returns-then-is_kept-clause-moments : goal.returns-then-is_kept-clause-moments
returns-then-is_kept-clause-moments g c = start_spares g.met.D.Disk.laws (IsStagedOf (map item_view c.args.kept.now) (draft_item_view c.args.item.now))
    c.args.disk.now

pub returns-then-is_kept-clause-held : goal.returns-then-is_kept-clause-held
returns-then-is_kept-clause-held g c = λ holds image left.
    let kept = map item_view c.args.kept.now in
    let item = draft_item_view c.args.item.now in
    kept_helds kept item c.in_ok-helds.helds image (holds image left) c.requires.keeps (kept_found kept item (sym c.if-is_kept.ensures)) c.in_ok-helds.ensures

pub returns-then-is_kept-clause-given : goal.returns-then-is_kept-clause-given
returns-then-is_kept-clause-given g c = held_fors c.args.item.now.artifacts c.in_ok-helds.helds c.in_ok-helds.ensures

pub returns-then-is_kept-clause-staged : goal.returns-then-is_kept-clause-staged
returns-then-is_kept-clause-staged g c = λ l e.
    let kept = map item_view c.args.kept.now in
    let item = draft_item_view c.args.item.now in
    let all : List Artifact = c.args.item.now.artifacts in
    kept_stages l kept item (λ (hs : List Held). AllZip (FillsFile l item) all hs) c.in_ok-helds.helds (sym c.if-is_kept.ensures)
    (fills_given l item all c.in_ok-helds.helds c.in_ok-helds.ensures)

pub returns-clause-moments : goal.returns-clause-moments
returns-clause-moments g c =
    let kept = map item_view c.args.kept.now in
    let item = draft_item_view c.args.item.now in
    wider_spares g.met.D.Disk.laws (IsFileOfDraft item) (IsStagedOf kept item) c.args.disk.now c.stage_files.new.disk
    (λ name is. (not_kept kept item (sym c.if-is_kept.ensures), is)) c.stage_files.ensures.moments

pub returns-clause-others : goal.returns-clause-others
returns-clause-others g c = λ told name spared.
    let kept = map item_view c.args.kept.now in
    let item = draft_item_view c.args.item.now in
    c.stage_files.ensures.others told name (λ is. spared (not_kept kept item (sym c.if-is_kept.ensures), is))
