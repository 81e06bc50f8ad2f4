use Rattle.std.proofs.Common.{◌≡◌, ◌≢◌, ◌∙◌, ℕ, List, [], ◌∷◌, map, sym, subst}
use Rattle.std.specs.List.{AllByRecursion}
use Rattle.std.specs.List.Sorted.{IsStrictlySortedBy}
use Rattle.std.specs.Prelude.{codes}
use Rattle.records.specs.Stored.{Item, DraftItem, item_view, draft_item_view}
use Rattle.records.specs.declared.record.DraftItem as code
use Rattle.device.specs.Plans.{AreRising}
use Rattle.device.proofs.PlanWhole.{each_of}
use Rattle.artifact_store.specs.Paths.{IsNamedDraft}
use Rattle.artifact_store.specs.Staged.{HasItsFiles, KeepsFiles, draft_name}
use Rattle.test_artifacts.proofs.files.staged.Goals as goal

one_rises : (x : List ℕ) → AreRising (x ∷ [])
unfolding IsStrictlySortedBy
one_rises x = (tt, tt)

-- none of the kept items has that name
others_keep : (kept : List Item) (i : DraftItem) (n : List ℕ) → i.name ≡ n → AllByRecursion (λ k. k.name ≢ n) kept → KeepsFiles kept i
others_keep kept i n is others k has name version = absurd (each_of (λ (o : Item). o.name ≢ n) kept k others has (name ∙ is))

pub stage-requires-clause-drafted : goal.stage-requires-clause-drafted
stage-requires-clause-drafted g c =
    subst (λ (ds : List code.DraftItem). AllByRecursion IsNamedDraft (map draft_item_view ds)) (sym c.in_ok-draft.ensures) (c.in_ok-item.ensures.named, tt)

pub stage-requires-clause-rise : goal.stage-requires-clause-rise
stage-requires-clause-rise g c =
    subst (λ (ds : List code.DraftItem). AreRising (map draft_name (map draft_item_view ds))) (sym c.in_ok-draft.ensures) (one_rises c.in_ok-item.item.name)

pub stage-requires-clause-differ : goal.stage-requires-clause-differ
stage-requires-clause-differ g c =
    subst (λ (ds : List code.DraftItem). AllByRecursion HasItsFiles (map draft_item_view ds)) (sym c.in_ok-draft.ensures) (c.in_ok-item.ensures.differ, tt)

pub stage-requires-clause-keeps : goal.stage-requires-clause-keeps
stage-requires-clause-keeps g c =
    let kept = map item_view c.args.device.now.set in
    subst (λ (ds : List code.DraftItem). AllByRecursion (KeepsFiles kept) (map draft_item_view ds)) (sym c.in_ok-draft.ensures)
    (others_keep kept (draft_item_view c.in_ok-item.item) (codes "com.x") c.in_ok-item.ensures.name c.requires.others, tt)
