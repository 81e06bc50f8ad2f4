use Rattle.std.proofs.Common.{◌≡◌, List, [], ◌∷◌, map, sym, subst, ℕ}
use Rattle.std.specs.List.{AllByRecursion}
use Rattle.std.specs.List.Sorted.{IsStrictlySortedBy}
use Rattle.records.specs.Stored.{Item, item_view, draft_item_view}
use Rattle.records.specs.declared.record.DraftItem as code
use Rattle.records.specs.declared.record.Item as kept
use Rattle.device.specs.Plans.{AreRising}
use Rattle.artifact_store.specs.Paths.{IsNamed, IsNamedDraft}
use Rattle.artifact_store.specs.Staged.{HasItsFiles, KeepsFiles, draft_name}
use Rattle.test_host.proofs.artifacts.is_staged.Goals as goal

one_rises : (x : List ℕ) → AreRising (x ∷ [])
unfolding IsStrictlySortedBy
one_rises x = (tt, tt)

pub stage-requires-clause-drafted : goal.stage-requires-clause-drafted
stage-requires-clause-drafted g c =
    subst (λ (ds : List code.DraftItem). AllByRecursion IsNamedDraft (map draft_item_view ds)) (sym c.in_ok-draft.ensures) (c.in_ok-item.ensures.named, tt)

pub stage-requires-clause-rise : goal.stage-requires-clause-rise
stage-requires-clause-rise g c =
    subst (λ (ds : List code.DraftItem). AreRising (map draft_name (map draft_item_view ds))) (sym c.in_ok-draft.ensures) (one_rises c.in_ok-item.item.name)

pub stage-requires-clause-differ : goal.stage-requires-clause-differ
stage-requires-clause-differ g c =
    subst (λ (ds : List code.DraftItem). AllByRecursion HasItsFiles (map draft_item_view ds)) (sym c.in_ok-draft.ensures) (c.in_ok-item.ensures.differ, tt)
