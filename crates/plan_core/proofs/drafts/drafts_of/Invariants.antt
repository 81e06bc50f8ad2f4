use Rattle.std.proofs.Common.{◌≡◌, ◌+◌, ◌++◌, List, length, map, drop}
use Rattle.records.specs.Stored.{item_view, draft_item_view}
use Rattle.deployment_doc.specs.declared.document.Root.{Root}
use Rattle.plan_core.specs.Looks.{candidates_of}
use Rattle.plan_core.specs.Set.{items_of, bare}
use Rattle.plan_core.proofs.drafts.drafts_of.Given as goal

abbrev pub invariant-loop-candidate : goal.invariant-loop-candidate
invariant-loop-candidate l = record {
  count : length l.rest.items + l.candidate-index ≡ length l.choice;
  left : (roots : List Root) → map item_view l.fn.items ≡ map bare (items_of (map item_view l.set) roots (candidates_of l.choice))
      → map item_view l.rest.items ≡ map bare (items_of (map item_view l.set) roots (candidates_of (drop l.candidate-index l.choice)));
  made : (roots : List Root) → map item_view l.fn.items ≡ map bare (items_of (map item_view l.set) roots (candidates_of l.choice))
      → map draft_item_view l.list.items ++ items_of (map item_view l.set) roots (candidates_of (drop l.candidate-index l.choice)) ≡ items_of
      (map item_view l.set) roots (candidates_of l.choice);
}
