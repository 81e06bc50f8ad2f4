use Rattle.std.proofs.Common.{◌≡◌, ◌++◌, drop}
use Rattle.json.specs.Tree.{items_tokens, members_tokens}
use Rattle.serde_json.specs.Written.{items_outline, members_outline}
use Rattle.tree_core.specs.View.{fields_view, items_view}
use Rattle.tree_core.specs.Regular.{ItemsAreOrderly, MembersAreOrderly}
use Rattle.tree_core.proofs.write.+write.Given as goal

-- what is written and what is still to be written are the whole
abbrev pub invariant-write_items-loop-item : goal.invariant-write_items-loop-item
invariant-write_items-loop-item l = record {
  tokens : l.out.tokens ++ items_tokens (items_outline (items_view (drop l.item-index l.item-items))) ≡ l.initial.out.tokens
      ++ items_tokens (items_outline (items_view l.item-items));
  orderly : ItemsAreOrderly (items_view (drop l.item-index l.item-items));
  before : l.out.before ≡ l.initial.out.before;
}

abbrev pub invariant-write_fields-loop-name : goal.invariant-write_fields-loop-name
invariant-write_fields-loop-name l = record {
  tokens : l.out.tokens ++ members_tokens (members_outline (fields_view (drop l.name-index l.name-items))) ≡ l.initial.out.tokens
      ++ members_tokens (members_outline (fields_view l.name-items));
  orderly : MembersAreOrderly (fields_view (drop l.name-index l.name-items));
  before : l.out.before ≡ l.initial.out.before;
}
