use Rattle.std.proofs.Common.{◌≡◌, ◌<◌, List, length, get_or, map, refl, sym, subst, true, false, not}
use Rattle.std.specs.Prelude.{◌↔◌, ◌≢◌, IsTrue, Some}
use Rattle.std.specs.Str.{bytes_eq}
use Rattle.records.specs.Stored.{item_view}
use Rattle.records.specs.declared.record.Item as code
use Rattle.device.specs.Lawful.{place}
use Rattle.plan_core.specs.Boots.{IsChanged, ScriptsDiffer}
use Rattle.plan_core.proofs.Changing.{placed, placed_there, placed_name, changed_version, changed_script, kept_reads, differs, same_text}
use Rattle.plan_core.proofs.Facts.{if_ok}
use Rattle.plan_core.proofs.boots.is_changed.Goals as goal

pub bounds-as_slice-before : goal.bounds-as_slice-before
bounds-as_slice-before c =
    let found = subst (λ (l : List code.Item). Some c.in-Some.before ≡ place c.args.candidate.now.recipe.name (map item_view l)) c.as_slice.ensures
    c.in-Some.ensures in
    let below = placed c.args.candidate.now.recipe.name c.args.set.now c.in-Some.before found in
    subst (λ (l : List code.Item). c.in-Some.before < length l) (sym c.as_slice-2.ensures) below

pub returns-then-ne : goal.returns-then-ne
returns-then-ne c =
    let found = subst (λ (l : List code.Item). Some c.in-Some.before ≡ place c.args.candidate.now.recipe.name (map item_view l)) c.as_slice.ensures
    c.in-Some.ensures in
    let set = map item_view c.args.set.now in
    let candidate = c.args.candidate.now in
    let x = c.index-as_slice-before.result in
    let at = subst (λ (l : List code.Item). x ≡ get_or l c.in-Some.before x) c.as_slice-2.ensures c.index-as_slice-before.is in
    let apart = subst (λ (y : code.Item). true ≡ not (bytes_eq y.version c.args.candidate.now.recipe.version)) (sym c.index-as_slice-before.is)
    c.if-ne.ensures in
    let there = placed_there c.args.set.now c.in-Some.before x (placed candidate.recipe.name c.args.set.now c.in-Some.before found) at in
    let other : x.version ≢ candidate.recipe.version = (differs x.version candidate.recipe.version true apart).0 refl in
    let changed = changed_version c.args.origin.now set (map item_view c.args.items.now) c.args.at c.in-Some.before candidate.recipe.version
    (item_view x) there other in (
      λ t. subst (IsChanged c.args.origin.now set (map item_view c.args.items.now) c.args.at candidate.recipe.version) found changed,
      λ h. refl,
    )

pub scripts_differ-requires-clause-old_scope : goal.scripts_differ-requires-clause-old_scope
scripts_differ-requires-clause-old_scope c =
    let found = subst (λ (l : List code.Item). Some c.in-Some.before ≡ place c.args.candidate.now.recipe.name (map item_view l)) c.as_slice.ensures
    c.in-Some.ensures in
    let candidate = c.args.candidate.now in
    let x = c.index-as_slice-before.result in
    let at = subst (λ (l : List code.Item). x ≡ get_or l c.in-Some.before x) c.as_slice-2.ensures c.index-as_slice-before.is in
    let apart = subst (λ (y : code.Item). false ≡ not (bytes_eq y.version c.args.candidate.now.recipe.version)) (sym c.index-as_slice-before.is)
    c.if-ne.ensures in
    let there = placed_there c.args.set.now c.in-Some.before x (placed candidate.recipe.name c.args.set.now c.in-Some.before found) at in
    let name = placed_name candidate.recipe.name c.args.set.now c.in-Some.before x found at in
    let version = same_text x.version candidate.recipe.version apart in
    record {
      item = item_view x;
      there = there;
      recipe = candidate.recipe;
      reads = kept_reads c.args.origin.now (map item_view c.args.set.now) c.in-Some.before candidate (item_view x) there name version c.requires.kept
          c.requires.read;
    }

pub scripts_differ-requires-clause-old_step : goal.scripts_differ-requires-clause-old_step
scripts_differ-requires-clause-old_step c =
    let found = subst (λ (l : List code.Item). Some c.in-Some.before ≡ place c.args.candidate.now.recipe.name (map item_view l)) c.as_slice.ensures
    c.in-Some.ensures in
    let candidate = c.args.candidate.now in
    let x = c.index-as_slice-before.result in
    let at = subst (λ (l : List code.Item). x ≡ get_or l c.in-Some.before x) c.as_slice-2.ensures c.index-as_slice-before.is in
    let apart = subst (λ (y : code.Item). false ≡ not (bytes_eq y.version c.args.candidate.now.recipe.version)) (sym c.index-as_slice-before.is)
    c.if-ne.ensures in
    let there = placed_there c.args.set.now c.in-Some.before x (placed candidate.recipe.name c.args.set.now c.in-Some.before found) at in
    let name = placed_name candidate.recipe.name c.args.set.now c.in-Some.before x found at in
    let version = same_text x.version candidate.recipe.version apart in
    record {
      item = item_view x;
      there = there;
      reads = kept_reads c.args.origin.now (map item_view c.args.set.now) c.in-Some.before candidate (item_view x) there name version c.requires.kept
          c.requires.read;
      is_step = c.requires.step.is_step;
    }

pub returns : goal.returns
returns c =
    let found = subst (λ (l : List code.Item). Some c.in-Some.before ≡ place c.args.candidate.now.recipe.name (map item_view l)) c.as_slice.ensures
    c.in-Some.ensures in
    let origin = c.args.origin.now in
    let set = map item_view c.args.set.now in
    let items = map item_view c.args.items.now in
    let candidate = c.args.candidate.now in
    let x = c.index-as_slice-before.result in
    let at = subst (λ (l : List code.Item). x ≡ get_or l c.in-Some.before x) c.as_slice-2.ensures c.index-as_slice-before.is in
    let apart = subst (λ (y : code.Item). false ≡ not (bytes_eq y.version c.args.candidate.now.recipe.version)) (sym c.index-as_slice-before.is)
    c.if-ne.ensures in
    let there = placed_there c.args.set.now c.in-Some.before x (placed candidate.recipe.name c.args.set.now c.in-Some.before found) at in
    let version = same_text x.version candidate.recipe.version apart in
    if_ok c.scripts_differ.result
    (λ b. IsTrue b ↔ ScriptsDiffer origin set items c.in-Some.before c.args.at)
    (λ b. IsTrue b ↔ IsChanged origin set items c.args.at candidate.recipe.version (place candidate.recipe.name set))
    (λ b tells. subst (λ o. IsTrue b ↔ IsChanged origin set items c.args.at candidate.recipe.version o) found
    (changed_script origin set items c.args.at c.in-Some.before candidate.recipe.version (item_view x) b there version tells))
    c.scripts_differ.ensures
