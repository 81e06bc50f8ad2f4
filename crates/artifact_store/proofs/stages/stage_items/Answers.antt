use Rattle.std.proofs.Common.{◌≡◌, List, [], ◌∷◌, ◌++◌, map, refl, sym, ap, subst, ◌∙◌, arith}
use Rattle.std.specs.List.{AllByRecursion, AllZip, Contains}
use Rattle.std.specs.Vec.Iter.{into_iter_items}
use Rattle.nuc_base.specs.Tables.{IsPass, each}
use Rattle.nuc_base.proofs.Lists.{in_here, in_there}
use Rattle.nuc_base.proofs.Tables.{passes_start, passes_more, passes_end}
use Rattle.records.specs.Stored.{Item, DraftItem, item_view, draft_item_view}
use Rattle.records.specs.declared.record.Item as code
use Rattle.device.specs.Filled.{ItemFilled}
use Rattle.artifact_store.specs.Filled.{FillsFiles}
use Rattle.artifact_store.specs.Holding.{AllHoldItems, HoldsItems}
use Rattle.artifact_store.specs.Paths.{IsNamed, IsNamedDraft}
use Rattle.artifact_store.specs.Staged.{IsStagedOf, IsStagedAmong, HasItsFiles, KeepsFiles, draft_name, item_lines}
use Rattle.artifact_store.proofs.Counting.{counts_good, counts_memory, counts_handed, counts_after, still_disk, still_library, stages_err, stages_memory}
use Rattle.artifact_store.proofs.Counting.{passes_said}
use Rattle.artifact_store.proofs.Staging.{Apart, Differ, apart_none, apart_more, heads_apart, push_each, differ_risen, item_named, no_lines}
use Rattle.artifact_store.proofs.Walking.{same_artifacts, start_spares, more_spares, others_more, kept_more, items_more, map_push, none_left, named_as}
use Rattle.artifact_store.proofs.stages.stage_items.Goals as goal

pub loop-draft-init : goal.loop-draft-init
loop-draft-init g c =
    let kept = map item_view c.args.kept.now in
    let all = map draft_item_view c.args.drafts in
    let given : into_iter_items c.into_iter-draft-iterator.result ≡ c.into_vec-draft-items.result.items =
    c.into_iter-draft-iterator.ensures.into_iter_gives.0 in
    let whole : all ≡ map draft_item_view (into_iter_items c.into_iter-draft-iterator.result) =
    ap (map draft_item_view) (sym (given ∙ c.into_vec-draft-items.ensures)) in
    let none : [] ≡ map item_view c.new-items.result.items = ap (map item_view) (sym c.new-items.ensures.items) in
    record {
      can_next = tt;
      is_finite = tt;
      goes = start_spares g.met.D.Disk.laws (IsStagedAmong kept all) c.args.disk.now;
      others = λ told name spared. refl;
      disk_faults = refl;
      content = refl;
      coming = refl;
      library_faults = refl;
      inside = λ i has. subst (λ (ys : List DraftItem). Contains ys i) (sym whole) has;
      drafted = subst (λ (ys : List DraftItem). AllByRecursion IsNamedDraft ys) whole c.requires.drafted;
      differ = subst (λ (ys : List DraftItem). AllByRecursion HasItsFiles ys) whole c.requires.differ;
      keeps = subst (λ (ys : List DraftItem). AllByRecursion (KeepsFiles kept) ys) whole c.requires.keeps;
      names = subst (λ (ys : List DraftItem). Differ (map draft_name ys)) whole (differ_risen (map draft_name all) c.requires.rise);
      apart = subst (λ (ys : List Item). Apart item_named draft_name ys (map draft_item_view (into_iter_items c.into_iter-draft-iterator.result))) none
          (apart_none item_named draft_name (map draft_item_view (into_iter_items c.into_iter-draft-iterator.result)));
      named = subst (λ (ys : List Item). AllByRecursion IsNamed ys) none tt;
      kept = λ holds. holds;
      held = λ holds image left. subst (λ (ys : List Item). HoldsItems image ys) none tt;
      filled = subst (λ (ys : List Item). IsPass no_lines ItemFilled all (map draft_item_view (into_iter_items c.into_iter-draft-iterator.result)) ys) none
          (subst (λ (ys : List DraftItem). IsPass no_lines ItemFilled all ys []) whole (passes_start no_lines ItemFilled all));
      passes = λ l e.
          subst (λ (ys : List Item). IsPass (item_lines l kept) (FillsFiles l) all (map draft_item_view (into_iter_items c.into_iter-draft-iterator.result))
          ys) none
          (subst (λ (ys : List DraftItem). IsPass (item_lines l kept) (FillsFiles l) all ys []) whole (passes_start (item_lines l kept) (FillsFiles l) all));
    }

pub returns-in_err-item-clause-moments : goal.returns-in_err-item-clause-moments
returns-in_err-item-clause-moments g c =
    let so = c.loop-draft.invariant in
    let kept = map item_view c.args.kept.now in
    let all = map draft_item_view c.args.drafts in
    let x = draft_item_view c.in-Some.draft in
    let rest = map draft_item_view (into_iter_items c.next.new.self) in
    let left : map draft_item_view (into_iter_items c.loop-draft.draft-iterator) ≡ x ∷ rest = ap (map draft_item_view) c.in-Some.ensures.steps.0 in
    let inside : Contains all x = so.inside x (subst (λ (ys : List DraftItem). Contains ys x) (sym left) (in_here x rest)) in
    more_spares g.met.D.Disk.laws (IsStagedOf kept x) (IsStagedAmong kept all) c.args.disk.now c.loop-draft.disk c.stage_item.new.disk
    (λ name is. (x, inside, is)) so.goes c.stage_item.ensures.moments

pub returns-in_err-item-clause-others : goal.returns-in_err-item-clause-others
returns-in_err-item-clause-others g c = λ told.
    let so = c.loop-draft.invariant in
    let kept = map item_view c.args.kept.now in
    let all = map draft_item_view c.args.drafts in
    let x = draft_item_view c.in-Some.draft in
    let rest = map draft_item_view (into_iter_items c.next.new.self) in
    let left : map draft_item_view (into_iter_items c.loop-draft.draft-iterator) ≡ x ∷ rest = ap (map draft_item_view) c.in-Some.ensures.steps.0 in
    let inside : Contains all x = so.inside x (subst (λ (ys : List DraftItem). Contains ys x) (sym left) (in_here x rest)) in
    others_more (IsStagedOf kept x) (IsStagedAmong kept all) (g.D.Disk.seen c.args.disk.now) (g.D.Disk.seen c.loop-draft.disk)
    (g.D.Disk.seen c.stage_item.new.disk) (λ name is. (x, inside, is)) (so.others told) (c.stage_item.ensures.others told)

pub returns-in_err-item-clause-staged : goal.returns-in_err-item-clause-staged
returns-in_err-item-clause-staged g c = λ l e.
    let so = c.loop-draft.invariant in
    let kept = map item_view c.args.kept.now in
    let all = map draft_item_view c.args.drafts in
    let x = draft_item_view c.in-Some.draft in
    let rest = map draft_item_view (into_iter_items c.next.new.self) in
    let left : map draft_item_view (into_iter_items c.loop-draft.draft-iterator) ≡ x ∷ rest = ap (map draft_item_view) c.in-Some.ensures.steps.0 in
    let done = map item_view c.loop-draft.items.items in
    let passes : IsPass (item_lines l kept) (FillsFiles l) all (x ∷ rest) done =
    subst (λ (ys : List DraftItem). IsPass (item_lines l kept) (FillsFiles l) all ys done) left (so.passes l e) in
    stages_err (each (item_lines l kept) all) (λ (is : List code.Item). AllZip (FillsFiles l) all (map item_view is)) _ _ c.from_residual.ensures.1
    (passes_said (item_lines l kept) (FillsFiles l) all x rest done c.in_err-item.field-0.0 passes (c.in_err-item.ensures.staged l (same_artifacts so.content e)))

pub returns-in_err-item-clause-counts : goal.returns-in_err-item-clause-counts
returns-in_err-item-clause-counts g c =
    let so = c.loop-draft.invariant in
    counts_after (g.D.Disk.faults c.args.disk.now) (g.D.Disk.faults c.loop-draft.disk) _ (g.L.Library.faults c.args.library.now)
    (g.L.Library.faults c.loop-draft.library) _ _ so.disk_faults so.library_faults
    (counts_handed _ _ _ _ _ _ c.from_residual.ensures.1 c.in_err-item.ensures.counts)

pub returns-in_err-push-clause-moments : goal.returns-in_err-push-clause-moments
returns-in_err-push-clause-moments g c =
    let so = c.loop-draft.invariant in
    let kept = map item_view c.args.kept.now in
    let all = map draft_item_view c.args.drafts in
    let x = draft_item_view c.in-Some.draft in
    let rest = map draft_item_view (into_iter_items c.next.new.self) in
    let left : map draft_item_view (into_iter_items c.loop-draft.draft-iterator) ≡ x ∷ rest = ap (map draft_item_view) c.in-Some.ensures.steps.0 in
    let inside : Contains all x = so.inside x (subst (λ (ys : List DraftItem). Contains ys x) (sym left) (in_here x rest)) in
    more_spares g.met.D.Disk.laws (IsStagedOf kept x) (IsStagedAmong kept all) c.args.disk.now c.loop-draft.disk c.stage_item.new.disk
    (λ name is. (x, inside, is)) so.goes c.stage_item.ensures.moments

pub returns-in_err-push-clause-others : goal.returns-in_err-push-clause-others
returns-in_err-push-clause-others g c = λ told.
    let so = c.loop-draft.invariant in
    let kept = map item_view c.args.kept.now in
    let all = map draft_item_view c.args.drafts in
    let x = draft_item_view c.in-Some.draft in
    let rest = map draft_item_view (into_iter_items c.next.new.self) in
    let left : map draft_item_view (into_iter_items c.loop-draft.draft-iterator) ≡ x ∷ rest = ap (map draft_item_view) c.in-Some.ensures.steps.0 in
    let inside : Contains all x = so.inside x (subst (λ (ys : List DraftItem). Contains ys x) (sym left) (in_here x rest)) in
    others_more (IsStagedOf kept x) (IsStagedAmong kept all) (g.D.Disk.seen c.args.disk.now) (g.D.Disk.seen c.loop-draft.disk)
    (g.D.Disk.seen c.stage_item.new.disk) (λ name is. (x, inside, is)) (so.others told) (c.stage_item.ensures.others told)

pub returns-in_err-push-clause-staged : goal.returns-in_err-push-clause-staged
returns-in_err-push-clause-staged g c = λ l e. stages_memory _ _ _ c.from_residual-in_err-push.ensures.1

pub returns-in_err-push-clause-counts : goal.returns-in_err-push-clause-counts
returns-in_err-push-clause-counts g c =
    let so = c.loop-draft.invariant in
    let counts = c.in_ok-item.ensures.counts in
    counts_memory _ _ _ _ _ c.from_residual-in_err-push.ensures.1 (still_disk _ _ _ _ _ counts ∙ so.disk_faults)
    (still_library _ _ _ _ _ counts ∙ so.library_faults)

pub loop-draft-preserved : goal.loop-draft-preserved
loop-draft-preserved g c =
    let so = c.loop-draft.invariant in
    let kept = map item_view c.args.kept.now in
    let all = map draft_item_view c.args.drafts in
    let x = draft_item_view c.in-Some.draft in
    let rest = map draft_item_view (into_iter_items c.next.new.self) in
    let left : map draft_item_view (into_iter_items c.loop-draft.draft-iterator) ≡ x ∷ rest = ap (map draft_item_view) c.in-Some.ensures.steps.0 in
    let inside : Contains all x = so.inside x (subst (λ (ys : List DraftItem). Contains ys x) (sym left) (in_here x rest)) in
    let counts = c.in_ok-item.ensures.counts in
    let done = map item_view c.loop-draft.items.items in
    let made = item_view c.in_ok-item.item in
    let fills : ItemFilled x made = c.in_ok-item.ensures.fills in
    let more : done ++ made ∷ [] ≡ map item_view c.push.new.self.items =
    sym (ap (map item_view) c.in_ok-push.ensures.items ∙ map_push item_view c.loop-draft.items.items c.in_ok-item.item) in
    let drafted : AllByRecursion IsNamedDraft (x ∷ rest) = subst (λ (ys : List DraftItem). AllByRecursion IsNamedDraft ys) left so.drafted in
    let differ : AllByRecursion HasItsFiles (x ∷ rest) = subst (λ (ys : List DraftItem). AllByRecursion HasItsFiles ys) left so.differ in
    let keeps : AllByRecursion (KeepsFiles kept) (x ∷ rest) = subst (λ (ys : List DraftItem). AllByRecursion (KeepsFiles kept) ys) left so.keeps in
    let names : Differ (map draft_name (x ∷ rest)) = subst (λ (ys : List DraftItem). Differ (map draft_name ys)) left so.names in
    let apart : Apart item_named draft_name done (x ∷ rest) = subst (λ (ys : List DraftItem). Apart item_named draft_name done ys) left so.apart in
    let filled : IsPass no_lines ItemFilled all (x ∷ rest) done = subst (λ (ys : List DraftItem). IsPass no_lines ItemFilled all ys done) left so.filled in
    record {
      can_next = tt;
      is_finite = tt;
      goes = more_spares g.met.D.Disk.laws (IsStagedOf kept x) (IsStagedAmong kept all) c.args.disk.now c.loop-draft.disk c.stage_item.new.disk
          (λ name is. (x, inside, is)) so.goes c.stage_item.ensures.moments;
      others = λ told. others_more (IsStagedOf kept x) (IsStagedAmong kept all) (g.D.Disk.seen c.args.disk.now) (g.D.Disk.seen c.loop-draft.disk)
          (g.D.Disk.seen c.stage_item.new.disk) (λ name is. (x, inside, is)) (so.others told) (c.stage_item.ensures.others told);
      disk_faults = still_disk _ _ _ _ _ counts ∙ so.disk_faults;
      content = c.stage_item.ensures.kept.0 ∙ so.content;
      coming = c.stage_item.ensures.kept.1 ∙ so.coming;
      library_faults = still_library _ _ _ _ _ counts ∙ so.library_faults;
      inside = λ i has. so.inside i (subst (λ (ys : List DraftItem). Contains ys i) (sym left) (in_there x rest i has));
      drafted = drafted.1;
      differ = differ.1;
      keeps = keeps.1;
      names = names.1;
      apart = subst (λ (ys : List Item). Apart item_named draft_name ys rest) more (apart_more item_named draft_name done made x rest apart fills.name names);
      named = subst (λ (ys : List Item). AllByRecursion IsNamed ys) more (push_each IsNamed done made so.named (named_as x made fills drafted.0));
      kept = λ holds. kept_more g.met.D.Disk.laws kept x c.loop-draft.disk c.stage_item.new.disk c.requires.named drafted.0 c.stage_item.ensures.moments
          (so.kept holds);
      held = λ holds.
          subst (λ (ys : List Item). AllHoldItems (g.D.Disk.may_leave c.stage_item.new.disk) ys) more
          (items_more g.met.D.Disk.laws kept x done made c.loop-draft.disk c.stage_item.new.disk so.named drafted.0
          (heads_apart item_named draft_name done x rest apart) c.stage_item.ensures.moments
          (c.in_ok-item.ensures.held (so.kept holds)) (so.held holds));
      filled = subst (λ (ys : List Item). IsPass no_lines ItemFilled all rest ys) more (passes_more no_lines ItemFilled all x rest done made filled tt fills);
      passes = λ l e.
          let passes : IsPass (item_lines l kept) (FillsFiles l) all (x ∷ rest) done =
          subst (λ (ys : List DraftItem). IsPass (item_lines l kept) (FillsFiles l) all ys done) left (so.passes l e) in
          let said = c.in_ok-item.ensures.staged l (same_artifacts so.content e) in
          subst (λ (ys : List Item). IsPass (item_lines l kept) (FillsFiles l) all rest ys) more
          (passes_more (item_lines l kept) (FillsFiles l) all x rest done made passes said.0 said.1);
    }

pub stage_item-requires : goal.stage_item-requires
stage_item-requires g c =
    let so = c.loop-draft.invariant in
    let kept = map item_view c.args.kept.now in
    let all = map draft_item_view c.args.drafts in
    let x = draft_item_view c.in-Some.draft in
    let rest = map draft_item_view (into_iter_items c.next.new.self) in
    let left : map draft_item_view (into_iter_items c.loop-draft.draft-iterator) ≡ x ∷ rest = ap (map draft_item_view) c.in-Some.ensures.steps.0 in
    let differ : AllByRecursion HasItsFiles (x ∷ rest) = subst (λ (ys : List DraftItem). AllByRecursion HasItsFiles ys) left so.differ in
    let keeps : AllByRecursion (KeepsFiles kept) (x ∷ rest) = subst (λ (ys : List DraftItem). AllByRecursion (KeepsFiles kept) ys) left so.keeps in
    record { keeps = keeps.0; differ = differ.0 }

pub returns-clause-held : goal.returns-clause-held
returns-clause-held g c = λ holds image left.
    subst (λ (is : List code.Item). HoldsItems image (map item_view is)) (sym c.new.ensures) (c.loop-draft.invariant.held holds image left)

pub returns-clause-fills : goal.returns-clause-fills
returns-clause-fills g c =
    let all = map draft_item_view c.args.drafts in
    let done = map item_view c.loop-draft.items.items in
    let none : map draft_item_view (into_iter_items c.loop-draft.draft-iterator) ≡ [] =
    ap (map draft_item_view) (none_left (into_iter_items c.loop-draft.draft-iterator) (omega (arith, c.in-None.ensures.steps.0))) in
    let passes : IsPass no_lines ItemFilled all [] done = subst (λ (ys : List DraftItem). IsPass no_lines ItemFilled all ys done) none
    c.loop-draft.invariant.filled in
    subst (λ (is : List code.Item). AllZip ItemFilled all (map item_view is)) (sym c.new.ensures) (passes_end no_lines ItemFilled all done passes).1

pub returns-clause-staged : goal.returns-clause-staged
returns-clause-staged g c = λ l e.
    let kept = map item_view c.args.kept.now in
    let all = map draft_item_view c.args.drafts in
    let done = map item_view c.loop-draft.items.items in
    let none : map draft_item_view (into_iter_items c.loop-draft.draft-iterator) ≡ [] =
    ap (map draft_item_view) (none_left (into_iter_items c.loop-draft.draft-iterator) (omega (arith, c.in-None.ensures.steps.0))) in
    let passes : IsPass (item_lines l kept) (FillsFiles l) all [] done =
    subst (λ (ys : List DraftItem). IsPass (item_lines l kept) (FillsFiles l) all ys done) none (c.loop-draft.invariant.passes l e) in
    let ended = passes_end (item_lines l kept) (FillsFiles l) all done passes in
    (ended.0, subst (λ (is : List code.Item). AllZip (FillsFiles l) all (map item_view is)) (sym c.new.ensures) ended.1)

pub returns-clause-counts : goal.returns-clause-counts
returns-clause-counts g c = counts_good _ _ _ _ _ c.loop-draft.invariant.disk_faults c.loop-draft.invariant.library_faults
