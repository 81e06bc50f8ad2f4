use Rattle.std.proofs.Common.{◌≡◌, ◌+◌, ◌<◌, ◌≤◌, List, [], ◌∷◌, ◌++◌, length, map, drop, refl, sym, subst, ◌∙◌, arith}
use Rattle.std.specs.List.{AllZip}
use Rattle.disk_model.specs.Spares.{IsFile}
use Rattle.nuc_base.specs.Tables.{IsPass, each}
use Rattle.nuc_base.specs.declared.artifact.Artifact.{Artifact}
use Rattle.nuc_base.proofs.Tables.{passes_start, passes_more, passes_end}
use Rattle.records.specs.Stored.{draft_item_view}
use Rattle.records.specs.declared.record.Held.{Held}
use Rattle.device.specs.Plans.{IsHeldFor}
use Rattle.artifact_store.specs.Filled.{FillsFile}
use Rattle.artifact_store.specs.Holding.{HoldsFiles}
use Rattle.artifact_store.specs.Paths.{path}
use Rattle.recipe_reader.specs.Sound.{artifact_file}
use Rattle.artifact_store.specs.Staged.{IsFileOfDraft, artifact_lines}
use Rattle.artifact_store.proofs.Counting.{counts_good, counts_memory, counts_handed, counts_after, still_disk, still_library, stages_err, stages_memory}
use Rattle.artifact_store.proofs.Counting.{passes_said}
use Rattle.artifact_store.proofs.Staging.{Apart, Differ, apart_none, apart_more, differ_of, no_lines}
use Rattle.artifact_store.proofs.Walking.{same_artifacts, next_is, end_is, next_in, start_spares, more_spares, others_more, held_more, held_file, fills_file}
use Rattle.artifact_store.proofs.stages.stage_files.Goals as goal

pub loop-artifact-init : goal.loop-artifact-init
loop-artifact-init g c =
    let all : List Artifact = c.args.item.now.artifacts in
    let none : [] ≡ c.new-helds.result.items = sym c.new-helds.ensures.items in
    record {
      goes = start_spares g.met.D.Disk.laws (IsFileOfDraft (draft_item_view c.args.item.now)) c.args.disk.now;
      others = λ told name spared. refl;
      disk_faults = refl;
      content = refl;
      coming = refl;
      library_faults = refl;
      differ = differ_of (map artifact_file c.args.item.now.artifacts) c.requires.differ;
      apart = subst (λ (hs : List Held). Apart (λ (h : Held). h.file) artifact_file hs all) none (apart_none (λ (h : Held). h.file) artifact_file all);
      held = λ image left. subst (λ (hs : List Held). HoldsFiles image c.args.item.now.name c.args.item.now.version hs) none tt;
      given = subst (λ (hs : List Held). IsPass no_lines IsHeldFor all all hs) none (passes_start no_lines IsHeldFor all);
      passes = λ l e.
          let lines = artifact_lines l (draft_item_view c.args.item.now) in
          let Is = FillsFile l (draft_item_view c.args.item.now) in
          subst (λ (hs : List Held). IsPass lines Is all all hs) none (passes_start lines Is all);
    }

pub returns-in_err-digest-clause-moments : goal.returns-in_err-digest-clause-moments
returns-in_err-digest-clause-moments g c =
    let so = c.loop-artifact.invariant in
    let all : List Artifact = c.args.item.now.artifacts in
    let xs : List Artifact = c.as_slice-artifact-items.result.now in
    let i = c.loop-artifact.artifact-index in
    let x : Artifact = c.artifact-item.result in
    let below : i < length xs = omega arith in
    let next : drop i all ≡ x ∷ drop (i + 1) all = next_is xs all i x c.as_slice-artifact-items.ensures below c.artifact-item.is in
    let place = path c.args.item.now.name c.args.item.now.version x.file in
    more_spares g.met.D.Disk.laws (IsFile place) (IsFileOfDraft (draft_item_view c.args.item.now)) c.args.disk.now c.loop-artifact.disk c.stage_file.new.disk
    (λ name is. (x, next_in all i x _ next, is)) so.goes c.stage_file.ensures.moments

pub returns-in_err-digest-clause-others : goal.returns-in_err-digest-clause-others
returns-in_err-digest-clause-others g c = λ told.
    let so = c.loop-artifact.invariant in
    let all : List Artifact = c.args.item.now.artifacts in
    let xs : List Artifact = c.as_slice-artifact-items.result.now in
    let i = c.loop-artifact.artifact-index in
    let x : Artifact = c.artifact-item.result in
    let below : i < length xs = omega arith in
    let next : drop i all ≡ x ∷ drop (i + 1) all = next_is xs all i x c.as_slice-artifact-items.ensures below c.artifact-item.is in
    let place = path c.args.item.now.name c.args.item.now.version x.file in
    others_more (IsFile place) (IsFileOfDraft (draft_item_view c.args.item.now)) (g.D.Disk.seen c.args.disk.now) (g.D.Disk.seen c.loop-artifact.disk)
    (g.D.Disk.seen c.stage_file.new.disk) (λ name is. (x, next_in all i x _ next, is)) (so.others told) (c.stage_file.ensures.others told)

pub returns-in_err-digest-clause-staged : goal.returns-in_err-digest-clause-staged
returns-in_err-digest-clause-staged g c = λ l e.
    let so = c.loop-artifact.invariant in
    let all : List Artifact = c.args.item.now.artifacts in
    let xs : List Artifact = c.as_slice-artifact-items.result.now in
    let i = c.loop-artifact.artifact-index in
    let x : Artifact = c.artifact-item.result in
    let below : i < length xs = omega arith in
    let next : drop i all ≡ x ∷ drop (i + 1) all = next_is xs all i x c.as_slice-artifact-items.ensures below c.artifact-item.is in
    let lines = artifact_lines l (draft_item_view c.args.item.now) in
    let Is = FillsFile l (draft_item_view c.args.item.now) in
    let helds : List Held = c.loop-artifact.helds.items in
    let left : IsPass lines Is all (x ∷ drop (i + 1) all) helds = subst (λ (ys : List Artifact). IsPass lines Is all ys helds) next (so.passes l e) in
    stages_err (each lines all) (λ hs. AllZip Is all hs) _ _ c.from_residual.ensures.1
    (passes_said lines Is all x (drop (i + 1) all) helds c.in_err-digest.field-0.0 left (c.in_err-digest.ensures.staged l (same_artifacts so.content e)))

pub returns-in_err-digest-clause-counts : goal.returns-in_err-digest-clause-counts
returns-in_err-digest-clause-counts g c =
    let so = c.loop-artifact.invariant in
    counts_after (g.D.Disk.faults c.args.disk.now) (g.D.Disk.faults c.loop-artifact.disk) _ (g.L.Library.faults c.args.library.now)
    (g.L.Library.faults c.loop-artifact.library) _ _ so.disk_faults so.library_faults
    (counts_handed _ _ _ _ _ _ c.from_residual.ensures.1 c.in_err-digest.ensures.counts)

pub returns-in_err-held-clause-moments : goal.returns-in_err-held-clause-moments
returns-in_err-held-clause-moments g c =
    let so = c.loop-artifact.invariant in
    let all : List Artifact = c.args.item.now.artifacts in
    let xs : List Artifact = c.as_slice-artifact-items.result.now in
    let i = c.loop-artifact.artifact-index in
    let x : Artifact = c.artifact-item.result in
    let below : i < length xs = omega arith in
    let next : drop i all ≡ x ∷ drop (i + 1) all = next_is xs all i x c.as_slice-artifact-items.ensures below c.artifact-item.is in
    let place = path c.args.item.now.name c.args.item.now.version x.file in
    more_spares g.met.D.Disk.laws (IsFile place) (IsFileOfDraft (draft_item_view c.args.item.now)) c.args.disk.now c.loop-artifact.disk c.stage_file.new.disk
    (λ name is. (x, next_in all i x _ next, is)) so.goes c.stage_file.ensures.moments

pub returns-in_err-held-clause-others : goal.returns-in_err-held-clause-others
returns-in_err-held-clause-others g c = λ told.
    let so = c.loop-artifact.invariant in
    let all : List Artifact = c.args.item.now.artifacts in
    let xs : List Artifact = c.as_slice-artifact-items.result.now in
    let i = c.loop-artifact.artifact-index in
    let x : Artifact = c.artifact-item.result in
    let below : i < length xs = omega arith in
    let next : drop i all ≡ x ∷ drop (i + 1) all = next_is xs all i x c.as_slice-artifact-items.ensures below c.artifact-item.is in
    let place = path c.args.item.now.name c.args.item.now.version x.file in
    others_more (IsFile place) (IsFileOfDraft (draft_item_view c.args.item.now)) (g.D.Disk.seen c.args.disk.now) (g.D.Disk.seen c.loop-artifact.disk)
    (g.D.Disk.seen c.stage_file.new.disk) (λ name is. (x, next_in all i x _ next, is)) (so.others told) (c.stage_file.ensures.others told)

pub returns-in_err-held-clause-staged : goal.returns-in_err-held-clause-staged
returns-in_err-held-clause-staged g c = λ l e. stages_memory _ _ _ c.from_residual-in_err-held.ensures.1

pub returns-in_err-held-clause-counts : goal.returns-in_err-held-clause-counts
returns-in_err-held-clause-counts g c =
    let so = c.loop-artifact.invariant in
    let counts = c.in_ok-digest.ensures.counts in
    counts_memory _ _ _ _ _ c.from_residual-in_err-held.ensures.1 (still_disk _ _ _ _ _ counts ∙ so.disk_faults)
    (still_library _ _ _ _ _ counts ∙ so.library_faults)

pub returns-in_err-push-clause-moments : goal.returns-in_err-push-clause-moments
returns-in_err-push-clause-moments g c =
    let so = c.loop-artifact.invariant in
    let all : List Artifact = c.args.item.now.artifacts in
    let xs : List Artifact = c.as_slice-artifact-items.result.now in
    let i = c.loop-artifact.artifact-index in
    let x : Artifact = c.artifact-item.result in
    let below : i < length xs = omega arith in
    let next : drop i all ≡ x ∷ drop (i + 1) all = next_is xs all i x c.as_slice-artifact-items.ensures below c.artifact-item.is in
    let place = path c.args.item.now.name c.args.item.now.version x.file in
    more_spares g.met.D.Disk.laws (IsFile place) (IsFileOfDraft (draft_item_view c.args.item.now)) c.args.disk.now c.loop-artifact.disk c.stage_file.new.disk
    (λ name is. (x, next_in all i x _ next, is)) so.goes c.stage_file.ensures.moments

pub returns-in_err-push-clause-others : goal.returns-in_err-push-clause-others
returns-in_err-push-clause-others g c = λ told.
    let so = c.loop-artifact.invariant in
    let all : List Artifact = c.args.item.now.artifacts in
    let xs : List Artifact = c.as_slice-artifact-items.result.now in
    let i = c.loop-artifact.artifact-index in
    let x : Artifact = c.artifact-item.result in
    let below : i < length xs = omega arith in
    let next : drop i all ≡ x ∷ drop (i + 1) all = next_is xs all i x c.as_slice-artifact-items.ensures below c.artifact-item.is in
    let place = path c.args.item.now.name c.args.item.now.version x.file in
    others_more (IsFile place) (IsFileOfDraft (draft_item_view c.args.item.now)) (g.D.Disk.seen c.args.disk.now) (g.D.Disk.seen c.loop-artifact.disk)
    (g.D.Disk.seen c.stage_file.new.disk) (λ name is. (x, next_in all i x _ next, is)) (so.others told) (c.stage_file.ensures.others told)

pub returns-in_err-push-clause-staged : goal.returns-in_err-push-clause-staged
returns-in_err-push-clause-staged g c = λ l e. stages_memory _ _ _ c.from_residual-in_err-push.ensures.1

pub returns-in_err-push-clause-counts : goal.returns-in_err-push-clause-counts
returns-in_err-push-clause-counts g c =
    let so = c.loop-artifact.invariant in
    let counts = c.in_ok-digest.ensures.counts in
    counts_memory _ _ _ _ _ c.from_residual-in_err-push.ensures.1 (still_disk _ _ _ _ _ counts ∙ so.disk_faults)
    (still_library _ _ _ _ _ counts ∙ so.library_faults)

pub loop-artifact-preserved : goal.loop-artifact-preserved
loop-artifact-preserved g c =
    let so = c.loop-artifact.invariant in
    let all : List Artifact = c.args.item.now.artifacts in
    let xs : List Artifact = c.as_slice-artifact-items.result.now in
    let i = c.loop-artifact.artifact-index in
    let x : Artifact = c.artifact-item.result in
    let below : i < length xs = omega arith in
    let next : drop i all ≡ x ∷ drop (i + 1) all = next_is xs all i x c.as_slice-artifact-items.ensures below c.artifact-item.is in
    let place = path c.args.item.now.name c.args.item.now.version x.file in
    let counts = c.in_ok-digest.ensures.counts in
    let helds : List Held = c.loop-artifact.helds.items in
    let h : Held = c.in_ok-held.held in
    let digest = c.in_ok-digest.digest in
    let rest = drop (i + 1) all in
    let more : helds ++ h ∷ [] ≡ c.push.new.self.items = sym c.in_ok-push.ensures.items in
    let differ : Differ (map artifact_file (x ∷ rest)) = subst (λ (ys : List Artifact). Differ (map artifact_file ys)) next so.differ in
    let apart : Apart (λ (k : Held). k.file) artifact_file helds (x ∷ rest) =
    subst (λ (ys : List Artifact). Apart (λ (k : Held). k.file) artifact_file helds ys) next so.apart in
    let given : IsPass no_lines IsHeldFor all (x ∷ rest) helds = subst (λ (ys : List Artifact). IsPass no_lines IsHeldFor all ys helds) next so.given in
    record {
      goes = more_spares g.met.D.Disk.laws (IsFile place) (IsFileOfDraft (draft_item_view c.args.item.now)) c.args.disk.now c.loop-artifact.disk
          c.stage_file.new.disk (λ name is. (x, next_in all i x _ next, is)) so.goes c.stage_file.ensures.moments;
      others = λ told. others_more (IsFile place) (IsFileOfDraft (draft_item_view c.args.item.now)) (g.D.Disk.seen c.args.disk.now)
          (g.D.Disk.seen c.loop-artifact.disk) (g.D.Disk.seen c.stage_file.new.disk) (λ name is. (x, next_in all i x _ next, is)) (so.others told)
          (c.stage_file.ensures.others told);
      disk_faults = still_disk _ _ _ _ _ counts ∙ so.disk_faults;
      content = c.stage_file.ensures.kept.0 ∙ so.content;
      coming = c.stage_file.ensures.kept.1 ∙ so.coming;
      library_faults = still_library _ _ _ _ _ counts ∙ so.library_faults;
      differ = differ.1;
      apart = subst (λ (hs : List Held). Apart (λ (k : Held). k.file) artifact_file hs rest) more
          (apart_more (λ (k : Held). k.file) artifact_file helds h x rest apart c.in_ok-held.ensures.0 differ);
      held = λ image left.
          subst (λ (hs : List Held). HoldsFiles image c.args.item.now.name c.args.item.now.version hs) more
          (held_more g.met.D.Disk.laws c.args.item.now.name c.args.item.now.version x rest helds h c.loop-artifact.disk c.stage_file.new.disk
          c.stage_file.ensures.moments apart c.in_ok-held.ensures.0
          (λ found was. c.in_ok-digest.ensures.held found was ∙ sym c.in_ok-held.ensures.1) so.held image left);
      given = subst (λ (hs : List Held). IsPass no_lines IsHeldFor all rest hs) more
          (passes_more no_lines IsHeldFor all x rest helds h given tt (held_file x h digest c.in_ok-held.ensures c.in_ok-digest.ensures.given));
      passes = λ l e.
          let lines = artifact_lines l (draft_item_view c.args.item.now) in
          let Is = FillsFile l (draft_item_view c.args.item.now) in
          let left : IsPass lines Is all (x ∷ rest) helds = subst (λ (ys : List Artifact). IsPass lines Is all ys helds) next (so.passes l e) in
          let said = c.in_ok-digest.ensures.staged l (same_artifacts so.content e) in
          subst (λ (hs : List Held). IsPass lines Is all rest hs) more
          (passes_more lines Is all x rest helds h left said.0 (fills_file l (draft_item_view c.args.item.now) x h digest c.in_ok-held.ensures.1 said.1));
    }

pub returns-clause-held : goal.returns-clause-held
returns-clause-held g c = λ image left.
    subst (λ (hs : List Held). HoldsFiles image c.args.item.now.name c.args.item.now.version hs) (sym c.new.ensures) (c.loop-artifact.invariant.held image left)

pub returns-clause-given : goal.returns-clause-given
returns-clause-given g c =
    let all : List Artifact = c.args.item.now.artifacts in
    let xs : List Artifact = c.as_slice-artifact-items.result.now in
    let helds : List Held = c.loop-artifact.helds.items in
    let past : length xs ≤ c.loop-artifact.artifact-index = omega arith in
    let none = end_is xs all c.loop-artifact.artifact-index c.as_slice-artifact-items.ensures past in
    let passes : IsPass no_lines IsHeldFor all [] helds = subst (λ (ys : List Artifact). IsPass no_lines IsHeldFor all ys helds) none
    c.loop-artifact.invariant.given in
    subst (λ (hs : List Held). AllZip IsHeldFor all hs) (sym c.new.ensures) (passes_end no_lines IsHeldFor all helds passes).1

pub returns-clause-staged : goal.returns-clause-staged
returns-clause-staged g c = λ l e.
    let all : List Artifact = c.args.item.now.artifacts in
    let xs : List Artifact = c.as_slice-artifact-items.result.now in
    let helds : List Held = c.loop-artifact.helds.items in
    let past : length xs ≤ c.loop-artifact.artifact-index = omega arith in
    let none = end_is xs all c.loop-artifact.artifact-index c.as_slice-artifact-items.ensures past in
    let lines = artifact_lines l (draft_item_view c.args.item.now) in
    let Is = FillsFile l (draft_item_view c.args.item.now) in
    let passes : IsPass lines Is all [] helds = subst (λ (ys : List Artifact). IsPass lines Is all ys helds) none (c.loop-artifact.invariant.passes l e) in
    let done = passes_end lines Is all helds passes in
    (done.0, subst (λ (hs : List Held). AllZip Is all hs) (sym c.new.ensures) done.1)

pub returns-clause-counts : goal.returns-clause-counts
returns-clause-counts g c = counts_good _ _ _ _ _ c.loop-artifact.invariant.disk_faults c.loop-artifact.invariant.library_faults
