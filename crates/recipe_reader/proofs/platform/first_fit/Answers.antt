use Rattle.std.proofs.Common.{◌≡◌, ◌∙◌, ◌<◌, ◌+◌, ◌∷◌, List, true, false, Some, length, map, drop, sym, subst, ap, arith}
use Rattle.tree_core.specs.View.{view, items_view}
use Rattle.tree_core.specs.declared.tree.Tree.{Tree}
use Rattle.nuc_base.specs.Tables.{AllHold, IsFaultBy}
use Rattle.nuc_base.proofs.Tables.{handed_on, map_next}
use Rattle.recipe_reader.specs.Found.{IsSeenAs}
use Rattle.recipe_reader.specs.Platforms.{walk_lines, chosen, matches}
use Rattle.recipe_reader.specs.declared.fault.RecipeFault.TheVariants.{NoMemory}
use Rattle.recipe_reader.proofs.Walks.{Walks, walks_next, walks_fault, walks_found}
use Rattle.tree_core.proofs.RegularParts.{ItemsAreRegular, items_regular, item_regular}
use Rattle.recipe_reader.proofs.platform.first_fit.Goals as goal

pub returns-in_err-manifest_fits : goal.returns-in_err-manifest_fits
returns-in_err-manifest_fits c =
    let p = c.args.platform.now in
    let xs : List Tree = c.deref-manifest-items.result.now in
    let i = c.loop-manifest.manifest-index in
    let x : Tree = c.manifest-item.result in
    let below : i < length xs = omega arith in
    let next : map view (drop i xs) ≡ view x ∷ map view (drop (i + 1) xs) = map_next view xs i x below c.manifest-item.is in
    let w : Walks p (map view xs) (view x ∷ map view (drop (i + 1) xs)) = subst (Walks p (map view xs)) next c.loop-manifest.invariant in
    let f = c.in_err-manifest_fits.field-0.0 in
    let all : map view xs ≡ map view c.args.manifests.now.items = ap (map view) c.deref-manifest-items.ensures.value in
    handed_on NoMemory (walk_lines p (map view c.args.manifests.now.items)) (IsSeenAs (λ t. view t.now) (chosen p (map view c.args.manifests.now.items))) _ f
    c.from_residual.ensures.1
    (subst (λ ms. IsFaultBy NoMemory (walk_lines p ms) f) all (walks_fault p (map view xs) (view x) (map view (drop (i + 1) xs)) w f
    c.in_err-manifest_fits.ensures))

pub returns-then-branch : goal.returns-then-branch
returns-then-branch c =
    let p = c.args.platform.now in
    let xs : List Tree = c.deref-manifest-items.result.now in
    let i = c.loop-manifest.manifest-index in
    let x : Tree = c.manifest-item.result in
    let below : i < length xs = omega arith in
    let next : map view (drop i xs) ≡ view x ∷ map view (drop (i + 1) xs) = map_next view xs i x below c.manifest-item.is in
    let w : Walks p (map view xs) (view x ∷ map view (drop (i + 1) xs)) = subst (Walks p (map view xs)) next c.loop-manifest.invariant in
    let all : map view xs ≡ map view c.args.manifests.now.items = ap (map view) c.deref-manifest-items.ensures.value in
    let same : matches p (view x) ≡ true = sym c.in_ok-manifest_fits.ensures.1 ∙ c.if-branch.true in
    let found = walks_found p (map view xs) (view x) (map view (drop (i + 1) xs)) w c.in_ok-manifest_fits.ensures.0 same in
    let regular : ItemsAreRegular (items_view xs) = subst (λ (ts : List Tree). ItemsAreRegular (items_view ts)) (sym c.deref-manifest-items.ensures.value)
    (items_regular _ c.requires) in (
      subst (λ ms. AllHold (walk_lines p ms)) all found.0,
      (
        subst (λ ms. Some (view x) ≡ chosen p ms) all found.1,
        item_regular xs i x regular below c.manifest-item.is,
      ),
    )

pub loop-manifest-preserved : goal.loop-manifest-preserved
loop-manifest-preserved c =
    let p = c.args.platform.now in
    let xs : List Tree = c.deref-manifest-items.result.now in
    let i = c.loop-manifest.manifest-index in
    let x : Tree = c.manifest-item.result in
    let below : i < length xs = omega arith in
    let next : map view (drop i xs) ≡ view x ∷ map view (drop (i + 1) xs) = map_next view xs i x below c.manifest-item.is in
    let w : Walks p (map view xs) (view x ∷ map view (drop (i + 1) xs)) = subst (Walks p (map view xs)) next c.loop-manifest.invariant in
    let other : matches p (view x) ≡ false = sym c.in_ok-manifest_fits.ensures.1 ∙ c.if-branch.false in
    walks_next p (map view xs) (view x) (map view (drop (i + 1) xs)) w c.in_ok-manifest_fits.ensures.0 other
