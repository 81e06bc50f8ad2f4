use Rattle.std.proofs.Common.{◌≡◌, ◌<◌, ◌≤◌, ◌+◌, ◌∷◌, [], List, length, map, drop, sym, subst, ap, arith}
use Rattle.std.specs.List.{AllZip}
use Rattle.nuc_base.specs.Tables.{AllHold, IsFaultBy}
use Rattle.nuc_base.specs.declared.artifact.Artifact.{Artifact}
use Rattle.nuc_base.proofs.Tables.{handed_on, map_next, map_end}
use Rattle.tree_core.specs.View.{view, items_view}
use Rattle.tree_core.specs.declared.tree.Tree.{Tree}
use Rattle.recipe_reader.specs.Artifacts.{listed_lines, IsArtifact}
use Rattle.recipe_reader.specs.declared.fault.RecipeFault.TheVariants.{NoMemory}
use Rattle.recipe_reader.proofs.Listing.{Lists, next_lines, lists_start, lists_fault, lists_more, lists_end}
use Rattle.tree_core.proofs.RegularParts.{ItemsAreRegular, items_regular, item_regular}
use Rattle.recipe_reader.proofs.artifact.artifacts_among.Goals as goal

pub loop-value-init : goal.loop-value-init
loop-value-init c =
    let start = lists_start (map view c.deref-value-items.result.now) in
    subst (λ (rs : List Artifact). Lists (map view c.deref-value-items.result.now) (map view c.deref-value-items.result.now) rs)
    (sym c.in_ok-artifacts.ensures.items) start

pub next_artifact-requires : goal.next_artifact-requires
next_artifact-requires c =
    let xs : List Tree = c.deref-value-items.result.now in
    let i = c.loop-value.value-index in
    let x : Tree = c.value-item.result in
    let below : i < length xs = omega arith in
    let regular : ItemsAreRegular (items_view xs) = subst (λ (ts : List Tree). ItemsAreRegular (items_view ts)) (sym c.deref-value-items.ensures.value)
    (items_regular _ c.requires) in
    item_regular xs i x regular below c.value-item.is

pub loop-value-preserved : goal.loop-value-preserved
loop-value-preserved c =
    let xs : List Tree = c.deref-value-items.result.now in
    let i = c.loop-value.value-index in
    let x : Tree = c.value-item.result in
    let done : List Artifact = c.loop-value.artifacts.items in
    let a : Artifact = c.in_ok-artifact.artifact in
    let below : i < length xs = omega arith in
    let next : map view (drop i xs) ≡ view x ∷ map view (drop (i + 1) xs) = map_next view xs i x below c.value-item.is in
    let l : Lists (map view xs) (view x ∷ map view (drop (i + 1) xs)) done = subst (λ ms. Lists (map view xs) ms done) next c.loop-value.invariant in
    let holds : AllHold (next_lines done (view x)) = subst (λ (ys : List Artifact). AllHold (next_lines ys (view x))) c.as_slice.ensures.value
    c.in_ok-artifact.ensures.0 in
    subst (λ (rs : List Artifact). Lists (map view xs) (map view (drop (i + 1) xs)) rs) (sym c.in_ok-push.ensures.items)
    (lists_more (map view xs) (view x) (map view (drop (i + 1) xs)) done l a holds c.in_ok-artifact.ensures.1)

pub returns-in_err-artifact : goal.returns-in_err-artifact
returns-in_err-artifact c =
    let xs : List Tree = c.deref-value-items.result.now in
    let i = c.loop-value.value-index in
    let x : Tree = c.value-item.result in
    let done : List Artifact = c.loop-value.artifacts.items in
    let f = c.in_err-artifact.field-0.0 in
    let below : i < length xs = omega arith in
    let next : map view (drop i xs) ≡ view x ∷ map view (drop (i + 1) xs) = map_next view xs i x below c.value-item.is in
    let l : Lists (map view xs) (view x ∷ map view (drop (i + 1) xs)) done = subst (λ ms. Lists (map view xs) ms done) next c.loop-value.invariant in
    let here : IsFaultBy NoMemory (next_lines done (view x)) f = subst (λ (ys : List Artifact). IsFaultBy NoMemory (next_lines ys (view x)) f)
    c.as_slice.ensures.value c.in_err-artifact.ensures in
    let all : map view xs ≡ map view c.args.values.now.items = ap (map view) c.deref-value-items.ensures.value in
    handed_on NoMemory (listed_lines [] (map view c.args.values.now.items)) (AllZip IsArtifact (map view c.args.values.now.items)) _ f
    c.from_residual-in_err-artifact.ensures.1
    (subst (λ ms. IsFaultBy NoMemory (listed_lines [] ms) f) all (lists_fault (map view xs) (view x) (map view (drop (i + 1) xs)) done l f here))

pub returns : goal.returns
returns c =
    let xs : List Tree = c.deref-value-items.result.now in
    let i = c.loop-value.value-index in
    let done : List Artifact = c.loop-value.artifacts.items in
    let past : length xs ≤ i = omega arith in
    let l : Lists (map view xs) [] done = subst (λ ms. Lists (map view xs) ms done) (map_end view xs i past) c.loop-value.invariant in
    let all : map view xs ≡ map view c.args.values.now.items = ap (map view) c.deref-value-items.ensures.value in
    let end = lists_end (map view xs) done l in (
      subst (λ ms. AllHold (listed_lines [] ms)) all end.0,
      subst (λ rs. AllZip IsArtifact (map view c.args.values.now.items) rs) (sym c.new.ensures) (subst (λ ms. AllZip IsArtifact ms done) all end.1),
    )
