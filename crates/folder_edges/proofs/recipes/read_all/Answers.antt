use Rattle.std.proofs.Common.{◌≡◌, ◌<◌, List, ℕ, [], ◌∙◌, get_or, length, take, arith}
use Rattle.std.proofs.lemmas.List.{get_or_default}
use Rattle.folders.specs.Calls.{Opens}
use Rattle.folder_edges.specs.Recipes.{most_of_recipe, Reads}
use Rattle.folder_edges.proofs.Reading.{failed}
use Rattle.folder_edges.proofs.Reading.{read_on}
use Rattle.folder_edges.proofs.recipes.read_all.Goals as goal

at_place : (names : List (List ℕ)) (k : ℕ) (name item : List ℕ) → k < length names → name ≡ item → item ≡ get_or names k item → name ≡ get_or names k []
at_place names k name item within same is = same ∙ is ∙ get_or_default names k item [] within

pub returns-in_err-opened-clause-told : goal.returns-in_err-opened-clause-told
returns-in_err-opened-clause-told g c =
    failed (g.F.Folder.history c.args.folder.now) (g.F.Folder.history c.reading.folder) (g.F.Folder.history c.open_patiently.new.folder)
    (λ found. Reads found (take c.reading.place c.args.names.now) c.reading.recipes)
    (λ found. Opens c.as_bytes.result.now most_of_recipe found c.open_patiently.result) (λ found. Reads found c.args.names.now)
    c.from_residual.result c.from_residual.ensures.0 c.reading.invariant.saw c.open_patiently.ensures.told

pub returns-in_err-add-clause-told : goal.returns-in_err-add-clause-told
returns-in_err-add-clause-told g c =
    failed (g.F.Folder.history c.args.folder.now) (g.F.Folder.history c.reading.folder) (g.F.Folder.history c.open_patiently.new.folder)
    (λ found. Reads found (take c.reading.place c.args.names.now) c.reading.recipes)
    (λ found. Opens c.as_bytes.result.now most_of_recipe found c.open_patiently.result) (λ found. Reads found c.args.names.now)
    c.from_residual-in_err-add.result c.from_residual-in_err-add.ensures.0 c.reading.invariant.saw c.open_patiently.ensures.told

pub reading-preserved : goal.reading-preserved
reading-preserved g c = record {
  saw = read_on (g.F.Folder.history c.args.folder.now) (g.F.Folder.history c.reading.folder) (g.F.Folder.history c.open_patiently.new.folder)
      c.args.names.now c.reading.recipes c.add.new.recipes c.reading.place c.as_bytes.result.now c.in_ok-opened.opened c.reading-test.true
      (at_place c.args.names.now c.reading.place c.as_bytes.result.now c.index-names-place.result c.reading-test.true c.as_bytes.ensures
      c.index-names-place.is) c.in_ok-add.ensures.added c.reading.invariant.saw c.in_ok-opened.ensures.told;
  later = omega (arith, c.reading.invariant.later, c.open_patiently.ensures.later);
  others = c.open_patiently.ensures.others ∙ c.reading.invariant.others;
}
