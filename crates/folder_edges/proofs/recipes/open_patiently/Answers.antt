use Rattle.std.proofs.Common.{Ok, ◌∙◌, arith}
use Rattle.folders.specs.Calls.{Opens}
use Rattle.folder_edges.specs.Recipes.{most_of_recipe}
use Rattle.folder_edges.proofs.Reading.{try_more, try_on, tried}
use Rattle.folder_edges.proofs.recipes.open_patiently.Goals as goal

pub returns-in-Ok-clause-told : goal.returns-in-Ok-clause-told
returns-in-Ok-clause-told g c =
    try_more (g.F.Folder.history c.args.folder.now) (g.F.Folder.history c.trying.folder) (g.F.Folder.history c.open.new.self) c.args.name.now
    most_of_recipe (Ok c.in-Ok.opened) c.trying.invariant.saw c.in-Ok.ensures.told

pub returns-in-Err-NoMemory-clause-told : goal.returns-in-Err-NoMemory-clause-told
returns-in-Err-NoMemory-clause-told g c =
    tried (g.F.Folder.history c.args.folder.now) (g.F.Folder.history c.trying.folder) (g.F.Folder.history c.open.new.self)
    (λ found. Opens c.args.name.now most_of_recipe found c.open.result) c.trying.invariant.saw c.open.ensures.told

pub trying-preserved : goal.trying-preserved
trying-preserved g c = record {
  saw = try_on (g.F.Folder.history c.args.folder.now) (g.F.Folder.history c.trying.folder) (g.F.Folder.history c.open.new.self)
      (λ found. Opens c.args.name.now most_of_recipe found c.open.result) c.trying.invariant.saw c.open.ensures.told;
  later = omega (arith, c.trying.invariant.later, c.open.ensures.later);
  others = c.open.ensures.others ∙ c.trying.invariant.others;
}

pub returns-clause-told : goal.returns-clause-told
returns-clause-told g c =
    try_more (g.F.Folder.history c.args.folder.now) (g.F.Folder.history c.trying.folder) (g.F.Folder.history c.open-2.new.self) c.args.name.now
    most_of_recipe c.open-2.result c.trying.invariant.saw c.open-2.ensures.told
