use Rattle.std.proofs.Common.{◌≡◌, ◌≤◌, take}
use Rattle.folders.specs.History.{Saw, IsUntouched}
use Rattle.folder_edges.specs.Recipes.{Reads}
use Rattle.folder_edges.proofs.recipes.read_all.Given as goal

abbrev pub invariant-reading : goal.invariant-reading
invariant-reading g l = record {
  saw : Saw (g.F.Folder.history l.fn.folder) (g.F.Folder.history l.folder) (λ found. IsUntouched found × Reads found (take l.place l.names) l.recipes);
  later : g.F.Folder.missed l.fn.folder ≤ g.F.Folder.missed l.folder;
  others : g.F.Folder.faults l.folder ≡ g.F.Folder.faults l.fn.folder;
}
