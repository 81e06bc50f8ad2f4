use Rattle.std.proofs.Common.{◌≡◌, ◌≤◌}
use Rattle.folders.specs.History.{Saw, IsUntouched}
use Rattle.folder_edges.proofs.recipes.open_patiently.Given as goal

abbrev pub invariant-trying : goal.invariant-trying
invariant-trying g l = record {
  saw : Saw (g.F.Folder.history l.fn.folder) (g.F.Folder.history l.folder) (λ found. IsUntouched found);
  later : g.F.Folder.missed l.fn.folder ≤ g.F.Folder.missed l.folder;
  others : g.F.Folder.faults l.folder ≡ g.F.Folder.faults l.fn.folder;
}
