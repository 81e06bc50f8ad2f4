use Rattle.std.proofs.Common.{◌≡◌, List, ℕ, [], sym, subst}
use Rattle.folders.specs.History.{Saw, IsUntouched}
use Rattle.folders.specs.Calls.{IsListing}
use Rattle.folder_edges.specs.Names.{AreDocumentsOf}
use Rattle.folder_edges.proofs.Reading.{holds, lists_of}
use Rattle.folder_edges.proofs.recipes.read_folder.Goals as goal

pub returns-in-Ok-sorted_documents-clause-told : goal.returns-in-Ok-sorted_documents-clause-told
returns-in-Ok-sorted_documents-clause-told g c =
    holds (g.F.Folder.history c.args.folder.now) (g.F.Folder.history c.list.new.self) (g.F.Folder.history c.read_all.new.folder)
    c.as_slice-in-Ok-sorted_documents.result.now c.read_all.result
    (lists_of (g.F.Folder.history c.args.folder.now) (g.F.Folder.history c.list.new.self) c.as_slice.result.now c.as_slice-in-Ok-sorted_documents.result.now
    (subst (λ (l : List (List ℕ)). AreDocumentsOf c.as_slice.result.now l) (sym c.as_slice-in-Ok-sorted_documents.ensures.value) c.in-Ok-sorted_documents.ensures.documents)
    (subst (λ (l : List (List ℕ)). Saw (g.F.Folder.history c.args.folder.now) (g.F.Folder.history c.list.new.self)
    (λ found. IsUntouched found × IsListing found l)) (sym c.as_slice.ensures) c.in-Ok.ensures.told)) c.read_all.ensures.told
