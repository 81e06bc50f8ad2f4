use Rattle.folder_edges.proofs.Sifting.{sorted_of}
use Rattle.folder_edges.proofs.listing.sorted_documents.Goals as goal

pub returns : goal.returns
returns c = record {
  documents = sorted_of c.args.names.now c.in_ok-documents.documents.items c.sort.new.self.items c.in_ok-documents.ensures c.sort.ensures.permutation
      c.in_ok-sort.ensures.sorted;
}
