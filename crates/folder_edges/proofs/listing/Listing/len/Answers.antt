use Rattle.folder_edges.proofs.Listed.{length_left}
use Rattle.folder_edges.proofs.listing.Listing.len.Goals as goal

pub returns : goal.returns
returns c = length_left c.self.inside.entries c.args.self.now c.len.result c.self.inside.at c.self.inside.is_taken c.len.ensures c.self.view_is
