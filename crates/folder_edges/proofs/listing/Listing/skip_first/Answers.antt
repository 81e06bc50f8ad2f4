use Rattle.folder_edges.proofs.Listed.{without_first}
use Rattle.folder_edges.proofs.listing.Listing.skip_first.Goals as goal

pub returns-then-self-len : goal.returns-then-self-len
returns-then-self-len c = without_first c.self.inside.entries c.args.self.now c.self.inside.at c.self.inside.is_taken c.self.view_is
