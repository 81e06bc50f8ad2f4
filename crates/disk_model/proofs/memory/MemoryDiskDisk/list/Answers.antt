use Rattle.disk_model.specs.Files.{image_of}
use Rattle.disk_model.specs.Listing.{artifacts}
use Rattle.disk_model.specs.Memory.{seen_by}
use Rattle.disk_model.proofs.Sorting.{listing_same}
use Rattle.disk_model.proofs.memory.MemoryDiskDisk.list.Goals as goal

pub returns-clause-told : goal.returns-clause-told
returns-clause-told c =
    listing_same artifacts (image_of c.args.self.now.files) (seen_by c.args.self.now) c.in_ok-listed.field-0 c.args.self.now.cached c.in_ok-listed.ensures
