use Rattle.std.proofs.Common.{◌≢◌, ℕ, List, [], take}
use Rattle.std.specs.List.{Contains}
use Rattle.disk_model.specs.Files.{image_of}
use Rattle.disk_model.specs.Listing.{IsBelow}
use Rattle.disk_model.proofs.Named.{IsNamed}
use Rattle.disk_model.proofs.files.Files.names_below.Given as goal

abbrev pub invariant-loop-file : goal.invariant-loop-file
invariant-loop-file l = record {
  sound : (n : List ℕ) → Contains l.names.items n → IsBelow l.folder n × (image_of l.self n ≢ []);
  complete : (n : List ℕ) → IsNamed n (take l.file-index l.self.files.items) → IsBelow l.folder n → image_of l.self n ≢ [] → Contains l.names.items n;
}
