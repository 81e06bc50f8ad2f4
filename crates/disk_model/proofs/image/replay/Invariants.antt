use Rattle.std.proofs.Common.{◌≡◌, List, ℕ, take}
use Rattle.disk_model.specs.Files.{image_of}
use Rattle.disk_model.specs.Picked.{picked_after}
use Rattle.disk_model.specs.Record.{seen_after}
use Rattle.disk_model.proofs.image.replay.Given as goal

abbrev pub invariant-loop-call : goal.invariant-loop-call
invariant-loop-call l = record {
  reads : (n : List ℕ) → image_of l.seen n ≡ seen_after (take l.call-index l.calls) (image_of l.start) n;
  picks : (n : List ℕ) → image_of l.image n ≡ picked_after l.fill (take l.call-index l.calls) (image_of l.start) (image_of l.start) n;
}
