use Rattle.std.proofs.Common.{◌≡◌, List, sym, ◌∙◌, ap, subst}
use Rattle.disk_model.specs.Disk.{Image}
use Rattle.disk_model.specs.Files.{image_of}
use Rattle.disk_model.specs.Record.{left_after, seen_after}
use Rattle.disk_model.specs.declared.record.Call.{Call}
use Rattle.disk_model.proofs.memory.MemoryDisk.new.Goals as goal

pub invariant_of-result : goal.invariant_of-result
invariant_of-result c = record {
  cached = λ name. c.new-2.ensures name ∙ sym (ap (λ (l : List Call). seen_after l (image_of c.new.result) name) c.new-3.ensures.items ∙ c.new.ensures name);
}

pub returns-clause-settled : goal.returns-clause-settled
returns-clause-settled c name image left =
    let is : image ≡ image_of c.new.result = subst (λ (l : List Call). left_after l (image_of c.new.result) image) c.new-3.ensures.items left in
    ap (λ (i : Image). i name) is ∙ c.new.ensures name
