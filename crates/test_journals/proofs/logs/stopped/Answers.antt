use Rattle.std.proofs.Common.{sym, ◌∙◌, ap, subst}
use Rattle.disk_model.specs.Memory.{seen_by, left_by}
use Rattle.disk_model.specs.declared.memory.MemoryDisk.{MemoryDisk}
use Rattle.test_journals.proofs.logs.stopped.Goals as goal

pub append_two-done-requires-clause-settled : goal.append_two-done-requires-clause-settled
append_two-done-requires-clause-settled c file is i left =
    c.new.ensures.settled file i (subst (λ (d : MemoryDisk). left_by d i) c.new-disk.ensures.inside left)
    ∙ sym (ap (λ (d : MemoryDisk). seen_by d file) c.new-disk.ensures.inside ∙ c.new.ensures.empty file)
