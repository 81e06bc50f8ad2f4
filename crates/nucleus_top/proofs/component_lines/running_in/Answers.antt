use Rattle.std.proofs.Common.{ℕ, List, subst}
use Rattle.nucleus_top.specs.Components.{RunningOutcome, running_file}
use Rattle.nucleus_top.proofs.ComponentsEnds.{read_whole}
use Rattle.nucleus_top.proofs.component_lines.running_in.Goals as goal

pub returns-in-Ok-text_of-clause-told : goal.returns-in-Ok-text_of-clause-told
returns-in-Ok-text_of-clause-told g c = λ told.
    subst (λ (bytes : List ℕ). RunningOutcome bytes c.in-Ok-text_of.text)
    (read_whole (g.D.Disk.seen c.args.disk.now running_file) c.args.piece.now c.read.new.into 262144 c.in-Ok.count c.requires (c.in-Ok.ensures.told told))
    c.in-Ok-text_of.ensures
