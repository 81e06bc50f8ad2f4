use Rattle.std.proofs.Common.{[], sym, ◌∙◌, ap, List}
use Rattle.std.proofs.lemmas.List.{append-nil}
use Rattle.folders.specs.History.{taken_in}
use Rattle.folders.specs.declared.lines.Line.{Line}
use Rattle.folders.specs.declared.lines.Side.TheVariants.{Taken}
use Rattle.folders.specs.Lines.{stands_in}
use Rattle.folders.specs.Memory.{folder_lines, folder_history}
use Rattle.folders.proofs.Recorded.{file_of, opens_taken}
use Rattle.folders.proofs.Moves.{stands_taken}
use Rattle.folders.proofs.memory_tray.MemoryFolderTray.open.Goals as goal

pub returns-clause-told : goal.returns-clause-told
returns-clause-told c = (
  [],
  sym (append-nil (folder_history c.args.self.now)),
  (
    tt,
    opens_taken c.read.result (taken_in (folder_history c.args.self.now)) c.args.name.now c.args.most (file_of c.standing.result)
        (stands_taken (folder_lines c.args.self.now) c.args.name.now
        ∙ sym (c.standing.ensures ∙ ap (λ (l : List Line). stands_in Taken l c.args.name.now) c.as_slice.ensures.value)) c.read.ensures.some c.read.ensures.none,
  ),
)
