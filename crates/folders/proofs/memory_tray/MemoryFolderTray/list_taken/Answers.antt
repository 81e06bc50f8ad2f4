use Rattle.std.proofs.Common.{◌↔◌, [], sym, subst, ap, List, ℕ, IsSome, IfOk}
use Rattle.std.specs.List.{Contains}
use Rattle.std.proofs.lemmas.List.{append-nil}
use Rattle.folders.specs.declared.lines.Line.{Line}
use Rattle.folders.specs.declared.lines.Side.TheVariants.{Taken}
use Rattle.folders.specs.Lines.{stands_in}
use Rattle.folders.specs.Memory.{folder_lines, folder_history}
use Rattle.folders.proofs.Recorded.{lists_taken}
use Rattle.folders.proofs.memory_tray.MemoryFolderTray.list_taken.Goals as goal

pub returns-clause-told : goal.returns-clause-told
returns-clause-told c = (
  [],
  sym (append-nil (folder_history c.args.self.now)),
  (
    tt,
    lists_taken c.names_in.result (folder_lines c.args.self.now)
        (subst (λ (l : List Line). IfOk c.names_in.result (λ names. (name : List ℕ) → Contains names name ↔ IsSome (stands_in Taken l name)))
        c.as_slice.ensures.value c.names_in.ensures),
  ),
)
