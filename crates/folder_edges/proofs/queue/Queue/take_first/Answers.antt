use Rattle.folder_edges.proofs.Trying.{first_named, takes_empty, takes_refused, takes_true, takes_false}
use Rattle.folder_edges.proofs.queue.Queue.take_first.Goals as goal

pub returns-in_default-clause-told : goal.returns-in_default-clause-told
returns-in_default-clause-told g c = takes_empty (g.T.Tray.history c.args.self.now.tray) c.args.self.now.left c.name.result c.name.ensures c.in_default.is

pub returns-in_err-took-clause-told : goal.returns-in_err-took-clause-told
returns-in_err-took-clause-told g c =
    takes_refused (g.T.Tray.history c.args.self.now.tray) (g.T.Tray.history c.take.new.self) c.args.self.now.left c.as_bytes.result.now _ c.from_residual.result
    c.from_residual.ensures.0 c.in_err-took.ensures.told

pub returns-then-took-clause-told : goal.returns-then-took-clause-told
returns-then-took-clause-told g c =
    takes_true (g.T.Tray.history c.args.self.now.tray) (g.T.Tray.history c.take.new.self) c.args.self.now.left c.mark_first.new.self c.as_bytes.result.now c.in_ok-took.took
    (first_named c.args.self.now.left c.name.result c.in-Some.name c.as_bytes.result.now c.name.ensures c.in-Some.is c.as_bytes.ensures)
    c.if-took.true c.mark_first.ensures c.in_ok-took.ensures.told

pub returns-clause-told : goal.returns-clause-told
returns-clause-told g c =
    takes_false (g.T.Tray.history c.args.self.now.tray) (g.T.Tray.history c.take.new.self) c.args.self.now.left c.skip_first.new.self c.as_bytes.result.now c.in_ok-took.took
    (first_named c.args.self.now.left c.name.result c.in-Some.name c.as_bytes.result.now c.name.ensures c.in-Some.is c.as_bytes.ensures)
    c.if-took.false c.skip_first.ensures c.in_ok-took.ensures.told
