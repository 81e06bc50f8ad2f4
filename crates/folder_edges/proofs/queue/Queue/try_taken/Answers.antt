use Rattle.std.proofs.Common.{ap}
use Rattle.folder_edges.proofs.Trying.{stuck_skipped, held_read}
use Rattle.folder_edges.proofs.queue.Queue.try_taken.Goals as goal

pub returns-then-skip_stuck-clause-told : goal.returns-then-skip_stuck-clause-told
returns-then-skip_stuck-clause-told g c =
    stuck_skipped (g.T.Tray.history c.args.self.now.tray) (g.T.Tray.history c.skip_stuck.new.self.tray) c.args.stuck.now c.args.self.now.left c.skip_stuck.new.self.left c.skip_stuck.result
    c.requires c.if-skip_stuck.true (ap g.T.Tray.history c.skip_stuck.ensures.tray) c.skip_stuck.ensures.skips

pub returns-else-skip_stuck-clause-told : goal.returns-else-skip_stuck-clause-told
returns-else-skip_stuck-clause-told g c =
    held_read (g.T.Tray.history c.args.self.now.tray) (g.T.Tray.history c.skip_stuck.new.self.tray) (g.T.Tray.history c.read_first.new.self.tray) c.args.stuck.now c.args.self.now.left
    c.skip_stuck.new.self.left c.read_first.new.self.left c.skip_stuck.result c.read_first.result c.requires c.if-skip_stuck.false
    (ap g.T.Tray.history c.skip_stuck.ensures.tray) c.skip_stuck.ensures.skips c.read_first.ensures.told
