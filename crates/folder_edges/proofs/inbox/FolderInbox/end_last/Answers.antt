use Rattle.std.proofs.Common.{◌≡◌, ◌<◌, ℕ, List, [], ◌∷◌, length, refl, sym, ◌∙◌, ap, subst}
use Rattle.std.specs.declared.option.Option.{Option}
use Rattle.nuc_base.specs.Faults.{Rose}
use Rattle.folders.specs.History.{Event, Did, IsSettled}
use Rattle.folder_edges.specs.Giving.{EndsGiven}
use Rattle.folder_edges.specs.Inboxes.{inbox_given, inbox_stuck, given_of}
use Rattle.folder_edges.proofs.Ending.{last_given, let_go_stuck, ends_gone, ends_stable}
use Rattle.folder_edges.proofs.inbox.FolderInbox.end_last.Goals as goal

pub returns-clause-told : goal.returns-clause-told
returns-clause-told g c =
    subst (λ (h : Option (List Event)). Did (g.T.Tray.history c.args.self.now.queue.tray) h (EndsGiven (inbox_given c.args.self.now) (inbox_stuck c.args.self.now) (inbox_stuck c.let_go.new.self)))
    (sym (ap g.T.Tray.history c.let_go.ensures.tray))
    (ends_gone (g.T.Tray.history c.args.self.now.queue.tray) (g.T.Tray.history c.end.new.self) (g.T.Tray.history c.sync-is_stable.new.self) (inbox_given c.args.self.now) (inbox_stuck c.args.self.now) (inbox_stuck c.let_go.new.self) c.as_bytes.result.now
    c.sync-is_stable.result
    (subst (λ (l : List (List ℕ)). given_of c.args.self.now.is_in_hand l ≡ c.as_bytes.result.now ∷ []) c.as_slice-handed.ensures.value
    (last_given c.as_slice-handed.result.now _ c.args.self.now.is_in_hand c.as_bytes.result.now c.index-handed-at.result
    c.requires.hand (subst (λ (l : List (List ℕ)). 0 < length l) (sym c.as_slice-handed.ensures.value) c.requires.some)
    refl c.as_bytes.ensures c.index-handed-at.is))
    (let_go_stuck c.let_go.new.self.is_in_hand c.let_go.new.self.handed.items (inbox_stuck c.args.self.now) c.let_go.ensures.hand c.let_go.ensures.stuck)
    c.in-Ok.ensures.told c.sync-is_stable.ensures.told)

pub returns-clause-stable : goal.returns-clause-stable
returns-clause-stable g c = λ quiet.
    subst (λ (h : Option (List Event)). Did (g.T.Tray.history c.args.self.now.queue.tray) h (λ taken found. IsSettled found)) (sym (ap g.T.Tray.history c.let_go.ensures.tray))
    (ends_stable (g.T.Tray.history c.args.self.now.queue.tray) (g.T.Tray.history c.end.new.self) (g.T.Tray.history c.sync-is_stable.new.self) c.as_bytes.result.now c.sync-is_stable.result (g.T.Tray.missed c.args.self.now.queue.tray) (g.T.Tray.missed c.end.new.self)
    (g.T.Tray.missed c.sync-is_stable.new.self) c.in-Ok.ensures.quiet c.sync-is_stable.ensures.cause
    (λ rose. quiet (subst (λ (n : ℕ). Rose (g.T.Tray.missed c.args.self.now.queue.tray) n) (sym (ap g.T.Tray.missed c.let_go.ensures.tray)) rose))
    c.in-Ok.ensures.told c.sync-is_stable.ensures.told)
