use Rattle.std.proofs.Common.{◌∙◌, ap, sym, Bool}
use Rattle.std.specs.Prelude.{◌&&◌, ◌||◌, not, is_some}
use Rattle.supervisor.proofs.Asked.{kills_stop}
use Rattle.supervisor.proofs.slot.Slot.stop_kills.Goals as goal

pub returns-then-not-shuts_down : goal.returns-then-not-shuts_down
returns-then-not-shuts_down c =
    let d = c.args.self.now.life in
    c.is_at_work.ensures ∙ ap (λ (b : Bool). not b && (d.runs || is_some d.busy)) c.if-not-shuts_down.ensures ∙ sym (kills_stop d c.args.after c.requires)

pub returns-else-not-shuts_down : goal.returns-else-not-shuts_down
returns-else-not-shuts_down c =
    let d = c.args.self.now.life in
    ap not c.shuts_down.ensures ∙ ap not (sym c.if-not-shuts_down.ensures) ∙ ap (λ (b : Bool). not b && (d.runs || is_some d.busy))
    c.if-not-shuts_down.ensures ∙ sym (kills_stop d c.args.after c.requires)
