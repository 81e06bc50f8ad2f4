use Rattle.std.proofs.Common.{List, ℕ, take, ap, ◌∙◌}
use Rattle.std.specs.Prelude.{slice_get}
use Rattle.device.specs.Devices.{chosen, pending_view}
use Rattle.device.specs.Lawful.{reach_of}
use Rattle.device.proofs.Flags.{has_some}
use Rattle.device.proofs.steps.has_flag.Goals as goal

pub returns : goal.returns
returns c =
    let q = c.args.pending.now in
    let flags = c.args.flags.now in
    let boots = c.as_slice-boots.result.now in
    let found = c.flagged_at.ensures in
    has_some (λ n. n.now) c.flagged_at.result (chosen flags (take (reach_of (pending_view q)) q.plan.boots)) c.is_some.result
    (found
    ∙ ap (λ (k : ℕ). slice_get (chosen flags (take k boots)) 0) c.reach_of-reach.ensures.value
    ∙ ap (λ (l : List (List ℕ)). slice_get (chosen flags (take (reach_of (pending_view q)) l)) 0) c.as_slice-boots.ensures)
    c.is_some.ensures
