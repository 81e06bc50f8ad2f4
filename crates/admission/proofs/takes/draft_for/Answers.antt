use Rattle.device.specs.Devices.{device_view}
use Rattle.admission.proofs.Taking.{pending_none, stages_by, takes_by}
use Rattle.admission.proofs.takes.draft_for.Goals as goal

pub returns-clause-stages : goal.returns-clause-stages
returns-clause-stages g c =
    stages_by c.recipe_laws.ensures.one_recipe c.recipe_laws.ensures.sound c.filled_drafts_may_be_accepted.ensures c.gathered_candidates_make_plans.ensures
    (device_view c.args.device.now) c.args.document.now c.requires.sound c.requires.regular c.requires.origin
    (pending_none c.args.device.now.pending c.requires.idle) c.requires.roots
    (g.L.Library.content c.propose.new.library) (g.L.Library.faults c.args.library.now) (g.L.Library.faults c.propose.new.library) c.propose.result
    c.propose.ensures.proposes

pub returns-clause-takes : goal.returns-clause-takes
returns-clause-takes g c =
    takes_by c.recipe_laws.ensures.one_recipe c.recipe_laws.ensures.sound c.filled_drafts_may_be_accepted.ensures c.gathered_candidates_make_plans.ensures
    (device_view c.args.device.now) c.args.document.now c.requires.sound c.requires.regular c.requires.origin
    (pending_none c.args.device.now.pending c.requires.idle) c.requires.roots
    (g.L.Library.content c.propose.new.library) (g.L.Library.faults c.args.library.now) (g.L.Library.faults c.propose.new.library) c.propose.result
    c.propose.ensures.proposes
