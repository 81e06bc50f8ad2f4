use Rattle.disk_model.specs.Memory.{seen_by}
use Rattle.library_core.specs.Memory.{library_content}
use Rattle.nucleus_top.proofs.WorkloadEnds.{holds_drawn, ran_tally}
use Rattle.nucleus_top.proofs.workload_run.ran.Goals as goal

pub returns : goal.returns
returns c =
    ran_tally c.args.seed (library_content c.new-library.result) c.in_ok-drawn.drawn.documents (seen_by c.begin.new.disk) (seen_by c.deploy_all.new.disk)
    c.line_of.result
    (holds_drawn c.args.seed (library_content c.new-library.result) c.in_ok-drawn.drawn.recipes c.empty.result c.new-library.ensures.content c.empty.ensures
    c.in_ok-drawn.ensures.recipes)
    c.in_ok-drawn.ensures.documents c.in_ok-begin.ensures c.in_ok-deploy_all.ensures c.line_of.ensures
