use Rattle.std.proofs.Common.{◌≡◌, Some, refl, ap}
use Rattle.disk_model.specs.Laws.MemoryLaws.{memory_laws}
use Rattle.disk_model.specs.Memory.{faults_by}
use Rattle.edges.specs.Memory.{sink_failing, sink_held, source_failing, source_left}
use Rattle.library_core.specs.Memory.{library_content, library_failing}
use Rattle.library_core.proofs.Telling.{still_whole}
use Rattle.nuc_base.specs.Failing.{faults_of}
use Rattle.workload.specs.Runner.{entries_told}
use Rattle.nucleus_top.specs.Answers.{Input, Printed, Shelf, input_of, printed_of, shelf_of}
use Rattle.nucleus_top.proofs.Through.{gone_through}
use Rattle.nucleus_top.proofs.workload_run.deploy_one.Goals as goal

pub returns-clause-kept : goal.returns-clause-kept
returns-clause-kept c = still_whole (library_content c.args.library.now) (library_content c.deploy.new.library) _ refl c.deploy.ensures.kept.content

pub returns-clause-through : goal.returns-clause-through
returns-clause-through c = λ no d begun.
    let input : Input = input_of (λ s. Some (source_left s)) (λ s. faults_of (source_failing s)) c.new-source.result c.deploy.new.source in
    let library : Shelf = shelf_of library_content (λ m. faults_of (library_failing m)) c.args.library.now c.deploy.new.library in
    let printed : Printed = printed_of (λ s. Some (sink_held s)) (λ s. faults_of (sink_failing s)) c.new-lines.result c.deploy.new.sink in
    gone_through memory_laws refl faults_by c.args.disk.now c.deploy.new.disk (entries_told c.args.runner.now) (entries_told c.deploy.new.runner) printed
    c.deploy.result no (library_content c.args.library.now) c.args.document d begun (c.deploy.new.runner ≡ c.args.runner.now) input library
    (ap Some c.new-source.ensures.left)
    (still_whole (library_content c.args.library.now) (library_content c.deploy.new.library) _ refl c.deploy.ensures.kept.content)
    c.deploy.ensures.library_quiet c.deploy.ensures.ran
