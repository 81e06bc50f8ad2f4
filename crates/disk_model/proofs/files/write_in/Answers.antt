use Rattle.std.proofs.Common.{◌∙◌, ap}
use Rattle.std.proofs.lemmas.Result.{on_ok_weaker, on_err_weaker}
use Rattle.disk_model.specs.Put.{overwritten}
use Rattle.disk_model.specs.declared.files.File.{File}
use Rattle.disk_model.proofs.Named.{set_rewrites}
use Rattle.disk_model.proofs.files.write_in.Goals as goal

pub returns-clause-ok : goal.returns-clause-ok
returns-clause-ok c = on_ok_weaker c.write_over.result
    (λ is. set_rewrites c.args.files.now.items c.args.place (λ old. overwritten c.args.at c.args.bytes.now old) c.index_mut.result.now.name
    c.write_over.new.old c.index_mut.result.now c.requires
    (ap (λ (f : File). f.name) c.index_mut.ensures.value)
    (is ∙ ap (λ (f : File). overwritten c.args.at c.args.bytes.now f.bytes.items) c.index_mut.ensures.value))
    c.write_over.ensures.ok

pub returns-clause-err : goal.returns-clause-err
returns-clause-err c = on_err_weaker c.write_over.result
    (λ is. set_rewrites c.args.files.now.items c.args.place (λ old. old) c.index_mut.result.now.name c.write_over.new.old c.index_mut.result.now c.requires
    (ap (λ (f : File). f.name) c.index_mut.ensures.value)
    (is ∙ ap (λ (f : File). f.bytes.items) c.index_mut.ensures.value))
    c.write_over.ensures.err
