use Rattle.std.proofs.Common.{take, ◌∙◌, ap}
use Rattle.disk_model.specs.declared.files.File.{File}
use Rattle.disk_model.proofs.Named.{set_rewrites}
use Rattle.disk_model.proofs.files.cut_in.Goals as goal

pub returns : goal.returns
returns c =
    set_rewrites c.args.files.now.items c.args.place (λ old. take c.args.len old) c.index_mut.result.now.name c.truncate.new.self c.index_mut.result.now
    c.requires
    (ap (λ (f : File). f.name) c.index_mut.ensures.value)
    (c.truncate.ensures.items ∙ ap (λ (f : File). take c.args.len f.bytes.items) c.index_mut.ensures.value)
