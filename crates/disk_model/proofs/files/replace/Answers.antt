use Rattle.std.proofs.Common.{refl, ap}
use Rattle.disk_model.specs.declared.files.File.{File}
use Rattle.disk_model.proofs.Named.{set_rewrites}
use Rattle.disk_model.proofs.files.replace.Goals as goal

pub returns : goal.returns
returns c =
    set_rewrites c.args.files.now.items c.args.place (λ _. c.args.bytes.items) c.index_mut.result.now.name c.args.bytes c.index_mut.result.now c.requires
    (ap (λ (f : File). f.name) c.index_mut.ensures.value) refl
