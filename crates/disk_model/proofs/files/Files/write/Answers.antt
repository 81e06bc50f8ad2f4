use Rattle.std.proofs.Common.{refl, ◌∙◌}
use Rattle.std.proofs.lemmas.Result.{on_ok_weaker, on_err_weaker}
use Rattle.disk_model.specs.Files.{contents}
use Rattle.disk_model.specs.Put.{overwritten}
use Rattle.disk_model.proofs.Named.{changed_after, put_kept}
use Rattle.disk_model.proofs.files.Files.write.Goals as goal

pub returns-clause-ok : goal.returns-clause-ok
returns-clause-ok c = on_ok_weaker c.write_in.result
    (λ has n. changed_after c.args.name.now c.in_ok-place.place (λ old. overwritten c.args.at c.args.bytes.now old) c.args.self.now.files.items
    c.place_of.new.files.items c.write_in.new.files.items
    c.in_ok-place.ensures.same c.in_ok-place.ensures.found.0 has n)
    c.write_in.ensures.ok

pub returns-clause-err : goal.returns-clause-err
returns-clause-err c = on_err_weaker c.write_in.result
    (λ has n. changed_after c.args.name.now c.in_ok-place.place (λ old. old) c.args.self.now.files.items c.place_of.new.files.items c.write_in.new.files.items
    c.in_ok-place.ensures.same c.in_ok-place.ensures.found.0 has n ∙ put_kept c.args.name.now _ (contents c.args.self.now.files.items) refl n)
    c.write_in.ensures.err
