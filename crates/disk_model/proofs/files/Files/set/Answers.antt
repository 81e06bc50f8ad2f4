use Rattle.disk_model.proofs.Named.{changed_after}
use Rattle.disk_model.proofs.files.Files.set.Goals as goal

pub returns-clause-ok : goal.returns-clause-ok
returns-clause-ok c n =
    changed_after c.args.name.now c.in_ok-place.place (λ _. c.args.bytes.items) c.args.self.now.files.items c.place_of.new.files.items c.replace.new.files.items
    c.in_ok-place.ensures.same c.in_ok-place.ensures.found.0 c.replace.ensures n
