use Rattle.std.proofs.Common.{true, refl, sym, ◌∙◌}
use Rattle.std.proofs.lemmas.Bool.{false≢true}
use Rattle.std.specs.Vec.{with_item}
use Rattle.dep_order.proofs.Marked.{tidy_push}
use Rattle.dep_order.proofs.places.Places.add.Goals as goal

pub returns-clause-tidy : goal.returns-clause-tidy
returns-clause-tidy c =
    tidy_push c.args.self.now (record { list = c.push.new.self; marks = with_item c.args.self.now.marks c.args.place true }) c.args.place c.requires.tidy
    c.requires.place
    (λ i. absurd (false≢true (sym c.if-has.false ∙ c.has.ensures.1 i))) c.in_ok-push.ensures.items refl
