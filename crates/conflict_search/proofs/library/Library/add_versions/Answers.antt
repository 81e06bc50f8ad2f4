use Rattle.std.proofs.Common.{get_or, sym, ◌∙◌, arith}
use Rattle.conflict_search.proofs.Finding.{named_between}
use Rattle.conflict_search.proofs.Naming.{first_is}
use Rattle.conflict_search.proofs.library.Library.add_versions.Goals as goal

pub gather_needs-requires-clause-named : goal.gather_needs-requires-clause-named
gather_needs-requires-clause-named c =
    let cs = c.args.self.now.candidates.now in
    let names = c.args.self.now.names.now in
    let f = first_is cs names c.requires.names c.args.number c.requires.number in
    let first = f.2 in
    let start = c.first-place.ensures in
    let named = named_between cs f.0 (get_or names.first.items c.args.number 0) c.loop-place.place c.args.number c.requires.rising first.named f.1
    (omega (arith, start)) (omega (arith, c.loop-place-test.true)) in
    named ∙ sym f.1
