use Rattle.std.proofs.Common.{◌≡◌, ◌+◌, ◌++◌, ◌∷◌, [], ℕ, List, take, length, get_or, sym, ap, ◌∙◌, subst, arith}
use Rattle.std.proofs.lemmas.List.{take_all, get_or_default}
use Rattle.conflict_search.specs.Numbers.{IsFirstPlace}
use Rattle.conflict_search.specs.Stands.{members_in, wanted_in}
use Rattle.conflict_search.proofs.Naming.{first_is}
use Rattle.conflict_search.proofs.Drafting.{AreAlone, IsAlone, alone_more, alone_nogood}
use Rattle.conflict_search.proofs.library.Library.nogood_of.Goals as goal

pub loop-place-preserved : goal.loop-place-preserved
loop-place-preserved c =
    let ms = members_in c.args.self.now in
    let places = c.args.places.now in
    let i = c.loop-place.place-index in
    let t = c.in_ok-alone.field-0 in
    let p = get_or places i 0 in
    let lt = c.requires.places i 0 c.loop-place-test.true in
    let named = first_is c.args.self.now.candidates.now c.args.self.now.names.now c.requires.names p lt in
    let alone : IsAlone ms p t = record {
      term = c.in_ok-alone.ensures.term;
      name = named.0;
      named = named.1;
      first = subst (IsFirstPlace ms named.0) (sym c.in_ok-alone.ensures.from) named.2;
      only = λ v h. (c.in_ok-alone.ensures.alone v).0 h;
    } in
    subst (AreAlone ms (take (i + 1) places)) (sym c.in_ok-push.ensures.items)
    (alone_more ms places i c.loop-place.terms.items t c.loop-place-test.true c.loop-place.invariant alone)

pub returns : goal.returns
returns c =
    let ms = members_in c.args.self.now in
    alone_nogood ms (wanted_in c.args.self.now) c.args.places.now c.loop-place.terms.items c.requires.conflict
    (subst (λ l. AreAlone ms l c.loop-place.terms.items) (take_all c.loop-place.place-index c.args.places.now (omega (arith, c.loop-place-test.false))) c.loop-place.invariant)
