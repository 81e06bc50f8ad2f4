use Rattle.std.proofs.Common.{◌≡◌, ◌+◌, ◌++◌, ◌∷◌, [], ℕ, List, take, length, get_or, sym, ap, ◌∙◌, subst, arith}
use Rattle.std.proofs.lemmas.List.{take_all}
use Rattle.conflict_search.specs.Stands.{members_in}
use Rattle.conflict_search.specs.Endless.{IsAmong, AreNeeding}
use Rattle.conflict_search.specs.declared.terms.Term.{Term}
use Rattle.conflict_search.proofs.Ending.{needing_start, needing_more}
use Rattle.conflict_search.proofs.library.Library.needing_all.Goals as goal

pub loop-place-init : goal.loop-place-init
loop-place-init c =
    let ms = members_in c.args.self.now in
    let among = c.args.among.now in
    let first = λ (x : ℕ). get_or c.args.self.now.names.now.first.items x 0 in
    let t = c.in_ok-needing_some.field-0 in
    subst (AreNeeding ms among first []) (sym (c.in_ok-push.ensures.items ∙ ap (λ (l : List Term). l ++ t ∷ []) c.new-terms.ensures.items))
    (needing_start ms among first t c.in_ok-needing_some.ensures.needing (subst (IsAmong among) (sym c.in_ok-needing_some.ensures.from) c.requires.among)
    c.in_ok-needing_some.ensures.present)

pub loop-place-preserved : goal.loop-place-preserved
loop-place-preserved c =
    let ms = members_in c.args.self.now in
    let among = c.args.among.now in
    let first = λ (x : ℕ). get_or c.args.self.now.names.now.first.items x 0 in
    let places = c.args.places.now in
    let i = c.loop-place.place-index in
    subst (AreNeeding ms among first (take (i + 1) places)) (sym c.in_ok-push-2.ensures.items)
    (needing_more ms among first places i c.loop-place.terms.items c.in_ok-needing_or_absent.field-0 c.loop-place-test.true c.loop-place.invariant
    c.in_ok-needing_or_absent.ensures.needing c.in_ok-needing_or_absent.ensures.from)

pub returns : goal.returns
returns c =
    let ms = members_in c.args.self.now in
    let among = c.args.among.now in
    let first = λ (x : ℕ). get_or c.args.self.now.names.now.first.items x 0 in
    subst (λ l. AreNeeding ms among first l c.loop-place.terms.items) (take_all c.loop-place.place-index c.args.places.now (omega (arith, c.loop-place-test.false)))
    c.loop-place.invariant
