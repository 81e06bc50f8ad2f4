use Rattle.std.proofs.Common.{◌<◌, length, arith, sym, ap, subst, ◌∙◌, get_or, List}
use Rattle.std.proofs.lemmas.List.{take_all}
use Rattle.components.specs.Changes.{fresh_part}
use Rattle.components.specs.Readied.{IsFresh}
use Rattle.components.specs.Components.{ComponentState}
use Rattle.components.proofs.Meets.{all_in, began, began_got, began_length, fits, got_same, in_got, set_more}
use Rattle.supervisor.proofs.merging.begin_each.Goals as goal

pub begin_with-requires-clause-few : goal.begin_with-requires-clause-few
begin_with-requires-clause-few c = c.requires.few c.loop-at.at 0 (omega arith)

pub begin_with-requires-clause-fresh : goal.begin_with-requires-clause-fresh
begin_with-requires-clause-fresh c =
    let l : c.loop-at.at < length c.args.coming.now = omega (arith, c.loop-at.auto.coming, c.loop-at-test.true) in
    let x : ComponentState = c.index-coming-at.result in
    let e = got_same c.args.coming.now c.loop-at.coming c.loop-at.at x l (omega (arith, c.loop-at-test.true)) c.loop-at.invariant.rest in
    subst IsFresh (sym e) (all_in IsFresh c.args.coming.now (get_or c.args.coming.now c.loop-at.at x) c.requires.fresh
    (in_got c.args.coming.now c.loop-at.at x l))

pub loop-at-preserved : goal.loop-at-preserved
loop-at-preserved c =
    let l : c.loop-at.at < length c.args.coming.now = omega (arith, c.loop-at.auto.coming, c.loop-at-test.true) in
    let x : ComponentState = c.index-coming-at.result in
    let e = got_same c.args.coming.now c.loop-at.coming c.loop-at.at x l (omega (arith, c.loop-at-test.true)) c.loop-at.invariant.rest in
    let t = c.begin_with.ensures ∙ ap (λ (p : ComponentState). fresh_part (p.fitted, get_or c.args.failures.now c.loop-at.at 0)) e ∙ sym
    (began_got c.args.failures.now c.args.coming.now c.loop-at.at x l) in
    let a = set_more (began 0 c.args.failures.now (fits c.args.coming.now)) c.args.coming.now c.loop-at.coming c.loop-at.at x c.begin_with.new.self
    (began_length 0 c.args.failures.now c.args.coming.now) l c.loop-at.auto.coming t c.loop-at.invariant.done c.loop-at.invariant.rest in
    record { done = a.0; rest = a.1 }

pub returns : goal.returns
returns c =
    let ts : List ComponentState = began 0 c.args.failures.now (fits c.args.coming.now) in
    let m = began_length 0 c.args.failures.now c.args.coming.now in
    sym (take_all c.loop-at.at c.loop-at.coming (omega arith)) ∙ c.loop-at.invariant.done ∙ take_all c.loop-at.at ts (omega (arith, m, c.loop-at.auto.coming))
