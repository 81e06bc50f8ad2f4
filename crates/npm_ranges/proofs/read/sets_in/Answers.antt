use Rattle.std.proofs.lemmas.Result.{err_from_is_err_and}
use Rattle.npm_ranges.specs.Views.{sets_behind}
use Rattle.npm_ranges.proofs.Reading.{sets_end, sets_fail, sets_start, sets_step}
use Rattle.npm_ranges.proofs.read.sets_in.Goals as goal

pub sets-init : goal.sets-init
sets-init c = sets_start c.args.text.now c.new-sets.result.items c.new-sets.ensures.items

pub sets-preserved : goal.sets-preserved
sets-preserved c =
    let s = c.first_set.result in
    sets_step c.args.text.now s.0.now c.sets.rest c.in-Some.text (sets_behind s.1) c.sets.sets.items c.push.new.self.items c.in_ok-comparators.comparators
    c.sets.invariant c.in-Some.is c.first_set.ensures c.in_ok-comparators.ensures c.in_ok-push.ensures.items

pub returns-in_err-comparators : goal.returns-in_err-comparators
returns-in_err-comparators c =
    let s = c.first_set.result in
    let p = err_from_is_err_and c.from_residual.result c.from_residual.ensures.1 in
    rw (p.1, p.2) (sets_fail c.args.text.now s.0.now c.sets.rest c.in-Some.text (sets_behind s.1) c.sets.sets.items _ c.sets.invariant c.in-Some.is
    c.first_set.ensures c.in_err-comparators.ensures)

pub returns : goal.returns
returns c = sets_end c.args.text.now c.sets.rest c.sets.sets.items c.sets.invariant c.in_default.is
