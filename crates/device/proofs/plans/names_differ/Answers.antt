use Rattle.std.proofs.Common.{arith, subst, sym, true, false, ◌≡◌, ◌<◌, ◌≤◌, ◌+◌, length}
use Rattle.std.specs.List.{IsDistinct, list_any}
use Rattle.std.specs.Str.{bytes_eq}
use Rattle.std.proofs.lemmas.List.{take_rest}
use Rattle.device.proofs.PlanLoops.{yes, no, apart_more, apart_bad, apart_end}
use Rattle.device.proofs.plans.names_differ.Goals as goal

pub returns-then-has_name : goal.returns-then-has_name
returns-then-has_name c =
    let xs = c.args.names.now in
    let i = c.loop-at.at in
    let x = c.index-names-at.result in
    let below : i < length xs = omega arith in
    let twice = subst (λ l. list_any (bytes_eq x) l ≡ true) (take_rest xs (i + 1)) (sym c.if-has_name.ensures) in
    no (IsDistinct bytes_eq xs) (apart_bad bytes_eq xs xs i x below c.index-names-at.is c.loop-at.invariant twice)

pub loop-at-preserved : goal.loop-at-preserved
loop-at-preserved c =
    let xs = c.args.names.now in
    let i = c.loop-at.at in
    let x = c.index-names-at.result in
    let below : i < length xs = omega arith in
    let once = subst (λ l. list_any (bytes_eq x) l ≡ false) (take_rest xs (i + 1)) (sym c.if-has_name.ensures) in
    apart_more bytes_eq xs xs i x below c.index-names-at.is c.loop-at.invariant once

pub returns : goal.returns
returns c =
    let xs = c.args.names.now in
    let i = c.loop-at.at in
    let past : length xs ≤ i = omega arith in
    yes (IsDistinct bytes_eq xs) (apart_end bytes_eq xs xs i past c.loop-at.invariant)
