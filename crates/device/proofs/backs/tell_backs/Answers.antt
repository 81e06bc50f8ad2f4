use Rattle.std.proofs.Common.{◌<◌, ◌≤◌, arith, length, map, subst}
use Rattle.records.specs.Stored.{item_view}
use Rattle.device.specs.Backing.{TellsBack}
use Rattle.device.specs.Lawful.{IsReadable, goes_back}
use Rattle.device.proofs.Flags.{told_all, told_flag, told_more}
use Rattle.device.proofs.PlanLoops.{left_more, left_end}
use Rattle.device.proofs.backs.tell_backs.Goals as goal

pub loop-at-preserved : goal.loop-at-preserved
loop-at-preserved c =
    let p = c.args.platform.now in
    let set = map item_view c.args.set.now in
    let xs = c.args.names.now in
    let i = c.loop-at.at in
    let x = c.index-names-at.result in
    let below : i < length xs = omega arith in
    let many : length xs ≤ length c.loop-at.flags = omega arith in
    let t = told_flag p set x c.in-Some.back (subst (TellsBack p set x) c.in-Some.is c.in_ok-back.ensures) in
    record {
      within = omega arith;
      left = left_more (IsReadable p set) xs xs i x below c.index-names-at.is c.loop-at.invariant.left t.0;
      told = told_more (goes_back p set) c.loop-at.flags xs i x c.in-Some.back below many c.index-names-at.is t.1 c.loop-at.invariant.told;
    }

pub returns : goal.returns
returns c =
    let p = c.args.platform.now in
    let set = map item_view c.args.set.now in
    let xs = c.args.names.now in
    let i = c.loop-at.at in
    let past : length xs ≤ i = omega arith in (
      left_end (IsReadable p set) xs xs i past c.loop-at.invariant.left,
      told_all (goes_back p set) c.loop-at.flags xs i c.loop-at.invariant.within
          past c.loop-at.invariant.told,
    )
