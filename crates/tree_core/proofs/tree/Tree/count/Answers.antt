use Rattle.std.proofs.Common.{ap, ◌∙◌, ◌≡◌, ◌<◌, ◌^◌, arith}
use Rattle.serde_json.specs.Data.{number}
use Rattle.serde_json.specs.Find.{of_integer}
use Rattle.tree_core.specs.View.{view}
use Rattle.tree_core.proofs.Counting.{count_none, count_some}
use Rattle.tree_core.proofs.Seen.{seen_whole}
use Rattle.tree_core.proofs.tree.Tree.count.Goals as goal

pub returns-in-Some : goal.returns-in-Some
returns-in-Some c =
    let m = of_integer c.in-Whole.number in
    let is : view c.args.self.now ≡ number m = ap view c.in-Whole.is ∙ seen_whole c.in-Whole.number in
    count_some (view c.args.self.now) m c.in-Some.count c.args.most c.within.result is c.in-Some.ensures.some c.within.ensures

pub returns-in-None : goal.returns-in-None
returns-in-None c =
    let m = of_integer c.in-Whole.number in
    let is : view c.args.self.now ≡ number m = ap view c.in-Whole.is ∙ seen_whole c.in-Whole.number in
    let below : c.args.most < 2 ^ 64 = omega arith in
    count_none (view c.args.self.now) m c.args.most below is (c.natural.ensures.none c.in-None.is)
