use Rattle.std.proofs.Common.{◌≡◌, ◌+◌, ◌*◌, ◌<◌}
use Rattle.recipe_reader.specs.Members.{members}
use Rattle.recipe_reader.specs.Sets.{asked}
use Rattle.why_not.specs.Gathers.{AreBranchesSoFar, BranchesUseUp, IsPlainSoFar}
use Rattle.why_not.specs.declared.choosing.Form.TheVariants.{Plain}
use Rattle.why_not.proofs.explaining.+explained.Given as goal

abbrev pub decreases-explained : goal.decreases-explained
decreases-explained l = 2 * l.left.now

abbrev pub decreases-tried : goal.decreases-tried
decreases-tried l = 2 * l.left.now + 1

abbrev pub invariant-explained-loop-i : goal.invariant-explained-loop-i
invariant-explained-loop-i l = record {
  same : l.taken.items ≡ l.fn.taken.items;
  falls : l.left < l.fn.left;
  gathers : AreBranchesSoFar (members l.candidates) (asked l.wanted) l.fn.taken.items l.pick.name.now l.i l.used.items l.branches.items;
  small : BranchesUseUp l.fn.left l.left l.branches.items;
  plain : l.form ≡ Plain → IsPlainSoFar (members l.candidates) (asked l.wanted) l.fn.taken.items l.fn.left l.left l.branches.items;
}
