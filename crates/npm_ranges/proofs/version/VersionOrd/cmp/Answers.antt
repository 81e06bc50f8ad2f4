use Rattle.std.proofs.Common.{◌∙◌, subst}
use Rattle.npm_ranges.specs.Versions.{IsVersion}
use Rattle.npm_ranges.proofs.VersionOrders.{orders_agree}
use Rattle.npm_ranges.proofs.version.VersionOrd.cmp.Goals as goal

pub returns : goal.returns
returns c =
    let mine = subst IsVersion c.self.view_is c.self.invariant.version in
    let theirs = subst IsVersion c.other.view_is c.other.invariant.version in
    c.compare.ensures ∙ orders_agree c.args.self.now c.args.other.now mine theirs
