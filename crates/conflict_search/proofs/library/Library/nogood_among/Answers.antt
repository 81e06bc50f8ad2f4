use Rattle.std.proofs.Common.{ℕ, get_or}
use Rattle.conflict_search.specs.Stands.{members_in, wanted_in}
use Rattle.conflict_search.proofs.Ending.{never_ending}
use Rattle.conflict_search.proofs.library.Library.nogood_among.Goals as goal

pub returns : goal.returns
returns c =
    let first = λ (x : ℕ). get_or c.args.self.now.names.now.first.items x 0 in
    never_ending (members_in c.args.self.now) (wanted_in c.args.self.now) c.args.among.now c.args.listed.now first c.args.cycle.now
    c.in_ok-needing_all.field-0.items c.requires.listed (c.is_closed.ensures c.if-not-is_closed.false) c.in_ok-needing_all.ensures
