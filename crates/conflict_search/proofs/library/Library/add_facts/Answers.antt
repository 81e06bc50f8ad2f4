use Rattle.std.proofs.Common.{None}
use Rattle.conflict_search.specs.Stands.{members_in, wanted_in}
use Rattle.conflict_search.proofs.Demanding.{demands_among}
use Rattle.conflict_search.proofs.library.Library.add_facts.Goals as goal

pub add_wishes-requires-clause-wanted : goal.add_wishes-requires-clause-wanted
add_wishes-requires-clause-wanted c = demands_among (members_in c.args.self.now) (wanted_in c.args.self.now) None (wanted_in c.args.self.now) c.args.wanted.now
    c.requires.wanted
