use Rattle.library_core.proofs.Readings.{wants_memory}
use Rattle.library_core.proofs.kept.candidate_of.Goals as goal

pub want_of-requires : goal.want_of-requires
want_of-requires c =
    let reads = c.requires in
    wants_memory c.tree_laws.ensures.one_tree c.tree_laws.ensures.no_fault c.as_slice.result.now c.args.item.now.recipe c.args.platform.now reads.0
    c.in-Err.fault c.as_slice.ensures reads.1 c.in-Err.ensures.exact
