use Rattle.recipe_reader.specs.Members.{members}
use Rattle.why_not.proofs.Linking.{edges_more}
use Rattle.why_not.proofs.loops.edges_among.Goals as goal

pub loop-place-preserved : goal.loop-place-preserved
loop-place-preserved c =
    edges_more (members c.args.candidates.now) c.args.places.now c.args.places.now c.loop-place.place-index c.loop-place-test.true
    c.loop-place.edges.items c.add_edges.new.edges.items c.loop-place.invariant c.in_ok-add_edges.ensures
