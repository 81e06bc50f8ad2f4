use Rattle.std.proofs.Common.{◌+◌, take, refl, sym, subst, Vec, Global}
use Rattle.dep_order.specs.declared.Need.{Need}
use Rattle.recipe_reader.specs.Members.{members}
use Rattle.why_not.specs.Edges.{AddsEdges}
use Rattle.why_not.proofs.Linking.{adds_more, adds_same}
use Rattle.why_not.proofs.loops.add_edges.Goals as goal
use Rattle.why_not.proofs.loops.add_edges.Goals.{then-depends_on+in_ok-push, else-depends_on}

pub loop-other-preserved : goal.loop-other-preserved
loop-other-preserved c =
    let ms = members c.args.candidates.now in
    let i = c.loop-other.other-index in
    let places = c.args.places.now in
    elim c.if-depends_on.branch [
      | then-depends_on+in_ok-push w ↦
          subst (λ (v : Vec Need Global). AddsEdges ms c.args.place (take (i + 1) places) c.args.edges.now.items v.items) (sym w.edges-is)
          (adds_more ms c.args.place places i c.loop-other-test.true c.args.edges.now.items c.loop-other.edges.items c.loop-other.invariant
          w.push.new.self.items _ w.in_ok-push.ensures.items refl refl (c.depends_on.ensures.yes w.if-depends_on.true))
      | else-depends_on w ↦
          subst (λ (v : Vec Need Global). AddsEdges ms c.args.place (take (i + 1) places) c.args.edges.now.items v.items) (sym w.edges-is)
          (adds_same ms c.args.place places i c.loop-other-test.true c.args.edges.now.items c.loop-other.edges.items c.loop-other.invariant
          (c.depends_on.ensures.no w.if-depends_on.false))
    ]
