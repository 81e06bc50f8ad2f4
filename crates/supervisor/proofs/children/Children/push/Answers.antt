use Rattle.std.proofs.Common.{◌∷◌, arith, Bool, ap, ◌∙◌, if◌then◌else◌}
use Rattle.supervisor.proofs.Once.{few, once_pushed}
use Rattle.supervisor.proofs.children.Children.push.Goals as goal

pub unreachable-requires : goal.unreachable-requires
unreachable-requires c =
    let q = rw (← c.self.view_is) at c.requires in
    let l = few c.args.child.of c.self.inside.list.items c.self.invariant.1 q in
    let r = c.self.invariant.0 in
    let ok = c.insert.ensures.succeeds (omega (arith, l, r)) in
    let n = c.if-is_err.ensures.negation in
    cc

pub invariant_of-self : goal.invariant_of-self
invariant_of-self c =
    let q = rw (← c.self.view_is) at c.requires in
    let r = c.self.invariant.0 in
    let k = c.insert.ensures.capacity in
    let items = c.insert.ensures.items ∙ ap (λ (b : Bool). if b then c.args.child ∷ c.self.inside.list.items else c.self.inside.list.items)
    c.if-is_err.ensures.negation in
    (omega (arith, r, k), rw items (once_pushed c.args.child c.self.inside.list.items c.self.invariant.1 q))
