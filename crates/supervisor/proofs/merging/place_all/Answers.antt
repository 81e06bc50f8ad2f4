use Rattle.std.proofs.Common.{◌++◌, [], ℕ, ◌-◌, List, take, refl, sym, ap, ◌∙◌, arith}
use Rattle.components.specs.Changes.{with_newcomers}
use Rattle.components.specs.Components.{ComponentState}
use Rattle.components.proofs.Meets.{newcomers_last}
use Rattle.supervisor.proofs.merging.place_all.Goals as goal

pub rest-init : goal.rest-init
rest-init c = record { placed = refl; sum = refl; many = c.requires.many; room = refl; flags = refl }

pub place-requires : goal.place-requires
place-requires c =
    let len = c.in-Some.ensures.cases in
    let sum = c.rest.invariant.sum in
    let room = c.rest.invariant.room in
    let fits = c.requires.room in
    omega (arith, len, sum, room, fits)

pub push_reserved-requires : goal.push_reserved-requires
push_reserved-requires c =
    let len = c.in-Some.ensures.cases in
    let sum = c.rest.invariant.sum in
    let many = c.rest.invariant.many in
    let flags = c.rest.invariant.flags in
    let fits = c.requires.flags in
    let same = c.requires.many in
    omega (arith, len, sum, many, flags, fits, same)

pub rest-smaller : goal.rest-smaller
rest-smaller c = let len = c.in-Some.ensures.cases in omega (arith, len)

pub returns-clause-many : goal.returns-clause-many
returns-clause-many c = c.rest.invariant.many

pub returns-clause-few : goal.returns-clause-few
returns-clause-few c =
    let n = c.in_default.ensures.cases in
    let sum = c.rest.invariant.sum in
    omega (arith, n, sum)

pub rest-preserved : goal.rest-preserved
rest-preserved c =
    let ns : List ComponentState = c.pop.new.self.items in
    let len = c.in-Some.ensures.cases in
    record {
      placed = ap (with_newcomers ns) c.place.ensures.placed ∙ sym (newcomers_last ns c.in-Some.slot c.rest.room.items)
          ∙ ap (λ (xs : List ComponentState). with_newcomers xs c.rest.room.items) (sym c.in-Some.ensures.items) ∙ c.rest.invariant.placed;
      sum = (let e = c.place.ensures.len in let s = c.rest.invariant.sum in omega (arith, len, e, s));
      many = (let e = c.place.ensures.len in let l = c.push_reserved.ensures.len in let m = c.rest.invariant.many in omega (arith, e, l, m));
      room = c.place.ensures.capacity ∙ c.rest.invariant.room;
      flags = c.push_reserved.ensures.capacity ∙ c.rest.invariant.flags;
    }

pub returns-clause-placed : goal.returns-clause-placed
returns-clause-placed c =
    let empty = c.in_default.ensures.items ∙ ap (λ (xs : List ComponentState). xs ++ [])
    (c.in_default.ensures.rest ∙ ap (λ (n : ℕ). take (n - 1) c.rest.coming.items) c.in_default.ensures.cases.0) in
    ap (λ (ns : List ComponentState). with_newcomers ns c.rest.room.items) (sym empty) ∙ c.rest.invariant.placed
