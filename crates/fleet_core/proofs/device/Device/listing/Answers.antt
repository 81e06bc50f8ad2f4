use Rattle.std.proofs.Common.{◌≡◌, ◌∙◌, ◌≤◌, ◌∷◌, [], map, sym, ap, subst, arith, rules}
use Rattle.std.specs.Map.Iter.{deref_pair}
use Rattle.std.proofs.lemmas.List.{map-append}
use Rattle.std.proofs.lemmas.Map.Iter.{iter_end}
use Rattle.fleet_core.specs.Takings.{level}
use Rattle.fleet_core.specs.Keeping.{takings_of}
use Rattle.fleet_core.specs.Replies.{IsListing}
use Rattle.fleet_core.proofs.Lookups.{listed, listed-none, listed_is}
use Rattle.fleet_core.proofs.device.Device.listing.Goals as goal

pub loop-group-preserved : goal.loop-group-preserved
loop-group-preserved c =
    let none : level c.args.reports c.in-Some.history.now ≤ 0 = omega (arith, c.level-level.ensures) in
    c.loop-group.invariant
    ∙ sym (ap (listed c.args.reports) (map-append deref_pair c.loop-group.yielded ((c.in-Some.group, c.in-Some.history) ∷ []))
    ∙ listed-none c.args.reports (map deref_pair c.loop-group.yielded) (c.in-Some.group.now, c.in-Some.history.now) none)

pub returns : goal.returns
returns c =
    let all : map deref_pair c.loop-group.yielded ≡ c.self.inside.groups.entries = search (rules, iter_end) in
    subst (IsListing (λ g. level c.args.reports (takings_of c.args.self.now g))) (sym (c.loop-group.invariant ∙ ap (listed c.args.reports) all))
    (listed_is c.args.reports c.self.inside.heard c.self.inside.groups.entries c.args.self.now c.self.view_is c.iter-group-items.ensures.ordered)
