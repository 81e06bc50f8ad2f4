use Rattle.std.proofs.Common.{◌∷◌, [], Some, Vec, Global, sym, subst}
use Rattle.std.specs.List.{All, Contains}
use Rattle.std.proofs.lemmas.Option.{MatchOption-at_some, MatchOption-at_none}
use Rattle.nuc_base.proofs.Lists.{in_here}
use Rattle.recipe_reader.specs.Members.{Need}
use Rattle.recipe_reader.specs.Sets.{needs_of}
use Rattle.conflict_search.specs.Numbers.{IsUnknown}
use Rattle.conflict_search.specs.Claims.{claims_from, AreDemands}
use Rattle.conflict_search.specs.Stands.{members_in, wanted_in}
use Rattle.conflict_search.specs.Facts.{IsDemandOf}
use Rattle.conflict_search.specs.declared.demands.Demand.{Demand}
use Rattle.conflict_search.proofs.Trying.{nogood_unknown}
use Rattle.conflict_search.proofs.Demanding.{demands_among}
use Rattle.conflict_search.proofs.library.Library.gather_needs.Goals as goal

pub nogood_of-requires-clause-conflict : goal.nogood_of-requires-clause-conflict
nogood_of-requires-clause-conflict c =
    let ms = members_in c.args.self.now in
    let p = c.args.place in
    let r = MatchOption-at_none ((d : Need) × Contains (needs_of ms p) d × IsUnknown ms d.name)
    (λ (v : Vec Demand Global). AreDemands ms (claims_from (Some p) (needs_of ms p)) v.items) c.in_default.is c.in_ok-needs.ensures in
    nogood_unknown ms (wanted_in c.args.self.now) (p ∷ []) p r.0 (in_here p []) r.1 r.2

pub gather_all-requires-clause-needs : goal.gather_all-requires-clause-needs
gather_all-requires-clause-needs c =
    let ms = members_in c.args.self.now in
    let wanted = wanted_in c.args.self.now in
    let p = c.args.place in
    let r = MatchOption-at_some ((d : Need) × Contains (needs_of ms p) d × IsUnknown ms d.name)
    (λ (v : Vec Demand Global). AreDemands ms (claims_from (Some p) (needs_of ms p)) v.items) c.in-Some.needs c.in-Some.is c.in_ok-needs.ensures in
    subst (All (IsDemandOf ms (needs_of ms p))) (sym c.as_slice.ensures.value) (demands_among ms wanted (Some p) (needs_of ms p) c.in-Some.needs.items r)
