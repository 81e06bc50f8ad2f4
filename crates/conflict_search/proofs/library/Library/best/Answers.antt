use Rattle.std.proofs.Common.{◌≡◌, ℕ, List, [], Result, Ok, Err, Option, None, Some, Vec, Global}
use Rattle.std.specs.Prelude.{IfOk, MatchOption}
use Rattle.std.specs.List.{Contains}
use Rattle.std.proofs.lemmas.List.Elements.{All-contains}
use Rattle.std.proofs.lemmas.Option.{MatchOption-at_none}
use Rattle.recipe_reader.specs.Members.{Need, Member}
use Rattle.recipe_reader.specs.Sets.{IsMet, IsValid}
use Rattle.recipe_reader.specs.Searches.{HasNone, IsBest}
use Rattle.recipe_reader.proofs.Preferring.{no_valid}
use Rattle.conflict_search.specs.Numbers.{IsUnknown}
use Rattle.conflict_search.specs.Claims.{claims_from, AreDemands}
use Rattle.conflict_search.specs.Stands.{members_in, wanted_in}
use Rattle.conflict_search.specs.declared.budget.Stop.{Stop}
use Rattle.conflict_search.specs.declared.demands.Demand.{Demand}
use Rattle.conflict_search.proofs.library.Library.best.Goals as goal

pub returns-in_default-clause-found : goal.returns-in_default-clause-found
returns-in_default-clause-found c = λ s v.
    let ms = members_in c.args.self.now in
    let wanted = wanted_in c.args.self.now in
    let r = MatchOption-at_none ((w : Need) × Contains wanted w × IsUnknown ms w.name) (λ (v : Vec Demand Global). AreDemands ms (claims_from None wanted)
    v.items) c.in_default.is c.in_ok-wanted.ensures in
    let m = All-contains (λ (w : Need). IsMet ms s w.name w.range) wanted r.0 v.wanted_met r.1 in
    let by = m.2 in
    r.2 m.0 by.named

found_of : (ms : List Member) (wanted : List Need) (r : Result (Option (Vec ℕ Global)) Stop) →
    IfOk r (λ found. MatchOption found (HasNone ms wanted []) (λ path. IsBest ms wanted [] path.items)) →
    IfOk r (λ found. MatchOption found ((s : List ℕ) → IsValid ms wanted s → ⊥) (λ path. IsBest ms wanted [] path.items))
found_of ms wanted (Ok None) h = no_valid ms wanted h
found_of ms wanted (Ok (Some path)) h = h
found_of ms wanted (Err e) h = h

pub returns-clause-found : goal.returns-clause-found
returns-clause-found c = found_of (members_in c.args.self.now) (wanted_in c.args.self.now) c.run.result c.run.ensures.found
