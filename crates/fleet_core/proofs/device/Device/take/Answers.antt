use Rattle.std.proofs.Common.{◌∙◌, ◌+◌, ◌<◌, ◌++◌, ◌∷◌, [], List, Some, ℕ, cond, sym, ap, rules}
use Rattle.std.specs.BTreeMap.{BTreeMap}
use Rattle.std.specs.Map.{lookup}
use Rattle.fleet_core.specs.declared.history.Taking.{Taking}
use Rattle.fleet_core.specs.Takings.{level, AreBy}
use Rattle.fleet_core.specs.Keeping.{Keeping}
use Rattle.fleet_core.proofs.Lookups.{among-some, among-none, by_order, at_device, takes_one, ok_then, err_then}
use Rattle.std.proofs.lemmas.Map.Steps.{set_value_same}
use Rattle.fleet_core.proofs.device.Device.take.Goals as goal

pub add-requires-clause-later : goal.add-requires-clause-later
add-requires-clause-later c =
    at_device (AreBy c.args.taking.reports) c.self.inside.groups.entries c.self.inside.heard c.args.self.now c.args.group.now c.in-Some.history.now
    c.self.view_is c.in-Some.ensures.value
    (c.requires.later c.args.group.now)

pub add-requires-clause-newer : goal.add-requires-clause-newer
add-requires-clause-newer c =
    at_device (λ ts. level (c.args.taking.reports + 1) ts < c.args.taking.revision) c.self.inside.groups.entries c.self.inside.heard c.args.self.now
    c.args.group.now c.in-Some.history.now c.self.view_is
    c.in-Some.ensures.value c.requires.newer

pub returns-in-Some-clause-ok : goal.returns-in-Some-clause-ok
returns-in-Some-clause-ok c =
    let es = c.self.inside.groups.entries in
    let w = c.add.new.self in
    let new = c.get_mut.follows.lender w in
    let updates = (c.get_mut.follows.holds w).3 (search rules) in
    ok_then c.add.result (λ more. takes_one es new.entries c.self.inside.heard c.args.self.now c.args.group.now w c.args.taking c.self.view_is updates.0
    (more ∙ ap (λ (ts : List Taking). ts ++ c.args.taking ∷ []) (among-some c.args.group.now es c.in-Some.history.now c.in-Some.ensures.value)))
    c.add.ensures.ok

pub returns-in-Some-clause-err : goal.returns-in-Some-clause-err
returns-in-Some-clause-err c =
    let es = c.self.inside.groups.entries in
    let w = c.add.new.self in
    let new = c.get_mut.follows.lender w in
    err_then c.add.result (λ same. ap (λ (l : List (List ℕ × List Taking)). let k : Keeping = record { groups = l; heard = c.self.inside.heard } in k)
    ((c.get_mut.follows.holds w).0 ∙ set_value_same (by_order c.args.group.now) es w
    (sym c.in-Some.ensures.value ∙ ap (λ (ts : List Taking). Some ts) (sym same))) ∙ c.self.view_is) c.add.ensures.err

pub returns-clause-ok : goal.returns-clause-ok
returns-clause-ok c =
    let es = c.self.inside.groups.entries in
    takes_one es c.insert.new.self.entries c.self.inside.heard c.args.self.now c.args.group.now c.add-2.new.self c.args.taking c.self.view_is
    (λ q. c.in_ok-insert.ensures.updates.0 q
    ∙ ap (λ (m : BTreeMap (List ℕ) (List Taking)). cond (by_order c.in_ok-copy.field-0 q) (Some c.add-2.new.self) (lookup (by_order q) m.entries))
    c.get_mut.follows.holds-at-none
    ∙ ap (λ (k : List ℕ). cond (by_order k q) (Some c.add-2.new.self) (lookup (by_order q) es)) c.in_ok-copy.ensures)
    (c.in_ok-add.ensures.ok ∙ ap (λ (ts : List Taking). ts ++ c.args.taking ∷ [])
    (c.empty-history.ensures ∙ among-none c.args.group.now es c.in_default.ensures.value))
