use Rattle.std.proofs.Common.{map, sym, subst}
use Rattle.std.specs.Prelude.{◌↔◌, IsTrue, Contains}
use Rattle.std.proofs.lemmas.List.Elements.{All-contains}
use denote.Bor.{Bor}
use Rattle.nuc_base.proofs.Lists.{in_map, in_one}
use Rattle.recipe_reader.specs.Candidates.{IsReadFor}
use Rattle.recipe_reader.specs.declared.candidate.Candidate.{Candidate}
use Rattle.records.specs.Stored.{item_view}
use Rattle.device.specs.Lawful.{place}
use Rattle.plan_core.specs.Boots.{IsChanged, IsDue}
use Rattle.plan_core.specs.Looks.{candidates_of}
use Rattle.plan_core.proofs.Changing.{reads_beside, due, not_due, chosen_there}
use Rattle.plan_core.proofs.Facts.{if_ok}
use Rattle.plan_core.proofs.boots.is_due.Goals as goal

pub is_changed-requires-clause-kept : goal.is_changed-requires-clause-kept
is_changed-requires-clause-kept c =
    λ i x among one.
    let b = c.index-choice-at.result in
    let same = in_one b.now x one in
    c.requires.kept i x among (subst (Contains (candidates_of c.args.choice.now)) same
    (in_map (λ (y : Bor Candidate). y.now) c.args.choice.now b (c.args.at, c.requires.place, sym c.index-choice-at.is)))

pub is_changed-requires-clause-scope : goal.is_changed-requires-clause-scope
is_changed-requires-clause-scope c =
    let b = c.index-choice-at.result in
    let cs = candidates_of c.args.choice.now in
    let read = All-contains (IsReadFor c.args.origin.now.platform) cs b.now c.requires.read
    (in_map (λ (y : Bor Candidate). y.now) c.args.choice.now b (c.args.at, c.requires.place, sym c.index-choice-at.is)) in
    let r = reads_beside c.args.origin.now cs (map item_view c.args.items.now) c.args.at b.now c.requires.items
    (chosen_there c.args.choice.now c.args.at b c.requires.place c.index-choice-at.is) read in
    record { item = r.0; there = r.1; recipe = b.now.recipe; reads = r.2 }

pub is_changed-requires-clause-step : goal.is_changed-requires-clause-step
is_changed-requires-clause-step c =
    let b = c.index-choice-at.result in
    let cs = candidates_of c.args.choice.now in
    let read = All-contains (IsReadFor c.args.origin.now.platform) cs b.now c.requires.read
    (in_map (λ (y : Bor Candidate). y.now) c.args.choice.now b (c.args.at, c.requires.place, sym c.index-choice-at.is)) in
    let r = reads_beside c.args.origin.now cs (map item_view c.args.items.now) c.args.at b.now c.requires.items
    (chosen_there c.args.choice.now c.args.at b c.requires.place c.index-choice-at.is) read in
    record { item = r.0; there = r.1; reads = r.2; is_step = c.in-Some.is }

pub is_changed-requires-clause-read : goal.is_changed-requires-clause-read
is_changed-requires-clause-read c =
    let b = c.index-choice-at.result in
    All-contains (IsReadFor c.args.origin.now.platform) (candidates_of c.args.choice.now) b.now c.requires.read
    (in_map (λ (y : Bor Candidate). y.now) c.args.choice.now b (c.args.at, c.requires.place, sym c.index-choice-at.is))

pub returns-in-Some : goal.returns-in-Some
returns-in-Some c =
    let b = c.index-choice-at.result in
    let origin = c.args.origin.now in
    let set = map item_view c.args.set.now in
    let cs = candidates_of c.args.choice.now in
    let items = map item_view c.args.items.now in
    if_ok c.is_changed.result
    (λ r. IsTrue r ↔ IsChanged origin set items c.args.at b.now.recipe.version (place b.now.recipe.name set))
    (λ r. IsTrue r ↔ IsDue origin set cs items c.args.at)
    (λ r tells. due origin set cs items c.args.at b.now c.in-Some.step r
    (chosen_there c.args.choice.now c.args.at b c.requires.place c.index-choice-at.is) c.in-Some.is tells)
    c.is_changed.ensures

pub returns-in-None : goal.returns-in-None
returns-in-None c =
    let b = c.index-choice-at.result in
    not_due c.args.origin.now (map item_view c.args.set.now) (candidates_of c.args.choice.now) (map item_view c.args.items.now) c.args.at b.now
    (chosen_there c.args.choice.now c.args.at b c.requires.place c.index-choice-at.is) c.in-None.is
