use Rattle.std.proofs.Common.{◌≡◌, ◌∷◌, ◌∙◌, List, sym, ap, subst}
use Rattle.std.specs.Vec.Iter.{into_iter_items}
use Rattle.std.proofs.lemmas.Result.{err_from_is_err_and}
use Rattle.records.specs.declared.record.Record as code
use Rattle.device.specs.Rebuilt.{building_view}
use Rattle.device.proofs.Restoring.{Taken, first_taken, next_taken, take_fault, finished, nothing_left}
use Rattle.device.proofs.device.Device.restore.Goals as goal

pub loop-entry-init : goal.loop-entry-init
loop-entry-init c =
    let rest = into_iter_items c.into_iter-entry-iterator.result in
    let same = ap into_iter_items c.into_iter-entry-iterator.ensures.into_iter_gives in
    let is : c.args.front ≡ c.in-Some.first ∷ rest =
    sym c.into_vec.ensures ∙ sym c.into_iter-records.ensures.rest ∙ c.in-Some.ensures.items ∙ ap (λ (l : List code.Record). c.in-Some.first ∷ l) (sym same) in
    record {
      can_next = tt;
      is_finite = tt;
      orderly = c.in_ok-building.ensures.orderly;
      taken = first_taken c.args.front rest c.in-Some.first c.in_ok-building.building is c.requires.regular c.in_ok-building.ensures.began;
    }

pub loop-entry-preserved : goal.loop-entry-preserved
loop-entry-preserved c =
    let rest = into_iter_items c.next-in-loop-entry.new.self in
    let taken = subst (λ (l : List code.Record). Taken c.args.front l (building_view c.loop-entry.building)) c.in-Some-entry.ensures.steps.0
    c.loop-entry.invariant.taken in
    let came = c.in_ok-take.ensures.came in
    record {
      can_next = tt;
      is_finite = tt;
      orderly = c.in_ok-take.ensures.orderly;
      taken = next_taken c.args.front rest c.in-Some-entry.entry (building_view c.loop-entry.building) (building_view c.take.new.self) taken came.0 came.1;
    }

pub returns-in_err-take-clause-restored : goal.returns-in_err-take-clause-restored
returns-in_err-take-clause-restored c =
    let rest = into_iter_items c.next-in-loop-entry.new.self in
    let taken = subst (λ (l : List code.Record). Taken c.args.front l (building_view c.loop-entry.building)) c.in-Some-entry.ensures.steps.0
    c.loop-entry.invariant.taken in
    let p = err_from_is_err_and c.from_residual-in_err-take.result c.from_residual-in_err-take.ensures.1 in
    rw (p.1, p.2)
    (take_fault c.args.front rest c.in-Some-entry.entry (building_view c.loop-entry.building) (building_view c.take.new.self) c.in_err-take.field-0.0 taken
    c.in_err-take.ensures.came)

pub returns-clause-restored : goal.returns-clause-restored
returns-clause-restored c =
    let left = c.loop-entry.entry-iterator in
    let none = nothing_left (into_iter_items left) (sym left.rest.ok.0 ∙ c.in-None.ensures.steps.0) in
    let taken = subst (λ (l : List code.Record). Taken c.args.front l (building_view c.loop-entry.building)) none c.loop-entry.invariant.taken in
    finished c.args.front (building_view c.loop-entry.building) c.finish.result taken c.loop-entry.invariant.orderly c.finish.ensures.finished
