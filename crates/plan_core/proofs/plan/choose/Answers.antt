use Rattle.std.proofs.Common.{◌≡◌, ℕ, List, length, arith, ap, ◌∙◌}
use Rattle.recipe_reader.specs.declared.candidate.Candidate.{Candidate}
use Rattle.device.specs.Devices.{device_view}
use Rattle.plan_core.specs.Looks.{candidates_of}
use Rattle.plan_core.specs.Parts.{IsFewChoice}
use Rattle.plan_core.specs.Requests.{wanted_of}
use Rattle.plan_core.specs.Set.{chosen}
use Rattle.plan_core.proofs.Growing.{chosen_long}
use Rattle.plan_core.proofs.Planned.{few_places, inside, too_many}
use Rattle.plan_core.proofs.plan.choose.Goals as goal

pub check_count-requires : goal.check_count-requires
check_count-requires c =
    let few = few_places c.args.candidates.now (wanted_of (device_view c.args.device.now).groups c.args.document.now) c.in_ok-set.set
    c.in_ok-set.ensures.valid in
    omega (arith, few, c.list.ensures.rule.count, c.len.ensures)

pub returns-in_err-check_count : goal.returns-in_err-check_count
returns-in_err-check_count c =
    too_many (λ choice. IsFewChoice (device_view c.args.device.now) c.args.candidates.now c.args.document.now (candidates_of choice.items))
    (device_view c.args.device.now) c.args.candidates.now c.args.document.now c.in_ok-set.set c.len.result c.in_err-check_count.field-0.0
    c.from_residual-in_err-check_count.result
    c.in_ok-set.ensures c.len.ensures c.in_err-check_count.ensures c.from_residual-in_err-check_count.ensures.1

pub returns : goal.returns
returns c =
    let cs = c.args.candidates.now in
    let set = c.in_ok-set.set in
    let long = chosen_long cs set (inside cs (wanted_of (device_view c.args.device.now).groups c.args.document.now) set c.in_ok-set.ensures.valid) in
    let is : candidates_of c.in_ok-choice.choice.items ≡ chosen cs set = c.in_ok-choice.ensures
    ∙ ap (λ (l : List Candidate). chosen l c.as_slice.result.now) (c.as_slice-list.ensures ∙ c.list.ensures.value)
    ∙ ap (λ (l : List ℕ). chosen cs l) c.as_slice.ensures in
    let same = ap (λ (l : List Candidate). length l) is in
    record { is_choice = (set, c.in_ok-set.ensures, is); few = omega (arith, same, long, c.len.ensures, c.in_ok-check_count.ensures) }
