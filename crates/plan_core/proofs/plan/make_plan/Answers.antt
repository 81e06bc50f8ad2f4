use Rattle.std.proofs.Common.{◌≡◌, List, sym, subst}
use Rattle.std.specs.Prelude.{◌⊎◌, Option}
use Rattle.std.specs.Option.{IsSomeAnd}
use denote.Bor.{Bor}
use Rattle.recipe_reader.specs.declared.candidate.Candidate.{Candidate}
use Rattle.records.specs.Stored.{draft_view}
use Rattle.records.specs.declared.record.Draft as code
use Rattle.records.specs.declared.record.Origin.{Origin}
use Rattle.device.specs.Devices.{device_view}
use Rattle.plan_core.specs.Looks.{candidates_of}
use Rattle.plan_core.specs.Parts.{IsFewChoice}
use Rattle.plan_core.specs.Plans.{IsPlanned, IsRefused}
use Rattle.plan_core.specs.Ready.{MayPlan}
use Rattle.plan_core.specs.declared.fault.PlanFault.TheVariants as fault
use Rattle.plan_core.proofs.Growing.{handed}
use Rattle.plan_core.proofs.Planned.{planned, may_make, refused_config, refused_choice}
use Rattle.plan_core.proofs.plan.make_plan.Goals as goal

pub parts_of-requires : goal.parts_of-requires
parts_of-requires c =
    let d = device_view c.args.device.now in
    let may = subst (λ (o : Option Origin). IsSomeAnd o (λ p. MayPlan p d c.args.candidates.now c.args.document.now)) c.in-Some.is c.requires in
    let few = subst (λ (l : List (Bor Candidate)). IsFewChoice d c.args.candidates.now c.args.document.now (candidates_of l)) (sym c.as_slice.ensures.value)
    c.in_ok-choice.ensures in
    record { may = may_make c.in-Some.origin d c.args.candidates.now c.args.document.now (candidates_of c.as_slice.result.now) may few }

pub returns-in_err-choice : goal.returns-in_err-choice
returns-in_err-choice c = λ o is.
    let d = device_view c.args.device.now in
    let f = c.in_err-choice.field-0.0 in
    handed (λ (draft : code.Draft). IsPlanned o d c.args.candidates.now c.args.document.now (draft_view draft))
    (λ e. (e ≡ fault.NoMemory) ⊎ IsRefused d c.args.candidates.now c.args.document.now e)
    c.from_residual-in_err-choice.result f c.from_residual-in_err-choice.ensures.1
    (refused_choice d c.args.candidates.now c.args.document.now c.in_ok-check_room.ensures f c.in_err-choice.ensures)

pub returns-in_err-items : goal.returns-in_err-items
returns-in_err-items c = λ o is.
    let d = device_view c.args.device.now in
    let f = c.in_err-items.field-0.0 in
    let few = subst (λ (l : List (Bor Candidate)). IsFewChoice d c.args.candidates.now c.args.document.now (candidates_of l)) (sym c.as_slice.ensures.value)
    c.in_ok-choice.ensures in
    handed (λ (draft : code.Draft). IsPlanned o d c.args.candidates.now c.args.document.now (draft_view draft))
    (λ e. (e ≡ fault.NoMemory) ⊎ IsRefused d c.args.candidates.now c.args.document.now e)
    c.from_residual-in_err-items.result f c.from_residual-in_err-items.ensures.1
    (refused_config c.in-Some.origin d c.args.candidates.now c.args.document.now (candidates_of c.as_slice.result.now) c.in_ok-check_room.ensures f few
    c.in_err-items.ensures)

pub returns : goal.returns
returns c = λ o is.
    let same : o ≡ c.in-Some.origin = cc in
    let d = device_view c.args.device.now in
    let few = subst (λ (l : List (Bor Candidate)). IsFewChoice d c.args.candidates.now c.args.document.now (candidates_of l)) (sym c.as_slice.ensures.value)
    c.in_ok-choice.ensures in
    let done : IsPlanned c.in-Some.origin d c.args.candidates.now c.args.document.now (draft_view c.in_ok-draft.draft) =
    planned c.in-Some.origin d c.args.candidates.now c.args.document.now (candidates_of c.as_slice.result.now) c.in_ok-check_room.ensures
    c.in_ok-draft.draft c.in_ok-items.items c.in_ok-items.boots few
    c.in_ok-items.ensures.0 c.in_ok-items.ensures.1 c.in_ok-items.ensures.2 c.in_ok-items.ensures.3
    c.in_ok-draft.ensures.0 c.in_ok-draft.ensures.1 c.in_ok-draft.ensures.2 in
    subst (λ (p : Origin). IsPlanned p d c.args.candidates.now c.args.document.now (draft_view c.in_ok-draft.draft)) (sym same) done
