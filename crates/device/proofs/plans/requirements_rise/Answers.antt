use Rattle.std.proofs.Common.{rules, nat_cmp}
use Rattle.std.proofs.lemmas.Fn.{always_returns_same}
use Rattle.std.specs.Ordering.{is_lt}
use Rattle.std.specs.Cmp.Lexicographic.{slice_cmp}
use Rattle.records.specs.declared.record.Requirement.{Requirement}
use Rattle.device.proofs.PlanPlaces.{rise_answer}
use Rattle.device.proofs.plans.requirements_rise.Goals as goal

pub returns : goal.returns
returns c =
    let told = c.is_sorted_by.ensures.cases (λ (a b : Requirement). is_lt (slice_cmp nat_cmp a.name b.name))
    (always_returns_same _ _ _ (λ a r q k. search rules)) in
    rise_answer (λ (i : Requirement). i.name) c.args.requirements.now c.is_sorted_by.result told
