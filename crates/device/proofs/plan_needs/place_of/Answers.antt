use Rattle.std.proofs.Common.{rules, nat_cmp}
use Rattle.std.proofs.lemmas.Fn.{always_returns_same}
use Rattle.std.specs.Cmp.Lexicographic.{slice_cmp}
use Rattle.records.specs.declared.record.Item as code
use Rattle.device.proofs.PlanPlaces.{place_answer}
use Rattle.device.proofs.plan_needs.place_of.Goals as goal

pub returns : goal.returns
returns c =
    let found = c.binary_search_by.ensures.position (λ (item : code.Item). slice_cmp nat_cmp item.name c.args.name.now)
    (always_returns_same _ _ _ (λ a r q k. search rules)) in
    place_answer c.args.items.now c.args.name.now c.binary_search_by.result c.ok.result c.requires c.ok.ensures.value c.binary_search_by.ensures.bound found
