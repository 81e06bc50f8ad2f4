use Rattle.std.proofs.Common.{◌≡◌, ◌+◌, ◌∷◌, ◌++◌, List, length, map, drop, arith, sym, ap, subst, ◌∙◌}
use denote.Bor.{Bor}
use Rattle.recipe_reader.specs.declared.candidate.Candidate.{Candidate}
use Rattle.records.specs.Stored.{DraftItem, item_view, draft_item_view}
use Rattle.records.specs.declared.record.Item as code
use Rattle.records.specs.declared.record.DraftItem as code_draft
use Rattle.deployment_doc.specs.declared.document.Root.{Root}
use Rattle.plan_core.specs.Looks.{candidates_of}
use Rattle.plan_core.specs.Set.{bare, item_of, items_of}
use Rattle.plan_core.proofs.Growing.{next, pushed, first_removed, heads, tails}
use Rattle.plan_core.proofs.drafts.drafts_of.Goals as goal

pub loop-candidate-preserved : goal.loop-candidate-preserved
loop-candidate-preserved c =
    let set = map item_view c.args.set.now in
    let cs = c.args.choice.now in
    let i = c.loop-candidate.candidate-index in
    let x = c.candidate-item.result in
    let count = c.loop-candidate.invariant.count in
    let below = c.loop-candidate-test.true in
    let rest : List code.Item = c.loop-candidate.rest.items in
    let more : List code.Item = c.remove-item.new.self.items in
    let new = c.remove-item.result in
    let split : rest ≡ new ∷ more = first_removed rest new more (omega (arith, count, below)) c.remove-item.ensures.value c.remove-item.ensures.items in
    let long = ap (λ (l : List code.Item). length l) split in
    let both : (roots : List Root) → map item_view c.args.items ≡ map bare (items_of set roots (candidates_of cs))
    → item_view new ∷ map item_view more ≡ bare (item_of set roots x.now) ∷ map bare (items_of set roots (candidates_of (drop (i + 1) cs))) =
    λ roots is. ap (λ (l : List code.Item). map item_view l) (sym split) ∙ c.loop-candidate.invariant.left roots is
    ∙ ap (λ (l : List (Bor Candidate)). map bare (items_of set roots (candidates_of l))) (next cs i x below c.candidate-item.is) in
    record {
      count = omega (arith, long, count);
      left = λ roots is. tails (item_view new) (bare (item_of set roots x.now)) (map item_view more)
          (map bare (items_of set roots (candidates_of (drop (i + 1) cs)))) (both roots is);
      made = λ roots is.
          let one : item_view new ≡ bare (item_of set roots x.now) = heads (item_view new) (bare (item_of set roots x.now)) (map item_view more)
          (map bare (items_of set roots (candidates_of (drop (i + 1) cs)))) (both roots is) in
          let left = items_of set roots (candidates_of (drop i cs)) in
          let last = items_of set roots (candidates_of (drop (i + 1) cs)) in
          let all = items_of set roots (candidates_of cs) in
          let made = c.in_ok-drafted.field-0 in
          let here : left ≡ draft_item_view made ∷ last = ap (λ (l : List (Bor Candidate)). items_of set roots (candidates_of l))
          (next cs i x below c.candidate-item.is)
          ∙ ap (λ (y : DraftItem). y ∷ last) (sym (c.in_ok-drafted.ensures roots one)) in
          subst (λ (l : List code_draft.DraftItem). map draft_item_view l ++ last ≡ all) (sym c.in_ok-push.ensures.items)
          (pushed draft_item_view c.loop-candidate.list.items made left last all (c.loop-candidate.invariant.made roots is) here);
    }
