use Rattle.std.proofs.Common.{◌≡◌, ◌++◌, ◌+◌, List, drop, sym, subst}
use denote.Bor.{Bor}
use Rattle.recipe_reader.specs.declared.candidate.Candidate.{Candidate}
use Rattle.plan_core.specs.Looks.{candidates_of}
use Rattle.plan_core.specs.Set.{chosen}
use Rattle.plan_core.proofs.Growing.{pushed, chosen_next}
use Rattle.plan_core.proofs.items.choice_of.Goals as goal

pub loop-place-preserved : goal.loop-place-preserved
loop-place-preserved c =
    let cs = c.args.candidates.now in
    let set = c.args.set.now in
    let i = c.loop-place.place-index in
    subst (λ (l : List (Bor Candidate)). candidates_of l ++ chosen cs (drop (i + 1) set) ≡ chosen cs set) (sym c.in_ok-push.ensures.items)
    (pushed (λ (x : Bor Candidate). x.now) c.loop-place.choice.items _ (chosen cs (drop i set)) (chosen cs (drop (i + 1) set))
    (chosen cs set) c.loop-place.invariant
    (chosen_next cs set i c.index-candidates-place.result c.loop-place-test.true c.requires c.index-candidates-place.is))
