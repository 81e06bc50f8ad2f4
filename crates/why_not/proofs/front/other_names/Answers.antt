use Rattle.std.proofs.Common.{◌+◌, ◌++◌, ◌∷◌, [], ℕ, List, take, sym, ap, subst, ◌∙◌, Vec, Global}
use denote.Bor.{Bor}
use Rattle.std.proofs.lemmas.Bool.{false≢true}
use Rattle.recipe_reader.specs.Members.{members}
use Rattle.why_not.specs.Fronts.{listed, LeavesOut}
use Rattle.why_not.proofs.Fronting.{listed_push, listed_more, leaves_kept, leaves_out}
use Rattle.why_not.proofs.front.other_names.Goals as goal
use Rattle.why_not.proofs.front.other_names.Goals.{then-not-is_named+in_ok-push, else-not-is_named}

pub loop-name-preserved : goal.loop-name-preserved
loop-name-preserved c =
    let ms = members c.args.candidates.now in
    let p = c.args.place in
    let names = c.args.names.now in
    let i = c.loop-name.name-index in
    let name = c.name-item.result in
    let old = listed (take i names) in
    let others = c.loop-name.others.items in
    let more = listed_more names i name c.loop-name-test.true ∙ ap (λ (d : Bor (List ℕ)). old ++ d.now ∷ []) (sym c.name-item.is) in
    subst (λ l. LeavesOut ms p l (listed c.if-not-is_named.others.items)) (sym more) (elim c.if-not-is_named.branch [
      | then-not-is_named+in_ok-push w ↦
          subst (λ (v : Vec (Bor (List ℕ)) Global). LeavesOut ms p (old ++ name.now ∷ []) (listed v.items)) (sym w.others-is)
          (subst (λ l. LeavesOut ms p (old ++ name.now ∷ []) (listed l)) (sym w.in_ok-push.ensures.items)
          (subst (LeavesOut ms p (old ++ name.now ∷ [])) (sym (listed_push others name))
          (leaves_kept ms p old (listed others) name.now (λ e. false≢true (sym w.if-not-is_named.true ∙ c.is_named.ensures.1 e))
          c.loop-name.invariant)))
      | else-not-is_named w ↦
          subst (λ (v : Vec (Bor (List ℕ)) Global). LeavesOut ms p (old ++ name.now ∷ []) (listed v.items)) (sym w.others-is)
          (leaves_out ms p old (listed others) name.now (c.is_named.ensures.0 w.if-not-is_named.false) c.loop-name.invariant)
    ])
