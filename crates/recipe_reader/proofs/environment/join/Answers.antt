use Rattle.std.proofs.Common.{◌≡◌, ◌++◌, ◌∙◌, ℕ, ◌-◌, List, length, take, drop, sym, ap, subst, Result, Ok, Err, IfOk, arith}
use Rattle.std.proofs.lemmas.List.{take_all, length-drop}
use Rattle.nuc_base.specs.declared.memory.NoMemory.{NoMemory}
use Rattle.recipe_reader.specs.Environment.{Variable, IsJoined}
use Rattle.recipe_reader.proofs.Joining.{merged, merged_joins, end_own, end_other}
use Rattle.recipe_reader.proofs.environment.join.Goals.{then-names-test+else-other-outer, else-names-test}
use Rattle.recipe_reader.proofs.environment.join.Goals as goal

joins : (both all xs ys : List Variable) (result : Result (List Variable) NoMemory) → both ≡ all → IsJoined xs ys both → IfOk result (λ v. v ≡ all) →
    IfOk result (IsJoined xs ys)
joins both all xs ys (Ok v) e h is = subst (IsJoined xs ys) (e ∙ sym is) h
joins both all xs ys (Err f) e h is = tt

whole : (xs : List Variable) (i : ℕ) → take (length xs - i) (drop i xs) ≡ drop i xs
whole xs i = take_all (length xs - i) (drop i xs) (omega (arith, length-drop i xs))

pub returns : goal.returns
returns c =
    let xs : List Variable = c.args.own.now in
    let ys : List Variable = c.args.outer.now in
    let i = c.names.next in
    let j = c.names.other in
    let done : List Variable = c.names.joined.items in
    let end : merged xs ys ≡ (done ++ drop i xs) ++ drop j ys = elim c.names-test.branch [
      | then-names-test+else-other-outer w ↦ end_other xs ys i j done (omega arith) c.names.invariant.done
      | else-names-test w ↦ end_own xs ys i j done (omega arith) c.names.invariant.done
    ] in
    let all : merged xs ys ≡ (done ++ take (length xs - i) (drop i xs)) ++ take (length ys - j) (drop j ys) =
    end ∙ sym (ap (λ (zs : List Variable). (done ++ zs) ++ take (length ys - j) (drop j ys)) (whole xs i)
    ∙ ap (λ (zs : List Variable). (done ++ drop i xs) ++ zs) (whole ys j)) in
    joins (merged xs ys) ((done ++ take (length xs - i) (drop i xs)) ++ take (length ys - j) (drop j ys)) xs ys c.joined_with.result all
    (merged_joins xs ys c.requires.own_rises c.requires.outer_rises) c.joined_with.ensures
