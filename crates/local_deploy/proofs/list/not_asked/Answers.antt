use Rattle.std.proofs.Common.{◌≡◌, ◌≤◌, ◌+◌, List, ℕ, length, take, arith, sym, subst, ◌∙◌}
use Rattle.std.specs.Prelude.{Option, None, option_map}
use denote.Bor.{Bor}
use Rattle.local_deploy.specs.Documents.{IsLeastOf, IsNotAsked}
use Rattle.local_deploy.specs.Lists.{Asked, asked_in, range_at}
use Rattle.local_deploy.proofs.Least.{least_all, none_at, skips, some_not_none, takes_first, takes_lesser}
use Rattle.local_deploy.proofs.list.not_asked.Goals as goal
use Rattle.local_deploy.proofs.list.not_asked.Goals.{then-not-asks+in-Some, then-not-asks+in-None, else-not-asks}

pub loop-name-preserved : goal.loop-name-preserved
loop-name-preserved c =
    let asked : Asked = asked_in c.args.asked.now in
    let remove : List (List ℕ) = c.args.remove.now in
    let i = c.loop-name.name-index in
    let x : List ℕ = c.name-item.result in
    let below = c.loop-name-test.true in
    let at = c.name-item.is in
    let before : Option (Bor (List ℕ)) → Type 0 = λ o. IsLeastOf (IsNotAsked asked (take i remove)) (option_map (λ n. n.now) o) in
    let after : Option (Bor (List ℕ)) → Type 0 = λ o. IsLeastOf (IsNotAsked asked (take (i + 1) remove)) (option_map (λ n. n.now) o) in
    elim c.if-not-asks.branch [
      | then-not-asks+in-Some w ↦
          let none : range_at x asked ≡ None = none_at (range_at x asked) (sym c.asks.ensures ∙ w.if-not-asks.true) in
          subst after (sym w.least-is)
          (takes_lesser asked remove i x below at w.in-Some.other.now w.lesser.result.now none (subst before w.in-Some.is c.loop-name.invariant)
          w.lesser.ensures.one w.lesser.ensures.name w.lesser.ensures.other)
      | then-not-asks+in-None w ↦
          let none : range_at x asked ≡ None = none_at (range_at x asked) (sym c.asks.ensures ∙ w.if-not-asks.true) in
          subst after (sym w.least-is) (takes_first asked remove i x below at none (subst before w.in-None.is c.loop-name.invariant))
      | else-not-asks w ↦
          subst after (sym w.least-is)
          (skips asked remove i x below at (option_map (λ n. n.now) c.loop-name.least)
          (some_not_none (range_at x asked) (sym c.asks.ensures ∙ w.if-not-asks.false)) c.loop-name.invariant)
    ]

pub returns : goal.returns
returns c =
    let remove : List (List ℕ) = c.args.remove.now in
    let past : length remove ≤ c.loop-name.name-index = omega (arith, c.loop-name-test.false) in
    least_all (asked_in c.args.asked.now) remove c.loop-name.name-index (option_map (λ n. n.now) c.loop-name.least) past c.loop-name.invariant
