use Rattle.std.proofs.Common.{◌≡◌, ◌++◌, ◌∷◌, [], ◌∙◌, ◌<◌, ◌≤◌, ℕ, List, Some, length, get_or, sym, ap, subst, take}
use denote.Bor.{Bor}
use Rattle.std.specs.List.{Contains}
use Rattle.std.proofs.lemmas.List.{take_all}
use Rattle.std.proofs.lemmas.List.Elements.{Contains-push}
use Rattle.recipe_reader.specs.Members.{members}
use Rattle.why_not.specs.Fronts.{listed}
use Rattle.why_not.specs.Picks.{IsPick}
use Rattle.why_not.proofs.Fronting.{listed_more, listed_in, pick_required}
use Rattle.why_not.proofs.choosing.next_name.Goals as goal

pub loop-name-preserved : goal.loop-name-preserved
loop-name-preserved c = λ wanted taken front.
    let ms = members c.args.candidates.now in
    let names = c.args.front.now.names.items in
    let i = c.loop-name.name-index in
    let old = listed (take i names) in
    let same = c.pick_of-pick.ensures.name in
    let seen = c.deref-name-items.ensures.value in
    let lt = subst (λ xs. i < length xs) seen c.loop-name-test.true in
    let is = subst (λ (xs : List (Bor (List ℕ))). c.name-item.result ≡ get_or xs i c.name-item.result) seen c.name-item.is in
    let more = ap (λ n. old ++ n ∷ []) same ∙ ap (λ (d : Bor (List ℕ)). old ++ d.now ∷ []) is ∙ sym (listed_more names i c.name-item.result lt) in
    let there = listed_in names i c.name-item.result lt is in
    subst (λ l. IsPick ms c.args.form taken l (Some c.better.result)) more
    (c.better.ensures ms c.args.form taken old
    (λ t. (front.are_open c.name-item.result.now there).untaken (t.0, t.1, t.2 ∙ ap Some same))
    c.pick_of-pick.ensures.uncounted (c.loop-name.invariant wanted taken front))

pub returns : goal.returns
returns c = λ wanted taken front.
    let ms = members c.args.candidates.now in
    let names = c.args.front.now.names.items in
    pick_required ms wanted c.args.form taken (listed names) c.loop-name.best front
    (subst (λ l. IsPick ms c.args.form taken (listed l) c.loop-name.best) (take_all c.loop-name.name-index names
    (subst (λ xs. length xs ≤ c.loop-name.name-index) c.deref-name-items.ensures.value c.loop-name-test.false))
    (c.loop-name.invariant wanted taken front))
