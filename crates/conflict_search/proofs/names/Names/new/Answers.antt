use Rattle.std.proofs.Common.{◌≡◌, ℕ, ◌+◌, ◌<◌, ◌++◌, ◌∷◌, [], List, length, get_or, Some, sym, ap, ◌∙◌, subst, arith}
use Rattle.std.proofs.lemmas.List.{length_push, length-map}
use Rattle.std.proofs.lemmas.Option.{same_Some}
use Rattle.recipe_reader.specs.Members.{members, member}
use Rattle.recipe_reader.specs.Sets.{name_of}
use Rattle.conflict_search.specs.Numbers.{IsNumber, IsFirstPlace}
use Rattle.conflict_search.proofs.Naming.{by_place_push}
use Rattle.conflict_search.proofs.Finding.{within_there}
use Rattle.conflict_search.proofs.names.Names.new.Goals as goal

pub loop-place-preserved : goal.loop-place-preserved
loop-place-preserved c =
    let ms = members c.args.candidates.now in
    let inside = c.loop-place.invariant in
    let First = λ (p : ℕ) (f : ℕ). (n : List ℕ) → name_of ms p ≡ Some n → IsFirstPlace ms n f in
    let Last = λ (p : ℕ) (f : ℕ). (n : List ℕ) → name_of ms p ≡ Some n → IsNumber ms n f in
    let first = by_place_push First c.loop-place.first.items c.first_place.result c.loop-place.place inside.firsts (λ p lt n e. inside.first p n lt e)
    (λ n e. subst (λ m. IsFirstPlace ms m c.first_place.result) (same_Some c.name_at-name.result.now n (sym c.name_at-name.ensures ∙ e)) c.first_place.ensures) in
    let last = by_place_push Last c.loop-place.last.items c.last_place.result c.loop-place.place inside.lasts (λ p lt n e. inside.last p n lt e)
    (λ n e. c.last_place.ensures n e) in
    record {
      firsts = ap length c.in_ok-push.ensures.items ∙ length_push c.loop-place.first.items c.first_place.result ∙ ap (λ n. n + 1) inside.firsts;
      lasts = ap length c.in_ok-push-2.ensures.items ∙ length_push c.loop-place.last.items c.last_place.result ∙ ap (λ n. n + 1) inside.lasts;
      first = λ p n lt e. subst (λ l. IsFirstPlace ms n (get_or l p 0)) (sym c.in_ok-push.ensures.items) (first p lt n e);
      last = λ p n lt e. subst (λ l. IsNumber ms n (get_or l p 0)) (sym c.in_ok-push-2.ensures.items) (last p lt n e);
    }

pub returns : goal.returns
returns c =
    let cs = c.args.candidates.now in
    let inside = c.loop-place.invariant in
    let firsts = inside.firsts in
    let lasts = inside.lasts in
    let count = length-map cs member in
    let within : (p : ℕ) (n : List ℕ) → name_of (members cs) p ≡ Some n → p < c.loop-place.place = λ p n e. (let lt = within_there cs p n e in omega (arith, lt, c.loop-place-test.false)) in
    record {
      first_count = omega (arith, firsts, count, c.loop-place-test.false);
      last_count = omega (arith, lasts, count, c.loop-place-test.false);
      first = λ p n e. inside.first p n (within p n e) e;
      last = λ p n e. inside.last p n (within p n e) e;
    }
