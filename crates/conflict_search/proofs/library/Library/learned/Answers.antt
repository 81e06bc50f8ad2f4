use Rattle.std.proofs.Common.{◌≡◌, ◌+◌, ◌<◌, ◌++◌, ◌∷◌, [], ℕ, List, Vec, Global, length, get_or, sym, ap, ◌∙◌, subst, arith}
use Rattle.std.proofs.lemmas.List.{length-map}
use Rattle.recipe_reader.specs.Members.{member}
use Rattle.conflict_search.specs.Stands.{members_in, wanted_in}
use Rattle.conflict_search.specs.declared.terms.Term.{Term}
use Rattle.conflict_search.proofs.Finding.{within_there}
use Rattle.conflict_search.proofs.Learning.{first_same}
use Rattle.conflict_search.proofs.Drafting.{AreListed, listed_skip, listed_more, listed_nogood}
use Rattle.conflict_search.proofs.library.Library.learned.Goals as goal
use Rattle.conflict_search.proofs.library.Library.learned.Goals.{then-first-place+then-not-is_full+in_ok-term_in+in_ok-push, else-first-place, else-first-place-via-then-first-place+else-not-is_full, else-first-place-via-else-first-place}

pub loop-place-preserved : goal.loop-place-preserved
loop-place-preserved c =
    let ms = members_in c.args.self.now in
    let row = c.args.row.now in
    let place = c.loop-place.place in
    let names = c.requires.names in
    let Listed = λ (v : Vec Term Global). AreListed ms row (place + 1) v.items in
    elim c.if-first-place.branch [
      | then-first-place+then-not-is_full+in_ok-term_in+in_ok-push w ↦ subst Listed (sym w.terms-is) (subst (AreListed ms row (place + 1)) (sym w.in_ok-push.ensures.items)
          (listed_more ms row place c.loop-place.terms.items c.loop-place.invariant w.in_ok-term_in.field-0 w.in_ok-term_in.ensures.term
          (w.in_ok-term_in.ensures.from ∙ sym c.first.ensures ∙ w.if-first-place.true) w.in_ok-term_in.ensures.same))
      | else-first-place w ↦ subst Listed (sym w.terms-is) (listed_skip ms row place c.loop-place.terms.items c.loop-place.invariant
          (λ n is. elim w.else-first-place.branch [
            | else-first-place-via-then-first-place+else-not-is_full w' ↦ w'.is_full.ensures w'.if-not-is_full.false n place is.named is
            | else-first-place-via-else-first-place w' ↦ absurd (w'.if-first-place.false (c.first.ensures ∙ first_same ms n _ place (names.first place n is.named) is))
          ]))
    ]

pub returns : goal.returns
returns c =
    let cs = c.args.self.now.candidates.now in
    let ms = members_in c.args.self.now in
    let count = length-map cs member in
    listed_nogood ms c.args.row.now c.loop-place.place c.loop-place.terms.items c.loop-place.invariant (wanted_in c.args.self.now)
    (omega (arith, count, c.loop-place-test.false)) c.requires.draft (λ n f is. (let lt = within_there cs f n is.named in omega (arith, lt, count)))
