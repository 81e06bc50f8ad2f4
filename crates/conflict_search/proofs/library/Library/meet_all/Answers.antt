use Rattle.std.proofs.Common.{◌≡◌, ◌+◌, ◌*◌, ◌<◌, ◌≤◌, ◌∙◌, ℕ, List, length, sym, ap, subst, arith}
use Rattle.std.proofs.lemmas.List.{length-map}
use Rattle.recipe_reader.specs.Members.{member}
use Rattle.conflict_search.specs.Stands.{members_in, wanted_in}
use Rattle.conflict_search.specs.Terms.{Has, IsWithin}
use Rattle.conflict_search.specs.declared.terms.Term.{Term}
use Rattle.conflict_search.proofs.Each.{each_more, each_all}
use Rattle.conflict_search.proofs.Learning.{term_room, term_at, nogood_row}
use Rattle.conflict_search.proofs.Drafting.{within_less}
use Rattle.conflict_search.proofs.library.Library.meet_all.Goals as goal

pub meet_at-requires : goal.meet_at-requires
meet_at-requires c =
    let ms = members_in c.args.self.now in
    let t = c.term-item.result in
    let room = term_room c.args.self.now.candidates.now t
    (term_at ms (wanted_in c.args.self.now) c.args.terms.now c.loop-term.term-index t c.requires.nogood c.loop-term-test.true c.term-item.is) in
    let count = ap length c.deref.ensures.value in
    let row = c.requires.row in
    let same = c.loop-term.invariant.0 in
    record { room = omega (arith, room, count, row, same) }

pub loop-term-preserved : goal.loop-term-preserved
loop-term-preserved c =
    let new = c.meet_at.new.set in
    let t = c.term-item.result in
    let met = subst (λ l. (v : ℕ) → v < 64 * length l → Has new (64 * t.from + v) → Has l v) c.deref.ensures.value c.meet_at.ensures.met in (
      c.meet_at.ensures.len ∙ c.loop-term.invariant.0,
      each_more (IsWithin new) c.args.terms.now c.loop-term.term-index t c.loop-term-test.true
          (λ u i. within_less c.loop-term.row new u c.meet_at.ensures.only (c.loop-term.invariant.1 u i))
          (subst (IsWithin new) c.term-item.is met),
    )

pub returns : goal.returns
returns c =
    let row = c.loop-term.row in
    nogood_row (members_in c.args.self.now) (wanted_in c.args.self.now) c.args.terms.now row
    (c.loop-term.invariant.0 ∙ c.requires.row ∙ sym (length-map c.args.self.now.candidates.now member)) c.requires.nogood
    (each_all (IsWithin row) c.args.terms.now c.loop-term.term-index c.loop-term-test.false c.loop-term.invariant.1)
