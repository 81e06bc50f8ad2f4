use Rattle.std.proofs.Common.{◌≡◌, ◌≢◌, ◌⊎◌, ◌+◌, ◌-◌, ◌*◌, ◌<◌, ◌≤◌, ◌∙◌, ℕ, List, length, get_or, sym, ap, subst, arith}
use Rattle.std.proofs.lemmas.List.{length-map}
use Rattle.recipe_reader.specs.Members.{member}
use Rattle.conflict_search.specs.Stands.{members_in, wanted_in}
use Rattle.conflict_search.specs.Terms.{Has}
use Rattle.conflict_search.proofs.Learning.{together_of, term_room, term_at, joined_row}
use Rattle.conflict_search.proofs.library.Library.join.Goals as goal

pub add_values-requires : goal.add_values-requires
add_values-requires c =
    let ms = members_in c.args.self.now in
    let t = c.index-terms-at.result in
    let room = term_room c.args.self.now.candidates.now t
    (term_at ms (wanted_in c.args.self.now) c.args.terms.now c.args.at t c.requires.nogood c.requires.at c.index-terms-at.is) in
    let draft = c.requires.draft in
    let row = draft.count in
    let all = length-map c.args.self.now.candidates.now member in
    record { room = omega (arith, room, row, all) }

pub meet_at-requires : goal.meet_at-requires
meet_at-requires c =
    let ms = members_in c.args.self.now in
    let t = c.index-terms-index.result in
    let room = term_room c.args.self.now.candidates.now t
    (term_at ms (wanted_in c.args.self.now) c.args.terms.now c.loop-index.index t c.requires.nogood c.loop-index-test.true c.index-terms-index.is) in
    let count = ap length c.deref.ensures.value in
    let draft = c.requires.draft in
    let row = draft.count in
    let same = c.loop-index.invariant.0 in
    let all = length-map c.args.self.now.candidates.now member in
    record { room = omega (arith, room, count, row, all, same) }

pub returns : goal.returns
returns c =
    let cs = c.args.self.now.candidates.now in
    let t = c.index-terms-at.result in
    let row = c.loop-index.row in
    let given = c.add_values.ensures.only in
    joined_row (members_in c.args.self.now) (wanted_in c.args.self.now) c.args.row.now row c.args.terms.now c.args.at t (together_of cs c.requires.rising)
    c.requires.draft c.requires.nogood c.requires.at (sym c.index-terms-at.is) c.loop-index.invariant.0
    (λ v h. given v (c.loop-index.invariant.1 v h)) (λ k u lt ne. c.loop-index.invariant.2 k u (omega (arith, lt, c.loop-index-test.false)) lt ne)
