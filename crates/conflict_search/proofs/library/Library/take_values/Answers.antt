use Rattle.std.proofs.Common.{◌≡◌, ◌⊎◌, ◌+◌, ◌-◌, ◌*◌, ◌≤◌, ℕ, List, length, sym, ap, subst, arith}
use Rattle.conflict_search.specs.Stands.{members_in, wanted_in}
use Rattle.conflict_search.specs.Terms.{Has}
use Rattle.conflict_search.proofs.Learning.{together_of, term_room, term_at}
use Rattle.conflict_search.proofs.Shrinking.{takes_soundly}
use Rattle.conflict_search.proofs.library.Library.take_values.Goals as goal

pub remove_at-requires : goal.remove_at-requires
remove_at-requires c =
    let ms = members_in c.args.self.now in
    let t = c.index-terms-at.result in
    let room = term_room c.args.self.now.candidates.now t
    (term_at ms (wanted_in c.args.self.now) c.args.terms.now c.args.at t c.requires.nogood c.requires.at c.index-terms-at.is) in
    let count = ap length c.deref.ensures.value in
    let row = c.requires.row in
    record { room = omega (arith, room, count, row) }

pub returns-clause-sound : goal.returns-clause-sound
returns-clause-sound c = λ taken sound.
    let t = c.index-terms-at.result in
    let kept = subst (λ l. (v : ℕ) → Has c.args.row.now v → Has c.remove_at.new.set v ⊎ ((64 * t.from ≤ v) × Has l (v - 64 * t.from))) c.deref.ensures.value
    c.remove_at.ensures.kept in
    takes_soundly (members_in c.args.self.now) (wanted_in c.args.self.now) taken c.args.row.now c.remove_at.new.set c.args.terms.now c.args.at t
    (together_of c.args.self.now.candidates.now c.requires.rising) sound c.requires.nogood c.requires.at (sym c.index-terms-at.is) c.requires.others kept
