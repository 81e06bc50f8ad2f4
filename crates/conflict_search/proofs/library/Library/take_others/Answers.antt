use Rattle.std.proofs.Common.{◌≡◌, ◌⊎◌, ◌+◌, ◌-◌, ◌*◌, ◌<◌, ◌≤◌, ℕ, List, length, sym, ap, subst, refl, arith}
use Rattle.conflict_search.specs.Numbers.{IsFirstPlace}
use Rattle.conflict_search.specs.Stands.{members_in, wanted_in}
use Rattle.conflict_search.specs.Terms.{Has}
use Rattle.conflict_search.proofs.Naming.{first_is}
use Rattle.conflict_search.proofs.Learning.{together_of, term_room}
use Rattle.conflict_search.proofs.Shrinking.{decides_soundly}
use Rattle.conflict_search.proofs.library.Library.take_others.Goals as goal

pub meet_at-requires : goal.meet_at-requires
meet_at-requires c =
    let t = c.in_ok-term.term in
    let room = term_room c.args.self.now.candidates.now t c.in_ok-term.ensures.term in
    let count = ap length c.deref.ensures.value in
    let row = c.requires.row in
    record { room = omega (arith, room, count, row) }

pub returns-clause-sound : goal.returns-clause-sound
returns-clause-sound c = λ taken i sound.
    let cs = c.args.self.now.candidates.now in
    let ms = members_in c.args.self.now in
    let t = c.in_ok-term.term in
    let named = first_is cs c.args.self.now.names.now c.requires.names c.args.place c.requires.place in
    let first = subst (IsFirstPlace ms named.0) (sym c.in_ok-term.ensures.from) named.2 in
    let has = (c.in_ok-term.ensures.alone (c.args.place + 1 - t.from)).1 refl in
    let kept = subst (λ l. (v : ℕ) → Has c.args.row.now v → Has c.meet_at.new.set v ⊎ ((64 * t.from ≤ v) × (v - 64 * t.from < 64 * length l) × (Has l (v - 64 * t.from) → ⊥)))
    c.deref.ensures.value c.meet_at.ensures.kept in
    decides_soundly ms (wanted_in c.args.self.now) taken c.args.row.now c.meet_at.new.set named.0 c.args.place t (together_of cs c.requires.rising) sound i
    c.in_ok-term.ensures.term first named.1 has kept
