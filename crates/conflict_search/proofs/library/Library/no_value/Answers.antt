use Rattle.std.proofs.Common.{◌≡◌, ◌≤◌, ◌<◌, ℕ, ◌∙◌, arith, sym}
use Rattle.conflict_search.proofs.Naming.{first_low, last_high, last_within, new_term}
use Rattle.conflict_search.proofs.library.Library.no_value.Goals as goal

pub overflow_sub-last : goal.overflow_sub-last
overflow_sub-last c =
    let cs = c.args.self.now.candidates.now in
    let low = first_low cs c.args.self.now.names.now c.requires.names c.args.place c.requires.place in
    let high = last_high cs c.args.self.now.names.now c.requires.names c.args.place c.requires.place in
    let f = c.first-first.ensures in
    let l = c.last-last.ensures in
    omega (arith, low, high, f, l)

pub overflow_add-last : goal.overflow_add-last
overflow_add-last c =
    let cs = c.args.self.now.candidates.now in
    let within = last_within cs c.args.self.now.names.now c.requires.names c.args.place c.requires.place in
    let count = c.requires.count in
    let l = c.last-last.ensures in
    omega (arith, within, count, l)

pub returns-clause-term : goal.returns-clause-term
returns-clause-term c =
    let count = c.in_ok-set.ensures.count in
    let f = c.first-first.ensures in
    let l = c.last-last.ensures in
    new_term c.args.self.now.candidates.now c.args.self.now.names.now c.requires.names c.args.place c.requires.place c.requires.rising
    (record { from = c.first-first.result; set = c.in_ok-set.set }) f (omega (arith, count, f, l))
