use Rattle.std.proofs.Common.{◌≡◌, ◌+◌, ◌-◌, ◌*◌, ◌<◌, ◌≤◌, ℕ, List, sym, ap, ◌∙◌, subst, arith}
use Rattle.conflict_search.specs.Numbers.{IsFirstPlace}
use Rattle.conflict_search.specs.Stands.{members_in}
use Rattle.conflict_search.specs.Terms.{Has}
use Rattle.conflict_search.proofs.Finding.{within_there}
use Rattle.conflict_search.proofs.Learning.{first_same}
use Rattle.conflict_search.proofs.library.Library.is_full.Goals as goal

pub returns : goal.returns
returns c = λ yes n f e is.
    let cs = c.args.self.now.candidates.now in
    let ms = members_in c.args.self.now in
    let names = c.requires.names in
    let mine = names.first c.args.place n e in
    let same : c.first-first.result ≡ f = c.first-first.ensures ∙ first_same ms n _ f mine is in
    let number = names.last c.args.place n e in
    let last = c.last.ensures in
    let end = c.saturating_add-other-end.ensures in
    let done = c.loop-other-test.false in
    let count = c.requires.count in (
      subst (λ z. Has c.args.row.now (64 * z)) same (c.has.ensures.0 c.if-not-has.false),
      λ p named. (let low = is.least p named in
          let high = number.last p named in
          let within = within_there cs p n named in
          subst (λ z. Has c.args.row.now (64 * z + (p + 1 - z))) same
          (c.loop-other.invariant p (omega (arith, low, same)) (omega (arith, high, last, end, done, within, count)))),
    )
