use Rattle.std.proofs.Common.{◌≡◌, ◌≢◌, ℕ, ◌+◌, ◌-◌, ◌*◌, ◌<◌, ◌≤◌, List, Some, sym, ap, ◌∙◌, subst, arith}
use Rattle.std.proofs.lemmas.Option.{same_Some}
use Rattle.recipe_reader.specs.Sets.{name_of}
use Rattle.conflict_search.specs.Numbers.{IsFirstPlace}
use Rattle.conflict_search.specs.Stands.{members_in}
use Rattle.conflict_search.specs.Terms.{Has}
use Rattle.conflict_search.proofs.Finding.{named_between}
use Rattle.conflict_search.proofs.library.Library.greatest.Goals as goal

pub returns-then-has : goal.returns-then-has
returns-then-has c =
    let cs = c.args.self.now.candidates.now in
    let ms = members_in c.args.self.now in
    let names = c.requires.names in
    let b = c.requires.number in
    let is = b.is in
    let first = subst (IsFirstPlace ms b.name) (sym c.first-first.ensures) (names.first c.args.number b.name b.named) in
    let i = c.loop-place.place - 1 in (
      record { name = b.name; is = b.is; named = named_between cs b.name c.first-first.result i c.args.number c.requires.rising first.named b.named (omega arith) (omega arith) },
      λ q at lt left.
          (let there = at.is in
          let same : at.name ≡ b.name = same_Some at.name b.name (sym there.named ∙ is.named) in
          let named : name_of ms q ≡ Some b.name = at.named ∙ ap Some same in
          let high = is.last q named in
          c.loop-place.invariant q (omega (arith, lt)) high (left b.name c.first-first.result named first)),
    )

pub returns : goal.returns
returns c = λ q at left.
    let ms = members_in c.args.self.now in
    let names = c.requires.names in
    let b = c.requires.number in
    let is = b.is in
    let first = subst (IsFirstPlace ms b.name) (sym c.first-first.ensures) (names.first c.args.number b.name b.named) in
    let there = at.is in
    let same : at.name ≡ b.name = same_Some at.name b.name (sym there.named ∙ is.named) in
    let named : name_of ms q ≡ Some b.name = at.named ∙ ap Some same in
    let high = is.last q named in
    let low = first.least q named in
    c.loop-place.invariant q (omega (arith, low, c.loop-place-test.false)) high (left b.name c.first-first.result named first)
