use Rattle.std.proofs.Common.{◌≡◌, ℕ, ◌+◌, ◌-◌, ◌*◌, ◌<◌, List, length, Some, sym, ap, ◌∙◌, subst, refl, inl, inr, arith}
use Rattle.std.proofs.lemmas.Bool.{cases_eq}
use Rattle.recipe_reader.specs.Sets.{name_of}
use Rattle.conflict_search.specs.Numbers.{IsFirstPlace}
use Rattle.conflict_search.specs.Stands.{members_in, wanted_in}
use Rattle.conflict_search.specs.Terms.{Has}
use Rattle.conflict_search.proofs.Naming.{first_low}
use Rattle.conflict_search.proofs.Learning.{first_same}
use Rattle.conflict_search.proofs.Shrinking.{begins_sound}
use Rattle.conflict_search.proofs.Finding.{within_there}
use Rattle.conflict_search.proofs.library.Library.fill.Goals as goal

pub add-requires : goal.add-requires
add-requires c =
    let low = first_low c.args.self.now.candidates.now c.args.self.now.names.now c.requires.names c.loop-place.place (omega (arith, c.loop-place-test.true)) in
    let is = c.first-first.ensures in
    let count = c.loop-place.invariant.0 in
    let row = c.requires.row in
    record { room = omega (arith, low, is, count, row, c.loop-place-test.true) }

pub bit_of-requires : goal.bit_of-requires
bit_of-requires c =
    let low = first_low c.args.self.now.candidates.now c.args.self.now.names.now c.requires.names c.loop-place.place (omega (arith, c.loop-place-test.true)) in
    let is = c.first-first.ensures in
    omega (arith, low, is)

pub add-requires-in-loop-place : goal.add-requires-in-loop-place
add-requires-in-loop-place c =
    let low = first_low c.args.self.now.candidates.now c.args.self.now.names.now c.requires.names c.loop-place.place (omega (arith, c.loop-place-test.true)) in
    let is = c.first-first.ensures in
    let count = c.loop-place.invariant.0 in
    let more = c.add.ensures.count in
    let row = c.requires.row in
    let bit = c.bit_of.ensures in
    record { room = omega (arith, low, is, count, more, row, bit, c.loop-place-test.true) }

pub loop-place-preserved : goal.loop-place-preserved
loop-place-preserved c =
    let ms = members_in c.args.self.now in
    let mid = c.add.ensures.added in
    let new = c.add-in-loop-place.ensures.added in
    let names = c.requires.names in (
      c.add-in-loop-place.ensures.count ∙ c.add.ensures.count ∙ c.loop-place.invariant.0,
      λ n f p lt is e. elim (cases_eq p c.loop-place.place) [
        | inl same ↦ (let mine = names.first c.loop-place.place n (ap (name_of ms) (sym same) ∙ e) in
            let at : c.first-first.result ≡ f = c.first-first.ensures ∙ first_same ms n _ f mine is in
            let bit = c.bit_of.ensures in (
              (new (64 * f)).1 (inl ((mid (64 * f)).1 (inr (ap (λ z. 64 * z) (sym at))))),
              (new (64 * f + (p + 1 - f))).1 (inr (omega (arith, at, same, bit))),
            ))
        | inr other ↦ (let old = c.loop-place.invariant.1 n f p (omega (arith, lt, other)) is e in (
          (new (64 * f)).1 (inl ((mid (64 * f)).1 (inl old.0))),
          (new (64 * f + (p + 1 - f))).1 (inl ((mid (64 * f + (p + 1 - f))).1 (inl old.1))),
        ))
      ],
    )

pub returns-clause-sound : goal.returns-clause-sound
returns-clause-sound c = λ taken.
    let cs = c.args.self.now.candidates.now in
    let ms = members_in c.args.self.now in
    begins_sound ms (wanted_in c.args.self.now) taken c.loop-place.row
    (λ n f is. (let lt = within_there cs f n is.named in let h = c.loop-place.invariant.1 n f f (omega (arith, lt, c.loop-place-test.false)) is is.named in h.0))
    (λ n f p is e. (let lt = within_there cs p n e in let h = c.loop-place.invariant.1 n f p (omega (arith, lt, c.loop-place-test.false)) is e in h.1))
