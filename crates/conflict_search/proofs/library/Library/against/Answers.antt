use Rattle.std.proofs.Common.{◌≡◌, ◌⊎◌, ℕ, ◌+◌, ◌-◌, ◌<◌, ◌≤◌, List, Some, get_or, sym, ap, ◌∙◌, subst, inl, inr, arith}
use Rattle.std.specs.Prelude.{IfSome}
use Rattle.std.proofs.lemmas.Bool.{iff_false}
use Rattle.npm_ranges.specs.Ranges.{IsInRange}
use Rattle.recipe_reader.specs.Sets.{name_of}
use Rattle.conflict_search.specs.Numbers.{IsFirstPlace}
use Rattle.conflict_search.specs.Stands.{members_in, IsMetIn}
use Rattle.conflict_search.specs.Terms.{Has}
use Rattle.conflict_search.proofs.Finding.{named_between}
use Rattle.conflict_search.proofs.Learning.{name_same, first_same}
use Rattle.conflict_search.proofs.Gathering.{AreGathered, gathered_skip, gathered_more}
use Rattle.conflict_search.proofs.library.Library.against.Goals as goal
use Rattle.conflict_search.proofs.library.Library.against.Goals.{then-not-holds, else-not-holds}

pub add_place-requires-clause-named : goal.add_place-requires-clause-named
add_place-requires-clause-named c = λ n is.
    let cs = c.args.self.now.candidates.now in
    let ms = members_in c.args.self.now in
    let names = c.requires.names in
    let b = c.requires.number in
    let first = subst (IsFirstPlace ms b.name) (sym c.loop-place.invariant.from) (names.first c.args.number b.name b.named) in
    let from = c.loop-place.invariant.from in
    let start = c.first-place.ensures in
    let named = named_between cs b.name c.loop-place.term.from c.loop-place.place c.args.number c.requires.rising first.named b.named
    (omega (arith, from, start)) (omega (arith, c.loop-place-test.true)) in
    named ∙ ap Some (name_same ms b.name n c.loop-place.term.from first is)

pub loop-place-preserved : goal.loop-place-preserved
loop-place-preserved c =
    let ms = members_in c.args.self.now in
    let Bad = λ (q : ℕ). IsMetIn ms c.args.range.now q → ⊥ in
    let first = get_or c.args.self.now.names.now.first.items c.args.number 0 in
    let place = c.loop-place.place in
    let inside = c.loop-place.invariant in
    let start = c.first-place.ensures in
    elim c.if-not-holds.branch [
      | then-not-holds w ↦ subst (AreGathered ms first (place + 1) Bad) (sym w.term-is)
          (gathered_more ms first place Bad c.loop-place.term inside w.add_place.new.term w.add_place.ensures.term w.add_place.ensures.from w.add_place.ensures.added
          (omega (arith, start))
          (λ m. iff_false c.holds.ensures w.if-not-holds.true (subst (λ o. IfSome o (λ v. IsInRange v c.args.range.now)) c.version_at.ensures m)))
      | else-not-holds w ↦ subst (AreGathered ms first (place + 1) Bad) (sym w.term-is)
          (gathered_skip ms first place Bad c.loop-place.term inside
          (λ bad. bad (subst (λ o. IfSome o (λ v. IsInRange v c.args.range.now)) (sym c.version_at.ensures) (c.holds.ensures.0 w.if-not-holds.false))))
    ]

pub returns-clause-against : goal.returns-clause-against
returns-clause-against c = λ v.
    let cs = c.args.self.now.candidates.now in
    let ms = members_in c.args.self.now in
    let names = c.requires.names in
    let b = c.requires.number in
    let number = b.is in
    let inside = c.loop-place.invariant in
    let from = inside.from in
    let first = subst (IsFirstPlace ms b.name) (sym from) (names.first c.args.number b.name b.named) in
    let t = c.loop-place.term in
    let start = c.first-place.ensures in
    let below = first.least c.args.number b.named in (
      λ h. elim ((inside.has v).0 h) [
        | inl z ↦ inl z
        | inr r ↦ inr (r.0, named_between cs b.name t.from r.0 c.args.number c.requires.rising first.named b.named r.1 (omega (arith, r.2, start, from, below)) ∙ sym b.named, r.3, r.4)
      ],
      λ e. elim e [
        | inl z ↦ (inside.has v).1 (inl z)
        | inr r ↦ (let named : name_of ms r.0 ≡ Some b.name = r.1 ∙ b.named in
            let low = first.least r.0 named in
            let high = number.last r.0 (r.1 ∙ number.named) in
            let done = c.loop-place-test.false in
            (inside.has v).1 (inr (r.0, low, omega (arith, high, done), r.2, r.3)))
      ],
    )
