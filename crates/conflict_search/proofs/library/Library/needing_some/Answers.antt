use Rattle.std.proofs.Common.{◌≡◌, ◌≢◌, ◌⊎◌, ◌<◌, ◌≤◌, ◌+◌, ◌-◌, ℕ, List, Some, get_or, sym, ap, ◌∙◌, subst, inl, inr, arith}
use Rattle.recipe_reader.specs.Sets.{name_of}
use Rattle.conflict_search.specs.Numbers.{IsFirstPlace}
use Rattle.conflict_search.specs.Stands.{members_in}
use Rattle.conflict_search.specs.Terms.{Has}
use Rattle.conflict_search.specs.Endless.{IsNeeding}
use Rattle.conflict_search.specs.declared.terms.Term.{Term}
use Rattle.conflict_search.proofs.Finding.{named_between}
use Rattle.conflict_search.proofs.Naming.{first_is, last_within, first_low, last_high}
use Rattle.conflict_search.proofs.Learning.{name_same}
use Rattle.conflict_search.proofs.Ending.{needing_place}
use Rattle.conflict_search.proofs.library.Library.needing_some.Goals as goal
use Rattle.conflict_search.proofs.library.Library.needing_some.Goals.{then-needs_some, else-needs_some}

pub needs_some-requires-clause-place : goal.needs_some-requires-clause-place
needs_some-requires-clause-place c =
    let cs = c.args.self.now.candidates.now in
    let within = last_within cs c.args.self.now.names.now c.requires.names c.args.place c.requires.place in
    let last = c.last.ensures in
    let end = c.saturating_add-end.ensures in
    omega (arith, within, last, end, c.loop-other-test.true)

pub add_place-requires-clause-named : goal.add_place-requires-clause-named
add_place-requires-clause-named c = λ n is.
    let cs = c.args.self.now.candidates.now in
    let ms = members_in c.args.self.now in
    let names = c.requires.names in
    let f = first_is cs c.args.self.now.names.now c.requires.names c.args.place c.requires.place in
    let number = names.last c.args.place f.0 f.1 in
    let from = c.loop-other.invariant.1 in
    let first = subst (IsFirstPlace ms f.0) (sym from) f.2 in
    let start = c.first-other.ensures in
    let last = c.last.ensures in
    let end = c.saturating_add-end.ensures in
    let named = named_between cs f.0 c.loop-other.term.from c.loop-other.other (get_or c.args.self.now.names.now.last.items c.args.place 0) c.requires.rising
    first.named number.named (omega (arith, from, start)) (omega (arith, last, end, c.loop-other-test.true)) in
    named ∙ ap Some (name_same ms f.0 n c.loop-other.term.from first is)

pub loop-other-preserved : goal.loop-other-preserved
loop-other-preserved c =
    let ms = members_in c.args.self.now in
    let among = c.args.among.now in
    let inside = c.loop-other.invariant in
    let start = c.first-other.ensures in
    let from = inside.1 in
    let Keeps = λ (t : Term). IsNeeding ms among t × (t.from ≡ get_or c.args.self.now.names.now.first.items c.args.place 0) × (Has t.set.items 0 → ⊥) in
    elim c.if-needs_some.branch [
      | then-needs_some w ↦ subst Keeps (sym w.term-is) (
        needing_place ms among c.loop-other.term inside.0 w.add_place.new.term c.loop-other.other w.add_place.ensures.term w.add_place.ensures.from
            (λ v b. (w.add_place.ensures.added v).0 b) (omega (arith, from, start)) (c.needs_some.ensures w.if-needs_some.true),
        w.add_place.ensures.from ∙ inside.1,
        λ b. elim ((w.add_place.ensures.added 0).0 b) [ inl o ↦ inside.2 o | inr e ↦ absurd (omega (arith, e, from, start)) ],
      )
      | else-needs_some w ↦ subst Keeps (sym w.term-is) inside
    ]
