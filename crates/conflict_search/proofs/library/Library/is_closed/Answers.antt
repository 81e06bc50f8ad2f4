use Rattle.std.proofs.Common.{◌≡◌, ◌≢◌, ◌⊎◌, ◌<◌, ◌+◌, ℕ, Bool, true, false, List, Some, get_or, sym, ap, ◌∙◌, subst, inl, inr, arith}
use Rattle.std.proofs.lemmas.Bool.{cases_eq}
use Rattle.recipe_reader.specs.Sets.{name_of}
use Rattle.conflict_search.specs.Stands.{members_in}
use Rattle.conflict_search.specs.Endless.{IsAmong, NeedsSome}
use Rattle.conflict_search.proofs.Finding.{within_there}
use Rattle.conflict_search.proofs.Learning.{first_same}
use Rattle.conflict_search.proofs.Ending.{not_both}
use Rattle.conflict_search.proofs.library.Library.is_closed.Goals as goal
use Rattle.conflict_search.proofs.library.Library.is_closed.Goals.{else-is_in-via-then-is_in+then-not-is_in+else-not-needs_some, else-is_in-via-then-is_in+else-not-is_in, else-is_in-via-else-is_in}

pub loop-place-preserved : goal.loop-place-preserved
loop-place-preserved c = λ p n f lt e is in_table.
    let ms = members_in c.args.self.now in
    let names = c.requires.names in
    elim (cases_eq p c.loop-place.place) [
      | inr ne ↦ c.loop-place.invariant p n f (omega (arith, lt, ne)) e is in_table
      | inl same ↦ (let mine = names.first c.loop-place.place n (ap (name_of ms) (sym same) ∙ e) in
          let at : c.first-first.result ≡ f = c.first-first.ensures ∙ first_same ms n _ f mine is in
          elim c.else-is_in.branch [
            | else-is_in-via-then-is_in+then-not-is_in+else-not-needs_some w ↦ inr (subst (NeedsSome ms c.args.among.now) (sym same) (w.needs_some.ensures w.if-not-needs_some.false))
            | else-is_in-via-then-is_in+else-not-is_in w ↦ inl (subst (IsAmong c.args.listed.now) at (sym w.is_in-then-is_in.ensures ∙ w.if-not-is_in.false))
            | else-is_in-via-else-is_in w ↦ absurd (not_both (get_or c.args.among.now f false) in_table
                (subst (λ z. get_or c.args.among.now z false ≡ false) at (sym c.is_in.ensures ∙ w.if-is_in.false)))
          ])
    ]

pub returns : goal.returns
returns c = λ yes p n f e is in_table.
    let lt = within_there c.args.self.now.candidates.now p n e in
    c.loop-place.invariant p n f (omega (arith, lt, c.loop-place-test.false)) e is in_table
