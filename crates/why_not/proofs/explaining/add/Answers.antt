use Rattle.std.proofs.Common.{◌++◌, ◌∷◌, [], sym, subst, inl, inr}
use Rattle.std.specs.List.{Contains}
use Rattle.std.proofs.lemmas.List.Elements.{Contains-append_left, Contains-push, Contains-push_cases}
use Rattle.why_not.proofs.explaining.add.Goals as goal

pub returns-then-has : goal.returns-then-has
returns-then-has c = λ x. (
  λ i. inl i,
  λ h. elim h [
    | inl i ↦ i
    | inr e ↦ subst (Contains c.args.places.now.items) e (subst (λ l. Contains l c.args.place) c.deref.ensures.value (c.has.ensures.0 c.if-has.true))
  ],
)

pub returns : goal.returns
returns c = λ x.
    let old = c.args.places.now.items in
    let e = c.in_ok-push.ensures.items in (
      λ i. Contains-push_cases old c.args.place x (subst (λ l. Contains l x) e i),
      λ h. subst (λ l. Contains l x) (sym e) (elim h [
        | inl i ↦ Contains-append_left old (c.args.place ∷ []) x i
        | inr s ↦ subst (Contains (old ++ c.args.place ∷ [])) s (Contains-push old c.args.place)
      ]),
    )
