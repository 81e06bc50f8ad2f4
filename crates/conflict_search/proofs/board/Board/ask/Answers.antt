use Rattle.std.proofs.Common.{◌≡◌, ◌<◌, ◌∷◌, ◌++◌, ◌⊎◌, [], ℕ, None, refl, sym, ap, ◌∙◌, subst, length, get_or, arith, inl, inr, Vec, Global}
use Rattle.std.proofs.lemmas.List.{get_or_default}
use Rattle.conflict_search.specs.declared.demands.Demand.{Demand}
use Rattle.conflict_search.proofs.Indexing.{indexed_ask}
use Rattle.conflict_search.proofs.board.Board.ask.Goals as goal

pub returns-clause-indexed : goal.returns-clause-indexed
returns-clause-indexed c =
    let rows = c.args.self.now.rows.items in
    let chosen = c.args.self.now.chosen.items in
    let k = c.args.demand.number in
    let v = c.push-2.new.self in
    let rows_in : k < length rows = omega (arith, c.requires.indexed.rows_count, c.requires.number) in
    let here = c.index_mut.ensures.value ∙ get_or_default rows k c.index_mut.result.now v rows_in in
    let free : c.index-choice.result.now ≡ get_or chosen k None = c.index-choice.ensures ∙ get_or_default chosen k c.index-choice.result.now None
    c.requires.number in
    let more = c.in_ok-add_unchosen.ensures in
    indexed_ask (length chosen) c.args.self.now _ c.args.demand v c.requires.indexed c.requires.number
    c.in_ok-push.ensures.items refl
    (c.in_ok-push-2.ensures.items ∙ ap (λ (w : Vec Demand Global). w.items ++ c.args.demand ∷ []) here) refl
    (λ q. (
      λ i. elim ((more q).0 i) [ inl j ↦ inl j | inr e ↦ inr (e.0, sym free ∙ e.1) ],
      λ h. (more q).1 (elim h [ inl j ↦ inl j | inr e ↦ inr (e.0, free ∙ e.1) ]),
    ))
