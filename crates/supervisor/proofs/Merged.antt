-- All that a change makes of the components, from its parts.
use Rattle.std.proofs.Common.{◌≡◌, List, ap, ◌∙◌, map}
use Rattle.components.specs.Changes.{Coming, fate, fresh_part, newcomers, replanned, with_newcomers}
use Rattle.components.specs.Merges.{unmet}
use Rattle.components.specs.Readied.{coming_of}
use Rattle.components.specs.Components.{ComponentState}
use Rattle.components.proofs.Meets.{coming_again_of, unmet_newcomers}

pub all_changed : (ns : List Coming) (ps cs ds qs rs : List ComponentState) → cs ≡ map fresh_part ns → ds ≡ unmet ps cs →
    qs ≡ replanned (map (fate (map coming_of cs)) ps) → rs ≡ with_newcomers ds qs → rs ≡ with_newcomers (newcomers ns ps) (replanned (map (fate ns) ps))
all_changed ns ps cs ds qs rs e f g h =
    let x : ds ≡ newcomers ns ps = f ∙ ap (λ (xs : List ComponentState). unmet ps xs) e ∙ unmet_newcomers ps ns in
    let m : map coming_of cs ≡ ns = ap (λ (xs : List ComponentState). map coming_of xs) e ∙ coming_again_of ns in
    let y : qs ≡ replanned (map (fate ns) ps) = g ∙ ap (λ (ms : List Coming). replanned (map (fate ms) ps)) m in
    h ∙ ap (λ (xs : List ComponentState). with_newcomers xs qs) x ∙ ap (λ (xs : List ComponentState). with_newcomers (newcomers ns ps) xs) y
