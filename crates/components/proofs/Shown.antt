-- Those shown are the components that stand.
use Rattle.std.specs.Prelude.{Bool, true, false, not, filter, if◌then◌else◌}
use Rattle.std.proofs.Common.{◌≡◌, List, [], ◌∷◌, Some, None, ap, map, refl}
use Rattle.step_runner.specs.Views.{those_shown}
use Rattle.step_runner.specs.declared.shown.ShownComponent.{ShownComponent}
use Rattle.components.specs.Components.{Components, ComponentState, is_over}
use Rattle.components.specs.Views.{places_of, shown_at, shown_part, view_of}

-- the first is shown, or stands no more
shown_first : (over : Bool) (p : ComponentState) (ps : List ComponentState) →
    those_shown (map shown_at ps) ≡ map shown_part (filter (λ q. not (is_over q)) ps) →
    those_shown ((if over then None else Some (shown_part p)) ∷ map shown_at ps) ≡
    map shown_part (if not over then p ∷ filter (λ q. not (is_over q)) ps else filter (λ q. not (is_over q)) ps)
shown_first true p ps rest = rest
shown_first false p ps rest = ap (λ (l : List ShownComponent). shown_part p ∷ l) rest

shown : (parts : List ComponentState) → those_shown (map shown_at parts) ≡ map shown_part (filter (λ p. not (is_over p)) parts)
shown [] = refl
shown (p ∷ ps) = shown_first (is_over p) p ps (shown ps)

pub standing_shown : (w : Components) → those_shown (places_of w) ≡ view_of w
standing_shown w = shown w.parts
