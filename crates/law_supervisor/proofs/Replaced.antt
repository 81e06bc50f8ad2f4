-- Who is replaced by an item that it has.
use Rattle.std.specs.Prelude.{Bool, true, false, not, ◌||◌, Option, Some, None, is_some, if◌then◌else◌}
use Rattle.std.proofs.Common.{◌≡◌, ◌∙◌, refl, sym, ap}
use Rattle.std.proofs.lemmas.Bool.{false≢true}
use Rattle.lifecycle.specs.Awaits.{is_stopping}
use Rattle.lifecycle.specs.declared.kinds.After.{After}
use Rattle.components.specs.Changes.{is_replaced}
use Rattle.components.specs.Components.{ComponentState, has_orphan, is_again, is_broken, is_gone, is_spared, is_to_stop}
use Rattle.components.specs.Fitted.{Fitted, is_same_item}

unspared : (stop way : Option After) (stopping orphan : Bool) → (is_some stop || (stopping || orphan)) ≡ false →
    ((is_again stop || is_gone stop) || (is_again (if stopping then way else None) || is_gone (if stopping then way else None))) ≡ false
unspared None way false orphan none = refl
unspared None way true orphan none = absurd (false≢true (sym none))
unspared (Some a) way stopping orphan none = absurd (false≢true (sym none))

pub broken_replaced : (f : Fitted) (p : ComponentState) → is_same_item f.item p.fitted.item ≡ true → is_to_stop p ≡ false →
    is_replaced f p ≡ is_broken p.life.state
broken_replaced f p same kept =
    ap (λ (b : Bool). not b || (is_spared p || is_broken p.life.state)) same
    ∙ ap (λ (b : Bool). b || is_broken p.life.state) (unspared p.stop p.life.stop (is_stopping p.life.state) (has_orphan p) kept)
