-- Once all are to be stopped, all leave.
use Rattle.std.proofs.Common.{◌≡◌, Bool, true, false, refl, ◌∙◌}
use Rattle.components.specs.Components.{Components, ComponentState, is_gone, under_way}
use Rattle.components.specs.Changes.{all_stopped, leaving}
use Rattle.components.specs.Answers.{has_answered}
use Rattle.law_supervisor.specs.Keeps.{HasNoneOwed}
use Rattle.law_supervisor.specs.Sound.{IsOrderly}
use Rattle.law_supervisor.proofs.Changed.{Before, before_of, left_as, gone_bare}
use Rattle.law_supervisor.proofs.Lists.{any_same, mapped_all, mapped_same}
use Rattle.law_supervisor.proofs.Stopped.{stopped_orderly}
use Rattle.session_acts.proofs.Answered.{free_is, is_free}
use Rattle.session_shutdown.specs.Leaves.{AreLeaving, IsLeavingPart}

-- ---- one that is to go away

one_leaves : (p : ComponentState) → Before p → IsLeavingPart (leaving p)
one_leaves p b = go p.life.gone refl (is_gone (under_way p.life)) refl
  where
    go : (g : Bool) → p.life.gone ≡ g → (u : Bool) → is_gone (under_way p.life) ≡ u → IsLeavingPart (left_as g u p)
    go true e u f = (rw e refl, b.1, (gone_bare p b.0 e).2)
    go false e true f = (rw e f, b.1, refl)
    go false e false f = (rw e refl, b.1, refl)

same_handed : (p : ComponentState) → (leaving p).handed ≡ p.handed
same_handed p = go p.life.gone (is_gone (under_way p.life))
  where
    go : (g u : Bool) → (left_as g u p).handed ≡ p.handed
    go true u = refl
    go false true = refl
    go false false = refl

-- ---- all of them

pub stopped_leave : (w : Components) → IsOrderly w → HasNoneOwed w → AreLeaving (all_stopped w)
stopped_leave w i t = record {
  orderly = stopped_orderly w i;
  each = mapped_all Before IsLeavingPart leaving one_leaves w.parts (before_of w i t);
}

pub stopped_answered : (w : Components) → has_answered w ≡ true → has_answered (all_stopped w) ≡ true
stopped_answered w h = free_is (all_stopped w)
    (any_same (λ p. p.handed) w.parts (all_stopped w).parts (mapped_same (λ p. p.handed) leaving same_handed w.parts) ∙ is_free w h)
