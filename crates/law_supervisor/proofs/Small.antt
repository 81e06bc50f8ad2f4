-- The small worlds.
use Rattle.std.proofs.Common.{◌≡◌, ◌<◌, suc, zero, List, [], ◌∷◌, ◌++◌, Some, false, refl, arith, subst, sym}
use Rattle.std.specs.Prelude.{pos}
use Rattle.nuc_base.specs.declared.kinds.Exit.TheVariants as exits
use Rattle.nuc_base.specs.declared.kinds.Step.TheVariants as step
use Rattle.device.specs.Lawful.{no_failures}
use Rattle.components.specs.declared.kinds.Prepared.{Prepared}
use Rattle.components.specs.Fitted.{Fitted, name_of}
use Rattle.components.specs.Answers.{living_numbers, child_numbers}
use Rattle.components.specs.Components.{Components, ComponentState, Child}
use Rattle.components.specs.Changes.{changed_to}
use Rattle.components.specs.Acts.{MovesInOrder, OwesAt}
use Rattle.law_supervisor.specs.Keeps.{IsSupervised, HasNoneOwed, AreCounted, ItemsDiffer, count_of}
use Rattle.law_supervisor.specs.Sound.{AreSound, HaveOwnNames, IsOrderly, IsSoundPart, AreDistinct}
use Rattle.law_supervisor.specs.Rows.{fitted_a, device_a, no_world, comes, begins, begun_a, lives, failed, recorded, heard_a, stood, stands, replaced}
use Rattle.law_supervisor.specs.Rows.{shutting, leaves, comes_back, rests, stops_again, takes}
use Rattle.law_supervisor.proofs.Lists.{no_some, some_same}
use Rattle.law_supervisor.proofs.Answered.{skipped_keeps}
use Rattle.law_supervisor.proofs.Placed.{changed_keeps}
use Rattle.law_supervisor.proofs.Moved.{moved_keeps}
use Rattle.law_supervisor.proofs.Begun.{started_keeps}
use Rattle.law_supervisor.proofs.Gone.{ended_keeps}
use Rattle.law_supervisor.proofs.Told.{told_keeps}

one_counted : (m : Prepared) → AreCounted device_a (fitted_a 49 m ∷ []) no_failures
one_counted m zero f e = subst (λ (g : Fitted). (count_of device_a (name_of g) ≡ Some 0) × (0 < 3)) (some_same (fitted_a 49 m) f e) (refl, omega arith)
one_counted m (suc k) f e = no_some f e

one_differs : (m : Prepared) → ItemsDiffer (fitted_a 49 m ∷ [])
one_differs m zero zero f g a b n = refl
one_differs m zero (suc k) f g a b n = no_some g b
one_differs m (suc j) k f g a b n = no_some f a

one_changes : (m : Prepared) (w : Components) → HasNoneOwed w → IsOrderly w → IsSupervised device_a (changed_to (fitted_a 49 m ∷ []) no_failures false w)
one_changes m w t i = changed_keeps device_a (fitted_a 49 m ∷ []) no_failures w refl (one_counted m) (one_differs m) t i

pub comes_keeps : (m : Prepared) → IsSupervised device_a (comes m)
comes_keeps m = one_changes m no_world refl (record { sound = λ k p e. no_some p e; differ = tt; names = λ j k p q a b n. no_some p a })

pub moves : (m : Prepared) → MovesInOrder (comes m) (begins ∷ []) (begun_a m)
moves m = (record { owes_none = refl; least = refl }, refl, refl)

pub begun_keeps : (m : Prepared) → IsSupervised device_a (begun_a m)
begun_keeps m = moved_keeps device_a (comes m) (begun_a m) (begins ∷ []) (moves m) (comes_keeps m)

pub lives_keeps : (m : Prepared) → IsSupervised device_a (lives m)
lives_keeps m = started_keeps device_a 0 step.Install 7 (begun_a m) refl refl (begun_keeps m)

pub failed_keeps : (m : Prepared) → IsSupervised device_a (failed m)
failed_keeps m = ended_keeps device_a 7 (exits.Code (pos 1)) (lives m) refl refl (lives_keeps m)

pub failed_owes : (m : Prepared) → OwesAt (failed m) 0 step.Install (exits.Code (pos 1)) false
failed_owes m = (refl, refl, refl)

pub told_keeps_too : (m : Prepared) → IsSupervised recorded (heard_a m)
told_keeps_too m = told_keeps device_a 0 (97 ∷ []) step.Install (exits.Code (pos 1)) false (failed m) (failed_keeps m) (failed_owes m) refl

-- one component that is sound is orderly where no child of it lives
one_orderly : (p : ComponentState) → IsSoundPart p → p.children ≡ [] → (w : Components) → w.parts ≡ p ∷ [] → IsOrderly w
one_orderly p k c w e = record {
  sound = subst AreSound (sym e) sound;
  differ = subst (λ (ps : List ComponentState). AreDistinct (living_numbers ps)) (sym e)
      (subst (λ (cs : List Child). AreDistinct (child_numbers cs ++ [])) (sym c) tt);
  names = subst HaveOwnNames (sym e) names;
}
  where
    sound : AreSound (p ∷ [])
    sound zero q a = subst IsSoundPart (some_same p q a) k
    sound (suc j) q a = no_some q a

    names : HaveOwnNames (p ∷ [])
    names zero zero q r a b n = refl
    names zero (suc j) q r a b n = no_some r b
    names (suc i) j q r a b n = no_some q a

pub stands_orderly : (m : Prepared) → IsOrderly (stands m)
stands_orderly m = one_orderly (stood m) (record {
  few = omega arith;
  busy = refl;
  runs = refl;
  run = refl;
  bare = refl;
  asks = refl;
  waits = refl;
  takes = refl;
  coming = tt;
}) refl (stands m) refl

pub leaves_orderly : (m : Prepared) → IsOrderly (leaves m)
leaves_orderly m = one_orderly (shutting m) (record {
  few = omega arith;
  busy = refl;
  runs = refl;
  run = refl;
  bare = refl;
  asks = refl;
  waits = refl;
  takes = refl;
  coming = tt;
}) refl (leaves m) refl

pub replaced_keeps : (m : Prepared) → IsSupervised device_a (replaced m)
replaced_keeps m = one_changes m (stands m) refl (stands_orderly m)

pub comes_back_keeps : (m : Prepared) → IsSupervised device_a (comes_back m)
comes_back_keeps m = one_changes m (leaves m) refl (leaves_orderly m)

-- its shutdown is done
pub rests_keeps : (m : Prepared) → IsSupervised device_a (rests m)
rests_keeps m = skipped_keeps device_a 0 (comes_back m) refl (comes_back_keeps m)

pub takes_moves : (m : Prepared) → MovesInOrder (rests m) (stops_again ∷ []) (takes m)
takes_moves m = (record { owes_none = refl; least = refl }, (refl, refl, refl), refl)

pub takes_keeps : (m : Prepared) → IsSupervised device_a (takes m)
takes_keeps m = moved_keeps device_a (rests m) (takes m) (stops_again ∷ []) (takes_moves m) (rests_keeps m)
