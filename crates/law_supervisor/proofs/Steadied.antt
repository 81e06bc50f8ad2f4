-- The end of a deployment: the failures so far are forgotten.
use Rattle.std.proofs.Common.{◌≡◌, ◌<◌, ℕ, List, map, Option, Some, None, Bool, true, refl, sym, ◌∙◌, arith, subst}
use Rattle.std.specs.Prelude.{◌||◌, not, is_some, option_map}
use Rattle.std.specs.List.{list_any}
use Rattle.std.specs.Option.{IfSome}
use Rattle.lifecycle.specs.Life.{MayHave}
use Rattle.lifecycle.specs.declared.kinds.State.{State}
use Rattle.device.specs.Devices.{Device}
use Rattle.components.specs.Fitted.{Fitted, name_of}
use Rattle.components.specs.Components.{Components, ComponentState, is_gone, owner, component_name}
use Rattle.components.specs.Answers.{living_numbers}
use Rattle.components.specs.Turns.{owes}
use Rattle.components.specs.Changes.{forgetting, steadied}
use Rattle.law_supervisor.specs.Keeps.{HasNoneOwed, IsSupervised}
use Rattle.law_supervisor.specs.Sound.{IsOrderly, IsSoundPart, is_to_begin_again}
use Rattle.law_supervisor.proofs.Lists.{mapped_all, mapped_same, any_same}
use Rattle.law_supervisor.proofs.Counts.{same_owner, same_living}
use Rattle.law_supervisor.proofs.Together.{sound_of, orderly_same, order_of}

-- ---- of each component

few_in : (s : State) → MayHave s 0
few_in s = grind arith

abbrev none_failed : Fitted × ℕ → Fitted × ℕ
none_failed n = (n.0, 0)

still_waits : (o : Option (Fitted × ℕ)) → is_some (option_map none_failed o) ≡ is_some o
still_waits None = refl
still_waits (Some n) = refl

still_coming : (own : List ℕ) (o : Option (Fitted × ℕ)) → IfSome o (λ (n : Fitted × ℕ). (name_of n.0 ≡ own) × (n.1 < 3)) →
    IfSome (option_map none_failed o) (λ (n : Fitted × ℕ). (name_of n.0 ≡ own) × (n.1 < 3))
still_coming own None h = tt
still_coming own (Some n) h = (h.0, omega arith)

still_sound : (p : ComponentState) → IsSoundPart p → IsSoundPart (forgetting p)
still_sound p k = record {
  few = few_in p.life.state;
  busy = k.busy;
  runs = k.runs;
  run = k.run;
  bare = k.bare;
  asks = k.asks;
  waits = subst (λ (b : Bool). (not b || is_to_begin_again p) ≡ true) (sym (still_waits p.next)) k.waits;
  takes = subst (λ (b : Bool). (not (is_to_begin_again p) || (b || is_gone p.stop)) ≡ true) (sym (still_waits p.next)) k.takes;
  coming = still_coming (component_name p) p.next k.coming;
}

-- ---- of all of them

children_at : (w : Components) → map (λ (p : ComponentState). p.children) (steadied w).parts ≡ map (λ (p : ComponentState). p.children) w.parts
children_at w = mapped_same (λ p. p.children) forgetting (λ p. refl) w.parts

pub owes_steadied : (w : Components) → list_any owes (steadied w).parts ≡ list_any owes w.parts
owes_steadied w = any_same owes w.parts (steadied w).parts (mapped_same owes forgetting (λ p. refl) w.parts)

pub living_steadied : (w : Components) → living_numbers (steadied w).parts ≡ living_numbers w.parts
living_steadied w = same_living w.parts (steadied w).parts (children_at w)

pub owner_steadied : (n : ℕ) (w : Components) → owner n (steadied w).parts ≡ owner n w.parts
owner_steadied n w = same_owner n w.parts (steadied w).parts (children_at w)

pub told_steadied : (w : Components) → HasNoneOwed w → HasNoneOwed (steadied w)
told_steadied w t = owes_steadied w ∙ t

pub steadied_orderly : (w : Components) → IsOrderly w → IsOrderly (steadied w)
steadied_orderly w i = orderly_same w (steadied w) i (mapped_all IsSoundPart IsSoundPart forgetting still_sound w.parts (sound_of w i.sound))
    (mapped_same component_name forgetting (λ p. refl) w.parts)
    (children_at w)

-- behind a deployment in which it is kept
pub closed_orderly : (d : Device) (w : Components) → IsSupervised d w → IsOrderly (steadied w)
closed_orderly d w k = steadied_orderly w (order_of d w k)
