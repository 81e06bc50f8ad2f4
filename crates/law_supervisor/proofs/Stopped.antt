-- A stop of all.
use Rattle.std.proofs.Common.{◌≡◌, ℕ, map, None}
use Rattle.components.specs.Components.{Components, ComponentState, component_name, owner}
use Rattle.components.specs.Changes.{leaving, all_stopped}
use Rattle.law_supervisor.specs.Keeps.{HasNoneOwed}
use Rattle.law_supervisor.specs.Sound.{IsOrderly, IsSoundPart}
use Rattle.law_supervisor.proofs.Lists.{from_places, mapped_all, mapped_same}
use Rattle.law_supervisor.proofs.Counts.{same_owner}
use Rattle.law_supervisor.proofs.Together.{sound_of, orderly_same, told_each}
use Rattle.law_supervisor.proofs.Changed.{leaving_sound}
use Rattle.law_supervisor.proofs.Placed.{same_leaving, owed_any}

stopped_children : (w : Components) → map (λ (p : ComponentState). p.children) (all_stopped w).parts ≡ map (λ (p : ComponentState). p.children) w.parts
stopped_children w = mapped_same (λ p. p.children) leaving (λ p. (same_leaving p).children) w.parts

pub stopped_orderly : (w : Components) → IsOrderly w → IsOrderly (all_stopped w)
stopped_orderly w i = orderly_same w (all_stopped w) i (mapped_all IsSoundPart IsSoundPart leaving leaving_sound w.parts (sound_of w i.sound))
    (mapped_same component_name leaving (λ p. (same_leaving p).name) w.parts)
    (stopped_children w)

pub stopped_owner : (n : ℕ) (w : Components) → owner n (all_stopped w).parts ≡ owner n w.parts
stopped_owner n w = same_owner n w.parts (all_stopped w).parts (stopped_children w)

pub stopped_told : (w : Components) → HasNoneOwed w → HasNoneOwed (all_stopped w)
stopped_told w t = owed_any (all_stopped w).parts (mapped_all (λ p. p.owed ≡ None) (λ p. p.owed ≡ None) leaving (λ p e. (same_leaving p).owed e) w.parts
    (from_places (λ p. p.owed ≡ None) w.parts (told_each w.parts t)))
