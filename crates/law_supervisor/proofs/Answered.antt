-- A start that is answered: it was refused, or skipped.
use Rattle.std.proofs.Common.{◌≡◌, ℕ, map, true, false, refl, ◌∙◌}
use Rattle.std.specs.Prelude.{◌&&◌, not}
use Rattle.std.proofs.lemmas.Bool.{or_right}
use Rattle.nuc_base.specs.declared.kinds.Step.{Step}
use Rattle.nuc_base.specs.declared.kinds.Exit.TheVariants as exits
use Rattle.nuc_base.specs.declared.kinds.Step.TheVariants as step
use Rattle.lifecycle.specs.Awaits.{is_same_step, is_busy_with}
use Rattle.lifecycle.specs.declared.kinds.LifeEvent.TheVariants as event
use Rattle.device.specs.Devices.{Device}
use Rattle.components.specs.Components.{Components, ComponentState, component_name, owner}
use Rattle.components.specs.Events.{answered_at, refused, skipped}
use Rattle.components.specs.Turns.{owes}
use Rattle.law_supervisor.specs.Sound.{IsSoundPart, IsOrderly}
use Rattle.law_supervisor.specs.Keeps.{IsCounted, IsSupervised, HasNoneOwed}
use Rattle.law_supervisor.proofs.Lists.{changed_all, changed_same, any_same}
use Rattle.law_supervisor.proofs.Alone.{sound_these, counted_these}
use Rattle.law_supervisor.proofs.Counts.{same_owner}
use Rattle.law_supervisor.proofs.Together.{BefallsAt, sound_of, counted_of, order_of, orderly_same, keep_from, plain_orderly, plain_keeps, event_children}

answered_children : (k : ℕ) (w : Components) → map (λ (p : ComponentState). p.children) (answered_at k w).parts ≡ map (λ (p : ComponentState). p.children)
    w.parts
answered_children k w = changed_same (λ p. p.children) k (λ p. record p { handed = false }) w.parts (λ p q. refl)

pub answered_orderly : (k : ℕ) (w : Components) → IsOrderly w → IsOrderly (answered_at k w)
answered_orderly k w i = orderly_same w (answered_at k w) i
    (changed_all IsSoundPart k (λ p. record p { handed = false }) w.parts (sound_of w i.sound) (λ p q x. sound_these p p.children false x x.run))
    (changed_same component_name k (λ p. record p { handed = false }) w.parts (λ p q. refl))
    (answered_children k w)

answered_keeps : (d : Device) (k : ℕ) (w : Components) → IsSupervised d w → IsSupervised d (answered_at k w)
answered_keeps d k w i = keep_from d w (answered_at k w) i (answered_orderly k w (order_of d w i))
    (changed_all (IsCounted d) k (λ p. record p { handed = false }) w.parts (counted_of d w i) (λ p q x. counted_these d p p.children false x))
    refl

answered_told : (k : ℕ) (w : Components) → HasNoneOwed w → HasNoneOwed (answered_at k w)
answered_told k w t = any_same owes w.parts (answered_at k w).parts (changed_same owes k (λ p. record p { handed = false }) w.parts (λ p q. refl)) ∙ t

pub refused_befalls : (k : ℕ) (s : Step) (w : Components) → BefallsAt k (event.Ended s exits.NotStarted) w
refused_befalls k s w p q x = (tt, or_right (not (is_same_step s step.Run && is_busy_with step.Run p.life.busy)) true refl, refl)

pub refused_orderly : (k : ℕ) (s : Step) (w : Components) → IsOrderly w → IsOrderly (refused k s w)
refused_orderly k s w i = plain_orderly k (event.Ended s exits.NotStarted) (answered_at k w) (answered_orderly k w i) (refused_befalls k s (answered_at k w))

pub refused_keeps : (d : Device) (k : ℕ) (s : Step) (w : Components) → HasNoneOwed w → IsSupervised d w → IsSupervised d (refused k s w)
refused_keeps d k s w t i = plain_keeps d k (event.Ended s exits.NotStarted) (answered_at k w) (answered_told k w t) (answered_keeps d k w i)
    (refused_befalls k s (answered_at k w))

pub refused_owner : (k : ℕ) (s : Step) (m : ℕ) (w : Components) → owner m (refused k s w).parts ≡ owner m w.parts
refused_owner k s m w = same_owner m w.parts (refused k s w).parts (event_children k (event.Ended s exits.NotStarted) (answered_at k w) ∙ answered_children k w)

pub skipped_befalls : (k : ℕ) (w : Components) → BefallsAt k event.Skipped w
skipped_befalls k w p q x = (tt, refl, refl)

pub skipped_orderly : (k : ℕ) (w : Components) → IsOrderly w → IsOrderly (skipped k w)
skipped_orderly k w i = plain_orderly k event.Skipped (answered_at k w) (answered_orderly k w i) (skipped_befalls k (answered_at k w))

pub skipped_keeps : (d : Device) (k : ℕ) (w : Components) → HasNoneOwed w → IsSupervised d w → IsSupervised d (skipped k w)
skipped_keeps d k w t i = plain_keeps d k event.Skipped (answered_at k w) (answered_told k w t) (answered_keeps d k w i) (skipped_befalls k (answered_at k w))

pub skipped_owner : (k : ℕ) (m : ℕ) (w : Components) → owner m (skipped k w).parts ≡ owner m w.parts
skipped_owner k m w = same_owner m w.parts (skipped k w).parts (event_children k event.Skipped (answered_at k w) ∙ answered_children k w)
