-- Moves that leave nothing outside.
use Rattle.std.proofs.Common.{◌≡◌, ℕ, List, [], ◌∷◌, Option, Some, true, refl, sym, ◌∙◌, subst}
use Rattle.std.specs.Prelude.{◌&&◌, not, slice_get}
use Rattle.std.specs.Option.{IsSomeAnd}
use Rattle.std.specs.List.{list_all}
use Rattle.std.proofs.lemmas.Bool.{and_parts}
use Rattle.lifecycle.specs.Awaits.{is_awaited}
use Rattle.lifecycle.specs.declared.kinds.LifeEvent.{LifeEvent}
use Rattle.lifecycle.specs.declared.kinds.LifeEvent.TheVariants as event
use Rattle.device.specs.Devices.{Device}
use Rattle.components.specs.Components.{Components, ComponentState, At, is_to_stop, stands_up, owner}
use Rattle.components.specs.Turns.{may_begin, may_retry, may_stop, is_met, serves_softly}
use Rattle.components.specs.Lives.{lived_at}
use Rattle.components.specs.Acts.{Move, MayMove, MovesInOrder, spares}
use Rattle.law_supervisor.specs.Sound.{IsSoundPart, IsOrderly}
use Rattle.law_supervisor.specs.Keeps.{IsSupervised}
use Rattle.law_supervisor.proofs.Lists.{not_so}
use Rattle.law_supervisor.proofs.Alone.{begins_alone}
use Rattle.law_supervisor.proofs.Counts.{same_owner}
use Rattle.law_supervisor.proofs.Together.{Befalls, plain_orderly, plain_keeps, event_children}

pub at_of : (P : ComponentState → Type 0) (k : ℕ) (ps : List ComponentState) (p : ComponentState) → slice_get ps k ≡ Some p → At k P ps → P p
at_of P k ps p e a = subst (λ (o : Option ComponentState). IsSomeAnd o P) e a

pub moves_befall : (w : Components) (k : ℕ) (e : LifeEvent) → MayMove w k e → (p : ComponentState) → slice_get w.parts k ≡ Some p → IsSoundPart p → Befalls e p
moves_befall w k event.MayBegin m p q s =
    let y = and_parts (is_awaited event.MayBegin p.life && not (is_to_stop p)) (list_all (is_met stands_up w.parts) p.fitted.hard &&
    list_all (is_met serves_softly w.parts) p.fitted.soft) (at_of (λ r. may_begin w r ≡ true) k w.parts p q m) in
    let z = and_parts (is_awaited event.MayBegin p.life) (not (is_to_stop p)) y.0 in
    let t = not_so (is_to_stop p) z.1 in
    (t, refl, begins_alone p s.runs t z.0)
moves_befall w k event.Retry m p q s =
    let z = and_parts (is_awaited event.Retry p.life) (not (is_to_stop p)) (at_of (λ r. may_retry r ≡ true) k w.parts p q m) in
    (not_so (is_to_stop p) z.1, refl, refl)
moves_befall w k (event.Stop a) m p q s = (
  (at_of (λ r. (may_stop w r ≡ true) × (r.stop ≡ Some a) × (spares (event.Stop a) r ≡ true)) k w.parts p q m).1,
  refl,
  refl,
)
moves_befall w k event.Launched m p q s = absurd m
moves_befall w k event.Skipped m p q s = absurd m
moves_befall w k (event.Ended t x) m p q s = absurd m

pub moved_orderly : (w v : Components) (ms : List Move) → MovesInOrder w ms v → IsOrderly w → IsOrderly v
moved_orderly w v [] q i = subst IsOrderly (sym q) i
moved_orderly w v (m ∷ ms) q i = moved_orderly (lived_at m.who m.what w) v ms q.2 (plain_orderly m.who m.what w i (moves_befall w m.who m.what q.1))

pub moved_keeps : (d : Device) (w v : Components) (ms : List Move) → MovesInOrder w ms v → IsSupervised d w → IsSupervised d v
moved_keeps d w v [] q i = subst (IsSupervised d) (sym q) i
moved_keeps d w v (m ∷ ms) q i =
    moved_keeps d (lived_at m.who m.what w) v ms q.2 (plain_keeps d m.who m.what w q.0.owes_none i (moves_befall w m.who m.what q.1))

pub moved_owner : (n : ℕ) (w v : Components) (ms : List Move) → MovesInOrder w ms v → owner n v.parts ≡ owner n w.parts
moved_owner n w v [] q = subst (λ (u : Components). owner n u.parts ≡ owner n w.parts) (sym q) refl
moved_owner n w v (m ∷ ms) q = moved_owner n (lived_at m.who m.what w) v ms q.2 ∙ same_owner n w.parts (lived_at m.who m.what w).parts
    (event_children m.who m.what w)
