-- The moment stays where it is, whatever befalls the components but time.
use Rattle.std.proofs.Common.{◌≡◌, ◌∙◌, ℕ, List, [], ◌∷◌, Bool, true, false, Option, Some, None, refl, ap}
use Rattle.std.specs.Prelude.{if◌then◌else◌}
use Rattle.nuc_base.specs.declared.kinds.Step.{Step}
use Rattle.lifecycle.specs.declared.kinds.LifeEvent.{LifeEvent}
use Rattle.components.specs.Acts.{Move, NextAct, HandsOut, MovesInOrder}
use Rattle.components.specs.Events.{gone_by, is_orphan_at, kill_event_at, killed}
use Rattle.components.specs.Lives.{lived_at}
use Rattle.components.specs.Components.{Components, child_gone, owner}
use Rattle.components.specs.declared.kinds.Act.{Act}
use Rattle.components.specs.declared.kinds.Act.TheVariants as acts

moment_gone : (o : Option LifeEvent) (k : ℕ) (s : Step) (n : ℕ) (w : Components) → (gone_by o k s n w).moment ≡ w.moment
moment_gone None k s n w = refl
moment_gone (Some e) k s n w = by (is_orphan_at k s w)
  where
    by : (b : Bool) → (if b then child_gone k n w else lived_at k e (child_gone k n w)).moment ≡ w.moment
    by true = refl
    by false = refl

moment_killed : (n : ℕ) (w : Components) → (killed n w).moment ≡ w.moment
moment_killed n w = by (owner n w.parts)
  where
    by : (o : Option (ℕ × Step)) → (elim o as (λ y. Components) [ None ↦ w | Some y ↦ gone_by (kill_event_at y.0 y.1 n w) y.0 y.1 n w ]).moment ≡ w.moment
    by None = refl
    by (Some y) = moment_gone (kill_event_at y.0 y.1 n w) y.0 y.1 n w

moment_quietly : (ms : List Move) (w v : Components) → MovesInOrder w ms v → v.moment ≡ w.moment
moment_quietly [] w v q = ap (λ (u : Components). u.moment) q
moment_quietly (m ∷ ms) w v q = moment_quietly ms (lived_at m.who m.what w) v q.2

moment_hands : (w : Components) (act : Option Act) (v : Components) → HandsOut w act v → v.moment ≡ w.moment
moment_hands w None v h = ap (λ (u : Components). u.moment) h.1
moment_hands w (Some (acts.Start k t)) v h = ap (λ (u : Components). u.moment) h.2
moment_hands w (Some (acts.Kill n)) v h = ap (λ (u : Components). u.moment) h.4 ∙ moment_killed n w
moment_hands w (Some (acts.Failed k t e)) v h = ap (λ (u : Components). u.moment) h.1
moment_hands w (Some (acts.Broke k t e)) v h = ap (λ (u : Components). u.moment) h.1

pub moment_next : (w : Components) (act : Option Act) (v : Components) → NextAct w act v → v.moment ≡ w.moment
moment_next w act v n = moment_hands n.seen act v n.hands ∙ moment_quietly n.made w n.seen n.quietly
