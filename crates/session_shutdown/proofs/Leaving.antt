-- What each event keeps of components that all leave.
use Rattle.std.proofs.Common.{◌≡◌, ℕ, List, [], ◌∷◌, Option, Some, None, Bool, true, false, refl, sym, inl, inr, subst}
use Rattle.std.specs.Prelude.{◌&&◌, not, is_some}
use Rattle.std.specs.List.{AllByRecursion}
use Rattle.std.proofs.lemmas.Bool.{and_parts}
use Rattle.nuc_base.specs.declared.kinds.Step.{Step}
use Rattle.nuc_base.specs.declared.kinds.Step.TheVariants as step
use Rattle.nuc_base.specs.declared.kinds.Exit.{Exit}
use Rattle.nuc_base.specs.declared.kinds.Exit.TheVariants as exits
use Rattle.lifecycle.specs.declared.kinds.LifeEvent.{LifeEvent}
use Rattle.lifecycle.specs.declared.kinds.LifeEvent.TheVariants as event
use Rattle.components.specs.Fitted.{Fitted}
use Rattle.components.specs.Components.{Components, ComponentState, Child, child_gone, without_child, owner, is_leaving, under_way}
use Rattle.components.specs.Lives.{lived, lived_at}
use Rattle.components.specs.Events.{answered_at, refused, skipped, started, gone_by, ended, killed, kill_event_at}
use Rattle.components.specs.Acts.{Move, MovesInOrder}
use Rattle.law_supervisor.specs.Sound.{IsSoundPart, may_ask}
use Rattle.law_supervisor.proofs.Lists.{either, clash, none_of, not_so, changed_all}
use Rattle.law_supervisor.proofs.Reached.{Marks, idle_of}
use Rattle.law_supervisor.proofs.Items.{lived_gone}
use Rattle.law_supervisor.proofs.Made.{MayBefall}
use Rattle.law_supervisor.proofs.Moved.{moves_befall}
use Rattle.law_supervisor.proofs.Alone.{with_these}
use Rattle.law_supervisor.proofs.Together.{BefallsAt, GoesBy, event_all, plain_all, plain_orderly, child_gone_orderly, gone_befalls, gone_by_each}
use Rattle.law_supervisor.proofs.Answered.{answered_orderly, refused_befalls, skipped_befalls}
use Rattle.law_supervisor.proofs.Begun.{child, begun, started_by, started_orderly}
use Rattle.law_supervisor.proofs.Gone.{ended_by, end_goes, killed_by, kill_goes}
use Rattle.session_shutdown.specs.Leaves.{AreLeaving, IsLeavingPart}
use Rattle.session_shutdown.proofs.KeptLeaving.{leaves_quietly, leaving_at}

-- ---- of one

quiet_parts : (p : ComponentState) → leaves_quietly p ≡ true → IsLeavingPart p
quiet_parts p h =
    let x = and_parts (is_leaving p && not (is_some p.owed)) (not (is_some p.next)) h in
    let y = and_parts (is_leaving p) (not (is_some p.owed)) x.0 in
    (y.0, none_of p.owed (not_so (is_some p.owed) y.1), none_of p.next (not_so (is_some p.next) x.1))

abbrev bare : Bool → Option (Step × Exit) → Option (Fitted × ℕ) → ComponentState → ComponentState
bare g o n p = record p { life = record p.life { gone = g }; owed = o; next = n }

-- one that stands, owes nothing, and has no item that is to come
untold : (P : ComponentState → Type 0) (p : ComponentState) → p.life.gone ≡ false → p.owed ≡ None → p.next ≡ None → P (bare false None None p) → P p
untold P p g o n x =
    subst (λ (y : Bool). P (bare y p.owed p.next p)) (sym g)
    (subst (λ (y : Option (Step × Exit)). P (bare false y p.next p)) (sym o)
    (subst (λ (y : Option (Fitted × ℕ)). P (bare false None y p)) (sym n) x))

leaving_lived : (b : Bool) (e : LifeEvent) (p : ComponentState) (cs : List Child) (hd : Bool) → IsSoundPart p → IsLeavingPart p →
    MayBefall e (with_these cs hd p) → IsLeavingPart (lived b e (with_these cs hd p))
leaving_lived b e p cs hd k l m = elim (either p.life.gone) [
  | inl g ↦ subst IsLeavingPart (sym (lived_gone b e (with_these cs hd p) g)) l
  | inr g ↦ quiet_parts (lived b e (with_these cs hd p))
      (untold (λ x. may_ask (under_way x.life) x.stop ≡ true → MayBefall e x → is_leaving x ≡ true → leaves_quietly (lived b e x) ≡ true) (with_these cs hd p)
      g l.1 l.2
      (leaving_at p.fitted p.life.steps p.life.failures p.life.busy p.life.runs p.life.install_failed p.life.stop cs hd p.stop p.life.state e b) k.asks m l.0)
]

-- nobody who leaves is restarted
mark_leaving : Marks IsLeavingPart
mark_leaving p e l =
    let i = idle_of p e in
    let no : is_leaving p ≡ false = rw i.2 (rw i.0 (rw i.1 refl)) in
    clash (is_leaving p) l.0 no

-- ---- what befalls one that keeps its children

plain_keeps : (k : ℕ) (e : LifeEvent) (w : Components) → AreLeaving w → BefallsAt k e w → AreLeaving (lived_at k e w)
plain_keeps k e w i f = record {
  orderly = plain_orderly k e w i.orderly f;
  each = plain_all IsLeavingPart mark_leaving k e w i.each (λ p q x.
      let s = i.orderly.sound k p q in leaving_lived w.steady e p p.children p.handed s x (f p q s).0);
}

pub moved_keeps : (w v : Components) (ms : List Move) → MovesInOrder w ms v → AreLeaving w → AreLeaving v
moved_keeps w v [] q i = subst AreLeaving (sym q) i
moved_keeps w v (m ∷ ms) q i = moved_keeps (lived_at m.who m.what w) v ms q.2 (plain_keeps m.who m.what w i (moves_befall w m.who m.what q.1))

-- ---- a start that is answered

answered_keeps : (k : ℕ) (w : Components) → AreLeaving w → AreLeaving (answered_at k w)
answered_keeps k w i = record {
  orderly = answered_orderly k w i.orderly;
  each = changed_all IsLeavingPart k (λ p. record p { handed = false }) w.parts i.each (λ p q x. x);
}

pub refused_keeps : (k : ℕ) (s : Step) (w : Components) → AreLeaving w → AreLeaving (refused k s w)
refused_keeps k s w i = plain_keeps k (event.Ended s exits.NotStarted) (answered_at k w) (answered_keeps k w i) (refused_befalls k s (answered_at k w))

pub skipped_keeps : (k : ℕ) (w : Components) → AreLeaving w → AreLeaving (skipped k w)
skipped_keeps k w i = plain_keeps k event.Skipped (answered_at k w) (answered_keeps k w i) (skipped_befalls k (answered_at k w))

-- ---- a child that is started

pub started_keeps : (k : ℕ) (s : Step) (n : ℕ) (w : Components) → owner n w.parts ≡ None → AreLeaving w → AreLeaving (started k s n w)
started_keeps k s n w o i = record {
  orderly = started_orderly k s n w o i.orderly;
  each = started_by (λ t v. AllByRecursion IsLeavingPart v.parts) k s n w
      (λ t r. changed_all IsLeavingPart k (begun n t w.moment) w.parts i.each (λ p q x. x))
      (event_all IsLeavingPart mark_leaving k event.Launched (begun n step.Run w.moment) w i.each (λ p q x.
      leaving_lived w.steady event.Launched p (child n step.Run w.moment p ∷ p.children) false (i.orderly.sound k p q) x tt));
}

-- ---- a child that is gone

child_gone_keeps : (k n : ℕ) (w : Components) → AreLeaving w → AreLeaving (child_gone k n w)
child_gone_keeps k n w i = record {
  orderly = child_gone_orderly k n w i.orderly;
  each = changed_all IsLeavingPart k (without_child n) w.parts i.each (λ p q x. x);
}

gone_by_keeps : (o : Option LifeEvent) (k : ℕ) (s : Step) (n : ℕ) (w : Components) → AreLeaving w → GoesBy o k s n w → AreLeaving (gone_by o k s n w)
gone_by_keeps o k s n w i f = gone_by_each AreLeaving o k s n w (child_gone_keeps k n w i)
    (λ e y. plain_keeps k e (child_gone k n w) (child_gone_keeps k n w i) (gone_befalls o k s n e w i.orderly y f))

pub ended_keeps : (n : ℕ) (e : Exit) (w : Components) → AreLeaving w → AreLeaving (ended n e w)
ended_keeps n e w i = ended_by AreLeaving n e w i (λ o q. gone_by_keeps (Some (event.Ended o.1 e)) o.0 o.1 n w i (end_goes n e w o q))

pub killed_keeps : (n : ℕ) (w : Components) → AreLeaving w → AreLeaving (killed n w)
killed_keeps n w i = killed_by AreLeaving n w i (λ o q. gone_by_keeps (kill_event_at o.0 o.1 n w) o.0 o.1 n w i (kill_goes n w o q))
