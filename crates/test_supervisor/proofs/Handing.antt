-- What is known of an act that was handed out.
use Rattle.std.proofs.Common.{◌≡◌, ◌∙◌, ◌<◌, ℕ, suc, zero, List, [], ◌∷◌, length, Bool, true, false, Option, Some, None, refl, sym, ap, subst, arith}
use Rattle.std.specs.Prelude.{IfSome, IsSome}
use Rattle.records.specs.declared.record.Origin.{Origin}
use Rattle.nuc_base.specs.declared.kinds.Exit.{Exit}
use Rattle.nuc_base.specs.declared.kinds.Step.{Step}
use Rattle.nuc_base.specs.declared.platform.Platform.{Platform}
use Rattle.components.specs.Acts.{NextAct, OwesAt, HasStart}
use Rattle.components.specs.Answers.{HasHanded}
use Rattle.components.specs.Events.{handed_at, noticed, heard_at}
use Rattle.components.specs.Changes.{all_stopped, changed_to, steadied}
use Rattle.components.specs.Fitted.{Fitted, prepared_of}
use Rattle.components.specs.Platforms.{AllFor}
use Rattle.components.specs.Turns.{is_begun}
use Rattle.components.specs.Components.{Components, ComponentState, At, changed_at, place_of, is_broken, component_name}
use Rattle.components.specs.declared.kinds.Act.TheVariants as acts
use Rattle.components.specs.declared.kinds.Event.TheVariants.{Started, Refused, Skipped}
use Rattle.components.proofs.Each.{at_below, length_changed}
use Rattle.components.proofs.Handed.{refused-handed, skipped-handed, started-handed}
use Rattle.components.proofs.Platforms.{run_change, run_next, run_steadied, run_stopped}
use Rattle.test_supervisor.specs.Stands.{IsReadyFor}
use Rattle.test_supervisor.proofs.Free.{AreFree, free_change, free_killed, free_quietly, free_refused, free_skipped, free_started, free_steadied}
use Rattle.test_supervisor.proofs.Free.{free_stopped, free_told}

at_changed : (k : ℕ) (f : ComponentState → ComponentState) (ps : List ComponentState) (P Q : ComponentState → Type 0) → ((p : ComponentState) → P p → Q (f p))
    → At k P ps → At k Q (changed_at k f ps)
at_changed k f [] P Q g h = absurd h
at_changed zero f (p ∷ ps) P Q g h = g p h
at_changed (suc k) f (p ∷ ps) P Q g h = at_changed k f ps P Q g h

-- ---- a start

pub has_handed : (k : ℕ) (t : Step) (v w : Components) → v ≡ handed_at k w → At k (HasStart t) w.parts → HasHanded k t v
has_handed k t v w is start =
    subst (λ (x : Components). HasHanded k t x) (sym is)
    (at_changed k (λ p. record p { handed = true }) w.parts (HasStart t) (λ p. (p.handed ≡ true) × (is_begun t p ≡ true)) (λ p h. (refl, h.begun)) start)

pub has_prepared : (k : ℕ) (t : Step) (v w : Components) → v ≡ handed_at k w → At k (HasStart t) w.parts → At k (λ p. IsSome (prepared_of p.fitted t)) v.parts
has_prepared k t v w is start =
    subst (λ (x : Components). At k (λ p. IsSome (prepared_of p.fitted t)) x.parts) (sym is)
    (at_changed k (λ p. record p { handed = true }) w.parts (HasStart t) (λ p. IsSome (prepared_of p.fitted t)) (λ p h. h.prepared) start)

-- once it is answered no start is open
pub free_start : (k : ℕ) (s : Step) (n : ℕ) (w : Components) → AreFree w.parts → AreFree (noticed (Started k s n) (handed_at k w)).parts
free_start k s n w a = subst (λ (x : Components). AreFree x.parts) (sym (started-handed k s n w)) (free_started k s n w a)

pub free_refusal : (k : ℕ) (s : Step) (w : Components) → AreFree w.parts → AreFree (noticed (Refused k s) (handed_at k w)).parts
free_refusal k s w a = subst (λ (x : Components). AreFree x.parts) (sym (refused-handed k s w)) (free_refused k s w a)

pub free_skip : (k : ℕ) (s : Step) (w : Components) → AreFree w.parts → AreFree (noticed (Skipped k s) (handed_at k w)).parts
free_skip k s w a = subst (λ (x : Components). AreFree x.parts) (sym (skipped-handed k w)) (free_skipped k w a)

-- ---- a failure

owes_below : (k : ℕ) (s : Step) (e : Exit) (b : Bool) (u v : Components) → OwesAt u k s e b → v ≡ heard_at k u → k < length v.parts
owes_below k s e b u v owes is =
    let below : k < length u.parts = at_below (λ p. (p.owed ≡ Some (s, e)) × (is_broken p.life.state ≡ b) × (place_of (component_name p) u.parts ≡ Some k))
    u.parts k owes in
    let same : length v.parts ≡ length u.parts = ap (λ (x : Components). length x.parts) is ∙ length_changed k (λ p. record p { owed = None }) u.parts in
    omega (arith, below, same)

pub failed_below : (k : ℕ) (s : Step) (e : Exit) (w v : Components) → NextAct w (Some (acts.Failed k s e)) v → k < length v.parts
failed_below k s e w v n = owes_below k s e false n.seen v n.hands.0 n.hands.1

pub broke_below : (k : ℕ) (s : Step) (e : Exit) (w v : Components) → NextAct w (Some (acts.Broke k s e)) v → k < length v.parts
broke_below k s e w v n = owes_below k s e true n.seen v n.hands.0 n.hands.1

-- ---- what stays

pub if_stands : (o : Option Origin) (w v : Components) → ((p : Platform) → IsReadyFor p w → IsReadyFor p v)
    → IfSome o (λ (x : Origin). IsReadyFor x.platform w) →
    IfSome o (λ (x : Origin). IsReadyFor x.platform v)
if_stands None w v f h = tt
if_stands (Some o) w v f h = f o.platform h

pub stands_stopped : (platform : Platform) (w v : Components) → v ≡ all_stopped w → IsReadyFor platform w → IsReadyFor platform v
stands_stopped platform w v is h = subst (λ (x : Components). IsReadyFor platform x) (sym is)
    (record { answered = free_stopped w h.answered; ready = run_stopped platform w h.ready })

pub stands_steadied : (platform : Platform) (w v : Components) → v ≡ steadied w → IsReadyFor platform w → IsReadyFor platform v
stands_steadied platform w v is h = subst (λ (x : Components). IsReadyFor platform x) (sym is)
    (record { answered = free_steadied w h.answered; ready = run_steadied platform w h.ready })

pub stands_changed : (platform : Platform) (fs : List Fitted) (counts : List ℕ) (steady : Bool) (w v : Components) → v ≡ changed_to fs counts steady w →
    AllFor platform fs → IsReadyFor platform w → IsReadyFor platform v
stands_changed platform fs counts steady w v is all h =
    subst (λ (x : Components). IsReadyFor platform x) (sym is)
    (record { answered = free_change fs counts steady w h.answered; ready = run_change platform fs counts steady w all h.ready })

module _ (platform : Platform) where
  pub stands_none : (w v : Components) → NextAct w None v → IsReadyFor platform w → IsReadyFor platform v
  stands_none w v n h = record {
    answered = subst (λ (x : Components). AreFree x.parts) (sym n.hands.1) (free_quietly n.made w n.seen n.quietly h.answered);
    ready = run_next platform w None v n h.ready;
  }

  pub stands_killed : (c : ℕ) (w v : Components) → NextAct w (Some (acts.Kill c)) v → IsReadyFor platform w → IsReadyFor platform v
  stands_killed c w v n h = record {
    answered = subst (λ (x : Components). AreFree x.parts) (sym n.hands.4) (free_killed c n.seen (free_quietly n.made w n.seen n.quietly h.answered));
    ready = run_next platform w (Some (acts.Kill c)) v n h.ready;
  }

  pub stands_failed : (k : ℕ) (s : Step) (e : Exit) (w v : Components) → NextAct w (Some (acts.Failed k s e)) v → IsReadyFor platform w → IsReadyFor platform v
  stands_failed k s e w v n h = record {
    answered = subst (λ (x : Components). AreFree x.parts) (sym n.hands.1) (free_told k n.seen (free_quietly n.made w n.seen n.quietly h.answered));
    ready = run_next platform w (Some (acts.Failed k s e)) v n h.ready;
  }

  pub stands_broke : (k : ℕ) (s : Step) (e : Exit) (w v : Components) → NextAct w (Some (acts.Broke k s e)) v → IsReadyFor platform w → IsReadyFor platform v
  stands_broke k s e w v n h = record {
    answered = subst (λ (x : Components). AreFree x.parts) (sym n.hands.1) (free_told k n.seen (free_quietly n.made w n.seen n.quietly h.answered));
    ready = run_next platform w (Some (acts.Broke k s e)) v n h.ready;
  }
