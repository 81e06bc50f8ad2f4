-- What a supervisor keeps is kept by each event.
use Rattle.std.proofs.Common.{◌≡◌, ◌<◌, ◌≤◌, ℕ, suc, List, [], ◌∷◌, length, Bool, true, false, Option, Some, None, refl, sym, ap, ◌∙◌, subst, map}
use Rattle.std.specs.Prelude.{◌^◌, IfSome, if◌then◌else◌, option_map}
use Rattle.nuc_base.specs.declared.kinds.Step.{Step}
use Rattle.nuc_base.specs.declared.kinds.Step.TheVariants as step
use Rattle.nuc_base.specs.declared.kinds.Exit.{Exit}
use Rattle.nuc_base.specs.declared.kinds.Exit.TheVariants as exits
use Rattle.lifecycle.specs.declared.kinds.LifeEvent.{LifeEvent}
use Rattle.lifecycle.specs.declared.kinds.LifeEvent.TheVariants as life
use Rattle.components.specs.Answers.{IsExpected}
use Rattle.components.specs.Deadlines.{deadline_after}
use Rattle.components.specs.Events.{with_child, launched, answered_at, noticed, later, gone_by, is_orphan_at}
use Rattle.components.specs.Fitted.{Fitted, name_of, prepared_of, limit_of}
use Rattle.components.specs.Flags.{at_moment}
use Rattle.components.specs.Lives.{lived_at}
use Rattle.components.specs.Components.{Components, ComponentState, Child, changed_at, child_gone, without_child, owner, is_gone, under_way, component_name}
use Rattle.components.specs.Changes.{leaving, forgetting}
use Rattle.lifecycle.specs.declared.kinds.After.TheVariants as after
use Rattle.std.proofs.lemmas.List.{length-map}
use Rattle.components.specs.Readied.{IsKept, AreNamesApart, IsNamed, StartsShort}
use Rattle.components.specs.Runs.{IsShort}
use Rattle.components.specs.declared.kinds.Event.{Event}
use Rattle.components.specs.declared.kinds.Event.TheVariants.{Started, Refused, Skipped, Ended, Passed}
use Rattle.components.proofs.Apart.{apart_kids, near_kids, near_later, near_started, near_deadline, apart_started, apart_removed, near_removed, not_owned}
use Rattle.components.proofs.Each.{length_changed, at_below}
use Rattle.components.proofs.Kids.{kids, kids_changed, kids_mapped, kids_lived_at}
use Rattle.components.proofs.Names.{Stays, AllStay, stay_changed, stay_mapped, stay_lived_at}

pub length_kids : (ps qs : List ComponentState) → kids ps ≡ kids qs → length ps ≡ length qs
length_kids [] [] e = refl
length_kids [] (q ∷ qs) e = absurd (cc)
length_kids (p ∷ ps) [] e = absurd (cc)
length_kids (p ∷ ps) (q ∷ qs) e = ap suc (length_kids ps qs (let b : kids ps ≡ kids qs = cc in b))

pub lived_length : (k : ℕ) (e : LifeEvent) (steady : Bool) (old new : List ComponentState) →
    ((m : ℕ) → at_moment new m steady ≡ lived_at k e (at_moment old m steady)) → length new ≡ length old
lived_length k e steady old new l = length_kids new old (ap (λ (w : Components). kids w.parts) (l 0) ∙ kids_lived_at k e (at_moment old 0 steady))

pub kept_kids : (w v : Components) → IsKept w → kids v.parts ≡ kids w.parts → AllStay w.parts v.parts → v.moment ≡ w.moment → IsKept v
kept_kids w v k e s m = record {
  few = rw (length_kids v.parts w.parts e) k.few;
  time = rw m k.time;
  near = rw m (near_kids w.moment v.parts w.parts e k.near);
  apart = apart_kids v.parts w.parts e k.apart;
  names = subst AreNamesApart (sym s.0) k.names;
  named = s.1;
}

pub kept_later : (w : Components) (m : ℕ) → IsKept w → w.moment ≤ m → m < 2 ^ 62 → IsKept (later m w)
kept_later w m k l t = record { few = k.few; time = t; near = near_later w.moment m w.parts l k.near; apart = k.apart; names = k.names; named = k.named }

pub kept_lived : (k : ℕ) (e : LifeEvent) (w : Components) → IsKept w → IsKept (lived_at k e w)
kept_lived k e w h = kept_kids w (lived_at k e w) h (kids_lived_at k e w) (stay_lived_at k e w h.named) refl

kept_removed : (k n : ℕ) (w : Components) → IsKept w → IsKept (child_gone k n w)
kept_removed k n w h =
    let s = stay_changed (without_child n) (λ p i. (refl, i)) k w.parts h.named in
    record {
      few = rw (length_changed k (without_child n) w.parts) h.few;
      time = h.time;
      near = near_removed w.moment n k w.parts h.near;
      apart = apart_removed n k w.parts h.apart;
      names = subst AreNamesApart (sym s.0) h.names;
      named = s.1;
    }

kept_if : (b : Bool) (v w : Components) → IsKept v → IsKept w → IsKept (if b then v else w)
kept_if true v w h k = h
kept_if false v w h k = k

pub kept_gone : (e : Option LifeEvent) (k : ℕ) (s : Step) (n : ℕ) (w : Components) → IsKept w → IsKept (gone_by e k s n w)
kept_gone None k s n w h = kept_removed k n w h
kept_gone (Some e) k s n w h =
    let r = kept_removed k n w h in
    kept_if (is_orphan_at k s w) (child_gone k n w) (lived_at k e (child_gone k n w)) r (kept_lived k e (child_gone k n w) r)

kept_ended : (o : Option (ℕ × Step)) (n : ℕ) (e : Exit) (w : Components) → IsKept w →
    IsKept (elim o [ None ↦ w | Some x ↦ gone_by (Some (life.Ended x.1 e)) x.0 x.1 n w ])
kept_ended None n e w h = h
kept_ended (Some x) n e w h = kept_gone (Some (life.Ended x.1 e)) x.0 x.1 n w h

kept_answered : (k : ℕ) (w : Components) → IsKept w → IsKept (answered_at k w)
kept_answered k w h = kept_kids w (answered_at k w) h (kids_changed (λ p. record p { handed = false }) (λ p. refl) k w.parts)
    (stay_changed (λ p. record p { handed = false }) (λ p i. (refl, i)) k w.parts h.named) refl

kept_launched : (s : Step) (k : ℕ) (w : Components) → IsKept w → IsKept (launched s k w)
kept_launched step.Install k w h = h
kept_launched step.Run k w h = kept_lived k life.Launched w h
kept_launched step.Startup k w h = h
kept_launched step.Shutdown k w h = h
kept_launched step.Recover k w h = h
kept_launched step.Bootstrap k w h = h

pub event_kept : (w : Components) (e : Event) (m : ℕ) → IsKept w → w.moment ≤ m → m < 2 ^ 62 → IsExpected w e → StartsShort e w.parts →
    IsKept (noticed e (later m w))
event_kept w (Started k s n) m h l t a short =
    let v : Components = later m w in
    let hv : IsKept v = kept_later w m h l t in
    let f : ComponentState → ComponentState = λ (p : ComponentState). with_child n s m (record p { handed = false }) in
    let c : ComponentState → Child = λ (p : ComponentState). let d : Child =
    record { number = n; of = s; deadline = deadline_after (limit_of (prepared_of p.fitted s)) m } in d in
    let u : Components = record v { parts = changed_at k f w.parts } in
    let r = stay_changed f (λ p i. (refl, i)) k w.parts h.named in
    kept_launched s k u (record {
      few = rw (length_changed k f w.parts) h.few;
      time = t;
      near = near_started m f c (λ p. IsShort (limit_of (prepared_of p.fitted s))) (λ p. refl) (λ p q. near_deadline m (limit_of (prepared_of p.fitted s)) q)
          k w.parts short hv.near;
      apart = apart_started n f (λ p. refl) k w.parts [] (at_below _ w.parts k a.0) h.apart (not_owned 0 n w.parts a.1);
      names = subst AreNamesApart (sym r.0) h.names;
      named = r.1;
    })
event_kept w (Refused k s) m h l t a short = kept_lived k (life.Ended s exits.NotStarted) (answered_at k (later m w))
    (kept_answered k (later m w) (kept_later w m h l t))
event_kept w (Skipped k s) m h l t a short = kept_lived k life.Skipped (answered_at k (later m w)) (kept_answered k (later m w) (kept_later w m h l t))
event_kept w (Ended n e) m h l t a short = kept_ended (owner n w.parts) n e (later m w) (kept_later w m h l t)
event_kept w Passed m h l t a short = kept_later w m h l t

-- ---- all at once

pub kept_all : (f : ComponentState → ComponentState) → ((p : ComponentState) → (f p).children ≡ p.children) →
    ((p : ComponentState) → IsNamed p → Stays p (f p)) → (w v : Components) (ps : List ComponentState) → IsKept w → ps ≡ map f w.parts → v.parts ≡ ps →
    v.moment ≡ w.moment → IsKept v
kept_all f e s w v ps h q r m = kept_kids w v h (ap kids (r ∙ q) ∙ kids_mapped f e w.parts)
    (subst (AllStay w.parts) (sym (r ∙ q)) (stay_mapped f s w.parts h.named)) m

pub length_all : (f : ComponentState → ComponentState) (ps qs : List ComponentState) (n : ℕ) → n ≡ length ps → qs ≡ map f ps → n ≡ length qs
length_all f ps qs n e q = e ∙ sym (ap length q ∙ length-map ps f)

leaving_at : (b d : Bool) (p : ComponentState) → (if b then p
    else (if d then record p { stop = None; next = None } else record p { stop = Some after.Gone; next = None })).children ≡ p.children
leaving_at true d p = refl
leaving_at false true p = refl
leaving_at false false p = refl

pub leaving_children : (p : ComponentState) → (leaving p).children ≡ p.children
leaving_children p = leaving_at p.life.gone (is_gone (under_way p.life)) p

pub forgetting_children : (p : ComponentState) → (forgetting p).children ≡ p.children
forgetting_children p = refl

stays_leaving_at : (b d : Bool) (p : ComponentState) → IsNamed p →
    Stays p (if b then p else (if d then record p { stop = None; next = None } else record p { stop = Some after.Gone; next = None }))
stays_leaving_at true d p h = (refl, h)
stays_leaving_at false true p h = (refl, tt)
stays_leaving_at false false p h = (refl, tt)

pub stays_leaving : (p : ComponentState) → IsNamed p → Stays p (leaving p)
stays_leaving p h = stays_leaving_at p.life.gone (is_gone (under_way p.life)) p h

forgotten_name : (n : List ℕ) (o : Option (Fitted × ℕ)) → IfSome o (λ x. name_of x.0 ≡ n) →
    IfSome {T = Fitted × ℕ} (option_map (λ (x : Fitted × ℕ). (x.0, 0)) o) (λ x. name_of x.0 ≡ n)
forgotten_name n None h = tt
forgotten_name n (Some x) h = h

pub stays_forgetting : (p : ComponentState) → IsNamed p → Stays p (forgetting p)
stays_forgetting p h = (refl, forgotten_name (component_name p) p.next h)
