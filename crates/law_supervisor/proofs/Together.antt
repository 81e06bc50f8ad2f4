-- What is kept of each component is kept of all, and with it what holds between them and the device.
use Rattle.std.proofs.Common.{◌≡◌, ◌≤◌, ℕ, suc, zero, List, [], ◌∷◌, map, Option, Some, None, Bool, true, false, refl, sym, ap, ◌∙◌, arith, subst}
use Rattle.std.specs.Prelude.{◌&&◌, slice_get, if◌then◌else◌, option_map}
use Rattle.std.specs.List.{AllByRecursion, list_any}
use Rattle.std.proofs.lemmas.Option.{slice_get-map}
use Rattle.std.proofs.lemmas.Bool.{or_parts}
use Rattle.nuc_base.specs.declared.kinds.Step.{Step}
use Rattle.lifecycle.specs.declared.kinds.After.TheVariants as after
use Rattle.lifecycle.specs.declared.kinds.LifeEvent.{LifeEvent}
use Rattle.device.specs.Devices.{Device}
use Rattle.components.specs.Components.{Components, ComponentState, changed_at, component_name, child_gone, without_child}
use Rattle.components.specs.Marks.{flagged_at, restarted, may_restart}
use Rattle.components.specs.Lives.{lived, lived_at, drops_at}
use Rattle.components.specs.Events.{gone_by, is_orphan_at}
use Rattle.components.specs.Turns.{owes}
use Rattle.components.specs.Answers.{living_numbers}
use Rattle.law_supervisor.specs.Sound.{IsSoundPart, AreSound, AreDistinct, HaveOwnNames, IsOrderly}
use Rattle.law_supervisor.specs.Keeps.{IsCounted, IsSupervised, HasNoneOwed}
use Rattle.law_supervisor.proofs.Lists.{none_of, some_same, no_some, from_places, at_places, changed_all, changed_same, changed_here, changed_past, twice}
use Rattle.law_supervisor.proofs.Lists.{changed_nothing, any_same}
use Rattle.components.proofs.Whole.{firsts_at}
use Rattle.law_supervisor.proofs.Reached.{Marks, restarted_all, restarted_same, may_replan_of}
use Rattle.law_supervisor.proofs.Items.{same_children}
use Rattle.law_supervisor.proofs.Made.{MayBefall, begins, ends_fairly}
use Rattle.law_supervisor.proofs.Alone.{runs_in, sound_these, counted_these, same_name, run_lived, sound_lived, counted_lived, mark_sound, mark_counted, but}
use Rattle.law_supervisor.proofs.Alone.{run_but}
use Rattle.law_supervisor.proofs.Counts.{count, differ_few, few_differ, count_changed, count_but, same_living}

-- ---- an event of one, perhaps after that one changed

pub event_all : (P : ComponentState → Type 0) → Marks P → (k : ℕ) (e : LifeEvent) (h : ComponentState → ComponentState) (w : Components) →
    AllByRecursion P w.parts
    → ((p : ComponentState) → slice_get w.parts k ≡ Some p → P p → P (lived w.steady e (h p))) →
    AllByRecursion P (lived_at k e (record w { parts = changed_at k h w.parts })).parts
event_all P m k e h w a f =
    let one = changed_all P k (λ p. lived w.steady e (h p)) w.parts a f in
    let both : AllByRecursion P (changed_at k (lived w.steady e) (changed_at k h w.parts)) = subst (λ (qs : List ComponentState). AllByRecursion P qs)
    (sym (twice k (lived w.steady e) h w.parts)) one in
    elim (drops_at k (record w { parts = changed_at k h w.parts }) e)
    as (λ (x : Bool). AllByRecursion P (if x then restarted may_restart (flagged_at k (changed_at k (lived w.steady e) (changed_at k h w.parts)))
    else changed_at k (lived w.steady e) (changed_at k h w.parts))) [
      | true ↦ restarted_all P m may_restart may_replan_of (flagged_at k (changed_at k (lived w.steady e) (changed_at k h w.parts)))
          (subst (λ (qs : List ComponentState). AllByRecursion P qs) (sym (firsts_at k (changed_at k (lived w.steady e) (changed_at k h w.parts)))) both)
      | false ↦ both
    ]

pub plain_all : (P : ComponentState → Type 0) → Marks P → (k : ℕ) (e : LifeEvent) (w : Components) → AllByRecursion P w.parts
    → ((p : ComponentState) → slice_get w.parts k ≡ Some p → P p → P (lived w.steady e p)) → AllByRecursion P (lived_at k e w).parts
plain_all P m k e w a f = subst (λ (qs : List ComponentState). AllByRecursion P (lived_at k e (record w { parts = qs })).parts) (changed_nothing k w.parts)
    (event_all P m k e (λ p. p) w a f)

-- what neither the event nor a mark changes
pub event_same : {X : Type 0} (v : ComponentState → X) → ((p : ComponentState) → v (record p { stop = Some after.Restart }) ≡ v p) →
    (k : ℕ) (e : LifeEvent) (w : Components)
    → ((p : ComponentState) → slice_get w.parts k ≡ Some p → v (lived w.steady e p) ≡ v p) → map v (lived_at k e w).parts ≡ map v w.parts
event_same v m k e w f =
    let one = changed_same v k (lived w.steady e) w.parts f in
    elim (drops_at k w e) as (λ (x : Bool). map v (if x then restarted may_restart (flagged_at k (changed_at k (lived w.steady e) w.parts)) else changed_at k
    (lived w.steady e) w.parts) ≡ map v w.parts) [
      | true ↦ restarted_same v m may_restart (flagged_at k (changed_at k (lived w.steady e) w.parts)) ∙ ap (λ (ps : List ComponentState). map v ps)
          (firsts_at k (changed_at k (lived w.steady e) w.parts)) ∙ one
      | false ↦ one
    ]

pub event_children : (k : ℕ) (e : LifeEvent) (w : Components) → map (λ (p : ComponentState). p.children) (lived_at k e w).parts
    ≡ map (λ (p : ComponentState). p.children) w.parts
event_children k e w = event_same (λ p. p.children) (λ p. refl) k e w (λ p q. same_children w.steady e p)

pub event_names : (k : ℕ) (e : LifeEvent) (w : Components) → AllByRecursion IsSoundPart w.parts → map component_name (lived_at k e w).parts
    ≡ map component_name w.parts
event_names k e w a = event_same component_name (λ p. refl) k e w (λ p q. same_name w.steady e p (at_places IsSoundPart w.parts a k p q).coming)

-- ---- names

named : (n : List ℕ) (o : Option ComponentState) → option_map component_name o ≡ Some n → (p : ComponentState) × (o ≡ Some p) × (component_name p ≡ n)
named n None e = no_some n e
named n (Some p) e = (p, refl, some_same (component_name p) n e)

same_at : (ps qs : List ComponentState) → map component_name qs ≡ map component_name ps → (k : ℕ) (q : ComponentState) → slice_get qs k ≡ Some q →
    (p : ComponentState) × (slice_get ps k ≡ Some p) × (component_name p ≡ component_name q)
same_at ps qs e k q s = named (component_name q) (slice_get ps k)
    (sym (slice_get-map component_name ps k) ∙ ap (λ (ns : List (List ℕ)). slice_get ns k) (sym e) ∙ slice_get-map component_name qs k ∙ ap
    (option_map component_name) s)

pub same_names : (ps qs : List ComponentState) → map component_name qs ≡ map component_name ps → HaveOwnNames ps → HaveOwnNames qs
same_names ps qs e h = λ j k p q a b n. let x = same_at ps qs e j p a in let y = same_at ps qs e k q b in h j k x.0 y.0 x.1 y.1 (x.2 ∙ n ∙ sym y.2)

-- ---- what is kept of all

pub sound_of : (w : Components) → AreSound w.parts → AllByRecursion IsSoundPart w.parts
sound_of w s = from_places IsSoundPart w.parts s

pub orderly_from : (w v : Components) → IsOrderly w → AllByRecursion IsSoundPart v.parts → map component_name v.parts ≡ map component_name w.parts →
    AreDistinct (living_numbers v.parts) → IsOrderly v
orderly_from w v i a n f = record { sound = at_places IsSoundPart v.parts a; differ = f; names = same_names w.parts v.parts n i.names }

-- where all children stay
pub orderly_same : (w v : Components) → IsOrderly w → AllByRecursion IsSoundPart v.parts → map component_name v.parts ≡ map component_name w.parts →
    map (λ (p : ComponentState). p.children) v.parts ≡ map (λ (p : ComponentState). p.children) w.parts → IsOrderly v
orderly_same w v i a n c = orderly_from w v i a n (subst AreDistinct (sym (same_living w.parts v.parts c)) i.differ)

pub order_of : (d : Device) (w : Components) → IsSupervised d w → IsOrderly w
order_of d w k = record { sound = k.sound; differ = k.differ; names = k.names }

pub counted_of : (d : Device) (w : Components) → IsSupervised d w → AllByRecursion (IsCounted d) w.parts
counted_of d w k = from_places (IsCounted d) w.parts k.counted

-- what is orderly, and where each count is that of the device
pub keep_from : (d : Device) (w v : Components) → IsSupervised d w → IsOrderly v → AllByRecursion (IsCounted d) v.parts → v.steady ≡ w.steady → IsSupervised d v
keep_from d w v k i a s = record {
  counted = at_places (IsCounted d) v.parts a;
  sound = i.sound;
  differ = i.differ;
  names = i.names;
  driven = s ∙ k.driven;
  counts = k.counts;
}

-- nothing is owed by any
pub told_each : (ps : List ComponentState) → list_any owes ps ≡ false → (k : ℕ) (p : ComponentState) → slice_get ps k ≡ Some p → p.owed ≡ None
told_each [] t k p e = no_some p e
told_each (q ∷ qs) t zero p e = none_of p.owed (sym (ap owes (some_same q p e)) ∙ (or_parts (owes q) (list_any owes qs) t).0)
told_each (q ∷ qs) t (suc k) p e = told_each qs (or_parts (owes q) (list_any owes qs) t).1 k p e

-- ---- what befalls one that keeps its children

abbrev pub Befalls : LifeEvent → ComponentState → Type 0
Befalls e p = MayBefall e p × (ends_fairly e p ≡ true) × ((begins e && runs_in p.children) ≡ false)

abbrev pub BefallsAt : ℕ → LifeEvent → Components → Type 0
BefallsAt k e w = (p : ComponentState) → slice_get w.parts k ≡ Some p → IsSoundPart p → Befalls e p

pub plain_orderly : (k : ℕ) (e : LifeEvent) (w : Components) → IsOrderly w → BefallsAt k e w → IsOrderly (lived_at k e w)
plain_orderly k e w i f = orderly_same w (lived_at k e w) i
    (plain_all IsSoundPart mark_sound k e w (sound_of w i.sound) (λ p q x.
    let m = f p q x in sound_lived w.steady e p p.children p.handed x m.0 (run_lived w.steady e p (runs_in p.children) x.busy x.runs x.run m.2)))
    (event_names k e w (sound_of w i.sound))
    (event_children k e w)

pub plain_keeps : (d : Device) (k : ℕ) (e : LifeEvent) (w : Components) → HasNoneOwed w → IsSupervised d w → BefallsAt k e w → IsSupervised d (lived_at k e w)
plain_keeps d k e w t i f = keep_from d w (lived_at k e w) i (plain_orderly k e w (order_of d w i) f)
    (plain_all (IsCounted d) (mark_counted d) k e w (counted_of d w i) (λ p q x.
    let s = i.sound k p q in
    let m = f p q s in subst (λ (b : Bool). IsCounted d (lived b e p)) (sym i.driven)
    (counted_lived d e p p.children p.handed s x (told_each w.parts t k p q) m.0 m.1)))
    refl

-- ---- a child that is gone

differ_gone : (k n : ℕ) (ps : List ComponentState) → AreDistinct (living_numbers ps) → AreDistinct (living_numbers (changed_at k (without_child n) ps))
differ_gone k n ps d = few_differ (living_numbers (changed_at k (without_child n) ps)) (λ m. fewer m k ps (differ_few (living_numbers ps) d m))
  where
    fewer : (m k : ℕ) (ps : List ComponentState) → count m (living_numbers ps) ≤ 1 → count m (living_numbers (changed_at k (without_child n) ps)) ≤ 1
    fewer m k ps l = elim (slice_get ps k) as (λ (o : Option ComponentState). slice_get ps k ≡ o →
        count m (living_numbers (changed_at k (without_child n) ps)) ≤ 1) [
          | None ↦ λ e. subst (λ (qs : List ComponentState). count m (living_numbers qs) ≤ 1) (sym (changed_past k (without_child n) ps e)) l
          | Some p ↦ λ e. (let a = count_changed m k (without_child n) ps p e in let b = count_but m n p.children in omega (arith, a, b, l))
        ] refl

pub child_gone_orderly : (k n : ℕ) (w : Components) → IsOrderly w → IsOrderly (child_gone k n w)
child_gone_orderly k n w i = orderly_from w (child_gone k n w) i
    (changed_all IsSoundPart k (without_child n) w.parts (sound_of w i.sound) (λ p q x.
    sound_these p (but n p.children) p.handed x (run_but n p.life.busy p.children x.run)))
    (changed_same component_name k (without_child n) w.parts (λ p q. refl))
    (differ_gone k n w.parts i.differ)

child_gone_keeps : (d : Device) (k n : ℕ) (w : Components) → IsSupervised d w → IsSupervised d (child_gone k n w)
child_gone_keeps d k n w i = keep_from d w (child_gone k n w) i (child_gone_orderly k n w (order_of d w i))
    (changed_all (IsCounted d) k (without_child n) w.parts (counted_of d w i) (λ p q x. counted_these d p (but n p.children) p.handed x))
    refl

child_gone_told : (k n : ℕ) (w : Components) → HasNoneOwed w → HasNoneOwed (child_gone k n w)
child_gone_told k n w t = any_same owes w.parts (child_gone k n w).parts (changed_same owes k (without_child n) w.parts (λ p q. refl)) ∙ t

-- what comes with the end of the child may befall its component without it
abbrev pub GoesBy : Option LifeEvent → ℕ → Step → ℕ → Components → Type 0
GoesBy o k s n w = (e : LifeEvent) → o ≡ Some e → (begins e ≡ false) ×
    ((p : ComponentState) → slice_get w.parts k ≡ Some p → IsSoundPart p → MayBefall e (without_child n p) × (ends_fairly e (without_child n p) ≡ true))

pub gone_befalls : (o : Option LifeEvent) (k : ℕ) (s : Step) (n : ℕ) (e : LifeEvent) (w : Components) → IsOrderly w → o ≡ Some e → GoesBy o k s n w →
    BefallsAt k e (child_gone k n w)
gone_befalls o k s n e w i y f q a x =
    let h = changed_here k (without_child n) w.parts q a in
    let g = f e y in
    let m = g.1 h.0 h.1 (i.sound k h.0 h.1) in
    subst (Befalls e) h.2 (m.0, m.1, rw g.0 refl)

-- what holds once the child is gone, and behind each event that comes with its end
pub gone_by_each : (P : Components → Type 0) (o : Option LifeEvent) (k : ℕ) (s : Step) (n : ℕ) (w : Components) → P (child_gone k n w)
    → ((e : LifeEvent) → o ≡ Some e → P (lived_at k e (child_gone k n w))) → P (gone_by o k s n w)
gone_by_each P None k s n w i f = i
gone_by_each P (Some e) k s n w i f = elim (is_orphan_at k s w) as (λ (b : Bool). P (if b then child_gone k n w else lived_at k e (child_gone k n w)))
    [ true ↦ i | false ↦ f e refl ]

pub gone_by_orderly : (o : Option LifeEvent) (k : ℕ) (s : Step) (n : ℕ) (w : Components) → IsOrderly w → GoesBy o k s n w → IsOrderly (gone_by o k s n w)
gone_by_orderly o k s n w i f = gone_by_each IsOrderly o k s n w (child_gone_orderly k n w i)
    (λ e y. plain_orderly k e (child_gone k n w) (child_gone_orderly k n w i) (gone_befalls o k s n e w i y f))

pub gone_by_keeps : (d : Device) (o : Option LifeEvent) (k : ℕ) (s : Step) (n : ℕ) (w : Components) → HasNoneOwed w → IsSupervised d w → GoesBy o k s n w →
    IsSupervised d (gone_by o k s n w)
gone_by_keeps d o k s n w t i f = gone_by_each (IsSupervised d) o k s n w (child_gone_keeps d k n w i)
    (λ e y. plain_keeps d k e (child_gone k n w) (child_gone_told k n w t) (child_gone_keeps d k n w i) (gone_befalls o k s n e w (order_of d w i) y f))
