-- Whatever befalls the components keeps what is kept, also where an item is taken.
use Rattle.std.proofs.Common.{◌≡◌, ◌<◌, ℕ, List, Option, Some, None, Bool, true, false, refl, slice_get}
use Rattle.std.specs.List.{AllByRecursion}
use Rattle.std.specs.Str.{bytes_eq}
use Rattle.lifecycle.specs.Awaits.{is_stopping}
use Rattle.lifecycle.specs.declared.kinds.After.{After}
use Rattle.lifecycle.specs.declared.kinds.After.TheVariants as after
use Rattle.lifecycle.specs.declared.kinds.LifeEvent.{LifeEvent}
use Rattle.lifecycle.specs.declared.kinds.LifeEvent.TheVariants as event
use Rattle.components.specs.Components.{At, Child, ComponentState, Components, changed_at, is_again, is_gone, is_leaving, component_name}
use Rattle.components.specs.Fitted.{Fitted}
use Rattle.components.specs.Lives.{lived, lived_at, stop_in}
use Rattle.components.specs.Turns.{is_held_far, hard_needs}
use Rattle.law_supervisor.proofs.Made.{MayBefall}
use Rattle.law_supervisor.proofs.Lists.{clash}
use Rattle.law_termination.specs.Drives.{GoesOn, IsInTime, IsBelow, IsDriven, AreDriven}
use Rattle.law_termination.specs.Kept.{IsKeptPart, IsOrderedPart, newest, AreKept}
use Rattle.law_termination.proofs.Carried.{AreCarried, IsCarried, IsSource, carried_event, carried_still, carried_on, source_needs}
use Rattle.law_termination.proofs.Lists.{Has, each_has}
use Rattle.law_termination.proofs.Near.{all_prefix, all_more, all_of, at_from, at_some, has_at, same_bytes}
use Rattle.law_termination.proofs.Reorder.{newest_below, newest_there, none_needs, order, re_served}
use Rattle.law_termination.proofs.Still.{among, apart_lived, ends_lived, gone_lived, in_time_lived, needs_lived, next_hard, shown_lived, still_lived}
use Rattle.law_termination.proofs.Still.{takes_lived}
use Rattle.law_termination.proofs.Sums.{at_both, at_map}

abbrev pub any : List ℕ → Type 0
any n = Unit {0}

next_newest : (P : List ℕ → Type 0) (p : ComponentState) → AllByRecursion P (newest p).hard → AllByRecursion P (next_hard p.next)
next_newest P p a = elim p.next as (λ (o : Option (Fitted × ℕ)). (let f : Fitted = (elim o [ None ↦ p.fitted | Some n ↦ n.0 ]) in AllByRecursion P f.hard) →
    AllByRecursion P (next_hard o)) [ None ↦ λ b. tt | Some n ↦ λ b. b ] a

module _ (w : Components) (i : AreDriven w) where
  -- its stop may be given
  pub record IsFree (a : After) (p : ComponentState) : Type 0 where
    pub asked : p.stop ≡ Some a
    pub stands : p.life.gone ≡ false
    pub idle : is_stopping p.life.state ≡ false
    pub free : is_held_far (component_name p) w.parts ≡ false

  abbrev pub Free : LifeEvent → ComponentState → Type 0
  Free event.MayBegin p = Unit {0}
  Free event.Launched p = Unit {0}
  Free event.Skipped p = Unit {0}
  Free (event.Ended s x) p = Unit {0}
  Free (event.Stop after.Restart) p = Unit {0}
  Free (event.Stop after.Again) p = IsFree after.Again p
  Free (event.Stop after.Gone) p = IsFree after.Gone p
  Free event.Retry p = Unit {0}

  pub record IsReady (e : LifeEvent) (cs : ComponentState → List Child) (hs : ComponentState → Bool) (p : ComponentState) : Type 0 where
    pub may : MayBefall e (among (cs p) (hs p) p)
    pub in_time : AllByRecursion IsInTime p.children → AllByRecursion IsInTime (cs p)
    pub free : Free e p

  kept_at : (k : ℕ) (P : ComponentState → Type 0) → At k P w.parts → At k (λ p. IsKeptPart p × (IsDriven i.r w.parts p × P p)) w.parts
  kept_at k P a = at_both k w.parts IsKeptPart (λ p. IsDriven i.r w.parts p × P p) i.alone (at_both k w.parts (IsDriven i.r w.parts) P i.each a)

  plain_source : (p : ComponentState) → IsDriven i.r w.parts p → IsSource any i.r w.parts p
  plain_source p s = record { served = s; so = λ g. all_of any (hard_needs p) (λ n h. tt) }

  pub sources : AllByRecursion (IsSource any i.r w.parts) w.parts
  sources = all_of (IsSource any i.r w.parts) w.parts (λ p h. plain_source p (each_has (IsDriven i.r w.parts) p w.parts h i.each))

  -- the same order serves
  pub same_order : (v : Components) → AreKept v → AreCarried any i.r w.parts w.parts v.parts → GoesOn w v
  same_order v k a = carried_on any i.r w.parts i.s w v i.names i.ordered a k

  abbrev pub befallen : ℕ → LifeEvent → (ComponentState → List Child) → (ComponentState → Bool) → Components
  befallen k e cs hs = lived_at k e (record w { parts = changed_at k (λ p. among (cs p) (hs p) p) w.parts })

  plainly : (k : ℕ) (e : LifeEvent) (cs : ComponentState → List Child) (hs : ComponentState → Bool) → is_again (stop_in e) ≡ false →
      is_gone (stop_in e) ≡ false → At k (IsReady e cs hs) w.parts → AreKept (befallen k e cs hs) → GoesOn w (befallen k e cs hs)
  plainly k e cs hs x y a alone = same_order (befallen k e cs hs) alone (carried_event any i.r w.parts k w.moment w.steady e (λ p. among (cs p) (hs p) p)
      sources
      (at_map k w.parts (λ p. IsKeptPart p × (IsDriven i.r w.parts p × IsReady e cs hs p)) (λ p. IsCarried any i.r w.parts p (lived w.steady e (among (cs p)
      (hs p) p)))
      (λ p z. carried_still any i.r w.parts p (lived w.steady e (among (cs p) (hs p) p)) (plain_source p z.1.0) (still_lived w.steady e p (cs p) (hs p) z.0
      z.1.1.may x y z.1.1.in_time)) (kept_at k (IsReady e cs hs) a)))

  -- ---- a stop with Again, which may take an item

  module _ (k : ℕ) (cs : ComponentState → List Child) (hs : ComponentState → Bool) (v : ComponentState) (here : Has v w.parts) (there : slice_get w.parts k
      ≡ Some v) (kept : IsKeptPart v) (ready : IsReady (event.Stop after.Again) cs hs v) where
    abbrev t : List ℕ → ℕ
    t = order i.r i.s w.parts i.alone i.names i.ordered i.each v here ready.free.free

    stays : is_leaving v ≡ false
    stays = rw ready.free.stands (rw ready.free.asked (rw ready.free.idle refl))

    again_served : (p : ComponentState) → Has p w.parts → IsDriven t w.parts p
    again_served p h = re_served i.r i.s w.parts i.alone i.names i.ordered i.each v here ready.free.free p h

    newest_so : AllByRecursion (IsBelow t w.parts (component_name v)) (newest v).hard
    newest_so = newest_below i.r i.s w.parts i.alone i.names i.ordered i.each v here ready.free.free stays (newest_there i.r i.s w.parts i.alone i.names
        i.ordered i.each v here ready.free.free stays)

    source : (p : ComponentState) → Has p w.parts → IsSource any t w.parts p
    source p h = record { served = again_served p h; so = λ g. all_of any (hard_needs p) (λ n m. tt) }

    new_ordered : AllByRecursion (IsOrderedPart t i.s w.parts) w.parts
    new_ordered = all_of (IsOrderedPart t i.s w.parts) w.parts (λ p h. let o = each_has (IsOrderedPart i.r i.s w.parts) p w.parts h i.ordered in record {
      stands = λ g. all_more (IsBelow t w.parts (component_name p)) (λ n. t n < t (component_name p)) p.fitted.hard (λ n x. x.0)
          (all_prefix (IsBelow t w.parts (component_name p)) p.fitted.hard _ ((again_served p h).needs g));
      hard = o.hard;
      soft = o.soft;
      hard_there = o.hard_there;
      soft_there = o.soft_there;
    })

    again_one : AreKept (befallen k (event.Stop after.Again) cs hs) → GoesOn w (befallen k (event.Stop after.Again) cs hs)
    again_one alone =
        let q = lived w.steady (event.Stop after.Again) (among (cs v) (hs v) v) in
        let src = source v here in
        carried_on any t w.parts i.s w (befallen k (event.Stop after.Again) cs hs) i.names new_ordered (carried_event any t w.parts k w.moment w.steady
        (event.Stop after.Again) (λ p. among (cs p) (hs p) p)
        (all_of (IsSource any t w.parts) w.parts source)
        (at_from k w.parts (λ p. IsCarried any t w.parts p (lived w.steady (event.Stop after.Again) (among (cs p) (hs p) p))) v there (record {
          shown = shown_lived w.steady (event.Stop after.Again) v (cs v) (hs v) kept ready.may;
          ends = λ z e. ends_lived w.steady (event.Stop after.Again) v (cs v) (hs v) kept refl e;
          needs = λ g. needs_lived w.steady (event.Stop after.Again) v (cs v) (hs v) kept (λ n. IsBelow t w.parts (component_name v) n × any n)
              (source_needs any t w.parts v src (gone_lived w.steady (event.Stop after.Again) v (cs v) (hs v) kept g))
              (λ s. next_newest (λ n. IsBelow t w.parts (component_name v) n × any n) v (all_more (IsBelow t w.parts (component_name v))
              (λ n. IsBelow t w.parts (component_name v) n × any n) (newest v).hard (λ n x. (x, tt)) newest_so));
          apart = apart_lived w.steady (event.Stop after.Again) v (cs v) (hs v) kept ready.may src.served.apart;
          takes = takes_lived w.steady (event.Stop after.Again) v (cs v) (hs v) kept ready.may src.served.takes;
          in_time = in_time_lived w.steady (event.Stop after.Again) v (cs v) (hs v) kept ready.may ready.in_time src.served.in_time;
        }))) alone

  again : (k : ℕ) (cs : ComponentState → List Child) (hs : ComponentState → Bool) → At k (IsReady (event.Stop after.Again) cs hs) w.parts →
      AreKept (befallen k (event.Stop after.Again) cs hs) → GoesOn w (befallen k (event.Stop after.Again) cs hs)
  again k cs hs a alone =
      let x = at_some k w.parts (λ p. IsKeptPart p × (IsDriven i.r w.parts p × IsReady (event.Stop after.Again) cs hs p))
      (kept_at k (IsReady (event.Stop after.Again) cs hs) a) in
      again_one k cs hs x.0 (has_at x.0 w.parts k x.1) x.1 x.2.0 x.2.1.1 alone

  -- ---- a stop with Gone

  module _ (k : ℕ) (cs : ComponentState → List Child) (hs : ComponentState → Bool) (v : ComponentState) (here : Has v w.parts) (there : slice_get w.parts k
      ≡ Some v) (kept : IsKeptPart v) (ready : IsReady (event.Stop after.Gone) cs hs v) where
    abbrev other : List ℕ → Type 0
    other n = bytes_eq (component_name v) n ≡ false

    leaves : is_leaving v ≡ true
    leaves = rw ready.free.stands (rw ready.free.asked refl)

    gone_source : (p : ComponentState) → Has p w.parts → IsSource other i.r w.parts p
    gone_source p h = record {
      served = each_has (IsDriven i.r w.parts) p w.parts h i.each;
      so = λ g. all_of other (hard_needs p) (λ n m. none_needs i.r i.s w.parts i.alone i.names i.ordered i.each v here ready.free.free leaves p h g n m);
    }

    gone_one : AreKept (befallen k (event.Stop after.Gone) cs hs) → GoesOn w (befallen k (event.Stop after.Gone) cs hs)
    gone_one alone =
        let src = gone_source v here in
        carried_on other i.r w.parts i.s w (befallen k (event.Stop after.Gone) cs hs) i.names i.ordered (carried_event other i.r w.parts k w.moment w.steady
        (event.Stop after.Gone) (λ p. among (cs p) (hs p) p)
        (all_of (IsSource other i.r w.parts) w.parts gone_source)
        (at_from k w.parts (λ p. IsCarried other i.r w.parts p (lived w.steady (event.Stop after.Gone) (among (cs p) (hs p) p))) v there (record {
          shown = shown_lived w.steady (event.Stop after.Gone) v (cs v) (hs v) kept ready.may;
          ends = λ z e. clash (bytes_eq (component_name v) (component_name v)) (same_bytes (component_name v)) z;
          needs = λ g. needs_lived w.steady (event.Stop after.Gone) v (cs v) (hs v) kept (λ n. IsBelow i.r w.parts (component_name v) n × other n)
              (source_needs other i.r w.parts v src (gone_lived w.steady (event.Stop after.Gone) v (cs v) (hs v) kept g)) (λ s. absurd (cc));
          apart = apart_lived w.steady (event.Stop after.Gone) v (cs v) (hs v) kept ready.may src.served.apart;
          takes = takes_lived w.steady (event.Stop after.Gone) v (cs v) (hs v) kept ready.may src.served.takes;
          in_time = in_time_lived w.steady (event.Stop after.Gone) v (cs v) (hs v) kept ready.may ready.in_time src.served.in_time;
        }))) alone

  gone : (k : ℕ) (cs : ComponentState → List Child) (hs : ComponentState → Bool) → At k (IsReady (event.Stop after.Gone) cs hs) w.parts →
      AreKept (befallen k (event.Stop after.Gone) cs hs) → GoesOn w (befallen k (event.Stop after.Gone) cs hs)
  gone k cs hs a alone =
      let x = at_some k w.parts (λ p. IsKeptPart p × (IsDriven i.r w.parts p × IsReady (event.Stop after.Gone) cs hs p))
      (kept_at k (IsReady (event.Stop after.Gone) cs hs) a) in
      gone_one k cs hs x.0 (has_at x.0 w.parts k x.1) x.1 x.2.0 x.2.1.1 alone

  -- ---- any event

  pub event_on : (k : ℕ) (e : LifeEvent) (cs : ComponentState → List Child) (hs : ComponentState → Bool) → At k (IsReady e cs hs) w.parts →
      AreKept (befallen k e cs hs) → GoesOn w (befallen k e cs hs)
  event_on k event.MayBegin cs hs a alone = plainly k event.MayBegin cs hs refl refl a alone
  event_on k event.Launched cs hs a alone = plainly k event.Launched cs hs refl refl a alone
  event_on k event.Skipped cs hs a alone = plainly k event.Skipped cs hs refl refl a alone
  event_on k (event.Ended s x) cs hs a alone = plainly k (event.Ended s x) cs hs refl refl a alone
  event_on k (event.Stop after.Restart) cs hs a alone = plainly k (event.Stop after.Restart) cs hs refl refl a alone
  event_on k (event.Stop after.Again) cs hs a alone = again k cs hs a alone
  event_on k (event.Stop after.Gone) cs hs a alone = gone k cs hs a alone
  event_on k event.Retry cs hs a alone = plainly k event.Retry cs hs refl refl a alone
