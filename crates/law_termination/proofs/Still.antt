-- What an event makes of what a component needs, and of its end.
use Rattle.std.proofs.Common.{◌≡◌, ℕ, List, [], Option, Some, None, is_some, Bool, true, false, refl, sym, ap, ◌∙◌, inl, inr, arith, subst}
use Rattle.std.specs.Prelude.{◌&&◌, ◌||◌, not, if◌then◌else◌, IfSome}
use Rattle.std.specs.List.{AllByRecursion}
use Rattle.lifecycle.specs.Awaits.{is_stopping}
use Rattle.lifecycle.specs.Life.{Life, IsSound}
use Rattle.lifecycle.specs.Table.{table}
use Rattle.lifecycle.specs.declared.kinds.After.{After}
use Rattle.lifecycle.specs.declared.kinds.After.TheVariants as after
use Rattle.lifecycle.specs.declared.kinds.LifeAct.{LifeAct}
use Rattle.lifecycle.specs.declared.kinds.LifeAct.TheVariants as act
use Rattle.lifecycle.specs.declared.kinds.LifeEvent.{LifeEvent}
use Rattle.lifecycle.specs.declared.kinds.LifeEvent.TheVariants as event
use Rattle.lifecycle.specs.declared.kinds.State.{State}
use Rattle.components.specs.Components.{Child, ComponentState, is_again, is_gone, is_leaving, is_spared, component_name, under_way}
use Rattle.components.specs.Fitted.{Fitted, name_of, steps_of}
use Rattle.components.specs.Lives.{after_row, completed, lived, replaced, stop_in, succeeds, with_failure_owed, with_failures_forgotten, with_new_item}
use Rattle.components.specs.Lives.{with_stop_given}
use Rattle.components.specs.Marks.{may_restart}
use Rattle.components.specs.Turns.{hard_needs, coming_needs}
use Rattle.law_supervisor.specs.Sound.{may_ask}
use Rattle.law_supervisor.proofs.KeptTakes.{takes_at}
use Rattle.law_supervisor.proofs.Made.{MayBefall}
use Rattle.law_supervisor.proofs.Items.{by_lived, lived_gone}
use Rattle.law_supervisor.proofs.Reached.{idle_of, may_replan_of}
use Rattle.law_supervisor.proofs.Lists.{clash, either}
use Rattle.law_supervisor.proofs.Alone.{standing}
use Rattle.law_termination.specs.Drives.{IsInTime, HasItemToTake, is_ending}
use Rattle.law_termination.specs.Kept.{IsComing, IsKeptPart, newest}
use Rattle.law_termination.proofs.Keeps.{lived_leaving}
use Rattle.law_termination.proofs.Lists.{Has}
use Rattle.law_termination.proofs.Near.{all_back, all_prefix, all_joined, all_own}
use Rattle.law_termination.proofs.Orders.{view}

-- ---- rows of the table

way_kept : (c : Life) (e : LifeEvent) → IsSound c → IfSome (table c e) (λ r. (is_again (stop_in e)
    || (not (is_again (under_way r.1)) || is_again (under_way c))) ≡ true)
way_kept c e sound = grind (arith, sound)

end_kept : (c : Life) (e : LifeEvent) → IsSound c → IfSome (table c e) (λ r. (is_gone (stop_in e)
    || (not (r.1.gone || is_gone (under_way r.1)) || is_gone (under_way c))) ≡ true)
end_kept c e sound = grind (arith, sound)

by_ends : (sd sc : Bool) (w si : Option After) → is_again (if sd then None else (if sc then w else si)) ≡ true → is_again si ≡ false →
    is_again (if sc then w else None) ≡ true
by_ends true sc w si x n = absurd (cc)
by_ends false true w si x n = x
by_ends false false w si x n = clash (is_again si) x n

completes : (e : LifeEvent) (c d : Life) → is_again (completed e c d) ≡ true → is_again (stop_in e) ≡ false → is_again (under_way c) ≡ true
completes e c d = by_ends (is_stopping d.state) (is_stopping c.state) c.stop (stop_in e)

-- ---- what is put right after a row leaves the item and the state

record IsAsRow (p : ComponentState) (d : Life) (x : ComponentState) : Type 0 where
  fitted : x.fitted ≡ p.fitted
  next : x.next ≡ p.next
  state : x.life.state ≡ d.state
  stop : x.life.stop ≡ d.stop
  gone : x.life.gone ≡ d.gone

as_forgotten : (p : ComponentState) (d c : Life) (b : Bool) (x : ComponentState) → IsAsRow p d x → IsAsRow p d (with_failures_forgotten b c x)
as_forgotten p d c b x i = elim (b && succeeds c x.life) as (λ (y : Bool). IsAsRow p d (if y then record x { life = record x.life { failures = 0 } } else x))
    [ true ↦ record { fitted = i.fitted; next = i.next; state = i.state; stop = i.stop; gone = i.gone } | false ↦ i ]

as_owed : (p : ComponentState) (d : Life) (a : LifeAct) (x : ComponentState) → IsAsRow p d x → IsAsRow p d (with_failure_owed a x)
as_owed p d act.Nothing x i = i
as_owed p d (act.Begin s) x i = i
as_owed p d act.Kill x i = i
as_owed p d (act.Failed s e) x i = elim (is_spared x) as (λ (y : Bool). IsAsRow p d (if y then x else record x { owed = Some (s, e) }))
    [ true ↦ i | false ↦ record { fitted = i.fitted; next = i.next; state = i.state; stop = i.stop; gone = i.gone } ]
as_owed p d (act.Broke s e) x i = elim (is_spared x) as (λ (y : Bool). IsAsRow p d (if y then x else record x { owed = Some (s, e) }))
    [ true ↦ i | false ↦ record { fitted = i.fitted; next = i.next; state = i.state; stop = i.stop; gone = i.gone } ]

as_given : (p : ComponentState) (d : Life) (e : LifeEvent) (x : ComponentState) → IsAsRow p d x → IsAsRow p d (with_stop_given e x)
as_given p d event.MayBegin x i = i
as_given p d event.Launched x i = i
as_given p d event.Skipped x i = i
as_given p d (event.Ended s y) x i = i
as_given p d (event.Stop a) x i = record { fitted = i.fitted; next = i.next; state = i.state; stop = i.stop; gone = i.gone }
as_given p d event.Retry x i = i

abbrev put_right : Bool → LifeEvent → ComponentState → LifeAct × Life → ComponentState
put_right b e p r = with_stop_given e (with_failure_owed r.0 (with_failures_forgotten b p.life (after_row r.1 p)))

as_row : (b : Bool) (e : LifeEvent) (p : ComponentState) (r : LifeAct × Life) → IsAsRow p r.1 (put_right b e p r)
as_row b e p r = as_given p r.1 e (with_failure_owed r.0 (with_failures_forgotten b p.life (after_row r.1 p)))
    (as_owed p r.1 r.0 (with_failures_forgotten b p.life (after_row r.1 p))
    (as_forgotten p r.1 p.life b (after_row r.1 p) (record { fitted = refl; next = refl; state = refl; stop = refl; gone = refl })))

way_of : (p : ComponentState) (d : Life) (x : ComponentState) → IsAsRow p d x → under_way x.life ≡ under_way d
way_of p d x i = subst (λ (s : State). (if is_stopping s then x.life.stop else None) ≡ under_way d) (sym i.state) (ap (λ (o : Option After). if is_stopping
    d.state then o else None) i.stop)

-- the item that it takes, if one waits
taken_pulls : (P : List ℕ → Type 0) (x : ComponentState) → AllByRecursion P x.fitted.hard →
    AllByRecursion P (elim x.next [ None ↦ [] | Some n ↦ n.0.hard ]) → AllByRecursion P (hard_needs (replaced x))
taken_pulls P x a b = elim x.next as (λ (o : Option (Fitted × ℕ)). x.next ≡ o → AllByRecursion P (elim o [ None ↦ [] | Some n ↦ n.0.hard ]) →
    AllByRecursion P (hard_needs (elim o [
      | None ↦ x
      | Some n ↦ record x {
        fitted = n.0;
        life = record x.life { steps = steps_of n.0; failures = n.1 };
        next = None;
      }
    ]))) [
      | None ↦ λ e c. all_joined P x.fitted.hard (coming_needs x) a (none_taken (is_again (under_way x.life)) e)
      | Some n ↦ λ e c. all_joined P n.0.hard (coming_needs (record x {
        fitted = n.0;
        life = record x.life { steps = steps_of n.0; failures = n.1 };
        next = None;
      })) c (nothing (is_again (under_way (record x.life { steps = steps_of n.0; failures = n.1 }))))
    ] refl b
  where
    none_taken : (y : Bool) → x.next ≡ None → AllByRecursion P (if y then elim x.next [ None ↦ [] | Some n ↦ n.0.hard ] else [])
    none_taken true e = subst (λ (o : Option (Fitted × ℕ)). AllByRecursion P (elim o [ None ↦ [] | Some n ↦ n.0.hard ])) (sym e) tt
    none_taken false e = tt

    nothing : (y : Bool) → AllByRecursion P (if y then [] else [])
    nothing true = tt
    nothing false = tt

-- ---- an event

-- with other children, and a start that is answered
abbrev pub among : List Child → Bool → ComponentState → ComponentState
among cs h p = record p { children = cs; handed = h }

pub record IsStill (p q : ComponentState) : Type 0 where
  pub shown : view q ≡ view p
  pub gone : q.life.gone ≡ false → p.life.gone ≡ false
  pub ends : is_ending p ≡ false → is_ending q ≡ false
  pub needs : AllByRecursion (λ n. Has n (hard_needs p)) (hard_needs q)
  pub apart : (is_some p.next && is_leaving p) ≡ false → (is_some q.next && is_leaving q) ≡ false
  pub takes : HasItemToTake p → HasItemToTake q
  pub in_time : AllByRecursion IsInTime p.children → AllByRecursion IsInTime q.children

pub still_mark : (p : ComponentState) → may_restart p ≡ true → IsStill p (record p { stop = Some after.Restart })
still_mark p m = let i = idle_of p (may_replan_of p m) in record {
  shown = rw i.0 refl;
  gone = λ g. g;
  ends = λ e. e;
  needs = all_own (hard_needs p);
  apart = λ a. ap (λ (l : Bool). is_some p.next && l) (let z : is_leaving (record p { stop = Some after.Restart }) ≡ is_leaving p = rw i.0 refl in z) ∙ a;
  takes = λ a. rw i.1 refl;
  in_time = λ a. a;
}

abbrev pub next_hard : Option (Fitted × ℕ) → List (List ℕ)
next_hard o = elim o [ None ↦ [] | Some n ↦ n.0.hard ]

is_taking : (p : ComponentState) → is_again (under_way p.life) ≡ true → coming_needs p ≡ next_hard p.next
is_taking p e = rw e refl

module _ (b : Bool) (e : LifeEvent) (p : ComponentState) (cs : List Child) (h : Bool) (k : IsKeptPart p) where
  module _ (P : List ℕ → Type 0) (a : AllByRecursion P (hard_needs p)) (more : is_again (stop_in e) ≡ true → AllByRecursion P (next_hard p.next)) where
    from_way : is_again (under_way p.life) ≡ true → AllByRecursion P (next_hard p.next)
    from_way y = subst (λ (ns : List (List ℕ)). AllByRecursion P ns) (is_taking p y) (all_back P p.fitted.hard (coming_needs p) a)

    by_fact : (s l m : Bool) → (s ≡ true → AllByRecursion P (next_hard p.next)) → (m ≡ true → AllByRecursion P (next_hard p.next)) → l ≡ true →
        (s || (not l || m)) ≡ true → AllByRecursion P (next_hard p.next)
    by_fact true l m f g x y = f refl
    by_fact false true true f g x y = g refl
    by_fact false true false f g x y = absurd (cc)
    by_fact false false m f g x y = absurd (cc)

    -- the row, and what is put right after it
    by_row : (r : LifeAct × Life) → (is_again (stop_in e) || (not (is_again (under_way r.1)) || is_again (under_way p.life))) ≡ true
        → AllByRecursion P (hard_needs (with_new_item e p.life (put_right b e (among cs h p) r)))
    by_row r f =
        let x = put_right b e (among cs h p) r in
        let i = as_row b e (among cs h p) r in
        let hard : AllByRecursion P x.fitted.hard = subst (λ (z : Fitted). AllByRecursion P z.hard) (sym i.fitted) (all_prefix P p.fitted.hard
        (coming_needs p) a) in
        elim (is_again (completed e p.life x.life)) as (λ (y : Bool). is_again (completed e p.life x.life) ≡ y →
        AllByRecursion P (hard_needs (if y then replaced x else x))) [
          | true ↦ λ y. taken_pulls P x hard (subst (λ (o : Option (Fitted × ℕ)). AllByRecursion P (next_hard o)) (sym i.next)
              (elim (either (is_again (stop_in e))) [ inl s ↦ more s | inr s ↦ from_way (completes e p.life x.life y s) ]))
          | false ↦ λ y. all_joined P x.fitted.hard (coming_needs x) hard (elim (is_again (under_way x.life)) as (λ (z : Bool). is_again (under_way x.life)
              ≡ z → AllByRecursion P (if z then next_hard x.next else [])) [
                | true ↦ λ z. subst (λ (o : Option (Fitted × ℕ)). AllByRecursion P (next_hard o)) (sym i.next)
                    (by_fact (is_again (stop_in e)) (is_again (under_way r.1)) (is_again (under_way p.life)) more from_way
                    (sym (ap is_again (way_of (among cs h p) r.1 x i)) ∙ z) f)
                | false ↦ λ z. tt
              ] refl)
        ] refl

    pub needs_lived : AllByRecursion P (hard_needs (lived b e (among cs h p)))
    needs_lived = go (table p.life e) (way_kept p.life e k.sound)
      where
        go : (o : Option (LifeAct × Life)) → IfSome o (λ r. (is_again (stop_in e) || (not (is_again (under_way r.1)) || is_again (under_way p.life))) ≡ true)
            → AllByRecursion P (hard_needs (elim o [ None ↦ among cs h p | Some r ↦ with_new_item e p.life (put_right b e (among cs h p) r) ]))
        go None f = a
        go (Some r) f = by_row r f

  replaced_end : (x : ComponentState) → is_ending (replaced x) ≡ is_ending x
  replaced_end x = elim x.next as (λ (o : Option (Fitted × ℕ)). is_ending (elim o [
    | None ↦ x
    | Some n ↦ record x {
      fitted = n.0;
      life = record x.life { steps = steps_of n.0; failures = n.1 };
      next = None;
    }
  ]) ≡ is_ending x) [ None ↦ refl | Some n ↦ refl ]

  no_end : (s l m : Bool) → (s || (not l || m)) ≡ true → s ≡ false → m ≡ false → l ≡ false
  no_end true l m f x y = absurd (cc)
  no_end false true true f x y = absurd (cc)
  no_end false true false f x y = absurd (cc)
  no_end false false m f x y = refl

  second_no : (x y : Bool) → (x || y) ≡ false → y ≡ false
  second_no true y e = absurd (cc)
  second_no false y e = e

  pub ends_lived : is_gone (stop_in e) ≡ false → is_ending p ≡ false → is_ending (lived b e (among cs h p)) ≡ false
  ends_lived s n = go (table p.life e) (end_kept p.life e k.sound)
    where
      go : (o : Option (LifeAct × Life)) → IfSome o (λ r. (is_gone (stop_in e) || (not (r.1.gone || is_gone (under_way r.1))
          || is_gone (under_way p.life))) ≡ true)
          → is_ending (elim o [ None ↦ among cs h p | Some r ↦ with_new_item e p.life (put_right b e (among cs h p) r) ]) ≡ false
      go None f = n
      go (Some r) f =
          let x = put_right b e (among cs h p) r in
          let i = as_row b e (among cs h p) r in
          let z : (r.1.gone || is_gone (under_way r.1)) ≡ false = no_end (is_gone (stop_in e)) (r.1.gone
          || is_gone (under_way r.1)) (is_gone (under_way p.life)) f s (second_no p.life.gone (is_gone (under_way p.life)) n) in
          let y : is_ending x ≡ false = ap (λ (g : Bool). g || is_gone (under_way x.life)) i.gone
          ∙ ap (λ (o : Option After). r.1.gone || is_gone o) (way_of (among cs h p) r.1 x i) ∙ z in
          elim (is_again (completed e p.life x.life)) as (λ (q : Bool). is_ending (if q then replaced x else x) ≡ false) [
            | true ↦ replaced_end x
                ∙ y
            | false ↦ y
          ]

  pub gone_lived : (lived b e (among cs h p)).life.gone ≡ false → p.life.gone ≡ false
  gone_lived g = elim (either p.life.gone) [
    | inr n ↦ n
    | inl y ↦ clash p.life.gone y (sym (ap (λ (q : ComponentState). q.life.gone) (lived_gone b e
        (among cs h p) y)) ∙ g)
  ]

  module _ (m : MayBefall e (among cs h p)) where
    pub leaving_lived : is_leaving (lived b e (among cs h p)) ≡ is_leaving p
    leaving_lived = lived_leaving b e (among cs h p) k.sound k.asks m

    pub shown_lived : view (lived b e (among cs h p)) ≡ view p
    shown_lived =
        let q = lived b e (among cs h p) in
        let x = by_lived (λ f nx st ds. (name_of f ≡ component_name p) × ((elim nx [ None ↦ f | Some n ↦ n.0 ]) ≡ newest p)) b e (among cs h p) (
          (refl, refl),
          λ n y. (
            (let c : IsComing (component_name p) n = subst (λ (o : Option (Fitted × ℕ)). IfSome o (IsComing (component_name p))) y
                k.coming in c.name),
            sym (ap (λ (o : Option (Fitted × ℕ)). elim o [ None ↦ p.fitted | Some z ↦ z.0 ]) y),
          ),
        ) in
        ap (λ (n : List ℕ). (n, is_leaving q, newest q)) x.0 ∙ ap (λ (l : Bool). (component_name p, l, newest q)) leaving_lived
        ∙ ap (λ (f : Fitted). (component_name p, is_leaving p, f)) x.1

    pub apart_lived : (is_some p.next && is_leaving p) ≡ false → (is_some (lived b e (among cs h p)).next && is_leaving (lived b e (among cs h p))) ≡ false
    apart_lived a =
        let x = by_lived (λ f nx st ds. (is_some nx && is_leaving p) ≡ false) b e (among cs h p) (a, λ n y. refl) in
        ap (λ (l : Bool). is_some (lived b e (among cs h p)).next && l) leaving_lived ∙ x

    pub takes_lived : HasItemToTake p → HasItemToTake (lived b e (among cs h p))
    takes_lived a = elim (either p.life.gone) [
      | inl g ↦ subst HasItemToTake (sym (lived_gone b e (among cs h p) g)) a
      | inr g ↦ standing (λ x. may_ask (under_way x.life) x.stop ≡ true → MayBefall e x → HasItemToTake x → HasItemToTake (lived b e x)) (among cs h p) g
          (takes_at p.fitted p.life.steps p.life.failures p.life.busy p.life.runs p.life.install_failed p.life.stop cs h p.owed p.stop p.next p.life.state e
          b) k.asks m a
    ]

    pub in_time_lived : (AllByRecursion IsInTime p.children → AllByRecursion IsInTime cs) → AllByRecursion IsInTime p.children →
        AllByRecursion IsInTime (lived b e (among cs h p)).children
    in_time_lived f a = let x = by_lived (λ g nx st ds. ds ≡ cs) b e (among cs h p) (refl, λ n y. refl) in
        subst (λ (ds : List Child). AllByRecursion IsInTime ds) (sym x) (f a)

    -- any event but a stop with Again or Gone
    pub still_lived : is_again (stop_in e) ≡ false → is_gone (stop_in e) ≡ false → (AllByRecursion IsInTime p.children → AllByRecursion IsInTime cs) →
        IsStill p (lived b e (among cs h p))
    still_lived n g f = record {
      shown = shown_lived;
      gone = gone_lived;
      ends = ends_lived g;
      needs = needs_lived (λ n. Has n (hard_needs p)) (all_own (hard_needs p)) (λ s. clash (is_again (stop_in e)) s n);
      apart = apart_lived;
      takes = takes_lived;
      in_time = in_time_lived f;
    }
