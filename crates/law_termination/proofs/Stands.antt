-- What progress says of what is kept; the end of a deployment, and the stop of all.
use Rattle.std.proofs.Common.{◌≡◌, ◌⊎◌, ◌<◌, ◌+◌, ◌^◌, ℕ, List, [], ◌∷◌, Option, Some, None, Bool, true, false, refl, sym, inl, inr, arith, subst, ap}
use Rattle.std.proofs.Common.{◌∙◌, ◌++◌, map, is_some}
use Rattle.std.specs.Prelude.{IfSome, ◌&&◌, not, if◌then◌else◌, ◌||◌, option_map}
use Rattle.std.specs.List.{list_all, AllByRecursion}
use Rattle.std.specs.Option.{IsSomeAnd}
use Rattle.std.specs.Str.{bytes_eq}
use Rattle.lifecycle.specs.Life.{IsSound, Life, MayHave}
use Rattle.lifecycle.specs.declared.kinds.After.{After}
use Rattle.lifecycle.specs.declared.kinds.After.TheVariants as after
use Rattle.lifecycle.specs.declared.kinds.State.{State}
use Rattle.components.specs.Answers.{has_answered}
use Rattle.components.specs.Changes.{Coming, all_stopped, forgetting, leaving, steadied}
use Rattle.components.specs.Components.{Child, ComponentState, Components, is_leaving, is_settled, is_stopped, is_gone, component_name, under_way, is_again}
use Rattle.components.specs.Deadlines.{child_deadline, earlier, least_deadline, least_of}
use Rattle.components.specs.Fitted.{Fitted, name_of}
use Rattle.components.specs.Turns.{IsQuiet, hard_needs, coming_needs, is_met}
use Rattle.law_supervisor.specs.Sound.{HaveOwnNames, is_to_begin_again, is_waiting}
use Rattle.law_supervisor.proofs.Alone.{bare_of}
use Rattle.law_supervisor.proofs.Together.{same_names}
use Rattle.law_supervisor.proofs.Lists.{clash, either, second_true}
use Rattle.law_termination.specs.Drives.{IsInTime, IsDriven, AreDriven, IsBelow, is_ending, HasItemToTake, GoesOn, has_failed}
use Rattle.law_termination.specs.Kept.{IsKeptPart, IsComing}
use Rattle.law_termination.specs.Time.{HasTime}
use Rattle.law_termination.proofs.Befalls.{any, same_order, sources}
use Rattle.law_termination.proofs.Carried.{AreCarried, IsSource, carried_still}
use Rattle.law_termination.proofs.Goes.{begin_goes, stop_goes}
use Rattle.law_termination.proofs.Lists.{Has}
use Rattle.law_termination.proofs.Near.{all_more, all_joined, all_prefix, all_own}
use Rattle.law_termination.proofs.Orders.{left_ordered, view}
use Rattle.law_termination.proofs.Parts.{left_keeps}
use Rattle.law_termination.proofs.Still.{IsStill, next_hard}

earlier_in_time : (a b : Option ℕ) → IfSome a (λ d. d < 2 ^ 62) → IfSome b (λ d. d < 2 ^ 62) → IfSome (earlier a b) (λ d. d < 2 ^ 62)
earlier_in_time None b x y = y
earlier_in_time (Some a) None x y = x
earlier_in_time (Some a) (Some b) x y = omega (arith, x, y)

children_in_time : (cs : List Child) → AllByRecursion IsInTime cs → IfSome (child_deadline cs) (λ d. d < 2 ^ 62)
children_in_time [] h = tt
children_in_time (c ∷ cs) h = earlier_in_time c.deadline (child_deadline cs) h.0 (children_in_time cs h.1)

least_in_time : (r : List ℕ → ℕ) (all ps : List ComponentState) → AllByRecursion (IsDriven r all) ps → IfSome (least_of ps) (λ d. d < 2 ^ 62)
least_in_time r all [] d = tt
least_in_time r all (p ∷ ps) d = earlier_in_time (child_deadline p.children) (least_of ps) (children_in_time p.children d.0.in_time) (least_in_time r all ps
    d.1)

abbrev pub Goes : Components → Type 0
Goes w = HasTime w × (w.moment + 1 < 2 ^ 62)

below : (m : ℕ) (o : Option ℕ) → IsSomeAnd o (λ d. m < d) → IfSome o (λ d. d < 2 ^ 62) → m + 1 < 2 ^ 62
below m None t i = absurd t
below m (Some d) t i = omega (arith, t, i)

in_range : (w : Components) → AreDriven w → HasTime w → Goes w
in_range w i t = (t, below w.moment (least_deadline w) t (least_in_time i.r w.parts w.parts i.each))

pub rises : (w : Components) → AreDriven w → has_answered w ≡ true → IsQuiet w → (is_settled w ≡ true) ⊎ (has_failed w ≡ true) ⊎ Goes w
rises w i a q = elim (begin_goes w i q a) [ inl x ↦ inl x | inr y ↦ elim y [ inl x ↦ inr (inl x) | inr t ↦ inr (inr (in_range w i t)) ] ]

pub leaves : (w : Components) → AreDriven w → list_all is_leaving w.parts ≡ true → has_answered w ≡ true → IsQuiet w → (is_stopped w ≡ true) ⊎ Goes w
leaves w i l a q = elim (stop_goes w i q a l) [ inl x ↦ inl x | inr t ↦ inr (in_range w i t) ]

-- ---- the end of a deployment

forgotten_next : (y : Bool) (o : Option Coming) → (let z : Option Coming = option_map (λ (n : Coming). (n.0, 0)) o in
    (if y then next_hard z else []) ≡ (if y then next_hard o else []))
forgotten_next true None = refl
forgotten_next true (Some n) = refl
forgotten_next false o = refl

abbrev none_failed : Coming → Coming
none_failed n = (n.0, 0)

forgotten_some : (o : Option Coming) → is_some (option_map none_failed o) ≡ is_some o
forgotten_some None = refl
forgotten_some (Some n) = refl

forgotten_view : (p : ComponentState) → view (forgetting p) ≡ view p
forgotten_view p = go p.next
  where
    go : (o : Option (Fitted × ℕ)) → view (record p {
      life = record p.life { failures = 0 };
      next = option_map (λ (n : Coming). (n.0, 0)) o;
    }) ≡ view (record p { next = o })
    go None = refl
    go (Some n) = refl

still_forgetting : (p : ComponentState) → IsStill p (forgetting p)
still_forgetting p = record {
  shown = forgotten_view p;
  gone = λ g. g;
  ends = λ e. e;
  needs = subst (λ (ns : List (List ℕ)). AllByRecursion (λ n. Has n (hard_needs p)) ns) (sym same) (all_own (hard_needs p));
  apart = λ a. ap (λ (y : Bool). y && is_leaving p) (forgotten_some p.next) ∙ a;
  takes = λ a. subst (λ (y : Bool). (not (is_to_begin_again p) || (y || is_gone p.stop)) ≡ true) (sym (forgotten_some p.next)) a;
  in_time = λ h. h;
}
  where
    same : hard_needs (forgetting p) ≡ hard_needs p
    same = ap (λ (ns : List (List ℕ)). p.fitted.hard ++ ns) (forgotten_next (is_again (under_way p.life)) p.next)

forgotten_carried : (r : List ℕ → ℕ) (all ps : List ComponentState) → AllByRecursion (IsSource any r all) ps → AreCarried any r all ps (map forgetting ps)
forgotten_carried r all [] a = tt
forgotten_carried r all (p ∷ ps) a = (carried_still any r all p (forgetting p) a.0 (still_forgetting p), forgotten_carried r all ps a.1)

still_sound : (c : Life) → IsSound c → IsSound (record c { failures = 0 })
still_sound c k = record { main = k.main; failures = few c.state; busy = k.busy; runs = k.runs; stop = k.stop }
  where
    few : (s : State) → MayHave s 0
    few s = grind arith

still_coming : (own : List ℕ) (o : Option (Fitted × ℕ)) → IfSome o (IsComing own) → IfSome (option_map none_failed o) (IsComing own)
still_coming own None h = tt
still_coming own (Some n) h = record { name = h.name; runnable = h.runnable; failures = omega arith }

still_keeps : (p : ComponentState) → IsKeptPart p → IsKeptPart (forgetting p)
still_keeps p k = let w = forgotten_some p.next in record {
  sound = still_sound p.life k.sound;
  steps = k.steps;
  runnable = k.runnable;
  coming = still_coming (component_name p) p.next k.coming;
  timed = k.timed;
  run = k.run;
  gone = k.gone;
  own = k.own;
  asks = k.asks;
  waits = rw w k.waits;
}

still_sound_all : (ps : List ComponentState) → AllByRecursion IsKeptPart ps → AllByRecursion IsKeptPart (map forgetting ps)
still_sound_all [] a = tt
still_sound_all (p ∷ ps) a = (still_keeps p a.0, still_sound_all ps a.1)

pub steady_on : (w : Components) → AreDriven w → GoesOn w (steadied w)
steady_on w i = same_order w i (steadied w) (still_sound_all w.parts i.alone) (forgotten_carried i.r w.parts w.parts (sources w i))

-- ---- the stop of all

pub record IsLeft (p : ComponentState) : Type 0 where
  pub life : (leaving p).life ≡ p.life
  pub fitted : (leaving p).fitted ≡ p.fitted
  pub children : (leaving p).children ≡ p.children
  pub next : p.life.gone ≡ false → (leaving p).next ≡ None

pub left_is : (p : ComponentState) → IsLeft p
left_is p = elim (either p.life.gone) [
  | inl g ↦ record { life = rw g refl; fitted = rw g refl; children = rw g refl; next = λ n. clash p.life.gone g n }
  | inr g ↦ elim (either (is_gone (under_way p.life))) [
    | inl u ↦ record { life = rw g (rw u refl); fitted = rw g (rw u refl); children = rw g (rw u refl); next = λ n. rw g (rw u refl) }
    | inr u ↦ record { life = rw g (rw u refl); fitted = rw g (rw u refl); children = rw g (rw u refl); next = λ n. rw g (rw u refl) }
  ]
]

pub left_leaves : (p : ComponentState) → is_leaving (leaving p) ≡ true
left_leaves p = grind arith

-- the same components end
met_left : (ps : List ComponentState) (n : List ℕ) → is_met (λ q. not (is_ending q)) (map leaving ps) n ≡ is_met (λ q. not (is_ending q)) ps n
met_left [] n = refl
met_left (p ∷ ps) n = let x = left_is p in
    ap (λ (y : Bool). y || is_met (λ q. not (is_ending q)) (map leaving ps) n)
    (ap (λ (f : Fitted). bytes_eq (name_of f) n && not (is_ending (leaving p))) x.fitted ∙ ap (λ (c : Life). bytes_eq (component_name p) n
    && not (c.gone || is_gone (under_way c))) x.life)
    ∙ ap (λ (y : Bool). (bytes_eq (component_name p) n && not (is_ending p)) || y) (met_left ps n)

-- one that is gone takes no item
pub gone_apart : (p : ComponentState) → IsKeptPart p → p.life.gone ≡ true → is_some (leaving p).next ≡ false
gone_apart p k g =
    let b = bare_of p k.gone g in
    let n : is_some p.next ≡ false = elim (either (is_some p.next)) [
      | inl y ↦ clash (is_again p.stop || is_again (under_way p.life)) (second_true (not (is_waiting p)) (is_again p.stop
          || is_again (under_way p.life)) k.waits (rw y refl)) (rw b.0 (rw b.1 refl))
      | inr y ↦ y
    ] in rw g n

pub left_takes : (p : ComponentState) → HasItemToTake p → HasItemToTake (leaving p)
left_takes p a = go p.life.gone (is_gone (under_way p.life)) refl
  where
    no_again : (way : Option After) → is_gone way ≡ true → is_again way ≡ false
    no_again way e = grind (arith, e)

    or_true : (x : Bool) → (x || true) ≡ true
    or_true true = refl
    or_true false = refl

    go : (g u : Bool) → is_gone (under_way p.life) ≡ u → HasItemToTake (if g then p else (if u then record p {
      stop = None;
      next = None;
    } else record p { stop = Some after.Gone; next = None }))
    go true u e = a
    go false true e = rw (no_again (under_way p.life) e) refl
    go false false e = or_true (not (is_again (under_way p.life)))

left_served : (r : List ℕ → ℕ) (all ps : List ComponentState) → AllByRecursion IsKeptPart ps → AllByRecursion (IsDriven r all) ps →
    AllByRecursion (IsDriven r (map leaving all)) (map leaving ps)
left_served r all [] k a = tt
left_served r all (p ∷ ps) k a = (one, left_served r all ps k.1 a.1)
  where
    x : IsLeft p
    x = left_is p

    needed : p.life.gone ≡ false → AllByRecursion (IsBelow r (map leaving all) (component_name p)) (hard_needs p)
    needed g = all_more (IsBelow r all (component_name p)) (IsBelow r (map leaving all) (component_name p)) (hard_needs p) (λ n y. (
      y.0,
      met_left all n
          ∙ y.1,
    )) (a.0.needs g)

    none_taken : (y : Bool) (o : Option Coming) → o ≡ None → (if y then next_hard o else []) ≡ []
    none_taken true o e = ap next_hard e
    none_taken false o e = refl

    pulled : p.life.gone ≡ false → AllByRecursion (IsBelow r (map leaving all) (component_name p)) (hard_needs (leaving p))
    pulled g = all_joined (IsBelow r (map leaving all) (component_name p)) (leaving p).fitted.hard (coming_needs (leaving p))
        (subst (λ (f : Fitted). AllByRecursion (IsBelow r (map leaving all) (component_name p)) f.hard) (sym x.fitted)
        (all_prefix (IsBelow r (map leaving all) (component_name p)) p.fitted.hard (coming_needs p) (needed g)))
        (subst (λ (ns : List (List ℕ)). AllByRecursion (IsBelow r (map leaving all) (component_name p)) ns)
        (sym (none_taken (is_again (under_way (leaving p).life)) (leaving p).next (x.next g))) tt)

    apart : is_some (leaving p).next ≡ false
    apart = elim (either p.life.gone) [ inl g ↦ gone_apart p k.0 g | inr g ↦ ap (λ (o : Option Coming). is_some o) (x.next g) ]

    one : IsDriven r (map leaving all) (leaving p)
    one = record {
      needs = λ g. subst (λ (f : Fitted). AllByRecursion (IsBelow r (map leaving all) (name_of f)) (hard_needs (leaving p))) (sym x.fitted)
          (pulled (sym (ap (λ (c : Life). c.gone) x.life) ∙ g));
      apart = rw apart refl;
      takes = left_takes p a.0.takes;
      in_time = subst (λ (cs : List Child). AllByRecursion IsInTime cs) (sym x.children) a.0.in_time;
    }

left_all : (ps : List ComponentState) → AllByRecursion IsKeptPart ps → AllByRecursion IsKeptPart (map leaving ps)
left_all [] a = tt
left_all (p ∷ ps) a = (left_keeps p a.0, left_all ps a.1)

left_names : (ps : List ComponentState) → HaveOwnNames ps → HaveOwnNames (map leaving ps)
left_names ps n = same_names ps (map leaving ps) (names ps) n
  where
    names : (qs : List ComponentState) → map component_name (map leaving qs) ≡ map component_name qs
    names [] = refl
    names (q ∷ qs) = ap (λ (f : Fitted). name_of f ∷ map component_name (map leaving qs)) (left_is q).fitted
        ∙ ap (λ (ns : List (List ℕ)). component_name q ∷ ns) (names qs)

pub stop_drives : (w : Components) → AreDriven w → AreDriven (all_stopped w)
stop_drives w i = record {
  alone = left_all w.parts i.alone;
  names = left_names w.parts i.names;
  r = i.r;
  s = i.s;
  ordered = left_ordered i.r i.s w.parts w.parts i.ordered (map leaving w.parts);
  each = left_served i.r w.parts w.parts i.alone i.each;
}
