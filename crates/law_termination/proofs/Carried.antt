-- What is kept goes over to components after an event, with the marks that it brings.
use Rattle.std.proofs.Common.{◌≡◌, ◌<◌, ℕ, suc, zero, List, [], ◌∷◌, length, map, Some, is_some, Bool, true, false, refl, sym, ap, ◌∙◌, inl, inr, subst}
use Rattle.std.specs.Prelude.{◌&&◌, ◌||◌, not, if◌then◌else◌, ⊤}
use Rattle.std.specs.List.{AllByRecursion, list_any}
use Rattle.std.specs.Str.{bytes_eq}
use Rattle.std.proofs.lemmas.Bool.{and_parts, and_from, or_left, or_right}
use Rattle.std.proofs.lemmas.Slice.Eq.{bytes_eq-Decides}
use Rattle.lifecycle.specs.declared.kinds.After.TheVariants as after
use Rattle.lifecycle.specs.declared.kinds.LifeEvent.{LifeEvent}
use Rattle.components.specs.Components.{At, ComponentState, Components, changed_at, is_leaving, component_name}
use Rattle.components.specs.Lives.{drops_at as drops_in, lived, lived_at}
use Rattle.components.specs.Marks.{Flagged, flagged_at, marked, may_restart, reaching, restarted}
use Rattle.components.specs.Turns.{is_met, hard_needs}
use Rattle.law_supervisor.specs.Sound.{HaveOwnNames}
use Rattle.law_supervisor.proofs.Together.{same_names}
use Rattle.components.proofs.Whole.{firsts, firsts_at, firsts_reaching}
use Rattle.law_supervisor.proofs.Lists.{twice}
use Rattle.law_termination.specs.Drives.{IsInTime, IsBelow, IsDriven, GoesOn, HasItemToTake, is_ending}
use Rattle.law_termination.specs.Kept.{IsOrderedPart, AreKept}
use Rattle.law_termination.proofs.Lists.{Has, each_has}
use Rattle.law_termination.proofs.Near.{all_prefix, all_more, or_cases}
use Rattle.law_termination.proofs.Orders.{Stands, View, still_ordered, view}
use Rattle.law_termination.proofs.Still.{IsStill, still_mark}

module _ (Q : List ℕ → Type 0) (r : List ℕ → ℕ) (ps : List ComponentState) where
  pub record IsCarried (p q : ComponentState) : Type 0 where
    pub shown : view q ≡ view p
    pub ends : Q (component_name p) → is_ending p ≡ false → is_ending q ≡ false
    pub needs : q.life.gone ≡ false → AllByRecursion (λ n. IsBelow r ps (component_name p) n × Q n) (hard_needs q)
    pub apart : (is_some q.next && is_leaving q) ≡ false
    pub takes : HasItemToTake q
    pub in_time : AllByRecursion IsInTime q.children

  abbrev pub AreCarried : List ComponentState → List ComponentState → Type 0
  AreCarried [] [] = ⊤
  AreCarried [] (q ∷ qs) = ⊥
  AreCarried (p ∷ os) [] = ⊥
  AreCarried (p ∷ os) (q ∷ qs) = IsCarried p q × AreCarried os qs

  -- one that is kept, and whose needs are all so
  pub record IsSource (p : ComponentState) : Type 0 where
    pub served : IsDriven r ps p
    pub so : p.life.gone ≡ false → AllByRecursion Q (hard_needs p)

  both_all : (n : List ℕ) (ns : List (List ℕ)) → AllByRecursion (IsBelow r ps n) ns → AllByRecursion Q ns → AllByRecursion (λ m. IsBelow r ps n m × Q m) ns
  both_all n [] a b = tt
  both_all n (m ∷ ns) a b = ((a.0, b.0), both_all n ns a.1 b.1)

  pub source_needs : (p : ComponentState) → IsSource p → p.life.gone ≡ false → AllByRecursion (λ n. IsBelow r ps (component_name p) n × Q n) (hard_needs p)
  source_needs p i g = both_all (component_name p) (hard_needs p) (i.served.needs g) (i.so g)

  pub carried_still : (p q : ComponentState) → IsSource p → IsStill p q → IsCarried p q
  carried_still p q i s = record {
    shown = s.shown;
    ends = λ t e. s.ends e;
    needs = λ g. all_more (λ n. Has n (hard_needs p)) (λ n. IsBelow r ps (component_name p) n ×
        Q n) (hard_needs q) (λ n h. each_has (λ m. IsBelow r ps (component_name p) m × Q m) n (hard_needs p) h (source_needs p i (s.gone g))) s.needs;
    apart = s.apart i.served.apart;
    takes = s.takes i.served.takes;
    in_time = s.in_time i.served.in_time;
  }

  carried_self : (p : ComponentState) → IsSource p → IsCarried p p
  carried_self p i = record {
    shown = refl;
    ends = λ t e. e;
    needs = source_needs p i;
    apart = i.served.apart;
    takes = i.served.takes;
    in_time = i.served.in_time;
  }

  pub all_self : (os : List ComponentState) → AllByRecursion IsSource os → AreCarried os os
  all_self [] a = tt
  all_self (p ∷ os) a = (carried_self p a.0, all_self os a.1)

  pub carried_changed : (k : ℕ) (g : ComponentState → ComponentState) (os : List ComponentState) → AllByRecursion IsSource os →
      At k (λ p. IsCarried p (g p)) os → AreCarried os (changed_at k g os)
  carried_changed k g [] a h = absurd h
  carried_changed zero g (p ∷ os) a h = (h, all_self os a.1)
  carried_changed (suc k) g (p ∷ os) a h = (carried_self p a.0, carried_changed k g os a.1 h)

  carried_mark : (p q : ComponentState) → may_restart q ≡ true → IsCarried p q → IsCarried p (record q { stop = Some after.Restart })
  carried_mark p q m c = let s = still_mark q m in record {
    shown = s.shown ∙ c.shown;
    ends = λ t e. c.ends t e;
    needs = c.needs;
    apart = s.apart c.apart;
    takes = s.takes c.takes;
    in_time = c.in_time;
  }

  carried_marked : (os : List ComponentState) (fs : Flagged) → AreCarried os (firsts fs) → AreCarried os (marked may_restart fs)
  carried_marked [] [] a = tt
  carried_marked [] (f ∷ fs) a = absurd a
  carried_marked (p ∷ os) [] a = absurd a
  carried_marked (p ∷ os) (f ∷ fs) a = elim (f.1 && may_restart f.0) as (λ (y : Bool). f.1 && may_restart f.0 ≡ y →
      AreCarried (p ∷ os) ((if y then record f.0 { stop = Some after.Restart } else f.0) ∷ marked may_restart fs)) [
        | true ↦ λ e. (carried_mark p f.0 (and_parts f.1 (may_restart f.0) e).1 a.0, carried_marked os fs a.1)
        | false ↦ λ e. (a.0, carried_marked os fs a.1)
      ] refl

  pub carried_event : (k m : ℕ) (b : Bool) (e : LifeEvent) (g : ComponentState → ComponentState) → AllByRecursion IsSource ps →
      At k (λ p. IsCarried p (lived b e (g p))) ps
      → AreCarried ps (lived_at k e (record { parts = changed_at k g ps; moment = m; steady = b })).parts
  carried_event k m b e g a h =
      let one : AreCarried ps (changed_at k (lived b e) (changed_at k g ps)) = subst (λ (qs : List ComponentState). AreCarried ps qs)
      (sym (twice k (lived b e) g ps)) (carried_changed k (λ p. lived b e (g p)) ps a h) in
      let back = firsts_reaching (length (flagged_at k (changed_at k (lived b e) (changed_at k g ps)))) (flagged_at k (changed_at k (lived b e)
      (changed_at k g ps))) ∙ firsts_at k (changed_at k (lived b e) (changed_at k g ps)) in
      elim (drops_in k (record { parts = changed_at k g ps; moment = m; steady = b }) e) as (λ (x : Bool). AreCarried ps (if x then restarted may_restart
      (flagged_at k (changed_at k (lived b e) (changed_at k g ps))) else changed_at k (lived b e) (changed_at k g ps))) [
        | true ↦ carried_marked ps (reaching (length (flagged_at k (changed_at k (lived b e) (changed_at k g ps)))) (flagged_at k (changed_at k (lived b e)
            (changed_at k g ps))))
            (subst (λ (qs : List ComponentState). AreCarried ps qs) (sym back) one)
        | false ↦ one
      ]

  -- ---- what is kept behind it

  name_is : (p q : ComponentState) → IsCarried p q → component_name q ≡ component_name p
  name_is p q c = ap (λ (x : View). x.0) c.shown

  pub carried_views : (os qs : List ComponentState) → AreCarried os qs → map view qs ≡ map view os
  carried_views [] [] a = refl
  carried_views [] (q ∷ qs) a = absurd a
  carried_views (p ∷ os) [] a = absurd a
  carried_views (p ∷ os) (q ∷ qs) a = ap (λ (x : View). x ∷ map view qs) a.0.shown ∙ ap (λ (xs : List View). view p ∷ xs) (carried_views os qs a.1)

  met_on : (n : List ℕ) → Q n → (os qs : List ComponentState) → AreCarried os qs → is_met (λ q. not (is_ending q)) os n ≡ true →
      is_met (λ q. not (is_ending q)) qs n ≡ true
  met_on n t [] [] a e = e
  met_on n t [] (q ∷ qs) a e = absurd a
  met_on n t (p ∷ os) [] a e = absurd a
  met_on n t (p ∷ os) (q ∷ qs) a e = elim (or_cases (bytes_eq (component_name p) n && not (is_ending p)) (is_met (λ q. not (is_ending q)) os n) e) [
    | inl x ↦ (let y = and_parts (bytes_eq (component_name p) n) (not (is_ending p)) x in
        let same = (bytes_eq-Decides (component_name p) n).0 y.0 in
        let z = a.0.ends (subst Q (sym same) t) (not_true (is_ending p) y.1) in
        or_left (bytes_eq (component_name q) n && not (is_ending q)) (is_met (λ q. not (is_ending q)) qs n)
        (and_from (bytes_eq (component_name q) n) (not (is_ending q)) (subst (λ (m : List ℕ). bytes_eq m n ≡ true) (sym (name_is p q a.0)) y.0) (rw z refl)))
    | inr x ↦ or_right (bytes_eq (component_name q) n && not (is_ending q)) (is_met (λ q. not (is_ending q)) qs n) (met_on n t os qs a.1 x)
  ]
    where
      not_true : (b : Bool) → not b ≡ true → b ≡ false
      not_true true e = absurd (cc)
      not_true false e = refl

  served_on : (new : List ComponentState) → ((n : List ℕ) → Q n → is_met (λ q. not (is_ending q)) ps n ≡ true → is_met (λ q. not (is_ending q)) new n ≡ true)
      → (os qs : List ComponentState) → AreCarried os qs → AllByRecursion (IsDriven r new) qs
  served_on new f [] [] a = tt
  served_on new f [] (q ∷ qs) a = absurd a
  served_on new f (p ∷ os) [] a = absurd a
  served_on new f (p ∷ os) (q ∷ qs) a = (
    record {
      needs = λ g. subst (λ (own : List ℕ). AllByRecursion (IsBelow r new own) (hard_needs q)) (sym (name_is p q a.0))
          (all_more (λ n. IsBelow r ps (component_name p) n × Q n) (IsBelow r new (component_name p)) (hard_needs q) (λ n x. (
            x.0.0,
            f n x.1 x.0.1,
          )) (a.0.needs g));
      apart = a.0.apart;
      takes = a.0.takes;
      in_time = a.0.in_time;
    },
    served_on new f os qs a.1,
  )

  pub names_on : (qs : List ComponentState) → AreCarried ps qs → HaveOwnNames ps → HaveOwnNames qs
  names_on qs a n = same_names ps qs (sym (of_views qs) ∙ ap (λ (vs : List View). map (λ (v : View). v.0) vs) (carried_views ps qs a) ∙ of_views ps) n
    where
      of_views : (xs : List ComponentState) → map (λ (v : View). v.0) (map view xs) ≡ map component_name xs
      of_views [] = refl
      of_views (x ∷ xs) = ap (λ (ns : List (List ℕ)). component_name x ∷ ns) (of_views xs)

  stands_all : (qs all : List ComponentState) → AllByRecursion (IsDriven r all) qs → AllByRecursion (Stands r) qs
  stands_all [] all a = tt
  stands_all (q ∷ qs) all a = (
    (λ g. all_more (IsBelow r all (component_name q)) (λ n. r n < r (component_name q)) q.fitted.hard (λ n x. x.0)
        (all_prefix (IsBelow r all (component_name q)) q.fitted.hard _ (a.0.needs g))),
    stands_all qs all a.1,
  )

  leaving_on : (os qs : List ComponentState) → AreCarried os qs → list_any is_leaving qs ≡ list_any is_leaving os
  leaving_on os qs a = sym (of_views qs) ∙ ap (λ (vs : List View). list_any (λ (v : View). v.1) vs) (carried_views os qs a) ∙ of_views os
    where
      of_views : (xs : List ComponentState) → list_any (λ (v : View). v.1) (map view xs) ≡ list_any is_leaving xs
      of_views [] = refl
      of_views (x ∷ xs) = ap (λ (b : Bool). is_leaving x || b) (of_views xs)

  pub carried_on : (s : List ℕ → ℕ) (w v : Components) → HaveOwnNames ps → AllByRecursion (IsOrderedPart r s ps) ps → AreCarried ps v.parts → AreKept v
      → GoesOn (record w { parts = ps }) v
  carried_on s w v n o a k =
      let each = served_on v.parts (λ m t e. met_on m t ps v.parts a e) ps v.parts a in
      record {
        drives = record {
          alone = k;
          names = names_on v.parts a n;
          r = r;
          s = s;
          ordered = still_ordered r s ps v.parts (carried_views ps v.parts a) (stands_all v.parts v.parts each) o;
          each = each;
        };
        stays = leaving_on ps v.parts a;
      }
