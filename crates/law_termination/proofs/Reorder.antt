-- Where nobody that reaches a component is to be stopped, its newest item may be put below it.
use Rattle.std.proofs.Common.{◌≡◌, ◌<◌, ◌≤◌, ◌+◌, ℕ, List, [], ◌∷◌, ◌++◌, length, map, Option, Some, None, Bool, true, false, refl, sym, ap, ◌∙◌, inl, inr}
use Rattle.std.proofs.Common.{arith, subst, is_some}
use Rattle.std.specs.Prelude.{◌&&◌, ◌||◌, not, if◌then◌else◌}
use Rattle.std.specs.List.{list_any, AllByRecursion}
use Rattle.std.specs.Str.{bytes_eq}
use Rattle.std.proofs.lemmas.Bool.{and_parts, or_left, or_right, or_parts, and_from}
use Rattle.std.proofs.lemmas.Slice.Eq.{bytes_eq-Decides}
use Rattle.lifecycle.specs.Awaits.{is_stopping}
use Rattle.components.specs.Components.{ComponentState, has_orphan, is_again, is_gone, is_leaving, is_to_stop, component_name, under_way}
use Rattle.components.specs.Fitted.{Fitted}
use Rattle.components.specs.Marks.{Flagged, grown, is_flagged}
use Rattle.components.specs.Turns.{is_met, with_hard_needs, is_held_far, direct_dependents, hard_needs, dependents, coming_needs}
use Rattle.components.proofs.Closes.{closes, most}
use Rattle.law_supervisor.specs.Sound.{HaveOwnNames, is_waiting}
use Rattle.law_supervisor.proofs.Lists.{clash, either, none_of, second_true}
use Rattle.components.proofs.Whole.{firsts_flagged, firsts, firsts_reaching}
use Rattle.law_termination.specs.Drives.{IsBelow, IsDriven, is_ending}
use Rattle.law_termination.specs.Kept.{AllBelow, IsKeptPart, IsOrderedPart, are_there, newest}
use Rattle.law_termination.proofs.Lists.{Has, all_has, each_has, has_any, passing}
use Rattle.law_termination.proofs.Near.{all_of, any_name, closed_flags, flag_within, flagged_more, flagged_one, flagged_so, mapped, needs_has}
use Rattle.law_termination.proofs.Near.{of_mapped, one_flag, one_named, or_cases, same_bytes, with_none}

-- ---- one that is not to be stopped

pub record IsRested (p : ComponentState) : Type 0 where
  pub next : p.next ≡ None
  pub newest_is : newest p ≡ p.fitted
  pub pulls_are : hard_needs p ≡ p.fitted.hard
  pub stays : p.life.gone ≡ false → is_leaving p ≡ false

pub rested : (p : ComponentState) → IsKeptPart p → is_to_stop p ≡ false → IsRested p
rested p k e =
    let a = or_parts (is_some p.stop) (is_stopping p.life.state || has_orphan p) e in
    let s = none_of p.stop a.0 in
    let g = (or_parts (is_stopping p.life.state) (has_orphan p) a.1).0 in
    let n = no_next s g in
    record {
      next = n;
      newest_is = ap (λ (o : Option (Fitted × ℕ)). elim o [ None ↦ p.fitted | Some z ↦ z.0 ]) n;
      pulls_are = ap (λ (t : List (List ℕ)). p.fitted.hard ++ t) (no_taking g) ∙ with_none p.fitted.hard;
      stays = λ l. rw l (rw s (rw g refl));
    }
  where
    no_next : p.stop ≡ None → is_stopping p.life.state ≡ false → p.next ≡ None
    no_next s g = elim (either (is_some p.next)) [
      | inl y ↦ clash (is_again p.stop || is_again (under_way p.life)) (second_true (not (is_waiting p)) (is_again p.stop
          || is_again (under_way p.life)) k.waits (rw y refl)) (rw s (rw g refl))
      | inr y ↦ none_of p.next y
    ]

    no_taking : is_stopping p.life.state ≡ false → coming_needs p ≡ []
    no_taking g = rw g refl

-- ---- bounds

abbrev bound : (List ℕ → ℕ) → List (List ℕ) → ℕ
bound r [] = 0
bound r (n ∷ ns) = r n + bound r ns

in_bound : (r : List ℕ → ℕ) (n : List ℕ) (ns : List (List ℕ)) → Has n ns → r n ≤ bound r ns
in_bound r n [] h = absurd h
in_bound r n (m ∷ ms) (inl e) = let x = ap r e in omega (arith, x)
in_bound r n (m ∷ ms) (inr h) = let i = in_bound r n ms h in omega (arith, i)

abbrev bound_all : (List ℕ → ℕ) → List ComponentState → ℕ
bound_all r [] = 0
bound_all r (p ∷ ps) = bound r (hard_needs p) + bound_all r ps

in_bound_all : (r : List ℕ → ℕ) (n : List ℕ) (p : ComponentState) (ps : List ComponentState) → Has p ps → Has n (hard_needs p) → r n ≤ bound_all r ps
in_bound_all r n p [] h i = absurd h
in_bound_all r n p (q ∷ ps) (inl e) i = let x = in_bound r n (hard_needs q) (subst (λ (z : ComponentState). Has n (hard_needs z)) e i) in omega (arith, x)
in_bound_all r n p (q ∷ ps) (inr h) i = let x = in_bound_all r n p ps h i in omega (arith, x)

module _ (r s : List ℕ → ℕ) (ps : List ComponentState) (kept : AllByRecursion IsKeptPart ps) (names : HaveOwnNames ps) (ordered : AllByRecursion
    (IsOrderedPart r s ps) ps) (each : AllByRecursion (IsDriven r ps) ps)
    (v : ComponentState) (here : Has v ps) (free : is_held_far (component_name v) ps ≡ false) where
  own : List ℕ
  own = component_name v

  abbrev flags : Flagged
  flags = dependents (component_name v) ps

  abbrev first : Flagged
  first = direct_dependents (component_name v) ps

  closed : grown flags flags ≡ flags
  closed = closes first

  same_firsts : firsts flags ≡ map with_hard_needs ps
  same_firsts = firsts_reaching (length first) first ∙ firsts_flagged (λ q. list_any (bytes_eq (component_name v)) q.fitted.hard) (map with_hard_needs ps)

  abbrev inside : List ℕ → Bool
  inside n = bytes_eq (component_name v) n || is_flagged n flags

  -- whoever needs one that reaches it, reaches it
  pub reaches : (p : ComponentState) → Has p ps → (n : List ℕ) → Has n (hard_needs p) → inside n ≡ true → is_flagged (component_name p) flags ≡ true
  reaches p h n m e = elim (or_cases (bytes_eq (component_name v) n) (is_flagged n flags) e) [
    | inl b ↦ flagged_more (component_name p) first flags (most (length first) first)
        (flagged_so (λ q. list_any (bytes_eq (component_name v)) q.fitted.hard) (map with_hard_needs ps) (with_hard_needs p) (mapped with_hard_needs p ps h)
        (any_name (component_name v) (hard_needs p) (subst (λ (z : List ℕ). Has z (hard_needs p)) (sym ((bytes_eq-Decides (component_name v) n).0 b)) m)))
    | inr b ↦ closed_flags flags flags (with_hard_needs p) closed (flag_within (with_hard_needs p) first flags (most (length first) first) (flagged_one
        (λ q. list_any (bytes_eq (component_name v)) q.fitted.hard) (map with_hard_needs ps) (with_hard_needs p) (mapped with_hard_needs p ps h)))
        (needs_has n (hard_needs p) flags m b)
  ]

  -- and is not to be stopped
  pub is_rested : (p : ComponentState) → Has p ps → is_flagged (component_name p) flags ≡ true → IsRested p
  is_rested p h e =
      let o = one_flag is_to_stop (component_name p) flags e free in
      let m = of_mapped with_hard_needs o.one ps (subst (λ (qs : List ComponentState). Has o.one qs) same_firsts o.here) in
      let same = one_named ps names m.0 p m.1 h (sym (ap component_name m.2) ∙ o.name) in
      let stop : is_to_stop p ≡ false = subst (λ (z : ComponentState). is_to_stop z ≡ false) same (subst (λ (z : ComponentState). is_to_stop z ≡ false) m.2
      o.fails) in
      rested p (each_has IsKeptPart p ps h kept) stop

  abbrev big : ℕ
  big = 1 + bound_all r ps + bound r (newest v).hard

  abbrev pub order : List ℕ → ℕ
  order n = if inside n then big + s n else r n

  pub order_of : (p : ComponentState) → Has p ps → IsOrderedPart r s ps p
  order_of p h = each_has (IsOrderedPart r s ps) p ps h ordered

  pub served : (p : ComponentState) → Has p ps → IsDriven r ps p
  served p h = each_has (IsDriven r ps) p ps h each

  at_inside : (n : List ℕ) → inside n ≡ true → order n ≡ big + s n
  at_inside n e = rw e refl

  at_outside : (n : List ℕ) → inside n ≡ false → order n ≡ r n
  at_outside n e = rw e refl

  below_one : (p : ComponentState) → Has p ps → p.life.gone ≡ false → (n : List ℕ) → Has n (hard_needs p) → order n < order (component_name p)
  below_one p h g n m =
      let old : r n < r (component_name p) = (each_has (IsBelow r ps (component_name p)) n (hard_needs p) m ((served p h).needs g)).0 in
      elim (either (inside n)) [
        | inl i ↦ (let f = reaches p h n m i in
            let q = is_rested p h f in
            let j : inside (component_name p) ≡ true = or_right (bytes_eq (component_name v) (component_name p)) (is_flagged (component_name p) flags) f in
            let b : AllBelow s (s (component_name p)) p.fitted.hard = subst (λ (z : Fitted). AllBelow s (s (component_name p)) z.hard) q.newest_is
            ((order_of p h).hard (q.stays g)) in
            let c : s n < s (component_name p) = each_has (λ z. s z < s (component_name p)) n p.fitted.hard (subst (λ (ns : List (List ℕ)). Has n ns)
            q.pulls_are m) b in
            let x = at_inside n i in let y = at_inside (component_name p) j in omega (arith, x, y, c))
        | inr i ↦ (let x = at_outside n i in elim (either (inside (component_name p))) [
          | inl j ↦ (let y = at_inside (component_name p) j in let k = in_bound_all r n p ps h m in omega (arith, x, y, k))
          | inr j ↦ (let y = at_outside (component_name p) j in omega (arith, x, y, old))
        ])
      ]

  pub re_served : (p : ComponentState) → Has p ps → IsDriven order ps p
  re_served p h = let o = served p h in record {
    needs = λ g. all_of (IsBelow order ps (component_name p)) (hard_needs p) (λ n m. (
      below_one p h g n m,
      (each_has (IsBelow r ps (component_name p)) n (hard_needs p) m (o.needs g)).1,
    ));
    apart = o.apart;
    takes = o.takes;
    in_time = o.in_time;
  }

  below_newest : is_leaving v ≡ false → (n : List ℕ) → Has n (newest v).hard → order n < order (component_name v)
  below_newest stays n m =
      let y = at_inside (component_name v) (or_left (bytes_eq (component_name v) (component_name v)) (is_flagged (component_name v) flags)
      (same_bytes (component_name v))) in
      elim (either (inside n)) [
        | inl i ↦ (let x = at_inside n i in let c = each_has (λ z. s z < s (component_name v)) n (newest v).hard m ((order_of v here).hard stays) in
            omega (arith, x, y, c))
        | inr i ↦ (let x = at_outside n i in let k = in_bound r n (newest v).hard m in omega (arith, x, y, k))
      ]

  -- what its newest item needs is below it, and there
  pub newest_below : is_leaving v ≡ false → ((n : List ℕ) → Has n (newest v).hard → is_met (λ q. not (is_ending q)) ps n ≡ true) →
      AllByRecursion (IsBelow order ps (component_name v)) (newest v).hard
  newest_below stays f = all_of (IsBelow order ps (component_name v)) (newest v).hard (λ n m. (below_newest stays n m, f n m))

  -- nobody that is not gone needs one that leaves
  pub none_needs : is_leaving v ≡ true → (p : ComponentState) → Has p ps → p.life.gone ≡ false → (n : List ℕ) → Has n (hard_needs p) →
      bytes_eq (component_name v) n ≡ false
  none_needs leaves p h g n m = elim (either (bytes_eq (component_name v) n)) [
    | inr e ↦ e
    | inl e ↦ (let f = reaches p h n m (or_left (bytes_eq (component_name v) n) (is_flagged n flags) e) in
        let q = is_rested p h f in
        let t : are_there ps p.fitted.hard ≡ true = subst (λ (z : Fitted). are_there ps z.hard ≡ true) q.newest_is ((order_of p h).hard_there (q.stays g)) in
        let y = all_has (is_met (λ z. not (is_leaving z)) ps) n p.fitted.hard (subst (λ (ns : List (List ℕ)). Has n ns) q.pulls_are m) t in
        let o = passing (λ z. bytes_eq (component_name z) n && not (is_leaving z)) ps y in
        let z = and_parts (bytes_eq (component_name o.one) n) (not (is_leaving o.one)) o.passes in
        let same = one_named ps names o.one v o.here here ((bytes_eq-Decides (component_name o.one) n).0 z.0
        ∙ sym ((bytes_eq-Decides (component_name v) n).0 e)) in
        let l : is_leaving o.one ≡ true = ap is_leaving same ∙ leaves in
        clash (not (is_leaving o.one)) z.1 (rw l refl))
  ]

  -- what the newest item of one that stays needs, stands
  pub newest_there : is_leaving v ≡ false → (n : List ℕ) → Has n (newest v).hard → is_met (λ q. not (is_ending q)) ps n ≡ true
  newest_there stays n m =
      let y = all_has (is_met (λ z. not (is_leaving z)) ps) n (newest v).hard m ((order_of v here).hard_there stays) in
      let o = passing (λ z. bytes_eq (component_name z) n && not (is_leaving z)) ps y in
      let z = and_parts (bytes_eq (component_name o.one) n) (not (is_leaving o.one)) o.passes in
      has_any (λ q. bytes_eq (component_name q) n && not (is_ending q)) o.one ps o.here (and_from (bytes_eq (component_name o.one) n) (not (is_ending o.one))
      z.0 (not_ending o.one z.1))
    where
      by_parts : (a b c : Bool) → not (a || (b || c)) ≡ true → not (a || c) ≡ true
      by_parts true b c e = absurd (cc)
      by_parts false true c e = absurd (cc)
      by_parts false false c e = e

      not_ending : (q : ComponentState) → not (is_leaving q) ≡ true → not (is_ending q) ≡ true
      not_ending q e = by_parts q.life.gone (is_gone q.stop) (is_gone (under_way q.life)) e
