-- A failure that is told and recorded.
use Rattle.std.proofs.Common.{◌≡◌, ◌≢◌, ◌≤◌, ◌<◌, ◌+◌, ℕ, suc, zero, List, [], ◌∷◌, length, Option, Some, None, Bool, true, false, refl, sym, ap, ◌∙◌, inl}
use Rattle.std.proofs.Common.{inr, arith, subst}
use Rattle.std.specs.Prelude.{◌||◌, not, slice_get, slice_set, get_or, if◌then◌else◌, option_map, option_and_then, is_some}
use Rattle.std.specs.Option.{IfSome, IsSomeAnd}
use Rattle.std.specs.Str.{bytes_eq}
use Rattle.std.proofs.lemmas.Bool.{or_parts}
use Rattle.std.proofs.lemmas.List.{get_or-set_same, get_or-set_other, length-set}
use Rattle.std.proofs.lemmas.Option.{slice_get-get_or, get_or_from_slice_get, slice_get_within, slice_get_past}
use Rattle.std.proofs.lemmas.Slice.Eq.{bytes_eq-Decides}
use Rattle.nuc_base.specs.declared.kinds.Step.{Step}
use Rattle.nuc_base.specs.declared.kinds.Exit.{Exit}
use Rattle.records.specs.Stored.{Item, StepFailed}
use Rattle.device.specs.Devices.{Device, Pending}
use Rattle.device.specs.Lawful.{applied, counted, count_failure, failing_place, running, place, place_from}
use Rattle.components.specs.Fitted.{Fitted, name_of}
use Rattle.components.specs.Components.{Components, ComponentState, At, changed_at, component_name, place_of, is_spared, is_again, is_gone, is_broken}
use Rattle.components.specs.Components.{under_way, owner, stops_for_good}
use Rattle.components.specs.Events.{heard_at}
use Rattle.components.specs.Acts.{OwesAt}
use Rattle.law_supervisor.specs.Sound.{IsSoundPart, IsOrderly, is_waiting, is_to_begin_again}
use Rattle.law_supervisor.specs.Keeps.{IsSupervised, IsCounted, AgreesBy, count_of}
use Rattle.law_supervisor.proofs.Lists.{either, clash, second_true, none_of, some_same, no_some, changed_all, changed_same}
use Rattle.law_supervisor.proofs.Made.{Agrees}
use Rattle.law_supervisor.proofs.Moved.{at_of}
use Rattle.law_supervisor.proofs.Counts.{same_owner}
use Rattle.law_supervisor.proofs.Together.{sound_of, order_of, orderly_same}

-- ---- the device's counts

-- two names do not stand at one place
place_once : (k j : ℕ) (n m : List ℕ) (items : List Item) → place_from k n items ≡ Some j → place_from k m items ≡ Some j → n ≡ m
place_once k j n m [] a b = no_some j a
place_once k j n m (i ∷ items) a b = by_tests (λ x y. place_once (k + 1) j n m items x y) (bytes_eq n i.name) refl (bytes_eq m i.name) refl a b
  where
    past : (x : ℕ) (y : List ℕ) (zs : List Item) → place_from (k + 1 + x) y zs ≡ Some k → ⊥
    past x y [] e = no_some k e
    past x y (z ∷ zs) e = elim (bytes_eq y z.name) as (λ (b : Bool). (if b then Some (k + 1 + x) else place_from (k + 1 + x + 1) y zs) ≡ Some k → ⊥) [
      | true ↦ λ q. (let r = some_same (k + 1 + x) k q in omega (arith, r))
      | false ↦ λ q. past (x + 1) y zs (let r : k + 1 + x + 1 ≡ k + 1 + (x + 1) =
          omega arith in subst (λ (v : ℕ). place_from v y zs ≡ Some k) r q)
    ] e

    later : (y : List ℕ) (zs : List Item) → Some k ≡ Some j → place_from (k + 1) y zs ≡ Some j → ⊥
    later y zs e f = past 0 y zs (let r : k + 1 ≡ k + 1 + 0 = omega arith in subst (λ (v : ℕ). place_from v y zs ≡ Some k) r (f ∙ sym e))

    by_tests : (place_from (k + 1) n items ≡ Some j → place_from (k + 1) m items ≡ Some j → n ≡ m) → (b : Bool) → bytes_eq n i.name ≡ b → (c : Bool) →
        bytes_eq m i.name ≡ c → (if b then Some k else place_from (k + 1) n items) ≡ Some j → (if c then Some k else place_from (k + 1) m items) ≡ Some j →
        n ≡ m
    by_tests rest true e true f x y = (bytes_eq-Decides n i.name).0 e ∙ sym ((bytes_eq-Decides m i.name).0 f)
    by_tests rest true e false f x y = absurd (later m items x y)
    by_tests rest false e true f x y = absurd (later n items y x)
    by_tests rest false e false f x y = rest x y

failing_once : (set : List Item) (q : Pending) (n m : List ℕ) (j : ℕ) → failing_place set q n ≡ Some j → failing_place set q m ≡ Some j → n ≡ m
failing_once set q n m j = elim (running set q) as (λ (o : Option (List Item)). option_and_then (place n) o ≡ Some j → option_and_then (place m) o ≡ Some j →
    n ≡ m)
    [ None ↦ λ a b. no_some j a | Some items ↦ λ a b. place_once 0 j n m items a b ]

-- the count of a place rises, and the places stay
still_failing : (set : List Item) (q : Pending) (at : Option ℕ) (m : List ℕ) → failing_place set (counted at q) m ≡ failing_place set q m
still_failing set q None m = refl
still_failing set q (Some k) m = refl

get_set_same : (xs : List ℕ) (k c v : ℕ) → slice_get xs k ≡ Some c → slice_get (slice_set xs k v) k ≡ Some v
get_set_same xs k c v e =
    let w = slice_get_within xs k c e in
    let l = length-set xs k v in
    slice_get-get_or (slice_set xs k v) k 0 (omega (arith, w, l)) ∙ ap (λ (x : ℕ). Some x) (get_or-set_same xs k v 0 w)

get_set_other : (xs : List ℕ) (k j v : ℕ) → j ≢ k → slice_get (slice_set xs k v) j ≡ slice_get xs j
get_set_other xs k j v n = elim (slice_get xs j) as (λ (o : Option ℕ). slice_get xs j ≡ o → slice_get (slice_set xs k v) j ≡ o) [
  | None ↦ λ e. slice_get_past (slice_set xs k v) j (let l = length-set xs k v in let p = past xs j e in omega (arith, l, p))
  | Some c ↦ λ e. (let w = slice_get_within xs j c e in let l = length-set xs k v in
      slice_get-get_or (slice_set xs k v) j 0 (omega (arith, w, l)) ∙ ap (λ (x : ℕ). Some x) (get_or-set_other xs k j v 0 n ∙ get_or_from_slice_get xs j c 0 e))
] refl
  where
    past : (ys : List ℕ) (i : ℕ) → slice_get ys i ≡ None → length ys ≤ i
    past [] i e = omega arith
    past (y ∷ ys) zero e = no_some y (sym e)
    past (y ∷ ys) (suc i) e = let r = past ys i e in omega (arith, r)

rises : (at : Option ℕ) (q : Pending) (c : ℕ) → option_and_then (slice_get q.failures) at ≡ Some c →
    option_and_then (slice_get (counted at q).failures) at ≡ Some (c + 1)
rises None q c e = no_some c e
rises (Some k) q c e = get_set_same q.failures k c (get_or q.failures k 0 + 1) e ∙ ap (λ (x : ℕ). Some (x + 1)) (get_or_from_slice_get q.failures k c 0 e)

stays : (at by : Option ℕ) (q : Pending) → ((j : ℕ) → at ≡ Some j → by ≡ Some j → ⊥) → option_and_then (slice_get (counted at q).failures) by
    ≡ option_and_then (slice_get q.failures) by
stays None by q n = refl
stays (Some k) None q n = refl
stays (Some k) (Some j) q n = get_set_other q.failures k j (get_or q.failures k 0 + 1) (λ e. n k refl (ap (λ (x : ℕ). Some x) e))

pub count_rises : (d : Device) (n : List ℕ) (s : Step) (e : Exit) (c : ℕ) → count_of d n ≡ Some c → count_of (applied d (StepFailed n s e)) n ≡ Some (c + 1)
count_rises d n s e c = elim d.pending as (λ (o : Option Pending). (elim o [
  | None ↦ None
  | Some q ↦ option_and_then (slice_get q.failures)
      (failing_place d.set q n)
]) ≡ Some c
    → (elim (option_map (count_failure d.set n) o) [ None ↦ None | Some q ↦ option_and_then (slice_get q.failures) (failing_place d.set q n) ]) ≡ Some
    (c + 1)) [
      | None ↦ λ h. no_some c h
      | Some q ↦ λ h. ap (λ (by : Option ℕ). option_and_then (slice_get (counted (failing_place d.set q n) q).failures) by)
          (still_failing d.set q (failing_place d.set q n) n) ∙ rises (failing_place d.set q n) q c h
    ]

pub count_stays : (d : Device) (n m : List ℕ) (s : Step) (e : Exit) → m ≢ n → count_of (applied d (StepFailed n s e)) m ≡ count_of d m
count_stays d n m s e ne = elim d.pending as (λ (o : Option Pending). (elim (option_map (count_failure d.set n) o) [
  | None ↦ None
  | Some q ↦ option_and_then
      (slice_get q.failures) (failing_place d.set q m)
])
    ≡ (elim o [ None ↦ None | Some q ↦ option_and_then (slice_get q.failures) (failing_place d.set q m) ])) [
      | None ↦ refl
      | Some q ↦ ap (λ (by : Option ℕ). option_and_then (slice_get (counted (failing_place d.set q n) q).failures) by)
          (still_failing d.set q (failing_place d.set q n) m)
          ∙ stays (failing_place d.set q n) (failing_place d.set q m) q (λ j a b. ne (sym (failing_once d.set q n m j a b)))
    ]

still_many : (d : Device) (n : List ℕ) (s : Step) (e : Exit) → IfSome d.pending (λ q. length q.failures ≡ 128) → IfSome (applied d (StepFailed n s e)).pending
    (λ q. length q.failures ≡ 128)
still_many d n s e = elim d.pending as (λ (o : Option Pending). IfSome o (λ q. length q.failures ≡ 128) → IfSome (option_map (count_failure d.set n) o)
    (λ q. length q.failures ≡ 128))
    [ None ↦ λ h. tt | Some q ↦ λ h. many (failing_place d.set q n) q h ]
  where
    many : (at : Option ℕ) (q : Pending) → length q.failures ≡ 128 → length (counted at q).failures ≡ 128
    many None q h = h
    many (Some k) q h = length-set q.failures k (get_or q.failures k 0 + 1) ∙ h

-- ---- who is told, and the others

abbrev told : ComponentState → ComponentState
told p = record p { owed = None }

data Which (k : ℕ) (ps : List ComponentState) (j : ℕ) (r : ComponentState) : Type 0 where
  itself : (p : ComponentState) → j ≡ k → slice_get ps k ≡ Some p → told p ≡ r → Which k ps j r
  other : (j ≡ k → ⊥) → slice_get ps j ≡ Some r → Which k ps j r

which : (k : ℕ) (ps : List ComponentState) (j : ℕ) (r : ComponentState) → slice_get (changed_at k told ps) j ≡ Some r → Which k ps j r
which k [] j r e = no_some r e
which zero (p ∷ ps) zero r e = itself p refl refl (some_same (told p) r e)
which zero (p ∷ ps) (suc j) r e = other (λ y. absurd (omega (arith, y))) e
which (suc k) (p ∷ ps) zero r e = other (λ y. absurd (omega (arith, y))) e
which (suc k) (p ∷ ps) (suc j) r e = elim (which k ps j r e) [
  | itself q y g h ↦ itself q (ap suc y) g h
  | other n g ↦ other (λ y. n (let z : j ≡ k = omega (arith, y) in z)) g
]

-- one that may fail waits for no item
no_next : (p : ComponentState) → IsSoundPart p → is_spared p ≡ false → p.next ≡ None
no_next p k s =
    let a = or_parts (is_again p.stop || is_gone p.stop) (stops_for_good p.life) s in
    let b = or_parts (is_again p.stop) (is_gone p.stop) a.0 in
    let c = or_parts (is_again (under_way p.life)) (is_gone (under_way p.life)) a.1 in
    let t : is_to_begin_again p ≡ false = rw b.0 (rw c.0 refl) in
    none_of p.next (elim (either (is_some p.next)) [
      | inr n ↦ n
      | inl y ↦ clash (is_to_begin_again p)
          (second_true (not (is_waiting p)) (is_to_begin_again p) k.waits (rw y refl)) t
    ])

told_sound : (p : ComponentState) → IsSoundPart p → IsSoundPart (told p)
told_sound p k = record {
  few = k.few;
  busy = k.busy;
  runs = k.runs;
  run = k.run;
  bare = k.bare;
  asks = k.asks;
  waits = k.waits;
  takes = k.takes;
  coming =
      k.coming;
}

pub told_orderly : (k : ℕ) (w : Components) → IsOrderly w → IsOrderly (heard_at k w)
told_orderly k w i = orderly_same w (heard_at k w) i (changed_all IsSoundPart k told w.parts (sound_of w i.sound) (λ p q x. told_sound p x))
    (changed_same component_name k told w.parts (λ p q. refl))
    (changed_same (λ p. p.children) k told w.parts (λ p q. refl))

module _ (d : Device) (n : List ℕ) (s : Step) (x : Exit) where
  abbrev new : Device
  new = applied d (StepFailed n s x)

  free : (p : ComponentState) → IsCounted d p → p.owed ≡ Some (s, x) → (is_spared p ≡ false) × (p.life.gone ≡ false)
  free p i o = (
    elim (either (is_spared p)) [ inr e ↦ e | inl e ↦ no_some (s, x) (sym (i.spared e) ∙ o) ],
    elim (either p.life.gone) [ inr e ↦ e | inl e ↦ no_some (s, x) (sym (i.gone e) ∙ o) ],
  )

  self_counted : (p : ComponentState) → IsSoundPart p → IsCounted d p → p.owed ≡ Some (s, x) → component_name p ≡ n → IsCounted new (told p)
  self_counted p k i o e =
      let f = free p i o in
      let a = subst (λ (y : Option (Step × Exit)). AgreesBy d (component_name p) p.life.failures y) o (i.own f.0 f.1) in
      record {
        own = λ u v. recorded (count_of d (component_name p)) refl a.0;
        broken = i.broken;
        spared = λ u. refl;
        gone = λ u. refl;
        next = subst (λ (y : Option (Fitted × ℕ)). IfSome y (λ z. (name_of z.0 ≡ component_name p) × (count_of new (name_of z.0) ≡ Some z.1)))
            (sym (no_next p k f.0)) tt;
      }
    where
      recorded : (c : Option ℕ) → count_of d (component_name p) ≡ c → IsSomeAnd c (λ m. (p.life.failures ≡ m + 1) × (m < 3)) →
          count_of new (component_name p) ≡ Some p.life.failures
      recorded None q h = absurd h
      recorded (Some m) q h = subst (λ (y : List ℕ). count_of new y ≡ Some p.life.failures) (sym e)
          (count_rises d n s x m (subst (λ (y : List ℕ). count_of d y ≡ Some m) e q) ∙ ap (λ (y : ℕ). Some y) (sym h.0))

  other_counted : (p : ComponentState) → IsCounted d p → component_name p ≢ n → IsCounted new p
  other_counted p i ne = record {
    own = λ u v. subst (λ (c : Option ℕ). Agrees c p.life.failures p.owed) (sym (count_stays d n (component_name p) s x ne)) (i.own u v);
    broken = i.broken;
    spared = i.spared;
    gone = i.gone;
    next = coming p.next i.next;
  }
    where
      coming : (o : Option (Fitted × ℕ)) → IfSome o (λ z. (name_of z.0 ≡ component_name p) × (count_of d (name_of z.0) ≡ Some z.1)) →
          IfSome o (λ z. (name_of z.0 ≡ component_name p) × (count_of new (name_of z.0) ≡ Some z.1))
      coming None h = tt
      coming (Some z) h = (h.0, count_stays d n (name_of z.0) s x (λ y. ne (sym h.0 ∙ y)) ∙ h.1)

pub told_keeps : (d : Device) (k : ℕ) (n : List ℕ) (s : Step) (e : Exit) (b : Bool) (w : Components) → IsSupervised d w → OwesAt w k s e b →
    At k (λ p. component_name p ≡ n) w.parts → IsSupervised (applied d (StepFailed n s e)) (heard_at k w)
told_keeps d k n s e b w i o a = record {
  counted = λ j r h. by_which j r (which k w.parts j r h);
  sound = orderly.sound;
  differ = orderly.differ;
  names = orderly.names;
  driven = i.driven;
  counts = still_many d n s e i.counts;
}
  where
    orderly : IsOrderly (heard_at k w)
    orderly = told_orderly k w (order_of d w i)

    owed : (p : ComponentState) → slice_get w.parts k ≡ Some p → p.owed ≡ Some (s, e)
    owed p g = (at_of (λ q. (q.owed ≡ Some (s, e)) × (is_broken q.life.state ≡ b) × (place_of (component_name q) w.parts ≡ Some k)) k w.parts p g o).0

    its_name : (p : ComponentState) → slice_get w.parts k ≡ Some p → component_name p ≡ n
    its_name p g = at_of (λ q. component_name q ≡ n) k w.parts p g a

    there : (o : Option ComponentState) → IsSomeAnd o (λ q. component_name q ≡ n) → slice_get w.parts k ≡ o → (p : ComponentState) ×
        (slice_get w.parts k ≡ Some p)
    there None h g = absurd h
    there (Some p) h g = (p, g)

    by_which : (j : ℕ) (r : ComponentState) → Which k w.parts j r → IsCounted (applied d (StepFailed n s e)) r
    by_which j r (itself p y g h) = subst (IsCounted (applied d (StepFailed n s e))) h
        (self_counted d n s e p (i.sound k p g) (i.counted k p g) (owed p g) (its_name p g))
    by_which j r (other ne g) = other_counted d n s e r (i.counted j r g) (λ y. let t = there (slice_get w.parts k) a refl in
        ne (i.names j k r t.0 g t.1 (y ∙ sym (its_name t.0 t.1))))

pub told_owner : (n k : ℕ) (w : Components) → owner n (heard_at k w).parts ≡ owner n w.parts
told_owner n k w = same_owner n w.parts (heard_at k w).parts (changed_same (λ p. p.children) k told w.parts (λ p q. refl))
