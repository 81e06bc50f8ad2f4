-- A pending deployment stays in step with its stage.
use Rattle.std.proofs.Common.{◌≡◌, ◌⊎◌, inl, inr, ℕ, zero, suc, ◌+◌, ◌<◌, ◌≤◌, Bool, true, false, List, [], ◌∷◌, length, get_or, Option, Some, None, refl}
use Rattle.std.proofs.Common.{sym, ap, subst, ◌∙◌, arith, is_some}
use Rattle.std.specs.Prelude.{slice_set, slice_get, replicate, if◌then◌else◌, not}
use Rattle.std.specs.Option.{IsSomeAnd}
use Rattle.std.specs.Str.{bytes_eq}
use Rattle.std.proofs.lemmas.Bool.{false≢true}
use Rattle.std.proofs.lemmas.Option.{slice_get_within}
use Rattle.std.proofs.lemmas.List.{length-set}
use Rattle.nuc_base.specs.declared.kinds.Exit.{Exit}
use Rattle.records.specs.declared.record.Origin.{Origin}
use Rattle.records.specs.Stored.{Item}
use Rattle.device.specs.declared.staged.Stage.TheVariants as stages
use Rattle.device.specs.Devices.{Pending, Stage}
use Rattle.device.specs.Lawful.{MayBegin, MayEnd, MayActivate, MayCount, MayGoBack, begun, boot_ended, moved_on, one_ended, goes_on, activated, counted}
use Rattle.device.specs.Lawful.{count_failure, rolled, sent_back, next_boot, failing_name, failing_place, place, place_from, reach_of, backs_of}
use Rattle.device.specs.Lawful.{no_failures}
use Rattle.device.specs.Sound.{AreCounts, IsBooting, IsInStage}

-- ---- elements at places

none_at : {A : Type 0} (k : ℕ) (x : A) → slice_get [] k ≡ Some x → ⊥
none_at k x h = absurd cc

pub is_there : {A : Type 0} (o : Option A) (x : A) → o ≡ Some x → is_some o ≡ true
is_there o x h = ap is_some h

pub what_is : {A : Type 0} (o : Option A) → is_some o ≡ true → (x : A) × (o ≡ Some x)
what_is None h = absurd cc
what_is (Some x) h = (x, refl)

none_past : {A : Type 0} (xs : List A) (k : ℕ) → slice_get xs k ≡ None → length xs ≤ k
none_past [] k h = omega arith
none_past (x ∷ xs) zero h = absurd cc
none_past (x ∷ xs) (suc k) h = let rest = none_past xs k h in omega (arith, rest)

first_there : {A : Type 0} (xs : List A) → (xs ≡ [] → ⊥) → is_some (slice_get xs 0) ≡ true
first_there [] h = absurd (h refl)
first_there (x ∷ xs) h = refl

both_ways : (b : Bool) → b ≡ true → b ≡ false → ⊥
both_ways b on off = absurd (false≢true (sym off ∙ on))

-- ---- counts of failures

zero_at : (n k : ℕ) → ◌≡◌ {A = ℕ} (get_or (replicate n 0) k 0) 0
zero_at zero k = refl
zero_at (suc n) zero = refl
zero_at (suc n) (suc k) = zero_at n k

pub counts_none : (items : List Item) → AreCounts items no_failures
counts_none items = record { many = refl; each = λ k. subst (λ (n : ℕ). n ≤ 3) (sym (zero_at 128 k)) (omega arith); past = λ k h. zero_at 128 k }

set_at : (xs : List ℕ) (k v j : ℕ) → (get_or (slice_set xs k v) j 0 ≡ get_or xs j 0) ⊎ ((j ≡ k) × (get_or (slice_set xs k v) j 0 ≡ v))
set_at [] k v j = inl refl
set_at (x ∷ xs) zero v zero = inr (refl, refl)
set_at (x ∷ xs) zero v (suc j) = inl refl
set_at (x ∷ xs) (suc k) v zero = inl refl
set_at (x ∷ xs) (suc k) v (suc j) = elim (set_at xs k v j) [ inl e ↦ inl e | inr h ↦ inr (ap suc h.0, h.1) ]

pub count_below : (xs : List ℕ) (k : ℕ) → IsSomeAnd (slice_get xs k) (λ c. c < 3) → (k < length xs) × (get_or xs k 0 < 3)
count_below [] k h = absurd h
count_below (x ∷ xs) zero h = (omega arith, h)
count_below (x ∷ xs) (suc k) h = let rest = count_below xs k h in (omega (arith, rest.0), rest.1)

counts_set : (items : List Item) (failures : List ℕ) (k v : ℕ) → k < length items → v ≤ 3 → AreCounts items failures → AreCounts items (slice_set failures k v)
counts_set items failures k v below few are = record {
  many = length-set failures k v ∙ are.many;
  each = λ j. each j (set_at failures k v j);
  past = λ j far. past j far (set_at failures k v j);
}
  where
    each : (j : ℕ) → (get_or (slice_set failures k v) j 0 ≡ get_or failures j 0) ⊎ ((j ≡ k) × (get_or (slice_set failures k v) j 0 ≡ v)) →
        get_or (slice_set failures k v) j 0 ≤ 3
    each j (inl e) = subst (λ (n : ℕ). n ≤ 3) (sym e) (are.each j)
    each j (inr h) = subst (λ (n : ℕ). n ≤ 3) (sym h.1) few

    past : (j : ℕ) → length items ≤ j → (get_or (slice_set failures k v) j 0 ≡ get_or failures j 0) ⊎ ((j ≡ k) × (get_or (slice_set failures k v) j 0 ≡ v)) →
        get_or (slice_set failures k v) j 0 ≡ 0
    past j far (inl e) = e ∙ are.past j far
    past j far (inr h) = let is = h.0 in absurd (omega (arith, is, far, below))

pub counts_more : (items : List Item) (failures : List ℕ) (k : ℕ) → k < length items → IsSomeAnd (slice_get failures k) (λ c. c < 3) → AreCounts items failures
    → AreCounts items (slice_set failures k (get_or failures k 0 + 1))
counts_more items failures k below may are =
    let few = (count_below failures k may).1 in
    counts_set items failures k (get_or failures k 0 + 1) below (omega (arith, few)) are

placed_from : (j : ℕ) (n : List ℕ) (items : List Item) (k : ℕ) → place_from j n items ≡ Some k → k < j + length items
placed_from j n [] k h = absurd cc
placed_from j n (i ∷ items) k h = by (bytes_eq n i.name) h (λ more. placed_from (j + 1) n items k more)
  where
    by : (b : Bool) → (if b then Some j else place_from (j + 1) n items) ≡ Some k → (place_from (j + 1) n items ≡ Some k → k < j + 1 + length items) →
        k < j + length (i ∷ items)
    by true is more = let same : j ≡ k = cc in omega (arith, same)
    by false is more = let rest = more is in omega (arith, rest)

pub placed : (n : List ℕ) (items : List Item) (k : ℕ) → place n items ≡ Some k → k < length items
placed n items k h = let m = placed_from 0 n items k h in omega (arith, m)

-- ---- stage by stage

abbrev pub at : Stage → Pending → Pending
at s q = record q { stage = s }

module _ (origin : Option Origin) (set : List Item) where
  pub begun_in : (s : Stage) (q : Pending) (n : List ℕ) → MayBegin n (at s q) → IsInStage origin set (at s q) → IsInStage origin set (begun (at s q))
  begun_in stages.Booting q n may is = record {
    ended = is.ended;
    begun = λ _. is_there (slice_get q.plan.boots q.ended) n may.1;
    failed =
        λ _. refl;
    failures = is.failures;
  }
  begun_in stages.Activating q n may is = absurd (none_at q.ended n may.1)
  begun_in stages.Backing q n may is = record { left = is.left; failed = λ _. refl; reach = is.reach; backs_are = is.backs_are; failures = is.failures }
  begun_in stages.Rolling q n may is = absurd (none_at q.ended n may.1)

  moved_in : (s : Stage) (q : Pending) (n : List ℕ) → MayEnd n (at s q) → IsInStage origin set (at s q) → IsInStage origin set (moved_on (at s q))
  moved_in stages.Booting q n may is =
      let below = slice_get_within q.plan.boots q.ended n may.1 in
      record {
        ended = omega (arith, below);
        begun = λ e. absurd (false≢true e);
        failed = λ f. absurd (both_ways q.boot_failed f may.0);
        failures =
            is.failures;
      }
  moved_in stages.Activating q n may is = absurd (none_at q.ended n may.1)
  moved_in stages.Backing q n may is = by (is_some (slice_get q.backs (q.ended + 1))) refl
    where
      by : (b : Bool) → is_some (slice_get q.backs (q.ended + 1)) ≡ b → IsInStage origin
          set (if not b then rolled (one_ended (at stages.Backing q)) else one_ended (at stages.Backing q))
      by true some = record {
        left = some;
        failed = λ f. absurd (both_ways q.boot_failed f may.0);
        reach = is.reach;
        backs_are = is.backs_are;
        failures =
            is.failures;
      }
      by false none = counts_none set
  moved_in stages.Rolling q n may is = absurd (none_at q.ended n may.1)

  failed_in : (s : Stage) (q : Pending) (n : List ℕ) → MayEnd n (at s q) → IsInStage origin set (at s q) → IsInStage origin
      set (record (at s q) { boot_failed = true })
  failed_in stages.Booting q n may is = record { ended = is.ended; begun = is.begun; failed = λ _. may.2; failures = is.failures }
  failed_in stages.Activating q n may is = absurd (none_at q.ended n may.1)
  failed_in stages.Backing q n may is = record { left = is.left; failed = λ _. may.2; reach = is.reach; backs_are = is.backs_are; failures = is.failures }
  failed_in stages.Rolling q n may is = absurd (none_at q.ended n may.1)

  pub ended_in : (e : Exit) (q : Pending) (n : List ℕ) → MayEnd n q → IsInStage origin set q → IsInStage origin set (boot_ended e q)
  ended_in e q n may is = by (goes_on e)
    where
      by : (b : Bool) → IsInStage origin set (if b then moved_on q else record q { boot_failed = true })
      by true = moved_in q.stage q n may is
      by false = failed_in q.stage q n may is

  booting : (q : Pending) → q.stage ≡ stages.Booting → IsInStage origin set q → IsBooting (at stages.Booting q)
  booting q here is = subst (λ (s : Stage). IsInStage origin set (at s q)) here is

  pub active_in : (q : Pending) → MayActivate q → IsInStage origin set q → IsInStage origin set (activated q)
  active_in q may is =
      let b = booting q may.0 is in
      let next : slice_get q.plan.boots q.ended ≡ None = subst (λ (s : Stage). next_boot (at s q) ≡ None) may.0 may.2 in
      let past = none_past q.plan.boots q.ended next in
      let before = b.ended in
      record {
        ended = omega (arith, past, before);
        begun = by q.begun refl (λ yes. b.begun yes) next;
        failed = may.1;
        failures = counts_none q.plan.items;
      }
    where
      by : (b : Bool) → q.begun ≡ b → (q.begun ≡ true → is_some (slice_get q.plan.boots q.ended) ≡ true) → slice_get q.plan.boots q.ended ≡ None →
          q.begun ≡ false
      by false is some none = is
      by true is some none = absurd (both_ways (is_some (slice_get q.plan.boots q.ended)) (some is) (ap is_some none))

  pub counted_in : (s : Stage) (q : Pending) (n : List ℕ) → MayCount (at s q) (failing_place set (at s q) n) → IsInStage origin set (at s q) →
      IsInStage origin set (count_failure set n (at s q))
  counted_in stages.Booting q n may is = absurd may
  counted_in stages.Activating q n may is = by (place n q.plan.items) refl may
    where
      by : (o : Option ℕ) → place n q.plan.items ≡ o → MayCount (at stages.Activating q) o → IsInStage origin set (counted o (at stages.Activating q))
      by None at may = absurd may
      by (Some k) at may = record {
        ended = is.ended;
        begun = is.begun;
        failed = is.failed;
        failures =
            counts_more q.plan.items q.failures k (placed n q.plan.items k at) may is.failures;
      }
  counted_in stages.Backing q n may is = absurd may
  counted_in stages.Rolling q n may is = by (place n set) refl may
    where
      by : (o : Option ℕ) → place n set ≡ o → MayCount (at stages.Rolling q) o → IsInStage origin set (counted o (at stages.Rolling q))
      by None at may = absurd may
      by (Some k) at may = counts_more set q.failures k (placed n set k at) may is

  pub rolled_in : (q : Pending) → IsInStage origin set (rolled q)
  rolled_in q = counts_none set

  pub reach_within : (s : Stage) (q : Pending) (n : List ℕ) → failing_name (at s q) ≡ Some n → reach_of (at s q) ≤ length q.plan.boots
  reach_within stages.Booting q n h = by q.boot_failed h
    where
      by : (b : Bool) → (if b then slice_get q.plan.boots q.ended else None) ≡ Some n → q.ended + 1 ≤ length q.plan.boots
      by true is = let below = slice_get_within q.plan.boots q.ended n is in omega (arith, below)
      by false is = absurd cc
  reach_within stages.Activating q n h = omega arith
  reach_within stages.Backing q n h = absurd cc
  reach_within stages.Rolling q n h = absurd cc

pub sent_back_in : (origin : Option Origin) (set : List Item) (q : Pending) (n : List ℕ) → MayGoBack origin set n q → IsInStage origin
    set (sent_back origin set q)
sent_back_in None set q n may = absurd may.1
sent_back_in (Some o) set q n may = record {
  left = first_there (backs_of o.platform set q.plan (reach_of q)) may.1.1;
  failed = λ f. absurd (false≢true f);
  reach = reach_within (Some o) set q.stage q n may.0.1;
  backs_are = refl;
  failures = refl;
}
