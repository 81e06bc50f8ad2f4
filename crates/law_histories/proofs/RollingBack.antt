-- Why a deployment is on its way back, along the records of a call.
use Rattle.std.proofs.Common.{◌≡◌, ◌≢◌, ◌⊎◌, inl, inr, ◌∙◌, ℕ, zero, suc, ◌+◌, ◌<◌, Bool, true, false, List, [], ◌∷◌, ◌++◌, length, get_or, Option, Some}
use Rattle.std.proofs.Common.{None, refl, sym, ap, subst, arith, get_or-set_same, get_or-set_other, append-nil, append_assoc}
use Rattle.std.specs.Prelude.{◌==◌, if◌then◌else◌, map, not, option_and_then, option_map, replicate, slice_get, slice_set, ⊤}
use Rattle.std.specs.Option.{IsSomeAnd}
use Rattle.std.proofs.lemmas.Bool.{false≢true}
use Rattle.std.proofs.lemmas.Bool.Decides.{Decides-eqb}
use Rattle.std.proofs.lemmas.List.Quantifiers.{position-Some}
use Rattle.std.proofs.lemmas.Option.{slice_get-get_or}
use Rattle.nuc_base.specs.declared.kinds.Exit.{Exit}
use Rattle.nuc_base.specs.declared.kinds.Step.{Step}
use Rattle.nuc_base.specs.declared.kinds.Outcome.{Outcome}
use Rattle.nuc_base.specs.declared.kinds.Outcome.TheVariants as outcomes
use Rattle.records.specs.Stored.{Item, Plan, Record, Genesis, Accepted, BootBegun, BootEnded, Activating, StepFailed, Failing, FailingBack, Closed}
use Rattle.records.specs.declared.record.Origin.{Origin}
use Rattle.device.specs.declared.staged.Stage.TheVariants as stages
use Rattle.device.specs.declared.staged.Stage.{Stage}
use Rattle.device.specs.Devices.{Device, Pending}
use Rattle.device.specs.Lawful.{Allowed, MayActivate, MayBegin, MayBreak, MayClose, MayCount, MayEnd, MayAccept, MayFail, MayGoBack, Lawful, Run, activated}
use Rattle.device.specs.Lawful.{applied, begun, boot_ended, broken, close_pending, count_failure, counted, failing_name, failing_place, goes_on}
use Rattle.device.specs.Lawful.{has_gone_back, moved_on, next_boot, one_ended, place, rolled, sent_back}
use Rattle.device.proofs.SoundStages.{at}
use Rattle.histories.specs.TraceEvents.{TraceEvent, Recorded, records_of}
use Rattle.histories.specs.States.{SessionState, state_after, takes_document}
use Rattle.histories.specs.Follows.{IsProper}
use Rattle.law_histories.specs.Ends.{is_step_failure}
use Rattle.law_histories.specs.Rollbacks.{WasTaken, IsFailedLast}
use Rattle.law_histories.specs.Rollbacks.{is_at, fails_at, failures_at, FailedSoOften, HasCause, HasBegunRollback, is_way_back, HasRolledBack}
use Rattle.law_histories.specs.Rollbacks.{IsCaused, ClosesCaused, RunsCloseCaused}
use Rattle.law_histories.proofs.Growing.{all_more, more, none_more}
use Rattle.law_histories.proofs.Histories.{Runs, Steps, along, history_at, run_before}
use Rattle.law_histories.proofs.Facts.{clash, no_some, none_at, some_same}

-- ---- what is known of a pending deployment

abbrev KnownIn : Device → List Record → Pending → Stage → Type 0
KnownIn d records q stages.Booting = q.boot_failed ≡ true → (name : List ℕ) → next_boot q ≡ Some name → IsFailedLast d records q name
KnownIn d records q stages.Activating = (k : ℕ) → FailedSoOften d records q k (get_or q.failures k 0)
KnownIn d records q stages.Backing = HasRolledBack d records q.plan
KnownIn d records q stages.Rolling = HasRolledBack d records q.plan

abbrev Known : Device → List Record → Option Pending → Type 0
Known d records None = ⊤
Known d records (Some q) = WasTaken d records q.plan × KnownIn d records q q.stage

-- ---- counts

zero_at : (n k : ℕ) → ◌≡◌ {A = ℕ} (get_or (replicate n 0) k 0) 0
zero_at zero k = refl
zero_at (suc n) zero = refl
zero_at (suc n) (suc k) = zero_at n k

swapped : (a b c : ℕ) → a + b + c ≡ a + c + b
swapped a b c = omega arith

failures_more : (items : List Item) (k : ℕ) (xs : List Record) (r : Record) →
    failures_at items k (xs ++ r ∷ []) ≡ failures_at items k xs + (if fails_at items k r then 1 else 0)
failures_more items k [] r = refl
failures_more items k (x ∷ xs) r =
    ap (λ (n : ℕ). n + (if fails_at items k x then 1 else 0)) (failures_more items k xs r)
    ∙ swapped (failures_at items k xs) (if fails_at items k r then 1 else 0) (if fails_at items k x then 1 else 0)

count_set : (xs : List ℕ) (j k : ℕ) → j < length xs → get_or (slice_set xs j (get_or xs j 0 + 1)) k 0 ≡ get_or xs k 0 + (if j == k then 1 else 0)
count_set xs j k below = by (j == k) refl
  where
    by : (b : Bool) → (j == k) ≡ b → get_or (slice_set xs j (get_or xs j 0 + 1)) k 0 ≡ get_or xs k 0 + (if b then 1 else 0)
    by true is =
        let same : j ≡ k = (Decides-eqb j k).0 is in
        subst (λ (m : ℕ). get_or (slice_set xs j (get_or xs j 0 + 1)) m 0 ≡ get_or xs m 0 + 1) same (get_or-set_same xs j (get_or xs j 0 + 1) 0 below)
    by false is =
        let other : k ≢ j = λ e. false≢true (sym is ∙ (Decides-eqb j k).1 (sym e)) in
        let same = get_or-set_other xs j k (get_or xs j 0 + 1) 0 other in
        omega (arith, same)

grown : (f g b n m : ℕ) → g ≡ f + b → f ≡ n → m ≡ n + b → g ≡ m
grown f g b n m p q r = omega (arith, p, q, r)

grown_from : (x f g b n m : ℕ) → g ≡ f + b → x + f ≡ n → m ≡ n + b → x + g ≡ m
grown_from x f g b n m p q r = omega (arith, p, q, r)

below_of : (xs : List ℕ) (k : ℕ) → IsSomeAnd (slice_get xs k) (λ c. c < 3) → k < length xs
below_of [] k h = absurd h
below_of (x ∷ xs) zero h = omega arith
below_of (x ∷ xs) (suc k) h = let rest = below_of xs k h in omega (arith, rest)

-- ---- one more record

module _ (d : Device) (records : List Record) where
  taken_more : (plan : Plan) (r : Record) → takes_document r ≡ false → WasTaken d records plan → WasTaken d (records ++ r ∷ []) plan
  taken_more plan r not (inl t) = inl (t.0, t.1 ++ r ∷ [], more t.0 (Accepted plan ∷ t.1) r records t.2, none_more takes_document t.1 r t.3 not)
  taken_more plan r not (inr t) = inr (t.0, none_more takes_document records r t.1 not)

  back_more : (plan : Plan) (r : Record) → takes_document r ≡ false → HasRolledBack d records plan → HasRolledBack d (records ++ r ∷ []) plan
  back_more plan r not (inl t) = inl (record {
    name = t.name;
    failing = t.failing;
    is = t.is;
    earlier = t.earlier;
    after = t.after ++ r ∷ [];
    split = more t.earlier (t.failing ∷ t.after) r records t.split;
    since = none_more takes_document t.after r t.since not;
    taken = t.taken;
    device = t.device;
    run = t.run;
    q = t.q;
    pending = t.pending;
    same = t.same;
    cause = t.cause;
  })
  back_more plan r not (inr w) = inr (record {
    q = w.q;
    pending = w.pending;
    same = w.same;
    back = w.back;
    since =
        none_more takes_document records r w.since not;
  })

  -- a bootstrap begins
  begun_in : (s : Stage) (q : Pending) (n : List ℕ) → MayBegin n (at s q) → KnownIn d records (at s q) s →
      KnownIn d (records ++ BootBegun n ∷ []) (begun (at s q)) s
  begun_in stages.Booting q n may known = λ failed name is_next. absurd (clash q.boot_failed failed may.0)
  begun_in stages.Activating q n may known = absurd (none_at q.ended n may.1)
  begun_in stages.Backing q n may known = back_more q.plan (BootBegun n) refl known
  begun_in stages.Rolling q n may known = absurd (none_at q.ended n may.1)

  -- one ends, and was good
  moved_in : (s : Stage) (q : Pending) (n : List ℕ) (e : Exit) → MayEnd n (at s q) → WasTaken d records q.plan × KnownIn d records (at s q) s →
      Known d (records ++ BootEnded n e ∷ []) (Some (moved_on (at s q)))
  moved_in stages.Booting q n e may known = (taken_more q.plan (BootEnded n e) refl known.0, λ failed name is_next. absurd (clash q.boot_failed failed may.0))
  moved_in stages.Activating q n e may known = absurd (none_at q.ended n may.1)
  moved_in stages.Backing q n e may known = by (has_gone_back (one_ended (at stages.Backing q)))
    where
      by : (b : Bool) → Known d (records ++ BootEnded n e ∷ []) (Some (if b then rolled (one_ended (at stages.Backing q)) else one_ended (at stages.Backing q)))
      by true = (taken_more q.plan (BootEnded n e) refl known.0, back_more q.plan (BootEnded n e) refl known.1)
      by false = (taken_more q.plan (BootEnded n e) refl known.0, back_more q.plan (BootEnded n e) refl known.1)
  moved_in stages.Rolling q n e may known = absurd (none_at q.ended n may.1)

  -- or failed
  failed_in : (s : Stage) (q : Pending) (n : List ℕ) (e : Exit) → goes_on e ≡ false → MayEnd n (at s q) → KnownIn d records (at s q) s →
      KnownIn d (records ++ BootEnded n e ∷ []) (record (at s q) { boot_failed = true }) s
  failed_in stages.Booting q n e bad may known = λ failed name is_next.
      inl (records, e, ap (λ (x : List ℕ). records ++ BootEnded x e ∷ []) (some_same n name (sym may.1 ∙ is_next)), bad)
  failed_in stages.Activating q n e bad may known = absurd (none_at q.ended n may.1)
  failed_in stages.Backing q n e bad may known = back_more q.plan (BootEnded n e) refl known
  failed_in stages.Rolling q n e bad may known = absurd (none_at q.ended n may.1)

  ended_in : (q : Pending) (n : List ℕ) (e : Exit) → MayEnd n q → WasTaken d records q.plan × KnownIn d records q q.stage →
      Known d (records ++ BootEnded n e ∷ []) (Some (boot_ended e q))
  ended_in q n e may known = by (goes_on e) refl
    where
      by : (b : Bool) → goes_on e ≡ b → Known d (records ++ BootEnded n e ∷ []) (Some (if b then moved_on q else record q { boot_failed = true }))
      by true good = moved_in q.stage q n e may known
      by false bad = (taken_more q.plan (BootEnded n e) refl known.0, failed_in q.stage q n e bad may known.1)

  -- a component fails
  often_more : (q : Pending) (n : List ℕ) (s : Step) (e : Exit) (j k : ℕ) → place n q.plan.items ≡ Some j → j < length q.failures →
      FailedSoOften d records q k (get_or q.failures k 0)
      → FailedSoOften d (records ++ StepFailed n s e ∷ []) (counted (Some j) q) k (get_or (slice_set q.failures j (get_or q.failures j 0 + 1)) k 0)
  often_more q n s e j k placed below often =
      let r = StepFailed n s e in
      let items = q.plan.items in
      let here : fails_at items k r ≡ (j == k) = ap (is_at k) placed in
      let one = ap (λ (b : Bool). ◌≡◌ {A = ℕ} (if b then 1 else 0) (if j == k then 1 else 0)) here in
      let set = count_set q.failures j k below in
      by often (subst (λ (b : Bool). get_or (slice_set q.failures j (get_or q.failures j 0 + 1)) k 0 ≡ get_or q.failures k 0 + (if b then 1 else 0))
      (sym here) set)
    where
      by : FailedSoOften d records q k (get_or q.failures k 0) → get_or (slice_set q.failures j (get_or q.failures j 0 + 1)) k 0
          ≡ get_or q.failures k 0 + (if fails_at q.plan.items k (StepFailed n s e) then 1 else 0)
          → FailedSoOften d (records ++ StepFailed n s e ∷ []) (counted (Some j) q) k (get_or (slice_set q.failures j (get_or q.failures j 0 + 1)) k 0)
      by (inl o) set = inl (
        o.0,
        o.1 ++ StepFailed n s e ∷ [],
        more o.0 (Activating ∷ o.1) (StepFailed n s e) records o.2,
        all_more is_step_failure o.1 (StepFailed n s e) o.3 refl,
        grown (failures_at q.plan.items k o.1) (failures_at q.plan.items k (o.1 ++ StepFailed n s e ∷ []))
            (if fails_at q.plan.items k (StepFailed n s e) then 1 else 0) (get_or q.failures k 0)
            (get_or (slice_set q.failures j (get_or q.failures j 0 + 1)) k 0)
            (failures_more q.plan.items k o.1 (StepFailed n s e)) o.4 set,
      )
      by (inr o) set = inr (
        o.0,
        o.1,
        o.2,
        o.3,
        all_more is_step_failure records (StepFailed n s e) o.4 refl,
        grown_from (get_or o.0.failures k 0) (failures_at q.plan.items k records) (failures_at q.plan.items k (records ++ StepFailed n s e ∷ []))
            (if fails_at q.plan.items k (StepFailed n s e) then 1 else 0) (get_or q.failures k 0)
            (get_or (slice_set q.failures j (get_or q.failures j 0 + 1)) k 0) (failures_more q.plan.items k records (StepFailed n s e)) o.5 set,
      )

  counted_in : (set : List Item) (s : Stage) (q : Pending) (n : List ℕ) (t : Step) (e : Exit) → MayCount (at s q) (failing_place set (at s q) n) →
      WasTaken d records q.plan × KnownIn d records (at s q) s
      → Known d (records ++ StepFailed n t e ∷ []) (Some (count_failure set n (at s q)))
  counted_in set stages.Booting q n t e may known = absurd may
  counted_in set stages.Activating q n t e may known = by (place n q.plan.items) refl may
    where
      by : (o : Option ℕ) → place n q.plan.items ≡ o → MayCount (at stages.Activating q) o → Known d (records ++ StepFailed n t e ∷ [])
          (Some (counted o (at stages.Activating q)))
      by None placed may = absurd may
      by (Some j) placed may =
          (taken_more q.plan (StepFailed n t e) refl known.0, λ k. often_more (at stages.Activating q) n t e j k placed (below_of q.failures j may) (known.1 k))
  counted_in set stages.Backing q n t e may known = absurd may
  counted_in set stages.Rolling q n t e may known = by (place n set) may
    where
      by : (o : Option ℕ) → MayCount (at stages.Rolling q) o → Known d (records ++ StepFailed n t e ∷ []) (Some (counted o (at stages.Rolling q)))
      by None may = absurd may
      by (Some j) may = (taken_more q.plan (StepFailed n t e) refl known.0, back_more q.plan (StepFailed n t e) refl known.1)

  -- what a deployment fails by is recorded
  three : (q : Pending) (k : ℕ) → broken q ≡ Some k → (slice_get q.failures k ≡ Some 3) × (get_or q.failures k 0 ≡ 3)
  three q k is =
      let found = position-Some (λ n. 3 == n) q.failures k 0 is in
      let same : 3 ≡ get_or q.failures k 0 = (Decides-eqb 3 (get_or q.failures k 0)).0 found.1 in
      (slice_get-get_or q.failures k 0 found.0 ∙ ap Some (sym same), sym same)

  cause_in : (s : Stage) (q : Pending) (n : List ℕ) → failing_name (at s q) ≡ Some n → KnownIn d records (at s q) s → HasCause d records (at s q) n
  cause_in stages.Booting q n fails known = by q.boot_failed refl fails
    where
      by : (b : Bool) → q.boot_failed ≡ b → (if b then next_boot (at stages.Booting q) else None) ≡ Some n → HasCause d records (at stages.Booting q) n
      by true failed is_next = inl (record { stage = refl; failed = failed; next = is_next; recorded = known failed n is_next })
      by false failed is_next = absurd cc
  cause_in stages.Activating q n fails known = by (broken (at stages.Activating q)) refl fails
    where
      by : (o : Option ℕ) → broken (at stages.Activating q) ≡ o → option_and_then (λ k. slice_get (map (λ i. i.name) q.plan.items) k) o ≡ Some n →
          HasCause d records (at stages.Activating q) n
      by None is named = absurd cc
      by (Some k) is named =
          let counts = three (at stages.Activating q) k is in
          inr (record {
            stage = refl;
            at = k;
            named = named;
            counted = counts.0;
            recorded =
                subst (λ (m : ℕ). FailedSoOften d records (at stages.Activating q) k m) counts.1 (known k);
          })
  cause_in stages.Backing q n fails known = absurd cc
  cause_in stages.Rolling q n fails known = absurd cc

  begun_by : (c : Device) (q : Pending) (n : List ℕ) (r : Record) → (r ≡ Failing n) ⊎ (r ≡ FailingBack n) → Run d records c → c.pending ≡ Some q →
      MayBreak n q → WasTaken d records q.plan × KnownIn d records q q.stage
      → HasBegunRollback d (records ++ r ∷ []) q.plan
  begun_by c q n r is run pending may known = record {
    name = n;
    failing = r;
    is = is;
    earlier = records;
    after = [];
    split = refl;
    since = refl;
    taken = known.0;
    device = c;
    run = run;
    q = q;
    pending = pending;
    same = refl;
    cause = cause_in q.stage q n may.1 known.1;
  }

  -- ---- record by record, over what is pending

  boot_begins : (n : List ℕ) (o : Option Pending) → IsSomeAnd o (MayBegin n) → Known d records o → Known d (records ++ BootBegun n ∷ []) (option_map begun o)
  boot_begins n None may known = absurd may
  boot_begins n (Some q) may known = (taken_more q.plan (BootBegun n) refl known.0, begun_in q.stage q n may known.1)

  boot_ends : (n : List ℕ) (e : Exit) (o : Option Pending) → IsSomeAnd o (MayEnd n) → Known d records o →
      Known d (records ++ BootEnded n e ∷ []) (option_map (boot_ended e) o)
  boot_ends n e None may known = absurd may
  boot_ends n e (Some q) may known = ended_in q n e may known

  activates : (o : Option Pending) → IsSomeAnd o MayActivate → Known d records o → Known d (records ++ Activating ∷ []) (option_map activated o)
  activates None may known = absurd may
  activates (Some q) may known = (taken_more q.plan Activating refl known.0, λ k. inl (records, [], refl, refl, sym (zero_at 128 k)))

  step_fails : (set : List Item) (n : List ℕ) (s : Step) (e : Exit) (o : Option Pending) → IsSomeAnd o (MayFail set n s e) → Known d records o →
      Known d (records ++ StepFailed n s e ∷ []) (option_map (count_failure set n) o)
  step_fails set n s e None may known = absurd may
  step_fails set n s e (Some q) may known = counted_in set q.stage q n s e may.0 known

  fails : (c : Device) (n : List ℕ) (o : Option Pending) → c.pending ≡ o → Run d records c → IsSomeAnd o (MayBreak n) → Known d records o →
      Known d (records ++ Failing n ∷ []) (option_map rolled o)
  fails c n None is run may known = absurd may
  fails c n (Some q) is run may known = (taken_more q.plan (Failing n) refl known.0, inl (begun_by c q n (Failing n) (inl refl) run is may known))

  fails_back : (c : Device) (n : List ℕ) (o : Option Pending) → c.pending ≡ o → Run d records c → IsSomeAnd o (MayGoBack c.origin c.set n) →
      Known d records o → Known d (records ++ FailingBack n ∷ []) (option_map (sent_back c.origin c.set) o)
  fails_back c n None is run may known = absurd may
  fails_back c n (Some q) is run may known = (
    taken_more q.plan (FailingBack n) refl known.0,
    inl (begun_by c q n (FailingBack n) (inr refl) run is may.0 known),
  )

  closes : (c : Device) (x : Outcome) (o : Option Pending) → IsSomeAnd o (λ q. MayClose q x) → Known d (records ++ Closed x ∷ []) (close_pending x c o).pending
  closes c x None may = absurd may
  closes c x (Some q) may = tt

steps : (d : Device) → Steps d (λ records c. Known d records c.pending)
steps d records c (Accepted p) run own allowed known = (inl (records, [], refl, refl), λ failed name is_next. absurd (false≢true failed))
steps d records c (BootBegun n) run own allowed known = boot_begins d records n c.pending allowed known
steps d records c (BootEnded n e) run own allowed known = boot_ends d records n e c.pending allowed known
steps d records c Activating run own allowed known = activates d records c.pending allowed known
steps d records c (StepFailed n s e) run own allowed known = step_fails d records c.set n s e c.pending allowed known
steps d records c (Failing n) run own allowed known = fails d records c n c.pending refl run allowed known
steps d records c (FailingBack n) run own allowed known = fails_back d records c n c.pending refl run allowed known
steps d records c (Closed o) run own allowed known = closes d records c o c.pending allowed
steps d records c r run own allowed known = absurd own

-- ---- the start

known_first : (d : Device) (o : Option Pending) → d.pending ≡ o → Known d [] o
known_first d None is = tt
known_first d (Some q) is = (inr (subst (λ (x : Option Pending). IsSomeAnd x (λ y. y.plan ≡ q.plan)) (sym is) refl, refl), by q.stage refl)
  where
    by : (s : Stage) → q.stage ≡ s → KnownIn d [] q s
    by stages.Booting stage = λ failed name is_next. inr (refl, is)
    by stages.Activating stage = λ k. inr (q, is, stage, refl, refl, omega arith)
    by stages.Backing stage = inr (record { q = q; pending = is; same = refl; back = ap is_way_back stage; since = refl })
    by stages.Rolling stage = inr (record { q = q; pending = is; same = refl; back = ap is_way_back stage; since = refl })

known : (p : SessionState) (h : List TraceEvent) → IsProper p h → Runs p h → Known p.device (records_of h) (state_after p h).device.pending
known p h proper run = along p (λ records c. Known p.device records c.pending) (known_first p.device p.device.pending refl) (steps p.device) h proper run

-- ---- the close

caused : (d : Device) (records : List Record) (q : Pending) (o : Outcome) → MayClose q o → KnownIn d records q q.stage → IsCaused d records q o
caused d records q outcomes.Successful may known = tt
caused d records q outcomes.RollbackNotRequested may known = may.0
caused d records q outcomes.RollbackComplete may known = subst (λ (s : Stage). KnownIn d records q s) may.0 known
caused d records q outcomes.UnableToRollback (inl may) known = subst (λ (s : Stage). KnownIn d records q s) may.0 known
caused d records q outcomes.UnableToRollback (inr may) known = subst (λ (s : Stage). KnownIn d records q s) may.0 known

closes_by : (d : Device) (records : List Record) (o : Outcome) (x : Option Pending) → IsSomeAnd x (λ q. MayClose q o) → Known d records x →
    IsSomeAnd x (λ q. IsCaused d records q o)
closes_by d records o None may known = absurd may
closes_by d records o (Some q) may known = caused d records q o may known.1

pub closes_caused : ClosesCaused
closes_caused p h before o is stood =
    let here = history_at p h (Recorded (Closed o)) before is stood in
    let run = run_before p (Closed o) before here.run in
    closes_by p.device (records_of before) o (state_after p before).device.pending run.1 (known p before here.proper.1 run.0)

-- ---- along runs

-- what is known, where a deployment is pending only with an origin
record KnownOf (d : Device) (records : List Record) (c : Device) : Type 0 where
  known : Known d records c.pending
  placed : c.origin ≡ None → c.pending ≡ None

module _ (d : Device) (records : List Record) (c : Device) (k : KnownOf d records c) where
  -- who has no origin has nothing pending, and goes on so
  pending_still : (f : Pending → Pending) → c.origin ≡ None → option_map f c.pending ≡ None
  pending_still f none = ap (option_map f) (k.placed none)

  closed_none : (o : Outcome) (x : Option Pending) → (close_pending o c x).origin ≡ None → x ≡ None → (close_pending o c x).pending ≡ None
  closed_none o None none is = k.placed none
  closed_none o (Some q) none is = refl

  closed_origin : (o : Outcome) (x : Option Pending) → (close_pending o c x).origin ≡ c.origin
  closed_origin o None = refl
  closed_origin o (Some q) = refl

  origin_there : (p : Plan) (x : Option Origin) → IsSomeAnd x (MayAccept c p) → x ≡ None → ⊥
  origin_there p None may none = may
  origin_there p (Some o) may none = no_some o (sym none)

  nothing_known : (more : List Record) (x : Option Pending) → x ≡ None → Known d more x
  nothing_known more None is = tt
  nothing_known more (Some q) is = no_some q (sym is)

  record_known : (r : Record) → Run d records c → Allowed c r → KnownOf d (records ++ r ∷ []) (applied c r)
  record_known (Genesis o) run allowed = record {
    known = nothing_known (records ++ Genesis o ∷ []) c.pending (k.placed allowed.0);
    placed =
        λ none. k.placed allowed.0;
  }
  record_known (Accepted p) run allowed = record {
    known = steps d records c (Accepted p) run tt allowed k.known;
    placed =
        λ none. absurd (origin_there p c.origin allowed none);
  }
  record_known (BootBegun n) run allowed = record { known = steps d records c (BootBegun n) run tt allowed k.known; placed = pending_still begun }
  record_known (BootEnded n e) run allowed = record { known = steps d records c (BootEnded n e) run tt allowed k.known; placed = pending_still (boot_ended e) }
  record_known Activating run allowed = record { known = steps d records c Activating run tt allowed k.known; placed = pending_still activated }
  record_known (StepFailed n s e) run allowed = record {
    known = steps d records c (StepFailed n s e) run tt allowed k.known;
    placed =
        pending_still (count_failure c.set n);
  }
  record_known (Failing n) run allowed = record { known = steps d records c (Failing n) run tt allowed k.known; placed = pending_still rolled }
  record_known (FailingBack n) run allowed = record {
    known = steps d records c (FailingBack n) run tt allowed k.known;
    placed =
        pending_still (sent_back c.origin c.set);
  }
  record_known (Closed o) run allowed = record {
    known = steps d records c (Closed o) run tt allowed k.known;
    placed = λ none. closed_none o c.pending none (k.placed (sym (closed_origin o c.pending) ∙ none));
  }
  record_known r run allowed = absurd allowed

run_more : (d : Device) (records : List Record) (c : Device) (r : Record) (e : Device) → Run d records c → Lawful c r e → Run d (records ++ r ∷ []) e
run_more d [] c r e run one = (e, subst (λ (x : Device). Lawful x r e) run one, refl)
run_more d (x ∷ records) c r e run one = (run.0, run.1, run_more run.0 records c r e run.2 one)

closes_in : (d : Device) (done : List Record) (c : Device) (before after : List Record) (o : Outcome) (e : Device) → Run d done c → KnownOf d done c →
    Run c (before ++ Closed o ∷ after) e
    → (b : Device) × Run d (done ++ before) b × IsSomeAnd b.pending (λ q. IsCaused d (done ++ before) q o)
closes_in d done c [] after o e run k rest =
    let same = sym (append-nil done) in (
      c,
      subst (λ (l : List Record). Run d l c) same run,
      subst (λ (l : List Record). IsSomeAnd c.pending (λ q. IsCaused d l q o)) same
          (closes_by d done o c.pending rest.1.allowed k.known),
    )
closes_in d done c (r ∷ before) after o e run k rest =
    let next = subst (λ (x : Device). KnownOf d (done ++ r ∷ []) x) (sym rest.1.leaves) (record_known d done c k r run rest.1.allowed) in
    subst (λ (l : List Record). (b : Device) × Run d l b × IsSomeAnd b.pending (λ q. IsCaused d l q o)) (append_assoc done (r ∷ []) before)
    (closes_in d (done ++ r ∷ []) rest.0 before after o e (run_more d done c r rest.0 run rest.1) next rest.2)

pub runs_close_caused : RunsCloseCaused
runs_close_caused d e before after o placed run = closes_in d [] d before after o e refl (record { known = known_first d d.pending refl; placed = placed }) run
