-- Which bootstraps began and ended in a stage, along the records of a call.
use Rattle.std.proofs.Common.{◌≡◌, inl, inr, ◌∙◌, ℕ, ◌+◌, ◌<◌, Bool, true, false, List, [], ◌∷◌, ◌++◌, get_or, Option, Some, None, refl, sym, ap, subst}
use Rattle.std.proofs.Common.{arith, append-nil, append_assoc}
use Rattle.std.specs.Prelude.{if◌then◌else◌, not, option_map, slice_get, take, ⊤}
use Rattle.std.specs.List.{Contains, IsDistinct}
use Rattle.std.specs.Option.{IsSomeAnd}
use Rattle.std.specs.Str.{bytes_eq}
use Rattle.std.proofs.lemmas.Bool.{false≢true}
use Rattle.std.proofs.lemmas.List.{get_or-take, length-take}
use Rattle.std.proofs.lemmas.Map.Keys.{apart_from_distinct}
use Rattle.std.proofs.lemmas.Option.{get_or_from_slice_get, slice_get_within}
use Rattle.std.proofs.lemmas.Slice.Eq.{bytes_eq-Decides}
use Rattle.nuc_base.specs.declared.kinds.Exit.{Exit}
use Rattle.nuc_base.specs.declared.kinds.Step.{Step}
use Rattle.nuc_base.specs.declared.kinds.Outcome.{Outcome}
use Rattle.records.specs.Stored.{Item, Record, Accepted, BootBegun, BootEnded, Activating, StepFailed, Failing, FailingBack, Closed}
use Rattle.records.specs.declared.record.Origin.{Origin}
use Rattle.device.specs.declared.staged.Stage.{Stage}
use Rattle.device.specs.declared.staged.Stage.TheVariants as stages
use Rattle.device.specs.Devices.{Device, Pending}
use Rattle.device.specs.Lawful.{MayActivate, MayBegin, MayClose, MayCount, MayEnd, MayFail, accepted, activated, begun, boot_ended, boots_of, close_pending}
use Rattle.device.specs.Lawful.{count_failure, counted, failing_place, goes_on, has_gone_back, moved_on, next_boot, one_ended, rolled, sent_back}
use Rattle.components.specs.declared.kinds.Prepared.{Prepared}
use Rattle.device.proofs.SoundStages.{at}
use Rattle.histories.specs.Phases.{begins_stage, duty_in}
use Rattle.histories.specs.TraceEvents.{TraceEvent, Booted, records_of}
use Rattle.histories.specs.States.{SessionState, state_after}
use Rattle.histories.specs.Follows.{IsProper, MayBoot}
use Rattle.law_histories.specs.Starts.{IsBegunLast, ended_names, EndedInStage, BootsStartOnce}
use Rattle.law_histories.proofs.Growing.{more, none_more, take_next}
use Rattle.law_histories.proofs.Duties.{duty_by}
use Rattle.law_histories.proofs.Histories.{Runs, Steps, along, history_at, run_less}
use Rattle.law_histories.proofs.Standing.{may_boot}
use Rattle.law_histories.proofs.Facts.{none_at, some_same}

-- ---- what is known of the bootstraps of a stage

abbrev EndedFirst : Device → List Record → Pending → Type 0
EndedFirst d records q = (ended : List (List ℕ)) × EndedInStage d records q ended × (ended ≡ take q.ended (boots_of q))

record KnownBoots (d : Device) (records : List Record) (q : Pending) : Type 0 where
  begun : q.boot_failed ≡ false → q.begun ≡ true → (name : List ℕ) → next_boot q ≡ Some name → IsBegunLast d records q name
  ended : q.boot_failed ≡ false → (name : List ℕ) → next_boot q ≡ Some name → EndedFirst d records q

abbrev Known : Device → List Record → Option Pending → Type 0
Known d records None = ⊤
Known d records (Some q) = KnownBoots d records q

-- ---- one more record

names_on : (xs : List Record) (r : Record) → ended_names (xs ++ r ∷ []) ≡ ended_names xs ++ ended_names (r ∷ [])
names_on [] r = refl
names_on (BootEnded n e ∷ xs) r = ap (λ (l : List (List ℕ)). n ∷ l) (names_on xs r)
names_on (x ∷ xs) r = names_on xs r

-- where no bootstrap is left nothing is to be known
nothing_left : (d : Device) (records : List Record) (q : Pending) → ((name : List ℕ) → next_boot q ≡ Some name → ⊥) → KnownBoots d records q
nothing_left d records q none = record { begun = λ good b name is_next. absurd (none name is_next); ended = λ good name is_next. absurd (none name is_next) }

module _ (d : Device) (records : List Record) where
  ended_on : (q : Pending) (r : Record) (ended names : List (List ℕ)) → begins_stage r ≡ false → ended_names (r ∷ []) ≡ names →
      EndedInStage d records q ended → EndedInStage d (records ++ r ∷ []) q (ended ++ names)
  ended_on q r ended names not is (inl o) = inl (
    o.0,
    o.1 ++ r ∷ [],
    o.2,
    more o.0 (o.2 ∷ o.1) r records o.3,
    o.4,
    none_more begins_stage o.1 r o.5 not,
    ap (λ (l : List (List ℕ)). l ++ names) o.6 ∙ ap (λ (l : List (List ℕ)). ended_names o.1 ++ l) (sym is) ∙ sym (names_on o.1 r),
  )
  ended_on q r ended names not is (inr o) = inr (
    o.0,
    o.1,
    o.2,
    o.3,
    none_more begins_stage records r o.4 not,
    ap (λ (l : List (List ℕ)). l ++ names) o.5
        ∙ append_assoc (take o.0.ended (boots_of q)) (ended_names records) names
        ∙ ap (λ (l : List (List ℕ)). take o.0.ended (boots_of q) ++ l)
        (ap (λ (l : List (List ℕ)). ended_names records ++ l) (sym is) ∙ sym (names_on records r)),
  )

  -- where no end is added
  ended_still : (q : Pending) (r : Record) → begins_stage r ≡ false → ended_names (r ∷ []) ≡ [] → EndedFirst d records q → EndedFirst d (records ++ r ∷ []) q
  ended_still q r not none e =
      (e.0, subst (λ (l : List (List ℕ)). EndedInStage d (records ++ r ∷ []) q l) (append-nil e.0) (ended_on q r e.0 [] not none e.1), e.2)

  -- a stage begins in which none is ended
  ended_none : (q : Pending) (r : Record) → begins_stage r ≡ true → q.ended ≡ 0 → EndedFirst d (records ++ r ∷ []) q
  ended_none q r is zero = ([], inl (records, [], r, refl, is, refl, refl), ap (λ (k : ℕ). take k (boots_of q)) (sym zero))

  boot_begins : (n : List ℕ) (o : Option Pending) → IsSomeAnd o (MayBegin n) → Known d records o → Known d (records ++ BootBegun n ∷ []) (option_map begun o)
  boot_begins n None may known = absurd may
  boot_begins n (Some q) may known = record {
    begun = λ good b name is_next. inl (records, ap (λ (x : List ℕ). records ++ BootBegun x ∷ []) (some_same n name (sym may.1 ∙ is_next)));
    ended = λ good name is_next. ended_still q (BootBegun n) refl refl (known.ended good name is_next);
  }

  one_more : (q : Pending) (n : List ℕ) (e : Exit) → MayEnd n q → KnownBoots d records q → (ended : List (List ℕ)) ×
      EndedInStage d (records ++ BootEnded n e ∷ []) q ended × (ended ≡ take (q.ended + 1) (boots_of q))
  one_more q n e may known =
      let k = known.ended may.0 n may.1 in (
        k.0 ++ n ∷ [],
        ended_on q (BootEnded n e) k.0 (n ∷ []) refl refl k.1,
        ap (λ (l : List (List ℕ)). l ++ n ∷ []) k.2 ∙ sym
            (take_next (boots_of q) q.ended n may.1),
      )

  moved_in : (s : Stage) (q : Pending) (n : List ℕ) (e : Exit) → MayEnd n (at s q) → KnownBoots d records (at s q) →
      KnownBoots d (records ++ BootEnded n e ∷ []) (moved_on (at s q))
  moved_in stages.Booting q n e may known = record {
    begun = λ good b name is_next. absurd (false≢true b);
    ended =
        λ good name is_next. one_more (at stages.Booting q) n e may known;
  }
  moved_in stages.Activating q n e may known = absurd (none_at q.ended n may.1)
  moved_in stages.Backing q n e may known = by (has_gone_back (one_ended (at stages.Backing q)))
    where
      by : (b : Bool) → KnownBoots d (records ++ BootEnded n e ∷ []) (if b then rolled (one_ended (at stages.Backing q)) else one_ended (at stages.Backing q))
      by true = nothing_left d (records ++ BootEnded n e ∷ []) (rolled (one_ended (at stages.Backing q))) (λ name is_next. none_at (q.ended + 1) name is_next)
      by false = record { begun = λ good b name is_next. absurd (false≢true b); ended = λ good name is_next. one_more (at stages.Backing q) n e may known }
  moved_in stages.Rolling q n e may known = absurd (none_at q.ended n may.1)

  boot_ends : (n : List ℕ) (e : Exit) (o : Option Pending) → IsSomeAnd o (MayEnd n) → Known d records o →
      Known d (records ++ BootEnded n e ∷ []) (option_map (boot_ended e) o)
  boot_ends n e None may known = absurd may
  boot_ends n e (Some q) may known = by (goes_on e)
    where
      by : (b : Bool) → KnownBoots d (records ++ BootEnded n e ∷ []) (if b then moved_on q else record q { boot_failed = true })
      by true = moved_in q.stage q n e may known
      by false = record { begun = λ good b name is_next. absurd (false≢true (sym good)); ended = λ good name is_next. absurd (false≢true (sym good)) }

  activates : (o : Option Pending) → IsSomeAnd o MayActivate → Known d (records ++ Activating ∷ []) (option_map activated o)
  activates None may = absurd may
  activates (Some q) may = nothing_left d (records ++ Activating ∷ []) (activated q) (λ name is_next. none_at q.ended name is_next)

  counted_in : (set : List Item) (s : Stage) (q : Pending) (n : List ℕ) (t : Step) (e : Exit) → MayCount (at s q) (failing_place set (at s q) n) →
      KnownBoots d (records ++ StepFailed n t e ∷ []) (count_failure set n (at s q))
  counted_in set stages.Booting q n t e may = absurd may
  counted_in set stages.Activating q n t e may = by (failing_place set (at stages.Activating q) n)
    where
      by : (o : Option ℕ) → KnownBoots d (records ++ StepFailed n t e ∷ []) (counted o (at stages.Activating q))
      by None = nothing_left d (records ++ StepFailed n t e ∷ []) (at stages.Activating q) (λ name is_next. none_at q.ended name is_next)
      by (Some j) = nothing_left d (records ++ StepFailed n t e ∷ []) (counted (Some j) (at stages.Activating q)) (λ name is_next. none_at q.ended name is_next)
  counted_in set stages.Backing q n t e may = absurd may
  counted_in set stages.Rolling q n t e may = by (failing_place set (at stages.Rolling q) n)
    where
      by : (o : Option ℕ) → KnownBoots d (records ++ StepFailed n t e ∷ []) (counted o (at stages.Rolling q))
      by None = nothing_left d (records ++ StepFailed n t e ∷ []) (at stages.Rolling q) (λ name is_next. none_at q.ended name is_next)
      by (Some j) = nothing_left d (records ++ StepFailed n t e ∷ []) (counted (Some j) (at stages.Rolling q)) (λ name is_next. none_at q.ended name is_next)

  step_fails : (set : List Item) (n : List ℕ) (s : Step) (e : Exit) (o : Option Pending) → IsSomeAnd o (MayFail set n s e) →
      Known d (records ++ StepFailed n s e ∷ []) (option_map (count_failure set n) o)
  step_fails set n s e None may = absurd may
  step_fails set n s e (Some q) may = counted_in set q.stage q n s e may.0

  fails : (n : List ℕ) (o : Option Pending) → Known d (records ++ Failing n ∷ []) (option_map rolled o)
  fails n None = tt
  fails n (Some q) = nothing_left d (records ++ Failing n ∷ []) (rolled q) (λ name is_next. none_at q.ended name is_next)

  fails_back : (origin : Option Origin) (set : List Item) (n : List ℕ) (o : Option Pending) →
      Known d (records ++ FailingBack n ∷ []) (option_map (sent_back origin set) o)
  fails_back origin set n None = tt
  fails_back origin set n (Some q) = record {
    begun = λ good b name is_next. absurd (false≢true b);
    ended = λ good name is_next. ended_none (sent_back origin set q) (FailingBack n) refl refl;
  }

  closes : (c : Device) (x : Outcome) (o : Option Pending) → IsSomeAnd o (λ q. MayClose q x) → Known d (records ++ Closed x ∷ []) (close_pending x c o).pending
  closes c x None may = absurd may
  closes c x (Some q) may = tt

steps : (d : Device) → Steps d (λ records c. Known d records c.pending)
steps d records c (Accepted p) run own allowed known = record {
  begun = λ good b name is_next. absurd (false≢true b);
  ended = λ good name is_next. ended_none d records (accepted p) (Accepted p) refl refl;
}
steps d records c (BootBegun n) run own allowed known = boot_begins d records n c.pending allowed known
steps d records c (BootEnded n e) run own allowed known = boot_ends d records n e c.pending allowed known
steps d records c Activating run own allowed known = activates d records c.pending allowed
steps d records c (StepFailed n s e) run own allowed known = step_fails d records c.set n s e c.pending allowed
steps d records c (Failing n) run own allowed known = fails d records n c.pending
steps d records c (FailingBack n) run own allowed known = fails_back d records c.origin c.set n c.pending
steps d records c (Closed o) run own allowed known = closes d records c o c.pending allowed
steps d records c r run own allowed known = absurd own

known_first : (d : Device) (o : Option Pending) → d.pending ≡ o → Known d [] o
known_first d None is = tt
known_first d (Some q) is = record {
  begun = λ good b name is_next. inr (refl, is);
  ended = λ good name is_next. (take q.ended (boots_of q), inr (q, is, refl, refl, refl, sym (append-nil (take q.ended (boots_of q)))), refl);
}

known : (p : SessionState) (h : List TraceEvent) → IsProper p h → Runs p h → Known p.device (records_of h) (state_after p h).device.pending
known p h proper run = along p (λ records c. Known p.device records c.pending) (known_first p.device p.device.pending refl) (steps p.device) h proper run

-- ---- the one that starts

not_again : (boots ended : List (List ℕ)) (k : ℕ) (name : List ℕ) → ended ≡ take k boots → slice_get boots k ≡ Some name → IsDistinct bytes_eq boots →
    Contains ended name → ⊥
not_again boots ended k name first is_next differ has =
    let c = subst (λ (l : List (List ℕ)). Contains l name) first has in
    let long = length-take k boots in
    let short = c.1 in
    let below : c.0 < k = omega (arith, long, short) in
    let within = slice_get_within boots k name is_next in
    let here : get_or boots c.0 name ≡ name = sym (get_or-take k boots c.0 name below) ∙ c.2 in
    let there : get_or boots k name ≡ name = get_or_from_slice_get boots k name name is_next in
    let apart = apart_from_distinct bytes_eq boots c.0 k name differ below within in
    let same : bytes_eq name name ≡ false = subst (λ (x : List ℕ). bytes_eq x name ≡ false) here
    (subst (λ (x : List ℕ). bytes_eq (get_or boots c.0 name) x ≡ false) there apart) in
    false≢true (sym same ∙ (bytes_eq-Decides name name).1 refl)

duty_origin : (d : Device) (o : Option Pending) → (duty_by d o).origin ≡ d.origin
duty_origin d None = refl
duty_origin d (Some q) = by q.stage
  where
    by : (s : Stage) → (duty_in d (at s q)).origin ≡ d.origin
    by stages.Booting = refl
    by stages.Activating = refl
    by stages.Backing = refl
    by stages.Rolling = refl

-- the name is that of the first one left
record IsNextName (q : Pending) (name : List ℕ) : Type 0 where
  good : q.boot_failed ≡ false
  begun : q.begun ≡ true
  next : next_boot q ≡ Some name

name_in_stage : (q : Pending) (name : List ℕ) → q.begun ≡ true → (if q.boot_failed then None else next_boot q) ≡ Some name → IsNextName q name
name_in_stage q name begun is_next = by q.boot_failed refl is_next
  where
    by : (b : Bool) → q.boot_failed ≡ b → (if b then None else next_boot q) ≡ Some name → IsNextName q name
    by true failed is_next = absurd cc
    by false good is_next = record { good = good; begun = begun; next = is_next }

name_at : (d : Device) (p : SessionState) (m : Prepared) (s : Stage) (q : Pending) (may : MayBoot (duty_in d (at s q)) p m) → IsNextName (at s q) may.item.name
name_at d p m stages.Booting q may = name_in_stage (at stages.Booting q) may.item.name may.begun may.next
name_at d p m stages.Activating q may = absurd (false≢true may.phase)
name_at d p m stages.Backing q may = name_in_stage (at stages.Backing q) may.item.name may.begun may.next
name_at d p m stages.Rolling q may = absurd (false≢true may.phase)

record NextName (o : Option Pending) (name : List ℕ) : Type 0 where
  q : Pending
  pending : o ≡ Some q
  is : IsNextName q name

name_by : (d : Device) (p : SessionState) (m : Prepared) (o : Option Pending) (may : MayBoot (duty_by d o) p m) → NextName o may.item.name
name_by d p m None may = absurd (false≢true may.phase)
name_by d p m (Some q) may = record { q = q; pending = refl; is = name_at d p m q.stage q may }

pub boots_start_once : BootsStartOnce
boots_start_once p h before e m n c is stood started =
    let here = history_at p h (Booted e m) before is stood in
    let d = (state_after p before).device in
    let may = may_boot p h before e m n c is stood started in
    let t = name_by d (state_after p before) m d.pending may in
    let known = subst (λ (o : Option Pending). Known p.device (records_of before) o) t.pending
    (known p before here.proper.1 (run_less p (Booted e m) before here.run)) in
    let ended = known.ended t.is.good may.item.name t.is.next in
    record {
      q = t.q;
      pending = t.pending;
      name = may.item.name;
      is = record {
        origin = may.origin;
        of_device = sym (duty_origin d d.pending) ∙ may.of_device;
        at = may.at;
        item = may.item;
        there = may.there;
        named =
            refl;
        prepared = may.prepared;
      };
      good = t.is.good;
      begun = t.is.begun;
      recorded = known.begun t.is.good t.is.begun may.item.name t.is.next;
      ended = ended.0;
      are = ended.1;
      first = ended.2;
      next = t.is.next;
      new = not_again (boots_of t.q) ended.0 t.q.ended may.item.name ended.2 t.is.next;
    }
