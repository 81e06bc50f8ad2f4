-- Which end a failure has that a component owes.
use Rattle.std.proofs.Common.{◌≡◌, ◌∙◌, ℕ, zero, suc, Bool, true, false, List, [], ◌∷◌, Option, Some, None, refl, sym, ap, subst}
use Rattle.std.specs.Prelude.{if◌then◌else◌, option_and_then, option_map, slice_get}
use Rattle.std.specs.List.{list_any}
use Rattle.std.specs.Option.{IsSomeAnd}
use Rattle.nuc_base.specs.declared.kinds.Exit.{Exit}
use Rattle.nuc_base.specs.declared.kinds.Exit.TheVariants as exits
use Rattle.nuc_base.specs.declared.kinds.Step.{Step}
use Rattle.nuc_base.specs.declared.kinds.Step.TheVariants as step
use Rattle.records.specs.Stored as stored
use Rattle.records.specs.Stored.{Record}
use Rattle.lifecycle.specs.declared.kinds.After.{After}
use Rattle.lifecycle.specs.declared.kinds.LifeEvent.{LifeEvent}
use Rattle.lifecycle.specs.declared.kinds.LifeEvent.TheVariants as event
use Rattle.step_runner.specs.declared.entries.RunnerEntry.{RunnerEntry}
use Rattle.step_runner.specs.declared.entries.Seen.{Seen}
use Rattle.step_runner.specs.declared.entries.Seen.TheVariants as seen
use Rattle.components.specs.Events.{answered_at, gone_by, is_late_child, is_orphan_at, kill_event, kill_event_at, heard_at, with_child}
use Rattle.components.specs.Lives.{lived_at}
use Rattle.components.specs.Turns.{owes}
use Rattle.components.specs.Components.{Components, ComponentState, At, changed_at, child_gone, owner, component_name, place_of, without_child}
use Rattle.components.specs.declared.kinds.Prepared.{Prepared}
use Rattle.components.proofs.Moved.{move_owes}
use Rattle.histories.specs.Phases.{Duty, duty_of}
use Rattle.histories.specs.Courses.{IsStart}
use Rattle.histories.specs.TraceEvents.{TraceEvent, Ran, Booted, KilledOnAbort, Recorded, Moved, Heard, Changed, StopsAll, records_of}
use Rattle.histories.specs.States.{SessionState, booted, cut_off, state_after, ran}
use Rattle.histories.specs.Follows.{IsProper, MayRun, OwesBy}
use Rattle.law_histories.specs.Ends.{FailuresEnded, HasStepEnd, IsStepEnd, is_step_failure}
use Rattle.law_histories.proofs.Growing.{none_more}
use Rattle.law_histories.proofs.Histories.{history_at}
use Rattle.law_histories.proofs.Debts.{Debt, Named, Owes, OwesNoMore, changed_same, changed_told, debt, debts, each_same, forgetting_debt, leaving_debt}
use Rattle.law_histories.proofs.Debts.{lived_at_debt, none_owed, owed_any, owes_named, place_named, same_debts, told_gone, told_no_more}
use Rattle.components.specs.Changes.{forgetting, leaving}
use Rattle.law_histories.proofs.Facts.{no_some, some_same}

-- ---- what an entry makes owed

ended_same : (s t : Step) (x y : Exit) → event.Ended s x ≡ event.Ended t y → (s ≡ t) × (x ≡ y)
ended_same s t x y e = (cc, cc)

not_launched : (s : Step) (x : Exit) → event.Launched ≡ event.Ended s x → ⊥
not_launched s x e = cc

not_skipped : (s : Step) (x : Exit) → event.Skipped ≡ event.Ended s x → ⊥
not_skipped s x e = cc

not_stopped : (a : After) (s : Step) (x : Exit) → event.Stop a ≡ event.Ended s x → ⊥
not_stopped a s x e = cc

-- this entry is the end that is owed
abbrev Ends : SessionState → Seen → ℕ → Step → ℕ → List ℕ → Step × Exit → Type 0
Ends q s k t j name f = (j ≡ k) × IsStepEnd q.world s k t f.1 × (t ≡ f.0)

-- one component has the debt that it had
module _ (w : Components) (g : ComponentState → ComponentState) (same : (p : ComponentState) → debt (g p) ≡ debt p) (told : list_any owes w.parts ≡ false)
    (k : ℕ) where
  told_still : list_any owes (changed_at k g w.parts) ≡ false
  told_still = owed_any (changed_at k g w.parts) w.parts (changed_same debt g same k w.parts) told

-- the child of a component goes, and this befalls it
gone_debt : (e : Option LifeEvent) (k : ℕ) (t : Step) (n : ℕ) (w : Components) (j : ℕ) (name : List ℕ) (f : Step × Exit) → list_any owes w.parts ≡ false →
    Owes (gone_by e k t n w).parts j name f
    → (j ≡ k) × (e ≡ Some (event.Ended f.0 f.1))
gone_debt None k t n w j name f told is = absurd (none_owed (child_gone k n w).parts j name f (told_still w (without_child n) (λ p. refl) told k) is)
gone_debt (Some e) k t n w j name f told is = by (is_orphan_at k t w) is
  where
    by : (b : Bool) → Owes (if b then child_gone k n w else lived_at k e (child_gone k n w)).parts j name f → (j ≡ k) × (Some e ≡ Some (event.Ended f.0 f.1))
    by true is = absurd (none_owed (child_gone k n w).parts j name f (told_still w (without_child n) (λ p. refl) told k) is)
    by false is =
        let d = lived_at_debt k e (child_gone k n w) j name f (told_still w (without_child n) (λ p. refl) told k) is in
        (d.0, ap Some d.1)

-- a kill is an end past the limit, or a stop
late_kill : (k : ℕ) (t : Step) (n : ℕ) (w : Components) (f : Step × Exit) → kill_event_at k t n w ≡ Some (event.Ended f.0 f.1) →
    At k (λ q. is_late_child w.moment n q ≡ true) w.parts × (t ≡ f.0) × (f.1 ≡ exits.TimedOut)
late_kill k t n w f is = by (slice_get w.parts k) is
  where
    by : (o : Option ComponentState) → option_and_then (kill_event w.moment n t) o ≡ Some (event.Ended f.0 f.1) →
        IsSomeAnd o (λ q. is_late_child w.moment n q ≡ true) × (t ≡ f.0) × (f.1 ≡ exits.TimedOut)
    by None is = no_some (event.Ended f.0 f.1) is
    by (Some p) is = late (is_late_child w.moment n p) refl is
      where
        stop : (o : Option After) → option_map (λ a. event.Stop a) o ≡ Some (event.Ended f.0 f.1) → ⊥
        stop None is = no_some (event.Ended f.0 f.1) is
        stop (Some a) is = not_stopped a f.0 f.1 (some_same (event.Stop a) (event.Ended f.0 f.1) is)

        late : (b : Bool) → is_late_child w.moment n p ≡ b → (if b then Some (event.Ended t exits.TimedOut) else option_map (λ a. event.Stop a) p.stop) ≡ Some
            (event.Ended f.0 f.1)
            → (is_late_child w.moment n p ≡ true) × (t ≡ f.0) × (f.1 ≡ exits.TimedOut)
        late true is_late is =
            let same = ended_same t f.0 exits.TimedOut f.1 (some_same (event.Ended t exits.TimedOut) (event.Ended f.0 f.1) is) in
            (is_late, same.0, sym same.1)
        late false is_late is = absurd (stop p.stop is)

-- a kill and an end, by whose child it is
abbrev killed_by : ℕ → Components → Option (ℕ × Step) → Components
killed_by n w o = elim o [ None ↦ w | Some x ↦ gone_by (kill_event_at x.0 x.1 n w) x.0 x.1 n w ]

abbrev ended_by : ℕ → Exit → Components → Option (ℕ × Step) → Components
ended_by n e w o = elim o [ None ↦ w | Some x ↦ gone_by (Some (event.Ended x.1 e)) x.0 x.1 n w ]

ran_debt : (d : Duty) (q : SessionState) (s : Seen) (k : ℕ) (t : Step) (j : ℕ) (name : List ℕ) (f : Step × Exit) → MayRun d q s k t →
    Owes (ran s k t q.world).parts j name f → Ends q s k t j name f
ran_debt d q (seen.Started n c) k t j name f may is = by t is
  where
    by : (t : Step) → Owes (ran (seen.Started n c) k t q.world).parts j name f → Ends q (seen.Started n c) k t j name f
    by step.Run is =
        let still = told_still q.world (λ p. with_child n step.Run q.world.moment (record p { handed = false })) (λ p. refl) may.0.owes_none k in
        let w : Components = record q.world { parts = changed_at k (λ p. with_child n step.Run q.world.moment (record p { handed = false })) q.world.parts } in
        absurd (not_launched f.0 f.1 (lived_at_debt k event.Launched w j name f still is).1)
    by u is = absurd (none_owed (changed_at k (λ p. with_child n u q.world.moment (record p { handed = false })) q.world.parts) j name f
        (told_still q.world (λ p. with_child n u q.world.moment (record p { handed = false })) (λ p. refl) may.0.owes_none k) is)
ran_debt d q (seen.Refused c) k t j name f may is =
    let w = q.world in
    let v = lived_at_debt k (event.Ended t exits.NotStarted) (answered_at k w) j name f
    (told_still w (λ p. record p { handed = false }) (λ p. refl) may.0.owes_none k) is in
    let same = ended_same t f.0 exits.NotStarted f.1 v.1 in
    (v.0, sym same.1, same.0)
ran_debt d q (seen.Killed n) k t j name f may is =
    let w = q.world in
    let owed : Owes (gone_by (kill_event_at k t n w) k t n w).parts j name f
    = subst (λ (o : Option (ℕ × Step)). Owes (killed_by n w o).parts j name f) may.1.0 is in
    let v = gone_debt (kill_event_at k t n w) k t n w j name f may.0.owes_none owed in
    let late = late_kill k t n w f v.1 in
    (v.0, (may.1.0, late.0, late.2), late.1)
ran_debt d q (seen.Ended n x limit) k t j name f may is =
    let w = q.world in
    let owed : Owes (gone_by (Some (event.Ended t x)) k t n w).parts j name f
    = subst (λ (o : Option (ℕ × Step)). Owes (ended_by n x w o).parts j name f) may.1 is in
    let v = gone_debt (Some (event.Ended t x)) k t n w j name f may.0.quiet.owes_none owed in
    let same = ended_same t f.0 x f.1 (some_same (event.Ended t x) (event.Ended f.0 f.1) v.1) in
    (v.0, (may.1, same.1), same.0)
ran_debt d q (seen.Exists x true) k t j name f may is =
    absurd (not_skipped f.0 f.1 (lived_at_debt k event.Skipped (answered_at k q.world) j name f
    (told_still q.world (λ p. record p { handed = false }) (λ p. refl) may.0.owes_none k) is).1)
ran_debt d q (seen.OnPath x true) k t j name f may is =
    absurd (not_skipped f.0 f.1 (lived_at_debt k event.Skipped (answered_at k q.world) j name f
    (told_still q.world (λ p. record p { handed = false }) (λ p. refl) may.0.owes_none k) is).1)
ran_debt d q (seen.Exists x false) k t j name f may is = absurd (none_owed q.world.parts j name f may.0.owes_none is)
ran_debt d q (seen.OnPath x false) k t j name f may is = absurd (none_owed q.world.parts j name f may.0.owes_none is)
ran_debt d q (seen.Elapsed limit) k t j name f may is = absurd may

-- ---- what is known along a history

-- whatever is owed has its end, and is owed by one component alone
abbrev Known : SessionState → List TraceEvent → Type 0
Known p h = (k : ℕ) (name : List ℕ) (f : Step × Exit) → Owes (state_after p h).world.parts k name f
    → HasStepEnd p h name f.0 f.1 × ((j : ℕ) (other : List ℕ) (g : Step × Exit) → Owes (state_after p h).world.parts j other g → j ≡ k)

at_owed : (ps : List ComponentState) (k : ℕ) (name : List ℕ) (f : Step × Exit) → Owes ps k name f → At k (λ q. (component_name q ≡ name) × (q.owed ≡ Some f)) ps
at_owed [] k name f is = no_some (name, Some f) is
at_owed (p ∷ ps) zero name f is = let same = some_same (debt p) (name, Some f) is in (ap (λ (x : Debt). x.0) same, ap (λ (x : Debt). x.1) same)
at_owed (p ∷ ps) (suc k) name f is = at_owed ps k name f is

pub at_owes : (parts : List ComponentState) (k : ℕ) (name : List ℕ) (f : Step × Exit) → Named parts k name → At k (λ q. q.owed ≡ Some f) parts →
    Owes parts k name f
at_owes parts k name f named at = by (slice_get parts k) refl at
  where
    by : (o : Option ComponentState) → slice_get parts k ≡ o → IsSomeAnd o (λ q. q.owed ≡ Some f) → Owes parts k name f
    by None there at = absurd at
    by (Some q) there at = owes_named parts k name f q named there at

-- it records no failure of a step
abbrev IsQuiet : TraceEvent → Type 0
IsQuiet e = (later : List TraceEvent) → list_any is_step_failure (records_of later) ≡ false → list_any is_step_failure (records_of (e ∷ later)) ≡ false

module _ (p : SessionState) (h : List TraceEvent) where
  on : (e : TraceEvent) (name : List ℕ) (s : Step) (x : Exit) → IsQuiet e → HasStepEnd p h name s x → HasStepEnd p (e ∷ h) name s x
  on e name s x quiet d = record {
    entry = d.entry;
    who = d.who;
    before = d.before;
    stood = record { later = e ∷ d.stood.later; split = ap (λ (l : List TraceEvent). e ∷ l) d.stood.split };
    is = d.is;
    fails = d.fails;
    since = quiet d.stood.later d.since;
  }

  less : (e : TraceEvent) → IsQuiet e → OwesNoMore (state_after p h).world.parts (state_after p (e ∷ h)).world.parts → Known p h → Known p (e ∷ h)
  less e quiet no_more known = λ k name f is.
      let was = known k name f (no_more k name f is) in
      (on e name f.0 f.1 quiet was.0, λ j other g owed. was.1 j other g (no_more j other g owed))

  nothing : (e : TraceEvent) → list_any owes (state_after p (e ∷ h)).world.parts ≡ false → Known p (e ∷ h)
  nothing e told = λ k name f is. absurd (none_owed (state_after p (e ∷ h)).world.parts k name f told is)

  ran_known : (entry : RunnerEntry) (k : ℕ) (t : Step) → MayRun (duty_of (state_after p h).device) (state_after p h) entry.seen k t →
      Known p (Ran entry k t ∷ h)
  ran_known entry k t may = λ i name f is.
      let d = duty_of (state_after p h).device in
      let q = state_after p h in
      let v = ran_debt d q entry.seen k t i name f may is in (
        record {
          entry = entry;
          who = k;
          before = h;
          stood = record { later = []; split = ap (λ (u : Step). Ran entry k u ∷ h) v.2 };
          is = subst (λ (u : Step). IsStepEnd q.world entry.seen k u f.1) v.2 v.1;
          fails = at_owed (state_after p (Ran entry k f.0 ∷ h)).world.parts k name f
              (subst (λ (u : Step). Owes (state_after p (Ran entry k u ∷ h)).world.parts k name f) v.2
              (subst (λ (m : ℕ). Owes (state_after p (Ran entry k t ∷ h)).world.parts m name f) v.0 is));
          since = refl;
        },
        λ j other g owed. (ran_debt d q entry.seen k t j other g may owed).0 ∙ sym v.0,
      )

pub booted_world : (s : Seen) (m : Prepared) (q : SessionState) → (booted s m q).world ≡ q.world
booted_world (seen.Exists x true) m q = refl
booted_world (seen.Exists x false) m q = refl
booted_world (seen.OnPath x true) m q = refl
booted_world (seen.OnPath x false) m q = refl
booted_world s m q = refl

abbrev cut_by : ℕ → Components → Option (ℕ × Step) → Components
cut_by n w o = elim o [ None ↦ w | Some x ↦ child_gone x.0 n w ]

pub cut_debts : (s : Seen) (q : SessionState) → debts (cut_off s q).world.parts ≡ debts q.world.parts
cut_debts (seen.Killed n) q = by (owner n q.world.parts)
  where
    by : (o : Option (ℕ × Step)) → debts (cut_by n q.world o).parts ≡ debts q.world.parts
    by None = refl
    by (Some x) = changed_same debt (without_child n) (λ p. refl) x.0 q.world.parts
cut_debts s q = refl

abbrev pub told_by : Components → Option ℕ → Components
told_by w o = elim o [ None ↦ w | Some k ↦ heard_at k w ]

-- a failure that is recorded was the only one
told_alone : (p : SessionState) (h : List TraceEvent) (n : List ℕ) (s : Step) (e : Exit) → OwesBy (state_after p h).world n s e → Known p h →
    Known p (Recorded (stored.StepFailed n s e) ∷ h)
told_alone p h n s e owed known = by (place_of n (state_after p h).world.parts) refl owed
  where
    by : (o : Option ℕ) → place_of n (state_after p h).world.parts ≡ o → IsSomeAnd o (λ k. At k (λ q. q.owed ≡ Some (s, e)) (state_after p h).world.parts)
        → (k : ℕ) (name : List ℕ) (f : Step × Exit) → Owes (told_by (state_after p h).world o).parts k name f
        → HasStepEnd p (Recorded (stored.StepFailed n s e) ∷ h) name f.0 f.1
        × ((j : ℕ) (other : List ℕ) (g : Step × Exit) → Owes (told_by (state_after p h).world o).parts j other g → j ≡ k)
    by None place owed = absurd owed
    by (Some i) place owed = λ k name f is.
        let parts = (state_after p h).world.parts in
        let here = at_owes parts i n (s, e) (place_named i n parts place) owed in
        let same : k ≡ i = (known i n (s, e) here).1 k name f (told_no_more i parts k name f is) in
        absurd (told_gone i parts name f (subst (λ (m : ℕ). Owes (changed_at i (λ q. record q { owed = None }) parts) m name f) same is))

known_at : (p : SessionState) (h : List TraceEvent) → IsStart p → IsProper p h → Known p h
known_at p [] start proper = λ k name f is. no_some (name, Some f) (subst (λ (l : List ComponentState). slice_get (debts l) k ≡ Some (name, Some f))
    (ap (λ (q : SessionState). q.world.parts) start) is)
known_at p (Ran entry k t ∷ h) start proper = ran_known p h entry k t proper.0.0.0
known_at p (Booted entry m ∷ h) start proper =
    less p h (Booted entry m) (λ later none. none) (same_debts (state_after p h).world.parts (state_after p (Booted entry m ∷ h)).world.parts
    (ap (λ (w : Components). debts w.parts) (booted_world entry.seen m (state_after p h))))
    (known_at p h start proper.1)
known_at p (KilledOnAbort entry ∷ h) start proper =
    less p h (KilledOnAbort entry) (λ later none. none) (same_debts (state_after p h).world.parts (state_after p (KilledOnAbort entry ∷ h)).world.parts
    (cut_debts entry.seen (state_after p h))) (known_at p h start proper.1)
known_at p (Recorded (stored.StepFailed n s e) ∷ h) start proper = told_alone p h n s e proper.0.0 (known_at p h start proper.1)
known_at p (Recorded (stored.Closed o) ∷ h) start proper =
    less p h (Recorded (stored.Closed o)) (λ later none. none_more is_step_failure (records_of later) (stored.Closed o) none refl)
    (same_debts (state_after p h).world.parts (state_after p (Recorded (stored.Closed o) ∷ h)).world.parts
    (each_same debt forgetting forgetting_debt (state_after p h).world.parts)) (known_at p h start proper.1)
known_at p (Recorded r ∷ h) start proper = less p h (Recorded r) (λ later none. none_more is_step_failure (records_of later) r none refl) (λ k name f is. is)
    (known_at p h start proper.1)
known_at p (Moved k e ∷ h) start proper = nothing p h (Moved k e) (move_owes (state_after p h).world k e proper.0.0.0 proper.0.0.1.owes_none)
known_at p (Heard k ∷ h) start proper = less p h (Heard k) (λ later none. none) (told_no_more k (state_after p h).world.parts) (known_at p h start proper.1)
known_at p (Changed items counts steady ∷ h) start proper = nothing p h (Changed items counts steady)
    (changed_told items counts steady (state_after p h).world proper.0.0.owes_none)
known_at p (StopsAll ∷ h) start proper =
    less p h StopsAll (λ later none. none) (same_debts (state_after p h).world.parts (state_after p (StopsAll ∷ h)).world.parts
    (each_same debt leaving leaving_debt (state_after p h).world.parts)) (known_at p h start proper.1)
known_at p (e ∷ h) start proper = less p h e (λ later none. none) (λ k name f is. is) (known_at p h start proper.1)

-- ---- the record

pub failures_ended : FailuresEnded
failures_ended p h before name s e is stood =
    let here = history_at p h (Recorded (stored.StepFailed name s e)) before is stood in
    let owed = here.proper.0.0 in
    (owed, found (known_at p before here.start here.proper.1) owed)
  where
    found : Known p before → OwesBy (state_after p before).world name s e → HasStepEnd p before name s e
    found known owed = by (place_of name (state_after p before).world.parts) refl owed
      where
        by : (o : Option ℕ) → place_of name (state_after p before).world.parts ≡ o →
            IsSomeAnd o (λ k. At k (λ q. q.owed ≡ Some (s, e)) (state_after p before).world.parts) → HasStepEnd p before name s e
        by None place owed = absurd owed
        by (Some k) place owed = (known k name (s, e) (at_owes (state_after p before).world.parts k name (s, e)
            (place_named k name (state_after p before).world.parts place) owed)).0
