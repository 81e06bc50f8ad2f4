-- What one deployment does in a call of its own it may do in one that serves.
use Rattle.std.specs.Prelude.{ℕ, Bool, true, false, not, ◌&&◌, ◌||◌, List, [], ◌∷◌, Option, Some, None, is_some, if◌then◌else◌}
use Rattle.std.specs.Option.{IsSomeAnd}
use Rattle.std.proofs.Common.{◌≡◌, ◌⊎◌, ◌∙◌, inl, inr, refl, sym, ap, subst}
use Rattle.std.proofs.lemmas.Bool.{false≢true}
use Rattle.nuc_base.specs.declared.kinds.Outcome.{Outcome}
use Rattle.nuc_base.specs.declared.kinds.Outcome.TheVariants as outcomes
use Rattle.nuc_base.specs.declared.kinds.Step.{Step}
use Rattle.records.specs.Stored.{Record, Accepted, BootBegun, BootEnded, Activating, StepFailed, Failing, FailingBack, Closed}
use Rattle.device.specs.Devices.{Device}
use Rattle.device.specs.Lawful.{Allowed}
use Rattle.step_runner.specs.declared.entries.RunnerEntry.{RunnerEntry}
use Rattle.step_runner.specs.declared.entries.Seen.{Seen}
use Rattle.step_runner.specs.declared.entries.Seen.TheVariants as seen
use Rattle.components.specs.declared.kinds.Prepared.{Prepared}
use Rattle.histories.specs.Follows.{IsClear, IsEntry, IsProper, MayBoot, MayBooted, MayChangeIn, MayClose, MayFollow, MayKeep, MayRun, MaySleep}
use Rattle.histories.specs.Follows.{MayCut, MayStopAll, MayTake, MayTakeBy}
use Rattle.histories.specs.Phases.{Duty, Generation, previous, draining, current, shutting_down, Phase, idle, booting, activating, backing, rolling}
use Rattle.histories.specs.Phases.{duty_of, is_current, is_idle, is_shutting_down}
use Rattle.histories.specs.States.{SessionState, booted, cut_off, is_wait, leaves, noted, ran, state_after, takes_document, waited_for}
use Rattle.histories.specs.TraceEvents.{Answer, TraceEvent, Ran, Booted, WaitElapsed, KilledOnAbort, Recorded, Moved, ReadClock, Heard, InboxAsked, Changed}
use Rattle.histories.specs.TraceEvents.{StopsAll, is_document}
use Rattle.histories.specs.Waits.{MayWait, has_work, may_drive}
use Rattle.law_histories.proofs.Histories.{Runs, run_less}
use Rattle.law_serving.specs.Alike.{EndsOnCourse, MayDeploy, ServesAlike, alone, beside}
use Rattle.law_serving.proofs.Going.{IsDown, clash, course_up, was_up}
use Rattle.law_serving.proofs.Records.{Allows, allows, idle_phase, idle_is, idle_takes}

-- ---- the two calls

-- the document that the inbox gave may still be taken
record Untaken (p q : SessionState) (a : Option Answer) : Type 0 where
  idle : q.device.pending ≡ None
  opened : p.opened ≡ true
  current : is_current q.generation ≡ true
  given : IsSomeAnd a (λ x. is_document x ≡ true)

record Twin (p q : SessionState) (a : Option Answer) : Type 0 where
  serves : q.serves ≡ false
  answered : (a ≡ p.answer) ⊎ (a ≡ None)
  untaken : q.taken ≡ false → Untaken p q a

-- ---- tables

no_turn : (s o r : Bool) → s ≡ false → ((s && o) && r) ≡ true → ⊥
no_turn true o r off on = false≢true (sym off)
no_turn false o r off on = false≢true on

module _ (p : SessionState) (a : Option Answer) (t : Bool) (q : SessionState) (off : q.serves ≡ false) where
  abbrev B : SessionState
  B = beside p a t q

  work_on : (f : Phase) (c : Generation) (counts : List ℕ) → has_work f c counts q ≡ true → has_work f c counts B ≡ true
  work_on idle previous counts on = on
  work_on idle draining counts on = on
  work_on idle current counts on = absurd (no_turn q.serves q.opened _ off on)
  work_on idle shutting_down counts on = on
  work_on booting previous counts on = on
  work_on booting draining counts on = on
  work_on booting current counts on = on
  work_on booting shutting_down counts on = on
  work_on activating previous counts on = on
  work_on activating draining counts on = on
  work_on activating current counts on = on
  work_on activating shutting_down counts on = on
  work_on backing previous counts on = on
  work_on backing draining counts on = on
  work_on backing current counts on = on
  work_on backing shutting_down counts on = on
  work_on rolling previous counts on = on
  work_on rolling draining counts on = on
  work_on rolling current counts on = on
  work_on rolling shutting_down counts on = on

  wait_on : (d : Duty) (limit : ℕ) → MayWait d q limit → MayWait d B limit
  wait_on d limit w = record {
    quiet = w.quiet;
    no_end = w.no_end;
    in_time = w.in_time;
    work = work_on d.phase q.generation d.counts w.work;
    limit_is = w.limit_is;
  }

  entry_on : (e : RunnerEntry) → IsEntry q e → IsEntry B e
  entry_on e i = record { moment = i.moment; asked = i.asked; due = i.due }

  run_on : (d : Duty) (s : Seen) (k : ℕ) (x : Step) → MayRun d q s k x → MayRun d B s k x
  run_on d (seen.Started n c) k x may = may
  run_on d (seen.Refused c) k x may = may
  run_on d (seen.Exists y found) k x may = may
  run_on d (seen.OnPath y found) k x may = may
  run_on d (seen.Killed n) k x may = may
  run_on d (seen.Ended n e limit) k x may = (wait_on d limit may.0, may.1)
  run_on d (seen.Elapsed limit) k x may = absurd may

  boot_on : (d : Duty) (m : Prepared) → MayBoot d q m → MayBoot d B m
  boot_on d m b = record {
    phase = b.phase;
    begun = b.begun;
    origin = b.origin;
    of_device = b.of_device;
    at = b.at;
    item = b.item;
    there = b.there;
    next = b.next;
    prepared = b.prepared;
    stopped = b.stopped;
    owes_none = b.owes_none;
    alone = b.alone;
    no_end = b.no_end;
  }

  booted_on : (d : Duty) (s : Seen) (m : Prepared) → MayBooted d q s m → MayBooted d B s m
  booted_on d (seen.Started n c) m may = (boot_on d m may.0, may.1)
  booted_on d (seen.Refused c) m may = (boot_on d m may.0, may.1)
  booted_on d (seen.Exists y found) m may = (boot_on d m may.0, may.1)
  booted_on d (seen.OnPath y found) m may = (boot_on d m may.0, may.1)
  booted_on d (seen.Killed n) m may = may
  booted_on d (seen.Ended n e limit) m may = (wait_on d limit may.0, may.1)
  booted_on d (seen.Elapsed limit) m may = absurd may

  sleep_on : (d : Duty) (s : Seen) → MaySleep d q s → MaySleep d B s
  sleep_on d (seen.Elapsed limit) may = wait_on d limit may
  sleep_on d s may = absurd may

  drive_on : (f : Phase) (c : Generation) → may_drive f c q.serves ≡ true → may_drive f c true ≡ true
  drive_on idle previous on = absurd (false≢true on)
  drive_on idle draining on = absurd (false≢true on)
  drive_on idle current on = refl
  drive_on idle shutting_down on = refl
  drive_on booting previous on = absurd (false≢true on)
  drive_on booting draining on = refl
  drive_on booting current on = absurd (false≢true on)
  drive_on booting shutting_down on = absurd (false≢true on)
  drive_on activating previous on = absurd (false≢true on)
  drive_on activating draining on = absurd (false≢true on)
  drive_on activating current on = refl
  drive_on activating shutting_down on = absurd (false≢true on)
  drive_on backing previous on = absurd (false≢true on)
  drive_on backing draining on = refl
  drive_on backing current on = absurd (false≢true on)
  drive_on backing shutting_down on = absurd (false≢true on)
  drive_on rolling previous on = absurd (false≢true on)
  drive_on rolling draining on = refl
  drive_on rolling current on = refl
  drive_on rolling shutting_down on = absurd (false≢true on)

  clear_on : IsClear q → IsClear B
  clear_on c = record { owes_none = c.owes_none; alone = c.alone; no_end = c.no_end; on = c.on }

  close_on : (o : Outcome) → MayClose q o → MayClose B o
  close_on outcomes.Successful may = may
  close_on outcomes.RollbackComplete may = may
  close_on outcomes.RollbackNotRequested may = tt
  close_on outcomes.UnableToRollback may = tt

  take_on : Untaken p q a → MayTake B
  take_on u = record { opened = u.opened; current = u.current; given = u.given }

  taken_at : q.taken ≡ false → (q.taken ≡ false → Untaken p q a) → MayTake B
  taken_at not untaken = take_on (untaken not)

  keep_on : (r : Record) → (q.taken ≡ false → Untaken p q a) → MayKeep q r → MayKeep B r
  keep_on (Accepted x) untaken may = (clear_on may.0, may.1, taken_at (taken_not q.serves off may.2) untaken)
    where
      taken_not : (s : Bool) → s ≡ false → MayTakeBy s q → q.taken ≡ false
      taken_not true off may = absurd (false≢true (sym off))
      taken_not false off may = may
  keep_on (BootBegun n) untaken may = (clear_on may.0, may.1)
  keep_on (BootEnded n e) untaken may = may
  keep_on Activating untaken may = clear_on may
  keep_on (StepFailed n s e) untaken may = may
  keep_on (Failing n) untaken may = (clear_on may.0, may.1)
  keep_on (FailingBack n) untaken may = clear_on may
  keep_on (Closed o) untaken may = (clear_on may.0, close_on o may.1)
  keep_on r untaken may = absurd may

  -- the table of changes, and that the set is not brought up by one
  change_in : (f : Phase) (c : Generation) → MayChangeIn f c q → MayChangeIn f c B × (is_idle f ≡ false)
  change_in idle previous may = absurd (clash q.serves may off)
  change_in idle draining may = absurd (clash q.serves may off)
  change_in idle current may = absurd (clash q.serves may.0 off)
  change_in idle shutting_down may = absurd may
  change_in booting c may = absurd may
  change_in activating previous may = (tt, refl)
  change_in activating draining may = (tt, refl)
  change_in activating current may = absurd may
  change_in activating shutting_down may = absurd may
  change_in backing c may = absurd may
  change_in rolling previous may = absurd may
  change_in rolling draining may = (may, refl)
  change_in rolling current may = absurd may
  change_in rolling shutting_down may = absurd may

  -- all are not stopped for the end of the call
  stop_in : (d : Duty) (f : Phase) (c : Generation) → is_shutting_down (if is_idle f then shutting_down else draining) ≡ false → MayStopAll d f c q →
      MayStopAll d f c B
  stop_in d idle c up may = absurd (false≢true (sym up))
  stop_in d booting previous up may = may
  stop_in d booting draining up may = may
  stop_in d booting current up may = absurd may
  stop_in d booting shutting_down up may = absurd may
  stop_in d activating c up may = absurd may
  stop_in d backing previous up may = may
  stop_in d backing draining up may = may
  stop_in d backing current up may = absurd may
  stop_in d backing shutting_down up may = absurd may
  stop_in d rolling previous up may = tt
  stop_in d rolling draining up may = tt
  stop_in d rolling current up may = absurd may
  stop_in d rolling shutting_down up may = absurd may

-- ---- what it leaves

abbrev Next : SessionState → Option Answer → Bool → SessionState → TraceEvent → Type 0
Next p a t q e = (b : Option Answer) × (u : Bool) × (leaves (beside p a t q) e ≡ beside p b u (leaves q e)) × Twin p (leaves q e) b

-- while the document may be taken nothing is waited for
no_wait : (p q : SessionState) (a : Option Answer) (limit : ℕ) → q.serves ≡ false → Untaken p q a → MayWait (duty_of q.device) q limit → ⊥
no_wait p q a limit off u w =
    by q.generation u.current (subst (λ (f : Phase). has_work f q.generation (duty_of q.device).counts q ≡ true) (idle_phase q.device u.idle) w.work)
  where
    by : (c : Generation) → is_current c ≡ true → has_work idle c (duty_of q.device).counts q ≡ true → ⊥
    by previous on work = false≢true on
    by draining on work = false≢true on
    by current on work = no_turn q.serves q.opened _ off work
    by shutting_down on work = false≢true on

answered_on : (p : SessionState) (a : Option Answer) (b : Bool) → (a ≡ p.answer) ⊎ (a ≡ None) →
    ((if b then None else a) ≡ p.answer) ⊎ ((if b then None else a) ≡ None)
answered_on p a true is = inr refl
answered_on p a false is = is

-- an entry was noted
module _ (p q : SessionState) (a : Option Answer) (tw : Twin p q a) where
  -- it is a wait only where there is something to wait for
  abbrev Waits : Seen → Type 0
  Waits s = is_wait s ≡ true → (limit : ℕ) × MayWait (duty_of q.device) q limit

  given_on : (s : Seen) → Waits s → Untaken p q a → IsSomeAnd (waited_for s a) (λ x. is_document x ≡ true)
  given_on s waits u = by (is_wait s) refl
    where
      by : (b : Bool) → is_wait s ≡ b → IsSomeAnd (if b then None else a) (λ x. is_document x ≡ true)
      by true is = let w = waits is in absurd (no_wait p q a w.0 tw.serves u w.1)
      by false is = u.given

run_waits : (q : SessionState) (s : Seen) (k : ℕ) (x : Step) → MayRun (duty_of q.device) q s k x → is_wait s ≡ true →
    (limit : ℕ) × MayWait (duty_of q.device) q limit
run_waits q (seen.Ended n e limit) k x may is = (limit, may.0)
run_waits q (seen.Elapsed limit) k x may is = absurd may
run_waits q (seen.Started n c) k x may is = absurd (false≢true is)
run_waits q (seen.Refused c) k x may is = absurd (false≢true is)
run_waits q (seen.Exists y found) k x may is = absurd (false≢true is)
run_waits q (seen.OnPath y found) k x may is = absurd (false≢true is)
run_waits q (seen.Killed n) k x may is = absurd (false≢true is)

booted_waits : (q : SessionState) (s : Seen) (m : Prepared) → MayBooted (duty_of q.device) q s m → is_wait s ≡ true →
    (limit : ℕ) × MayWait (duty_of q.device) q limit
booted_waits q (seen.Ended n e limit) m may is = (limit, may.0)
booted_waits q (seen.Elapsed limit) m may is = absurd may
booted_waits q (seen.Started n c) m may is = absurd (false≢true is)
booted_waits q (seen.Refused c) m may is = absurd (false≢true is)
booted_waits q (seen.Exists y found) m may is = absurd (false≢true is)
booted_waits q (seen.OnPath y found) m may is = absurd (false≢true is)
booted_waits q (seen.Killed n) m may is = absurd (false≢true is)

sleep_waits : (q : SessionState) (s : Seen) → MaySleep (duty_of q.device) q s → is_wait s ≡ true → (limit : ℕ) × MayWait (duty_of q.device) q limit
sleep_waits q (seen.Elapsed limit) may is = (limit, may)
sleep_waits q s may is = absurd may

-- the device, who the components are and what was taken are as before
module _ (p q r : SessionState) (a b : Option Answer) (tw : Twin p q a) (serves : r.serves ≡ q.serves) (device : r.device ≡ q.device)
    (generation : r.generation ≡ q.generation) (taken : r.taken ≡ q.taken) (answered : (b ≡ p.answer) ⊎ (b ≡ None))
    (given : Untaken p q a → IsSomeAnd b (λ x. is_document x ≡ true)) where
  twin_on : Twin p r b
  twin_on = record {
    serves = serves ∙ tw.serves;
    answered = answered;
    untaken = λ is.
        let u = tw.untaken (sym taken ∙ is) in
        record {
          idle = ap (λ (d : Device). d.pending) device ∙ u.idle;
          opened = u.opened;
          current = ap (λ (c : Generation). is_current c) generation ∙ u.current;
          given = given u;
        };
  }

noted_next : (p q : SessionState) (a : Option Answer) (t : Bool) (s : Seen) → Twin p q a →
    (is_wait s ≡ true → (limit : ℕ) × MayWait (duty_of q.device) q limit) → (r : SessionState) →
    r.serves ≡ q.serves → r.device ≡ q.device → r.generation ≡ q.generation → r.taken ≡ q.taken → Twin p (noted s r) (waited_for s a)
noted_next p q a t s tw waits r serves device generation taken =
    twin_on p q (noted s r) a (waited_for s a) tw serves device generation taken (answered_on p a (is_wait s) tw.answered) (given_on p q a tw s waits)

booted_next : (p q : SessionState) (a : Option Answer) (t : Bool) (s : Seen) (m : Prepared) → Twin p q a → MayBooted (duty_of q.device) q s m →
    (noted s (booted s m (beside p a t q)) ≡ beside p (waited_for s a) t (noted s (booted s m q))) × Twin p (noted s (booted s m q)) (waited_for s a)
booted_next p q a t (seen.Started n c) m tw may =
    (refl, noted_next p q a t (seen.Started n c) tw (booted_waits q (seen.Started n c) m may) (booted (seen.Started n c) m q) refl refl refl refl)
booted_next p q a t (seen.Refused c) m tw may =
    (refl, noted_next p q a t (seen.Refused c) tw (booted_waits q (seen.Refused c) m may) (booted (seen.Refused c) m q) refl refl refl refl)
booted_next p q a t (seen.Killed n) m tw may =
    (refl, noted_next p q a t (seen.Killed n) tw (booted_waits q (seen.Killed n) m may) (booted (seen.Killed n) m q) refl refl refl refl)
booted_next p q a t (seen.Exists x true) m tw may =
    (refl, noted_next p q a t (seen.Exists x true) tw (booted_waits q (seen.Exists x true) m may) (booted (seen.Exists x true) m q) refl refl refl refl)
booted_next p q a t (seen.Exists x false) m tw may =
    (refl, noted_next p q a t (seen.Exists x false) tw (booted_waits q (seen.Exists x false) m may) q refl refl refl refl)
booted_next p q a t (seen.OnPath x true) m tw may =
    (refl, noted_next p q a t (seen.OnPath x true) tw (booted_waits q (seen.OnPath x true) m may) (booted (seen.OnPath x true) m q) refl refl refl refl)
booted_next p q a t (seen.OnPath x false) m tw may =
    (refl, noted_next p q a t (seen.OnPath x false) tw (booted_waits q (seen.OnPath x false) m may) q refl refl refl refl)
booted_next p q a t (seen.Ended n e l) m tw may =
    (refl, noted_next p q a t (seen.Ended n e l) tw (booted_waits q (seen.Ended n e l) m may) (booted (seen.Ended n e l) m q) refl refl refl refl)
booted_next p q a t (seen.Elapsed l) m tw may = absurd may

cut_next : (p q : SessionState) (a : Option Answer) (t : Bool) (s : Seen) → Twin p q a → MayCut q s →
    (noted s (cut_off s (beside p a t q)) ≡ beside p a t (noted s (cut_off s q))) × Twin p (noted s (cut_off s q)) a
cut_next p q a t (seen.Killed n) tw may =
    (refl, twin_on p q (noted (seen.Killed n) (cut_off (seen.Killed n) q)) a a tw refl refl refl refl tw.answered (λ u. u.given))
cut_next p q a t s tw may = absurd may

or_false : (a b : Bool) → (a || b) ≡ false → (a ≡ false) × (b ≡ false)
or_false true b is = absurd (false≢true (sym is))
or_false false b is = (refl, is)

kept_twin : (p q : SessionState) (a : Option Answer) (r : Record) → Twin p q a → MayKeep q r → Allowed q.device r →
    Twin p (leaves q (Recorded r)) (if takes_document r then None else a)
kept_twin p q a r tw may allowed = record {
  serves = tw.serves;
  answered = answered_on p a (takes_document r) tw.answered;
  untaken = λ is.
      let both = or_false q.taken (takes_document r) is in
      absurd (clash (takes_document r) (idle_takes q r (tw.untaken both.0).idle may allowed) both.1);
}

or_idle : (o b : Bool) → b ≡ false → (o || b) ≡ o
or_idle true b is = refl
or_idle false b is = is

abbrev opened_as : SessionState → Bool → SessionState
opened_as q o = record q { opened = o }

follow_on : (p q : SessionState) (a : Option Answer) (t : Bool) (e : TraceEvent) → Twin p q a → MayFollow q e → Allows q e → IsDown (leaves q e) ≡ false →
    MayFollow (beside p a t q) e × Next p a t q e
follow_on p q a t (Ran e k s) tw may allowed up = (
  (
    (
      run_on p a t q tw.serves (duty_of q.device) e.seen k s may.0.0,
      entry_on p a t q tw.serves e may.0.1,
      drive_on p a t q tw.serves (duty_of q.device).phase q.generation may.0.2,
    ),
    may.1,
    may.2,
  ),
  (
    waited_for e.seen a,
    t,
    refl,
    noted_next p q a t e.seen tw (run_waits q e.seen k s may.0.0) (record q { world = ran e.seen k s q.world }) refl refl refl refl,
  ),
)
follow_on p q a t (Booted e m) tw may allowed up =
    let n = booted_next p q a t e.seen m tw may.0.0 in (
      ((booted_on p a t q tw.serves (duty_of q.device) e.seen m may.0.0, entry_on p a t q tw.serves e may.0.1), may.1, may.2),
      (waited_for e.seen a, t, n.0, n.1),
    )
follow_on p q a t (WaitElapsed e) tw may allowed up = (
  ((sleep_on p a t q tw.serves (duty_of q.device) e.seen may.0.0, entry_on p a t q tw.serves e may.0.1), may.1, may.2),
  (waited_for e.seen a, t, refl, noted_next p q a t e.seen tw (sleep_waits q e.seen may.0.0) q refl refl refl refl),
)
follow_on p q a t (KilledOnAbort e) tw may allowed up =
    let n = cut_next p q a t e.seen tw may.0.0 in (
      ((cut_may e.seen may.0.0, entry_on p a t q tw.serves e may.0.1), may.1, may.2),
      (a, t, n.0, n.1),
    )
  where
    cut_may : (s : Seen) → MayCut q s → MayCut (beside p a t q) s
    cut_may (seen.Killed n) may = may
    cut_may s may = absurd may
follow_on p q a t (Recorded r) tw may allowed up = (
  (keep_on p a t q tw.serves r tw.untaken may.0, may.1, may.2),
  (if takes_document r then None else a, t || takes_document r, refl, kept_twin p q a r tw may.0 allowed),
)
follow_on p q a t (Moved k e) tw may allowed up = (
  ((may.0.0, may.0.1, drive_on p a t q tw.serves (duty_of q.device).phase q.generation may.0.2), may.1, may.2),
  (a, t, refl, twin_on p q (leaves q (Moved k e)) a a tw refl refl refl refl tw.answered (λ u. u.given)),
)
follow_on p q a t (ReadClock m) tw may allowed up =
    (may, (a, t, refl, twin_on p q (leaves q (ReadClock m)) a a tw refl refl refl refl tw.answered (λ u. u.given)))
follow_on p q a t (Heard k) tw may allowed up =
    (may, (a, t, refl, twin_on p q (leaves q (Heard k)) a a tw refl refl refl refl tw.answered (λ u. u.given)))
follow_on p q a t (InboxAsked x) tw may allowed up = absurd (clash q.serves may.0.serves tw.serves)
follow_on p q a t (Changed f c b) tw may allowed up =
    let m = may.0 in
    let in_table = change_in p a t q tw.serves (duty_of q.device).phase q.generation m.phase in (
      (
        record {
          phase = in_table.0;
          origin = m.origin;
          of_device = m.of_device;
          made = m.made;
          recorded = m.recorded;
          few = m.few;
          mode = m.mode;
          owes_none = m.owes_none;
          answered = m.answered;
        },
        may.1,
        may.2,
      ),
      (
        a,
        t,
        ap (λ (o : Bool). opened_as (leaves (beside p a t q) (Changed f c b)) o) (or_idle p.opened (is_idle (duty_of q.device).phase) in_table.1),
        record {
          serves = tw.serves;
          answered = tw.answered;
          untaken = λ is.
              let u = tw.untaken is in
              record { idle = u.idle; opened = u.opened; current = refl; given = u.given };
        },
      ),
    )
follow_on p q a t StopsAll tw may allowed up = (
  (stop_in p a t q tw.serves (duty_of q.device) (duty_of q.device).phase q.generation up may.0, may.1, may.2),
  (
    a,
    t,
    refl,
    record {
      serves = tw.serves;
      answered = tw.answered;
      untaken = λ is.
          let u = tw.untaken is in
          absurd (false≢true (sym (subst (λ (b : Bool). is_shutting_down (if b then shutting_down else draining) ≡ false) (idle_is q.device u.idle) up)));
    },
  ),
)

-- ---- a history

record Beside (p : SessionState) (h : List TraceEvent) : Type 0 where
  proper : IsProper p h
  answer : Option Answer
  taken : Bool
  state_is : state_after p h ≡ beside p answer taken (state_after (alone p) h)
  twin : Twin p (state_after (alone p) h) answer

begins : (p : SessionState) → MayDeploy p → Twin p (alone p) p.answer
begins p may = record {
  serves = refl;
  answered = inl refl;
  untaken = λ is. by may.takes is;
}
  where
    none_of : {A : Type 0} (o : Option A) → is_some o ≡ false → o ≡ None
    none_of None is = refl
    none_of (Some x) is = absurd (false≢true (sym is))

    by : (is_some p.device.pending ≡ true) ⊎ ((is_some p.device.pending ≡ false) × MayTake p) → is_some p.device.pending ≡ false → Untaken p (alone p) p.answer
    by (inl on) is = absurd (clash (is_some p.device.pending) on is)
    by (inr both) is = record {
      idle = none_of p.device.pending is;
      opened = both.1.opened;
      current = both.1.current;
      given = both.1.given;
    }

all_beside : (p : SessionState) (h : List TraceEvent) → MayDeploy p → IsProper (alone p) h → Runs (alone p) h → IsDown (state_after (alone p) h) ≡ false →
    Beside p h
all_beside p [] may proper run up = record {
  proper = tt;
  answer = p.answer;
  taken = p.taken;
  state_is = ap (λ (s : Bool). record p { serves = s }) may.serves;
  twin = begins p may;
}
all_beside p (e ∷ h) may proper run up =
    let q = state_after (alone p) h in
    let rest = all_beside p h may proper.1 (run_less (alone p) e h run) (was_up q e proper.0 up) in
    let next = follow_on p q rest.answer rest.taken e rest.twin proper.0 (allows (alone p) e h run) up in
    record {
      proper = (subst (λ (s : SessionState). MayFollow s e) (sym rest.state_is) next.0, rest.proper);
      answer = next.1.0;
      taken = next.1.1;
      state_is = ap (λ (s : SessionState). leaves s e) rest.state_is ∙ next.1.2;
      twin = next.1.3;
    }

pub serve_alike : (p : SessionState) (h : List TraceEvent) → MayDeploy p → p.over ≡ false → IsProper (alone p) h → Runs (alone p) h →
    EndsOnCourse (alone p) h → ServesAlike p h
serve_alike p h may on proper run course =
    let all = all_beside p h may proper run (course_up (alone p) h on may.going proper run course) in
    record { proper = all.proper; answer = all.answer; taken = all.taken; state_is = all.state_is; answered = all.twin.answered }
