-- How a call ends, and the whole of it.
use Rattle.std.specs.Prelude.{ℕ, Bool, List, [], ◌∷◌, ◌++◌, true, false, Option, Some, None, Result, Ok, Err, IfOk, OnErr, IsErrOf, option_map}
use Rattle.std.specs.List.{AllByRecursion, list_any}
use Rattle.std.specs.Option.{IsSome, IsSomeAnd}
use Rattle.std.specs.Io.KnownBytes.{Appends}
use Rattle.std.proofs.Common.{◌≡◌, ◌≢◌, ◌≤◌, ◌⊎◌, ◌∙◌, inl, inr, refl, sym, ap, subst, arith}
use Rattle.std.proofs.lemmas.Bool.{false≢true}
use Rattle.std.proofs.lemmas.List.{append-nil}
use Rattle.disk_model.specs.Disk.{Image, IsAfter, DiskLaws, HasLeft}
use Rattle.disk_model.specs.Listing.{artifacts, IsBelow}
use Rattle.disk_model.specs.Spares.{IsSameBut}
use Rattle.disk_model.specs.Moments.{at_start, joined, then_spares, weaker}
use Rattle.gate_log.specs.Journal.{JournalLaws, IsChangeIn}
use Rattle.nuc_base.specs.declared.kinds.Exit.{Exit}
use Rattle.nuc_base.specs.declared.kinds.Outcome.{Outcome}
use Rattle.nuc_base.specs.declared.status.Status.{Status}
use Rattle.nuc_base.specs.declared.status.Status.TheVariants as statuses
use Rattle.records.specs.Stored.{Plan, Record, Accepted, BootEnded, Closed, plan_view}
use Rattle.records.specs.declared.record.Plan as code
use Rattle.device.specs.Devices.{Device, Pending}
use Rattle.device.specs.Lawful.{Allowed, Lawful, MayClose, MayEnd, Run, applied, boot_ended, close_pending}
use Rattle.device.specs.Standing.{StandsFor}
use Rattle.artifact_store.specs.Holding.{AllHoldDevice, HoldsDevice}
use Rattle.artifact_store.proofs.Walking.{start_spares}
use Rattle.step_runner.specs.Entries.{Told}
use Rattle.step_runner.specs.declared.entries.RunnerEntry.{RunnerEntry}
use Rattle.step_runner.specs.declared.entries.Seen.{Seen}
use Rattle.step_runner.specs.declared.entries.Seen.TheVariants as seen
use Rattle.components.specs.declared.kinds.Prepared.{Prepared}
use Rattle.components.specs.Components.{Components}
use Rattle.histories.specs.Courses.{IsBare, IsEnd, gives_up, leaves_open}
use Rattle.histories.specs.Phases.{Generation}
use Rattle.histories.specs.Follows.{IsLast, IsProper}
use Rattle.histories.specs.TraceEvents.{TraceEvent, Ran as RanEntry, Booted as BootedEntry, WaitElapsed, KilledOnAbort, Recorded, Moved, ReadClock, Heard}
use Rattle.histories.specs.TraceEvents.{InboxAsked, Changed, StopsAll, records_of}
use Rattle.histories.specs.Once.{TakesOnce}
use Rattle.histories.specs.States.{SessionState, booted as booted_by, cut_off, leaves as left_of, state_after}
use Rattle.histories.proofs.Joined.{left-append, records-append}
use Rattle.histories.proofs.Once.{takes_once}
use Rattle.deploy_state.proofs.Steps.{in_hand_stands}
use Rattle.deploy_state.specs.Owned.{OwnsJournal, LeavesEither, LeavesSame}
use Rattle.deploy_state.specs.States.{OwnsLoaded, idle_device, loaded_device}
use Rattle.session_boots.specs.Booted.{AsksFor}
use Rattle.session_boots.specs.Lines.{id_of, lines_of}
use Rattle.session_boots.specs.Ends.{LeftAt, LinesAt, StopsAt}
use Rattle.session_boots.specs.Traces.{ActTrace, StandsForPrefix, StandsForMost, IsTrace}
use Rattle.session_boots.specs.declared.ends.Booted.{Booted}
use Rattle.session_boots.specs.declared.ends.Booted.TheVariants as booted
use Rattle.session_boots.specs.declared.ends.SessionFault.{SessionFault}
use Rattle.session_boots.specs.declared.ends.SessionFault.TheVariants as over
use Rattle.session_boots.proofs.Acting.{grows_none}
use Rattle.session_boots.proofs.Joins.{acted, records_opened, went_on}
use Rattle.session_boots.proofs.Told.{all_printed, left_joined, lines_at_joined, stops_last}
use Rattle.session_startup.specs.Ended.{ClosesAs, ClosesLast}
use Rattle.session_transitions.specs.Kills.{KeepsRest}
use Rattle.session_transitions.specs.Fails.{IsGivenUp}
use Rattle.session_transitions.proofs.Ended.{killed_ends}
use Rattle.components.specs.Turns.{owes}
use Rattle.session_admission.specs.Accepts.{IsOpen}
use Rattle.session_admission.proofs.Opening.{accept_went}
use Rattle.admission.specs.Takes.{LieElsewhere}
use Rattle.admission.specs.declared.fault.Declined.{Declined}
use Rattle.admission.proofs.Staying.{hand_stays}
use Rattle.session_rollout.specs.Driven.{DrivenCourse, DrivenLeft, OwnsDriven, driven_device}
use Rattle.session_rollout.specs.declared.driven.Driven.{Driven}
use Rattle.session_rollout.specs.declared.driven.Driven.TheVariants as driven
use Rattle.session_rollout.proofs.Joining.{Holds, left_killed, stops_killed, went_acting}
use Rattle.session.specs.Calls.{AllHoldBoth, DrivenStatus, GivenUpStatus, CloseEnding, DrivenEnding, IsOrEdge, IsPendingAs, LinesPrinted, SaysEnding, SaysLine}
use Rattle.session.specs.Calls.{SaysRefusal, ChangesArtifactsAlone, StandsBehind, StandsWhole, opening_line}
use Rattle.session.specs.Declines.{line_of_declined, status_of_declined}
use Rattle.session.specs.Documents.{AcceptsFrom, AcceptsTaken, PlanEnding, FitsFrom, TakenEnding}
use Rattle.session.specs.Parts.{EndsPart, IsOver, IsUnbegun, Part, RanLeft, status_of_ran}
use Rattle.session.specs.declared.ran.Ran.{Ran}
use Rattle.session.specs.declared.ran.Ran.TheVariants as ran
use Rattle.session.specs.Endings.{Ending, ByClose, ByRestart, ByReboot, ByDiskFault, BySinkFault, WantAfter, WantBefore, ByDecline, Full, Idle}
use Rattle.session.specs.Endings.{IsBegun, is_failing}
use Rattle.session.specs.Endings.{line_of_ending, status_of_ending}
use Rattle.session.proofs.Accepted.{accepts_behind}
use Rattle.session.proofs.Holding.{HoldsAll, HoldsBefore, all_before, spared_whole, went_holds, went_whole}
use Rattle.session.proofs.Printing.{all_prints, ending_over, opening_none, over_prints, prints_as, said_prints, starved_prints}
use Rattle.session.proofs.Resuming.{loaded_hand}
use Rattle.session.proofs.Statuses.{disk_opens, opens_gives}

-- ---- the last record

last_run : (d e : Device) (prefix : List Record) (r : Record) → Run d (prefix ++ r ∷ []) e → (c : Device) × Lawful c r e
last_run d e [] r run = (d, subst (λ (x : Device). Lawful d r x) (sym run.2) run.1)
last_run d e (s ∷ prefix) r run = last_run run.0 e prefix r run.2

-- of one record
pub one_device : (d e : Device) (r : Record) → Run d (r ∷ []) e → e ≡ applied d r
one_device d e r run = run.2 ∙ run.1.leaves

none_behind : (o : Outcome) (c : Device) (p : Option Pending) → IsSomeAnd p (λ q. MayClose q o) → (close_pending o c p).pending ≡ None
none_behind o c None may = absurd may
none_behind o c (Some q) may = refl

-- behind a close nothing is pending
pub closed_none : (d e : Device) (o : Outcome) (records : List Record) → ClosesAs o records → Run d records e → e.pending ≡ None
closed_none d e o records closes run =
    let last = last_run d e closes.0 (Closed o) (subst (λ (l : List Record). Run d l e) closes.1 run) in
    ap (λ (x : Device). x.pending) last.1.leaves ∙ none_behind o last.0 last.0.pending last.1.allowed

some_behind : (name : List ℕ) (exit : Exit) (p : Option Pending) → IsSomeAnd p (MayEnd name) → IsSome (option_map (boot_ended exit) p)
some_behind name exit None may = absurd may
some_behind name exit (Some q) may = refl

-- the last that happened is the last record
pub closes_as : (o : Outcome) (h : List TraceEvent) → ClosesLast o h → ClosesAs o (records_of h)
closes_as o h last = (records_of last.0, ap records_of last.1)

closes_stops : (o : Outcome) (h : List TraceEvent) → ClosesLast o h → StopsAt h
closes_stops o h last = record { cuts = []; last = Closed o; before = last.0; split = last.1; kills = tt }

-- behind the end of a bootstrap the deployment is
asked_some : (d e : Device) (end : Booted) (records : List Record) → AsksFor end records e → Run d records e → IsSome e.pending
asked_some d e end records asks run =
    let name = asks.1.1 in
    let last = last_run d e asks.1.0 (BootEnded name asks.0) (subst (λ (l : List Record). Run d l e) asks.1.2 run) in
    subst (λ (o : Option Pending). IsSome o) (sym (ap (λ (x : Device). x.pending) last.1.leaves)) (some_behind name asks.0 last.0.pending last.1.allowed)

id_in : (o : Option Pending) → IsSome o → IsSomeAnd o (λ q. q.plan.id ≡ elim o [ None ↦ [] | Some x ↦ x.plan.id ])
id_in None some = absurd cc
id_in (Some q) some = refl

-- by its id
pending_as : (d e : Device) → IsSome d.pending → d ≡ e → IsPendingAs (id_of e) d
pending_as d e some same = subst (λ (x : Device). IsPendingAs (id_of x) d) same (id_in d.pending some)

-- ---- a deployment was driven

module _ {J : Type 0} where
  pub begun_for : (r : Result (Driven J) SessionFault) (ending : Ending) → DrivenEnding r ending → IsBegun ending
  begun_for (Ok (driven.Closed s o w)) ending (inl is) = subst IsBegun (sym is) tt
  begun_for (Ok (driven.Closed s o w)) ending (inr (inl is)) = subst IsBegun (sym is) tt
  begun_for (Ok (driven.Closed s o w)) ending (inr (inr is)) = subst IsBegun (sym is) tt
  begun_for (Ok (driven.Restart s)) ending is = subst IsBegun (sym is) tt
  begun_for (Ok (driven.Reboot s)) ending is = subst IsBegun (sym is) tt
  begun_for (Err over.Disk) ending is = subst IsBegun (sym is) tt
  begun_for (Err over.Output) ending is = subst IsBegun (sym is) tt

pub ending_is : (J : Type 0) (e : SessionFault) (ending : Ending) → DrivenEnding {J = J} (Err e) ending → ending ≡ ending_over e
ending_is J over.Disk ending is = is
ending_is J over.Output ending is = is

begun_memory : (ending : Ending) → IsBegun ending → ending ≢ WantBefore
begun_memory ending begun is = subst IsBegun is begun

over_ends : (p : SessionState) (e : SessionFault) (h : List TraceEvent) → EndsPart p (ending_over e) h
over_ends p over.Disk h = tt
over_ends p over.Output h = tt

-- where it was given up nothing is done behind the last record
over_stops : {D : Type 0} (entries : Image → List (List ℕ) → Type 0) (may_leave : D → Image → Type 0) (disk : D) (e : SessionFault) (p : SessionState)
    (h : List TraceEvent) → LeftAt entries may_leave disk p h e → StopsAt h
over_stops entries may_leave disk over.Disk p h left = left.0
over_stops entries may_leave disk over.Output p h left = left.0

-- behind a record after which the call ends nothing happened
seen_booted : (s : Seen) (m : Prepared) (p : SessionState) → (booted_by s m p).over ≡ p.over
seen_booted (seen.Started n c) m p = refl
seen_booted (seen.Refused c) m p = refl
seen_booted (seen.Killed n) m p = refl
seen_booted (seen.Exists x true) m p = refl
seen_booted (seen.Exists x false) m p = refl
seen_booted (seen.OnPath x true) m p = refl
seen_booted (seen.OnPath x false) m p = refl
seen_booted (seen.Ended n e l) m p = refl
seen_booted (seen.Elapsed l) m p = refl

seen_cut : (s : Seen) (p : SessionState) → (cut_off s p).over ≡ p.over
seen_cut (seen.Started n c) p = refl
seen_cut (seen.Refused c) p = refl
seen_cut (seen.Killed n) p = refl
seen_cut (seen.Exists x b) p = refl
seen_cut (seen.OnPath x b) p = refl
seen_cut (seen.Ended n e l) p = refl
seen_cut (seen.Elapsed l) p = refl

over_at : (q : SessionState) (e : TraceEvent) (h : List TraceEvent) → q.over ≡ false → (left_of q e).over ≡ true → StopsAt (e ∷ h)
over_at q (Recorded r) h fresh is = record { cuts = []; last = r; before = h; split = refl; kills = tt }
over_at q (RanEntry e k s) h fresh is = absurd (false≢true (sym fresh ∙ is))
over_at q (BootedEntry e m) h fresh is = absurd (false≢true (sym fresh ∙ sym (seen_booted e.seen m q) ∙ is))
over_at q (WaitElapsed e) h fresh is = absurd (false≢true (sym fresh ∙ is))
over_at q (KilledOnAbort e) h fresh is = absurd (false≢true (sym fresh ∙ sym (seen_cut e.seen q) ∙ is))
over_at q (Moved k e) h fresh is = absurd (false≢true (sym fresh ∙ is))
over_at q (ReadClock m) h fresh is = absurd (false≢true (sym fresh ∙ is))
over_at q (Heard k) h fresh is = absurd (false≢true (sym fresh ∙ is))
over_at q (InboxAsked a) h fresh is = absurd (false≢true (sym fresh ∙ is))
over_at q (Changed f c b) h fresh is = absurd (false≢true (sym fresh ∙ is))
over_at q StopsAll h fresh is = absurd (false≢true (sym fresh ∙ is))

over_last : (p : SessionState) (h : List TraceEvent) → p.over ≡ false → IsProper p h → (state_after p h).over ≡ true → StopsAt h
over_last p [] fresh proper is = absurd (false≢true (sym fresh ∙ is))
over_last p (e ∷ h) fresh proper is = over_at (state_after p h) e h proper.0.2 is

-- behind the course of a deployment that went to an end
driven_stops : {J : Type 0} (x : Driven J) (p : SessionState) (h : List TraceEvent) (world : Components) (told : Told) (living : List ℕ) → p.over ≡ false →
    IsProper p h → DrivenLeft x h (state_after p h) world told living → StopsAt h
driven_stops (driven.Closed s o w) p h world told living fresh proper left = closes_stops o h left.closed
driven_stops (driven.Restart s) p h world told living fresh proper left = over_last p h fresh proper left.1
driven_stops (driven.Reboot s) p h world told living fresh proper left = over_last p h fresh proper left.1

-- the disk is told as one that failed only by its ending
pub end_rises : (q : SessionState) (status : Status) (rose : Bool) → IsEnd q status false → IsEnd q status rose
end_rises q status rose e = record {
  bare = e.bare;
  stopped = e.stopped;
  cut = e.cut;
  owes_none = e.owes_none;
  recorded = by e.recorded;
  restarts = e.restarts;
  over = e.over;
}
  where
    by : (q.boot_end ≡ None) ⊎ ((leaves_open status ≡ true) × (false ≡ true)) → (q.boot_end ≡ None) ⊎ ((leaves_open status ≡ true) × (rose ≡ true))
    by (inl none) = inl none
    by (inr both) = absurd (false≢true both.1)

-- a call that gave up
open_end : (q : SessionState) (status : Status) (rose : Bool) → IsBare q → leaves_open status ≡ true → (q.boot_end ≡ None) ⊎ (rose ≡ true) → IsEnd q status rose
open_end q status rose bare opens recorded =
    let gives = opens_gives status opens in
    record {
      bare = bare;
      stopped = λ stays. absurd (false≢true (sym stays ∙ gives.0));
      cut = λ is. gives.0;
      owes_none = λ closed. absurd (false≢true (sym closed ∙ opens));
      recorded = by recorded;
      restarts = λ is. absurd (false≢true (sym gives.1 ∙ is));
      over = λ is. inr gives.0;
    }
  where
    by : (q.boot_end ≡ None) ⊎ (rose ≡ true) → (q.boot_end ≡ None) ⊎ ((leaves_open status ≡ true) × (rose ≡ true))
    by (inl none) = inl none
    by (inr is) = inr (opens, is)

over_opens : (e : SessionFault) (status : Status) → GivenUpStatus e status → leaves_open status ≡ true
over_opens over.Disk status answers = disk_opens status answers
over_opens over.Output status answers = ap leaves_open answers

over_end : {D : Type 0} (entries : Image → List (List ℕ) → Type 0) (may_leave : D → Image → Type 0) (disk : D) (e : SessionFault) (p : SessionState)
    (h : List TraceEvent) (status : Status) → IsBare (state_after p h) → LeftAt entries may_leave disk p h e → GivenUpStatus e status
    → IsEnd (state_after p h) status (is_failing (ending_over e))
over_end entries may_leave disk over.Disk p h status bare left answers = open_end (state_after p h) status true bare (over_opens over.Disk status answers)
    (inr refl)
over_end entries may_leave disk over.Output p h status bare left answers = open_end (state_after p h) status false bare (over_opens over.Output status answers)
    (inl left.1)

over_left : {J : Type 0} (before : Generation) (r : Ran J) (rose : Bool) (q : SessionState) (world : Components) (told : Told) (living : List ℕ) → IsOver r →
    IsEnd q (status_of_ran r) rose → RanLeft before r rose q world told living
over_left before (ran.Back s status standing) rose q world told living is end = absurd is
over_left before (ran.Over status) rose q world told living is end = end

-- where children were killed the call ends
pub quits_left : {J : Type 0} (p : SessionState) (before : Generation) (world : Components) (told : Told) (living : List ℕ) (next : Components) (now : Told)
    (lives : List ℕ) (status : Status) (r : Ran J) (rose : Bool) (k : List TraceEvent) → r ≡ ran.Over status → IsGivenUp p world told living
    → KeepsRest p (state_after p k) → IsBare (state_after p k) → gives_up status ≡ true → (leaves_open status ≡ false → list_any owes p.world.parts ≡ false)
    → RanLeft before r rose (state_after p k) next now lives
quits_left p before world told living next now lives status r rose k is given keeps bare gives owed =
    subst (λ (x : Ran _). RanLeft before x rose (state_after p k) next now lives) (sym is)
    (killed_ends p (state_after p k) world told living status rose given keeps bare gives owed)

-- so it does where an acceptance is in doubt, or was not acknowledged
pub doubt_left : {J D : Type 0} (entries : Image → List (List ℕ) → Type 0) (may_leave : D → Image → Type 0) (e : SessionFault) (disk : D) (p : SessionState)
    (k : List TraceEvent) (plan : Plan) (before : Generation) (world : Components) (told : Told) (living : List ℕ) (status : Status) (r : Ran J)
    → r ≡ ran.Over status → IsBare (state_after (state_after p (Recorded (Accepted plan) ∷ [])) k)
    → LeftAt entries may_leave disk p (k ++ Recorded (Accepted plan) ∷ []) e → GivenUpStatus e status
    → RanLeft before r (is_failing (ending_over e)) (state_after p (k ++ Recorded (Accepted plan) ∷ [])) world told living
doubt_left entries may_leave e disk p k plan before world told living status r is bare left answers =
    subst (λ (x : Ran _). RanLeft before x (is_failing (ending_over e)) (state_after p (k ++ Recorded (Accepted plan) ∷ [])) world told living) (sym is)
    (over_end entries may_leave disk e p (k ++ Recorded (Accepted plan) ∷ []) status
    (subst (λ (q : SessionState). IsBare q) (sym (left-append p k (Recorded (Accepted plan) ∷ []))) bare) left answers)

pub over_answers : (e : SessionFault) (status : Status) → GivenUpStatus e status → IsOrEdge status (status_of_ending (ending_over e))
over_answers over.Disk status answers = answers
over_answers over.Output status answers = inl answers

-- behind the course of a deployment that went to an end
module _ (p : SessionState) (h k : List TraceEvent) (q : SessionState) (none : records_of k ≡ []) (same : (state_after p (k ++ h)).device ≡ q.device)
    (run : Run p.device (records_of (k ++ h)) (state_after p (k ++ h)).device) where
  closes_on : (o : Outcome) → ClosesAs o (records_of h) → ClosesAs o (records_of (k ++ h))
  closes_on o closes = subst (λ (l : List Record). ClosesAs o l) (sym (records_opened h k none)) closes

  asks_on : (end : Booted) (e : Device) → q.device ≡ e → AsksFor end (records_of h) e → AsksFor end (records_of (k ++ h)) (state_after p (k ++ h)).device
  asks_on end e is asks =
      subst (λ (l : List Record). AsksFor end l (state_after p (k ++ h)).device) (sym (records_opened h k none))
      (subst (λ (x : Device). AsksFor end (records_of h) x) (sym (same ∙ is)) asks)

  again_on : (end : Booted) (e : Device) → q.device ≡ e → AsksFor end (records_of h) e → AsksFor end (records_of (k ++ h)) (state_after p (k ++ h)).device ×
      IsPendingAs (id_of e) (state_after p (k ++ h)).device
  again_on end e is asks =
      let on = asks_on end e is asks in
      (on, pending_as (state_after p (k ++ h)).device e (asked_some p.device (state_after p (k ++ h)).device end (records_of (k ++ h)) on run) (same ∙ is))

  pub driven_ends : {J : Type 0} (world : Components) (told : Told) (living : List ℕ) (x : Driven J) (ending : Ending) → DrivenLeft x h q world told living →
      DrivenEnding {J = J} (Ok x) ending → EndsPart p ending (k ++ h)
  driven_ends world told living (driven.Closed s o w) ending left (inl is) =
      let on = closes_on o (closes_as o h left.closed) in
      subst (λ (e : Ending). EndsPart p e (k ++ h)) (sym is) (on, closed_none p.device (state_after p (k ++ h)).device o (records_of (k ++ h)) on run)
  driven_ends world told living (driven.Closed s o w) ending left (inr (inl is)) =
      subst (λ (e : Ending). EndsPart p e (k ++ h)) (sym is) (o, closes_on o (closes_as o h left.closed))
  driven_ends world told living (driven.Closed s o w) ending left (inr (inr is)) = subst (λ (e : Ending). EndsPart p e (k ++ h)) (sym is) tt
  driven_ends world told living (driven.Restart s) ending left is =
      subst (λ (e : Ending). EndsPart p e (k ++ h)) (sym is) (again_on booted.Restart (loaded_device s) left.0.stands.device_is left.2)
  driven_ends world told living (driven.Reboot s) ending left is =
      subst (λ (e : Ending). EndsPart p e (k ++ h)) (sym is) (again_on booted.Reboot (loaded_device s) left.0.stands.device_is left.2)

-- ---- what the disk holds at the end

module _ (entries : Image → List (List ℕ) → Type 0) {D : Type 0} (may_leave : D → Image → Type 0) where
  pub most_of : (disk : D) (p : SessionState) (h : List TraceEvent) → Run p.device (records_of h) (state_after p h).device →
      StandsBehind entries may_leave disk p h → (c : Image) → may_leave disk c → StandsForMost entries p.device (records_of h) c
  most_of disk p h run behind c left = record {
    prefix = records_of h;
    rest = [];
    split = sym (append-nil (records_of h));
    few = omega arith;
    device = (state_after p h).device;
    run = run;
    stands = behind c left;
  }

  -- where it was given up
  pub over_most : (e : SessionFault) (disk : D) (p : SessionState) (h : List TraceEvent) → Run p.device (records_of h) (state_after p h).device →
      LeftAt entries may_leave disk p h e → (c : Image) → may_leave disk c → StandsForMost entries p.device (records_of h) c
  over_most over.Disk disk p h run left = left.1
  over_most over.Output disk p h run left = most_of disk p h run left.2

  pub edge_behind : (e : SessionFault) (disk : D) (p : SessionState) (h : List TraceEvent) → e ≡ over.Output → LeftAt entries may_leave disk p h e →
      StandsBehind entries may_leave disk p h
  edge_behind over.Disk disk p h is left = absurd cc
  edge_behind over.Output disk p h is left = left.2

  -- nothing is started behind a record that is in doubt
  over_doubt : (e : SessionFault) (disk : D) (p : SessionState) (h : List TraceEvent) (status : Status) → GivenUpStatus e status →
      LeftAt entries may_leave disk p h e →
      StandsBehind entries may_leave disk p h ⊎ ((gives_up status ≡ true) × StopsAt h)
  over_doubt over.Disk disk p h status answers left = inr ((opens_gives status (over_opens over.Disk status answers)).0, left.0)
  over_doubt over.Output disk p h status answers left = inl left.2

module _ (entries : Image → List (List ℕ) → Type 0) (files : List ℕ → Type 0) {D : Type 0} (may_leave : D → Image → Type 0) (moment : D → ℕ)
    (left_since : D → ℕ → Image → Type 0) (old new : D) (a c : Option (List RunnerEntry)) (u x : Option (List ℕ)) (p : SessionState) (status : Status)
    (leaves : Ending → SessionState → Type 0) where
  -- a part at whose moments the artifacts are there
  abbrev pub HasFiles : Part entries files may_leave moment left_since old new a c u x p status leaves → Type 0
  HasFiles part = HasLeft moment left_since old new (StandsWhole entries p.device (records_of part.history))

  -- such a part that drives a deployment with these records
  abbrev pub PartFor : List Record → (Ending → Type 0) → Type 0
  PartFor records because =
      (part : Part entries files may_leave moment left_since old new a c u x p status leaves) × IsBegun part.ending × (records_of part.history ≡ records)
      × (((i : Image) → may_leave old i → HoldsBefore i p.device records) → HasFiles part)
      × because part.ending

-- a part behind another one that goes on, with its history
module _ (entries : Image → List (List ℕ) → Type 0) (files : List ℕ → Type 0) {D : Type 0} {may_leave : D → Image → Type 0} {moment : D → ℕ} {left_since : D →
    ℕ → Image → Type 0} {is_modelled : Bool} {seen : D → Image}
    (laws : DiskLaws is_modelled seen may_leave moment left_since) where
  pub joined_on : {A : Type 0} (old mid new : D) (a b c : Option (List RunnerEntry)) (u v w : Option (List ℕ)) (p : SessionState) (h : List TraceEvent)
      (r : Result A SessionFault) (is : A → List TraceEvent → SessionState → Type 0)
      → IsTrace entries files may_leave moment left_since old mid a b p h → Appends u v (lines_of p.device (records_of h)) → Holds is h
      → (two : DrivenCourse entries files may_leave moment left_since mid new b c v w (state_after p h) r is)
      → (both : DrivenCourse entries files may_leave moment left_since old new a c u w p r is) × (both.history ≡ two.history ++ h)
  joined_on old mid new a b c u v w p h (Ok x) is one told holds two =
      let g = two.history in (
        record {
          history = g ++ h;
          trace = went_on entries files laws old mid new a b c p h g one two.trace;
          lines = all_printed u v w p h g one.run told two.lines;
          left = subst (λ (q : SessionState). is x (g ++ h) q) (sym (left-append p g h)) (holds x g (state_after (state_after p h) g) two.left);
          bare = tt;
        },
        refl,
      )
  joined_on old mid new a b c u v w p h (Err e) is one told holds two =
      let g = two.history in (
        record {
          history = g ++ h;
          trace = went_on entries files laws old mid new a b c p h g one two.trace;
          lines = lines_at_joined u v w p h g e one.run told two.lines;
          left = left_joined entries may_leave new p h g e one.run two.left;
          bare = subst (λ (q : SessionState). IsBare q) (sym (left-append p g h)) two.bare;
        },
        refl,
      )

-- behind an acceptance no other comes
once_behind : (taken : Bool) (plan : Plan) (rest : List Record) → taken ≡ false → TakesOnce taken (Accepted plan ∷ rest) → TakesOnce true rest
once_behind taken plan rest none once = (subst (λ (b : Bool). TakesOnce b (Accepted plan ∷ rest)) none once).1

pub once_after : (taken : Bool) (plan : Plan) (records rest : List Record) → taken ≡ false → records ≡ Accepted plan ∷ rest → TakesOnce taken records →
    TakesOnce true rest
once_after taken plan records rest none is once = once_behind taken plan rest none (subst (λ (l : List Record). TakesOnce taken l) is once)

pub first_of : (plan : Plan) (records : List Record) (h g : List TraceEvent) → records_of h ≡ Accepted plan ∷ [] → records ≡ records_of (g ++ h) →
    records ≡ Accepted plan ∷ records_of g
first_of plan records h g first is = is ∙ records-append g h ∙ ap (λ (l : List Record). l ++ records_of g) first

pub begins_by : (start : ℕ → ℕ) (plan : Plan) (ending : Ending) (records rest : List Record) → IsBegun ending → FitsFrom start plan →
    records ≡ Accepted plan ∷ rest → TakesOnce true rest → PlanEnding start plan ending records
begins_by start plan ending records rest begun fits is once = inr (begun, fits, (rest, is, once))

module _ {D J : Type 0} {is_modelled : Bool} {seen : D → Image} {may_leave : D → Image → Type 0} {moment : D → ℕ} {left_since : D → ℕ → Image → Type 0}
    (laws : DiskLaws is_modelled seen may_leave moment left_since)
    {files : List ℕ → Type 0} {entries : Image → List (List ℕ) → Type 0} {holds_none : Image → Type 0} {is_damaged : Image → ℕ → Type 0}
    {stands : J → Image → List (List ℕ) → Type 0} {end : J → ℕ} (journal : JournalLaws files entries holds_none is_damaged stands end)
    (apart : LieElsewhere files) where
  -- whatever becomes of files of artifacts
  pub hand_behind : (log : J) (d : Device) (old new : D) (p : SessionState) (h : List TraceEvent) → ChangesArtifactsAlone may_leave moment left_since old new
      → OwnsJournal is_modelled may_leave stands end log old d → (state_after p h).device ≡ d
      → StandsBehind entries may_leave new p h
  hand_behind log d old new p h spared hand is = λ c left.
      subst (λ (x : Device). StandsFor entries c x) (sym is) (in_hand_stands laws journal log new d (hand_stays laws journal apart log d old new spared hand)
      c left)

  -- behind a deployment that was driven
  driven_hand : (x : Driven J) (disk : D) → OwnsDriven is_modelled may_leave stands end x disk → (log : J) ×
      OwnsJournal is_modelled may_leave stands end log disk (driven_device x)
  driven_hand (driven.Closed s o w) disk hand = (s.log, hand.0)
  driven_hand (driven.Restart s) disk hand = loaded_hand is_modelled may_leave stands end s disk hand
  driven_hand (driven.Reboot s) disk hand = loaded_hand is_modelled may_leave stands end s disk hand

  driven_is : (x : Driven J) (h : List TraceEvent) (q : SessionState) (world : Components) (told : Told) (living : List ℕ) →
      DrivenLeft x h q world told living → q.device ≡ driven_device x
  driven_is (driven.Closed s o w) h q world told living left = left.stands.device_is
  driven_is (driven.Restart s) h q world told living left = left.0.stands.device_is
  driven_is (driven.Reboot s) h q world told living left = left.0.stands.device_is

  -- ---- where it ends

  module _ (world : Components) (told : Told) (living : List ℕ) where
    -- from there it comes back
    pub placed_at : (old new : D) (a b : Option (List RunnerEntry)) (u v : Option (List ℕ)) (p : SessionState) (r : Result (Driven J) SessionFault) →
        DrivenCourse entries files may_leave moment left_since old new a b u v p r (λ x h q. DrivenLeft x h q world told living)
        → IfOk r (λ x. (q : SessionState) × (h : List TraceEvent) × DrivenLeft x h q world told living)
    placed_at old new a b u v p (Ok x) course = (state_after p course.history, course.history, course.left)
    placed_at old new a b u v p (Err e) course = tt

    -- ---- the whole

    -- the course of a deployment, and files that are swept behind it
    pub parted : (old to new : D) (a b c : Option (List RunnerEntry)) (u v w x : Option (List ℕ)) (p : SessionState) (r : Result (Driven J) SessionFault)
        (ran : Ran J) (last : Components) (now : Told) (lives : List ℕ) (because : Ending → Type 0)
        → Appends u v (opening_line p.device) → (course : DrivenCourse entries files may_leave moment left_since old to a b v w p r
        (λ y h q. DrivenLeft y h q world told living)) → p.over ≡ false
        → IfOk r (λ y. OwnsDriven is_modelled may_leave stands end y to)
        → IfOk r (λ y. (q : SessionState) → (h : List TraceEvent) → (before : Generation) → DrivenLeft y h q world told living → (k : List TraceEvent) ×
        ActTrace q k b c × IsUnbegun q k × ((rose : Bool) → RanLeft before ran rose (state_after q k) last now lives))
        → OnErr r (IsOver ran) → OnErr r (c ≡ b) → ChangesArtifactsAlone may_leave moment left_since to new →
        IfOk r (λ y. AllHoldDevice (may_leave to) (driven_device y) → HasLeft moment left_since to new (λ i. HoldsDevice i (driven_device y))) →
        OnErr r (new ≡ to) → SaysEnding w x (status_of_ran ran) (λ e. DrivenEnding r e × because e) → (IsErrOf r over.Output → x ≡ w) →
        DrivenStatus r (status_of_ran ran)
        → PartFor entries files may_leave moment left_since old new a c u x p (status_of_ran ran)
        (λ ending q. RanLeft p.generation ran (is_failing ending) q last now lives) (records_of course.history) because
    parted old to new a b c u v w x p (Ok y) ran last now lives because started course fresh held ends over_is still after safe unswept says silent answers =
        let h = course.history in
        let q = state_after p h in
        let e = ends q h p.generation course.left in
        let k = e.0 in
        let ending = says.0 in
        let status = status_of_ran ran in
        let same = records_opened h k e.1.none in
        let device = ap (λ (z : SessionState). z.device) (left-append p k h) ∙ e.1.device in
        let trace = went_acting entries files old to a b c p h k course.trace e.1 in
        let begun = begun_for {J = J} (Ok y) ending says.1.0 in
        let records = records_of (k ++ h) in
        let left = driven_device y in
        let is = device ∙ driven_is y h q world told living course.left in
        let hand = driven_hand y to held in
        let behind = hand_behind hand.0 left to new p (k ++ h) after hand.1 is in (
          record {
            from = old;
            to = to;
            before = start_spares laws (IsBelow artifacts) old;
            history = k ++ h;
            trace = trace;
            after = after;
            ending = ending;
            answers = says.3;
            prints = all_prints (StandsBehind entries may_leave new p (k ++ h)) u v w x p.device records ending status behind (begun_memory ending begun) started
                (subst (λ (l : List Record). Appends v w (lines_of p.device l)) (sym same) course.lines) says.2;
            ends = driven_ends p h k q e.1.none device trace.run world told living y ending course.left says.1.0;
            left = subst (λ (z : SessionState). RanLeft p.generation ran (is_failing ending) z last now lives) (sym (left-append p k h))
                (e.3 (is_failing ending));
            stands = most_of entries may_leave new p (k ++ h) trace.run behind;
            doubt = inl behind;
            once = λ serves. takes_once p (k ++ h) serves trace.proper;
            quits = λ gives. inr (stops_killed h k e.2.0 (driven_stops y p h world told living fresh course.trace.proper course.left));
          },
          begun,
          same,
          (λ holds.
              let before : (i : Image) → may_leave old i → HoldsBefore i p.device records = λ i may. subst (λ (l : List Record). HoldsBefore i p.device l)
              (sym same) (holds i may) in
              let there = subst (λ (d : Device). AllHoldDevice (may_leave to) d) is (went_holds laws files entries apart old to a c p (k ++ h) trace before) in
              joined laws old to new (StandsWhole entries p.device records) (StandsWhole entries p.device records) (StandsWhole entries p.device records)
              (went_whole laws files entries apart old to a c p (k ++ h) trace before)
              (spared_whole laws files entries apart journal hand.0 to new p.device left records records [] hand.1 (sym (append-nil records))
              (subst (λ (d : Device). Run p.device records d) is trace.run) after (safe there))
              (λ i w. w) (λ i w. w)),
          says.1.1,
        )
    parted old to new a b c u v w x p (Err e) ran last now lives because started course fresh held ends over_is still after safe unswept says silent answers =
        let ending = ending_over e in
        let status = status_of_ran ran in
        let is = ending_is J e says.0 says.1.0 in (
          record {
            from = old;
            to = to;
            before = start_spares laws (IsBelow artifacts) old;
            history = course.history;
            trace = subst (λ (l : Option (List RunnerEntry)). IsTrace entries files may_leave moment left_since old to a l p course.history)
                (sym still) course.trace;
            after = after;
            ending = ending;
            answers = over_answers e status answers;
            prints = over_prints (StandsBehind entries may_leave new p course.history) e u v w x p.device (records_of course.history) status
                (λ edge. subst (λ (z : D). StandsBehind entries may_leave z p course.history) (sym unswept)
                (edge_behind entries may_leave e to p course.history edge course.left))
                started course.lines (subst (λ (f : Ending). SaysLine w x status (line_of_ending f)) is says.2) (λ edge. silent (ap Err edge)) answers;
            ends = over_ends p e course.history;
            left = over_left p.generation ran (is_failing ending) (state_after p course.history) last now lives over_is
                (over_end entries may_leave to e p course.history status course.bare course.left answers);
            stands = subst (λ (z : D). (i : Image) → may_leave z i → StandsForMost entries p.device (records_of course.history) i) (sym unswept)
                (over_most entries may_leave e to p course.history course.trace.run course.left);
            doubt = subst (λ (z : D). StandsBehind entries may_leave z p course.history ⊎ ((gives_up status ≡ true) × StopsAt course.history)) (sym unswept)
                (over_doubt entries may_leave e to p course.history status answers course.left);
            once = λ serves. takes_once p course.history serves course.trace.proper;
            quits = λ gives. inr (over_stops entries may_leave to e p course.history course.left);
          },
          subst IsBegun is (begun_for {J = J} (Err e) says.0 says.1.0),
          refl,
          (λ holds. subst (λ (z : D). HasLeft moment left_since old z (StandsWhole entries p.device (records_of course.history))) (sym unswept)
              (went_whole laws files entries apart old to a b p course.history course.trace holds)),
          subst because is says.1.1,
        )

-- ---- nothing of a deployment happens

module _ {D : Type 0} (entries : Image → List (List ℕ) → Type 0) (files : List ℕ → Type 0) {may_leave : D → Image → Type 0} {moment : D → ℕ} {left_since : D →
    ℕ → Image → Type 0} {is_modelled : Bool} {seen : D → Image}
    (laws : DiskLaws is_modelled seen may_leave moment left_since) where
  -- nothing changes at all
  pub still_whole : (d : D) (p : SessionState) → ((c : Image) → may_leave d c → StandsFor entries c p.device) → AllHoldDevice (may_leave d) p.device →
      HasLeft moment left_since d d (StandsWhole entries p.device [])
  still_whole d p stands holds =
      weaker laws d d (may_leave d) (StandsWhole entries p.device [])
      (λ c left. (record { prefix = []; rest = []; split = refl; device = p.device; run = refl; stands = stands c left }, holds c left))
      (at_start laws d)

  pub still_files : (d : D) (p : SessionState) (records : List Record) → records ≡ [] → ((c : Image) → may_leave d c → StandsFor entries c p.device) →
      AllHoldDevice (may_leave d) p.device → HasLeft moment left_since d d (StandsWhole entries p.device records)
  still_files d p records none stands holds = subst (λ (l : List Record). HasLeft moment left_since d d (StandsWhole entries p.device l)) (sym none)
      (still_whole d p stands holds)

  -- the same status, which the result has
  module _ (old new : D) (l m : Option (List RunnerEntry)) (u v : Option (List ℕ)) (p : SessionState) (status given : Status) (same : status ≡ given)
      (leaves : Ending → SessionState → Type 0) where
    -- files may be taken in, and children may be killed
    nothing_part : (ending : Ending) (k : List TraceEvent) → ChangesArtifactsAlone may_leave moment left_since old new
        → ((c : Image) → may_leave new c → StandsFor entries c p.device) → ActTrace p k l m → IsUnbegun p k → IsOrEdge given (status_of_ending ending)
        → LinesPrinted u v p.device [] ending given (StandsBehind entries may_leave new p []) → EndsPart p ending k → leaves ending (state_after p k)
        → Part entries files may_leave moment left_since old new l m u v p status leaves
    nothing_part ending k before stands acts unbegun answers prints ends left =
        let trace = acted entries files laws new l m p k stands acts in
        let behind : StandsBehind entries may_leave new p k = λ c may. subst (λ (d : Device). StandsFor entries c d) (sym acts.device) (stands c may) in
        record {
          from = new;
          to = new;
          before = before;
          history = k;
          trace = trace;
          after = start_spares laws (IsBelow artifacts) new;
          ending = ending;
          answers = subst (λ (s : Status). IsOrEdge s (status_of_ending ending)) (sym same) answers;
          prints = prints_as u v p.device (records_of k) ending status given (StandsBehind entries may_leave new p []) (StandsBehind entries may_leave new p k)
              acts.none same (λ sure. behind) prints;
          ends = ends;
          left = left;
          stands = most_of entries may_leave new p k trace.run behind;
          doubt = inl behind;
          once = λ serves. takes_once p k serves trace.proper;
          quits = λ gives. inl unbegun;
        }

    pub nothing_parted : (ending : Ending) (k : List TraceEvent) → ChangesArtifactsAlone may_leave moment left_since old new
        → ((c : Image) → may_leave new c → StandsFor entries c p.device) → ActTrace p k l m → IsUnbegun p k → IsOrEdge given (status_of_ending ending)
        → LinesPrinted u v p.device [] ending given (StandsBehind entries may_leave new p []) → EndsPart p ending k → leaves ending (state_after p k)
        → (part : Part entries files may_leave moment left_since old new l m u v p status leaves) × (part.ending ≡ ending) × (records_of part.history ≡ [])
    unfolding nothing_part
    nothing_parted ending k before stands acts unbegun answers prints ends left =
        (nothing_part ending k before stands acts unbegun answers prints ends left, refl, acts.none)

    -- The document is not taken: that is said, or there is no memory for its line.
    pub declined_parted : (start : ℕ → ℕ) (declined : Declined) (k : List TraceEvent) → ChangesArtifactsAlone may_leave moment left_since old new
        → ((c : Image) → may_leave new c → StandsFor entries c p.device) → ActTrace p k l m → IsUnbegun p k → p.device.pending ≡ None
        → SaysRefusal u v given (status_of_declined declined) (line_of_declined declined) → ((ending : Ending) → leaves ending (state_after p k))
        → (part : Part entries files may_leave moment left_since old new l m u v p status leaves) × TakenEnding start (Err declined) part.ending
        (records_of part.history) × (records_of part.history ≡ []) × (part.ending ≢ ByDiskFault)
    unfolding nothing_part
    declined_parted start declined k before stands acts unbegun none (inl said) left = (
      nothing_part (ByDecline declined) k before stands acts unbegun said.1
          (said_prints (StandsBehind entries may_leave new p []) u v p.device (ByDecline declined) given stands (λ is. cc) none said.0) unbegun
          (left (ByDecline declined)),
      (inl refl, acts.none),
      acts.none,
      (λ is. cc),
    )
    declined_parted start declined k before stands acts unbegun none (inr short) left = (
      nothing_part WantBefore k before stands acts unbegun (inl short.0)
          (starved_prints (StandsBehind entries may_leave new p []) u v p.device given stands short.1) unbegun (left WantBefore),
      (inr refl, acts.none),
      acts.none,
      (λ is. cc),
    )

  -- the journal does not lie among the files of artifacts
  module _ (apart : LieElsewhere files) where
    -- A plan is given back, where the journal may have been begun anew with the device: there is no memory, or the disk makes no room.
    pub returned_parted : (old new : D) (l m : Option (List RunnerEntry)) (u v : Option (List ℕ)) (p : SessionState) (status given : Status)
        (leaves : Ending → SessionState → Type 0) (plan : Plan) (ending : Ending) (k : List TraceEvent) → status ≡ given
        → HasLeft moment left_since old new (LeavesSame may_leave files entries old p.device) → ((c : Image) → may_leave new c → StandsFor entries c p.device)
        → ActTrace p k l m → IsUnbegun p k → IsOrEdge given (status_of_ending ending)
        → LinesPrinted u v p.device [] ending given (StandsBehind entries may_leave new p []) → EndsPart p ending k → leaves ending (state_after p k)
        → (part : Part entries files may_leave moment left_since old new l m u v p status leaves)
        × (part.ending ≡ ending) × (records_of part.history ≡ []) ×
        (AllHoldBoth (may_leave old) p.device plan.items → HasFiles entries files may_leave moment left_since old new l m u v p status leaves part)
    returned_parted old new l m u v p status given leaves plan ending k same leaving stands acts unbegun answers prints ends left = (
      record {
        from = old;
        to = new;
        before = start_spares laws (IsBelow artifacts) old;
        history = k;
        trace = whole;
        after = start_spares laws (IsBelow artifacts) new;
        ending = ending;
        answers = subst (λ (s : Status). IsOrEdge s (status_of_ending ending)) (sym same) answers;
        prints = prints_as u v p.device (records_of k) ending status given (StandsBehind entries may_leave new p [])
            (StandsBehind entries may_leave new p k) acts.none same (λ sure. behind) prints;
        ends = ends;
        left = left;
        stands = most_of entries may_leave new p k whole.run behind;
        doubt = inl behind;
        once = λ serves. takes_once p k serves whole.proper;
        quits = λ gives. inl unbegun;
      },
      refl,
      acts.none,
      (λ holds. went_whole laws files entries apart old new l m p k whole
          (λ c may. record { device = (holds c may).0; plans = subst (λ (r : List Record). HoldsAll c r) (sym acts.none) tt })),
    )
      where
        behind : StandsBehind entries may_leave new p k
        behind = λ c may. subst (λ (d : Device). StandsFor entries c d) (sym acts.device) (stands c may)

        trace : IsTrace entries files may_leave moment left_since old new l l p []
        trace = record {
          proper = tt;
          run = refl;
          course = weaker laws old new (LeavesSame may_leave files entries old p.device)
              (IsAfter (may_leave old) (IsChangeIn files (StandsForPrefix entries p.device [])))
              (λ c was. (
                was.0,
                was.1,
                record {
                  here = record { prefix = []; rest = []; split = refl; device = p.device; run = refl; stands = was.2.here };
                  others = was.2.others;
                },
              ))
              leaving;
          list = grows_none l l refl;
        }

        whole : IsTrace entries files may_leave moment left_since old new l m p k
        whole = subst (λ (h : List TraceEvent). IsTrace entries files may_leave moment left_since old new l m p h) (append-nil k)
            (went_acting entries files old new l l m p [] k trace acts)

    -- the plan's entry is in doubt, or its line was not printed
    pub doubt_parted : (start : ℕ → ℕ) (e : SessionFault) (old new : D) (list now : Option (List RunnerEntry)) (u v w : Option (List ℕ)) (p : SessionState)
        (d : Device) (world : Components) (told : Told) (living : List ℕ) (plan : Plan) (h k : List TraceEvent) (status : Status)
        (leaves : Ending → SessionState → Type 0)
        → FitsFrom start plan → IsOpen p d world told living → Allowed d (Accepted plan) →
        HasLeft moment left_since old new (LeavesEither may_leave files entries old d (applied d (Accepted plan)))
        → d.pending ≡ None → records_of h ≡ Accepted plan ∷ [] → Run p.device (records_of h) (state_after p h).device → LinesAt u v p.device (records_of h) e
        → LeftAt entries may_leave new p h e → ActTrace (state_after p (Recorded (Accepted plan) ∷ [])) k list now → AllByRecursion IsLast k
        → KeepsRest (state_after p (Recorded (Accepted plan) ∷ [])) (state_after (state_after p (Recorded (Accepted plan) ∷ [])) k)
        → SaysLine v w status (line_of_ending (ending_over e)) → (e ≡ over.Output → w ≡ v) → GivenUpStatus e status
        → ((LeftAt entries may_leave new p (k ++ Recorded (Accepted plan) ∷ []) e) → leaves (ending_over e)
        (state_after p (k ++ Recorded (Accepted plan) ∷ []))) → (Came : List Record → Type 0) → ((records : List Record) → Came records)
        → (t : (part : Part entries files may_leave moment left_since old new list now u w p status leaves) × PlanEnding start plan part.ending
        (records_of part.history) × Came (records_of part.history))
        × (AllHoldBoth (may_leave old) p.device plan.items → HasFiles entries files may_leave moment left_since old new list now u w p status leaves t.0)
        × (t.0.ending ≡ ending_over e) × (records_of t.0.history ≡ Accepted plan ∷ [])
    doubt_parted start e old new list now u v w p d world told living plan h k status leaves fits opens allowed notes none records run lines left acts
        kills keeps says silent answers ends Came came =
        let one = Accepted plan ∷ [] in
        let on = Recorded (Accepted plan) ∷ [] in
        let device = one_device p.device (state_after p h).device (Accepted plan)
        (subst (λ (l : List Record). Run p.device l (state_after p h).device) records run) in
        let first = accept_went entries files laws old new list p d world told living plan opens allowed notes in
        let trace = went_acting entries files old new list list now p on k first acts in
        let same = records_opened on k acts.none in
        let behind = left_killed entries may_leave new p on k e list now acts keeps kills (left_as e device records left) in (
          (
            record {
              from = old;
              to = new;
              before = start_spares laws (IsBelow artifacts) old;
              history = k ++ on;
              trace = trace;
              after = start_spares laws (IsBelow artifacts) new;
              ending = ending_over e;
              answers = over_answers e status answers;
              prints = over_prints (StandsBehind entries may_leave new p (k ++ on)) e u u v w p.device (records_of (k ++ on)) status
                  (λ edge. edge_behind entries may_leave e new p (k ++ on) edge behind)
                  (opening_none u p.device (ap (λ (x : Device). x.pending) opens.stands.device_is ∙ none))
                  (subst (λ (l : List Record). LinesAt u v p.device l e) (records ∙ sym same) lines) says silent answers;
              ends = over_ends p e (k ++ on);
              left = ends behind;
              stands = over_most entries may_leave e new p (k ++ on) trace.run behind;
              doubt = over_doubt entries may_leave e new p (k ++ on) status answers behind;
              once = λ serves. takes_once p (k ++ on) serves trace.proper;
              quits = λ gives. inr (over_stops entries may_leave new e p (k ++ on) behind);
            },
            begins_by start plan (ending_over e) (records_of (k ++ on)) [] (over_begun e) fits same tt,
            came (records_of (k ++ on)),
          ),
          (λ holds. went_whole laws files entries apart old new list now p (k ++ on) trace
              (all_before (may_leave old) p.device plan (records_of (k ++ on)) [] same tt holds)),
          refl,
          same,
        )
      where
        over_begun : (e : SessionFault) → IsBegun (ending_over e)
        over_begun over.Disk = tt
        over_begun over.Output = tt

        left_as : (e : SessionFault) → (state_after p h).device ≡ applied p.device (Accepted plan) → records_of h ≡ Accepted plan ∷ [] →
            LeftAt entries may_leave new p h e → LeftAt entries may_leave new p (Recorded (Accepted plan) ∷ []) e
        left_as over.Disk device records left = (
          stops_last (Accepted plan),
          λ c may. subst (λ (l : List Record). StandsForMost entries p.device l c) records
              (left.1 c may),
        )
        left_as over.Output device records left = (
          stops_last (Accepted plan),
          opens.boot_end,
          λ c may. subst (λ (x : Device). StandsFor entries c x) device (left.2 c may),
        )

  -- with files that are taken in before it
  abbrev pub parted_behind : (old mid new : D) (a b : Option (List RunnerEntry)) (u v : Option (List ℕ)) (p : SessionState) (status : Status)
      (leaves : Ending → SessionState → Type 0) → ChangesArtifactsAlone may_leave moment left_since old mid
      → Part entries files may_leave moment left_since mid new a b u v p status leaves →
      Part entries files may_leave moment left_since old new a b u v p status leaves
  parted_behind old mid new a b u v p status leaves first c = record {
    from = c.from;
    to = c.to;
    before = then_spares laws (IsBelow artifacts) old mid c.from first c.before;
    history = c.history;
    trace = c.trace;
    after = c.after;
    ending = c.ending;
    answers = c.answers;
    prints = c.prints;
    ends = c.ends;
    left = c.left;
    stands = c.stands;
    doubt = c.doubt;
    once = c.once;
    quits = c.quits;
  }

  -- a plan that was taken in is driven
  pub taken_behind : {X Y : Type 0} (Came : List Record → Type 0) (start : ℕ → ℕ) (old mid new : D) (a b : Option (List RunnerEntry)) (u v : Option (List ℕ)) (p : SessionState)
      (status : Status) (leaves : Ending → SessionState → Type 0) (d : Device) (plan : code.Plan) → ChangesArtifactsAlone may_leave moment left_since old mid
      → (AllHoldDevice (may_leave old) p.device → (records : List Record) → HasLeft moment left_since old mid (StandsWhole entries p.device records))
      → (AllHoldDevice (may_leave old) p.device → AllHoldBoth (may_leave mid) p.device (plan_view plan).items)
      → (s : (part : Part entries files may_leave moment left_since mid new a b u v p status leaves) × PlanEnding start (plan_view plan) part.ending
      (records_of part.history) × Came (records_of part.history))
      × (AllHoldBoth (may_leave mid) p.device (plan_view plan).items → HasFiles entries files may_leave moment left_since mid new a b u v p status leaves s.0)
      × (s.0.ending ≡ ByDiskFault → X) × AcceptsFrom entries may_leave moment left_since mid new d start (plan_view plan) s.0.ending (records_of s.0.history)
      → (X → Y)
      → (t : (part : Part entries files may_leave moment left_since old new a b u v p status leaves) × TakenEnding start (Ok plan) part.ending
      (records_of part.history) × Came (records_of part.history))
      × (AllHoldDevice (may_leave old) p.device → HasFiles entries files may_leave moment left_since old new a b u v p status leaves t.0)
      × (t.0.ending ≡ ByDiskFault → Y) × AcceptsTaken entries may_leave moment left_since old new d start (Ok plan) t.0.ending (records_of t.0.history)
  taken_behind Came start old mid new a b u v p status leaves d plan first whole gives drives on =
      let c = drives.0.0 in
      let is = StandsWhole entries p.device (records_of c.history) in (
        (parted_behind old mid new a b u v p status leaves first c, drives.0.1, drives.0.2),
        (λ holds. joined laws old mid new is is is (whole holds (records_of c.history)) (drives.1 (gives holds)) (λ i w. w) (λ i w. w)),
        (λ fails. on (drives.2 fails)),
        accepts_behind entries laws old mid new (IsAfter (may_leave old) (IsSameBut (IsBelow artifacts))) first d start (plan_view plan) c.ending
            (records_of c.history) drives.3,
      )
