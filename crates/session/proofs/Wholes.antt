-- A whole call, made of a part and of the stop of all components behind it.
use Rattle.std.specs.List.{AllByRecursion}
use Rattle.std.specs.Prelude.{ℕ, Bool, true, false, List, [], ◌++◌, Option, None}
use Rattle.std.proofs.Common.{◌≡◌, ◌⊎◌, ◌∙◌, inl, inr, refl, sym, ap, subst}
use Rattle.disk_model.specs.Disk.{Image}
use Rattle.nuc_base.specs.declared.status.Status.{Status}
use Rattle.records.specs.Stored.{Record}
use Rattle.device.specs.Devices.{Device, Pending}
use Rattle.device.specs.Standing.{StandsFor}
use Rattle.step_runner.specs.Entries.{Told}
use Rattle.step_runner.specs.declared.entries.RunnerEntry.{RunnerEntry}
use Rattle.components.specs.Components.{Components, is_stopped}
use Rattle.histories.specs.Courses.{IsEnd, gives_up}
use Rattle.histories.specs.Follows.{IsLast}
use Rattle.histories.specs.TraceEvents.{TraceEvent, records_of}
use Rattle.histories.specs.Once.{TakesOnce}
use Rattle.histories.specs.States.{SessionState, state_after}
use Rattle.histories.proofs.Joined.{left-append}
use Rattle.session_boots.specs.Booted.{AsksFor}
use Rattle.session_boots.specs.Ends.{StopsAt}
use Rattle.session_boots.specs.Traces.{ActTrace, StandsForMost}
use Rattle.session_boots.specs.declared.ends.Booted.TheVariants as booted
use Rattle.session_boots.proofs.Joins.{records_opened}
use Rattle.session_startup.specs.Ended.{ClosesAs}
use Rattle.session_rollout.proofs.Joining.{stops_killed, went_acting}
use Rattle.session.specs.Calls.{Call, IsEndingOf, IsOrEdge, IsPendingAs, QuitsAt, StandsBehind}
use Rattle.session.specs.Endings.{Ending, ByClose, ByRestart, ByReboot, ByDiskFault, BySinkFault, WantAfter, WantBefore, ByDecline, Full, Idle}
use Rattle.session.specs.Endings.{is_failing, status_of_ending}
use Rattle.session.specs.Parts.{EndsPart, IsOver, IsUnbegun, QuitsPart, RanLeft, RunsPart, status_of_ran}
use Rattle.session.specs.declared.ran.Ran.{Ran}
use Rattle.session.specs.declared.ran.Ran.TheVariants as ran
use Rattle.session.proofs.Printing.{prints_as}

-- ---- where nothing of a deployment happened, nothing does

module _ (p : SessionState) (h k : List TraceEvent) (stopped : is_stopped p.world ≡ true)
    (still : is_stopped (state_after p h).world ≡ true → k ≡ []) where
  none_both : IsUnbegun p h → k ++ h ≡ []
  none_both unbegun = both h k (unbegun.1 stopped) (subst (λ (g : List TraceEvent). is_stopped (state_after p g).world ≡ true → k ≡ []) (unbegun.1 stopped)
      still stopped)
    where
      both : (h k : List TraceEvent) → h ≡ [] → k ≡ [] → k ++ h ≡ []
      both h k none last = ap (λ (g : List TraceEvent). g ++ h) last ∙ none

  module _ (none : records_of k ≡ []) (device : (state_after p (k ++ h)).device ≡ (state_after p h).device) where
    same : records_of (k ++ h) ≡ records_of h
    same = records_opened h k none

    pending_on : (state_after p h).device.pending ≡ None → (state_after p (k ++ h)).device.pending ≡ None
    pending_on is = ap (λ (d : Device). d.pending) device ∙ is

    ends_whole : (ending : Ending) → EndsPart p ending h → IsEndingOf ending (k ++ h) (state_after p (k ++ h))
    ends_whole (ByClose o) e = (subst (λ (l : List Record). ClosesAs o l) (sym same) e.0, pending_on e.1)
    ends_whole (ByRestart id) e = (
      subst (λ (l : List Record). AsksFor booted.Restart l (state_after p (k ++ h)).device) (sym same)
          (subst (λ (d : Device). AsksFor booted.Restart (records_of h) d) (sym device) e.0),
      subst (λ (d : Device). IsPendingAs id d) (sym device) e.1,
    )
    ends_whole (ByReboot id) e = (
      subst (λ (l : List Record). AsksFor booted.Reboot l (state_after p (k ++ h)).device) (sym same)
          (subst (λ (d : Device). AsksFor booted.Reboot (records_of h) d) (sym device) e.0),
      subst (λ (d : Device). IsPendingAs id d) (sym device) e.1,
    )
    ends_whole ByDiskFault e = tt
    ends_whole BySinkFault e = tt
    ends_whole WantAfter e = (e.0, subst (λ (l : List Record). ClosesAs e.0 l) (sym same) e.1)
    ends_whole WantBefore e = none_both e
    ends_whole (ByDecline d) e = none_both e
    ends_whole (Full at) e = none_both e
    ends_whole Idle e = (none_both e.0, pending_on e.1)

-- ---- where it gives up at most children are killed behind the part

quits_whole : (p : SessionState) (h k : List TraceEvent) → is_stopped p.world ≡ true → (is_stopped (state_after p h).world ≡ true → k ≡ [])
    → AllByRecursion IsLast k → QuitsPart p h → QuitsAt (k ++ h)
quits_whole p h k stopped still kills (inl unbegun) = inl (none_both p h k stopped still unbegun)
quits_whole p h k stopped still kills (inr stops) = inr (stops_killed h k kills stops)

-- ---- the whole

module _ (entries : Image → List (List ℕ) → Type 0) {D : Type 0} (may_leave : D → Image → Type 0) where
  doubt_whole : (new : D) (p : SessionState) (h k : List TraceEvent) (status : Status) → (gives_up status ≡ true → AllByRecursion IsLast k)
      → (state_after p (k ++ h)).device ≡ (state_after p h).device
      → StandsBehind entries may_leave new p h ⊎ ((gives_up status ≡ true) × StopsAt h) → StandsBehind entries may_leave new p (k ++ h) ⊎ StopsAt (k ++ h)
  doubt_whole new p h k status last device (inl behind) = inl (λ c may. subst (λ (d : Device). StandsFor entries c d) (sym device) (behind c may))
  doubt_whole new p h k status last device (inr stops) = inr (stops_killed h k (last stops.0) stops.1)

module _ (entries : Image → List (List ℕ) → Type 0) (files : List ℕ → Type 0) {D : Type 0} {may_leave : D → Image → Type 0} {moment : D → ℕ} {left_since : D →
    ℕ → Image → Type 0} where
  pub whole : {J : Type 0} (old new : D) (a b c : Option (List RunnerEntry)) (u v : Option (List ℕ)) (p : SessionState) (r : Ran J) (world : Components)
      (told : Told) (living : List ℕ) (status : Status) → p.serves ≡ false → is_stopped p.world ≡ true → status ≡ status_of_ran r
      → (part : RunsPart entries files may_leave moment left_since old new a b u v p r world told living) → (k : List TraceEvent) ×
      ActTrace (state_after p part.history) k b c × IsEnd (state_after (state_after p part.history) k) status (is_failing part.ending)
      × (is_stopped (state_after p part.history).world ≡ true → k ≡ []) × (IsOver r → k ≡ []) × (gives_up status ≡ true → AllByRecursion IsLast k)
      → (call : Call entries files may_leave moment left_since old new a c u v p status) × (call.ending ≡ part.ending)
      × (records_of call.history ≡ records_of part.history)
  whole old new a b c u v p r world told living status serves stopped is part stop =
      let h = part.history in
      let k = stop.0 in
      let acts = stop.1 in
      let records = records_opened h k acts.none in
      let device = ap (λ (q : SessionState). q.device) (left-append p k h) ∙ acts.device in (
        record {
          from = part.from;
          to = part.to;
          before = part.before;
          history = k ++ h;
          trace = went_acting entries files part.from part.to a b c p h k part.trace acts;
          after = part.after;
          ending = part.ending;
          answers = subst (λ (s : Status). IsOrEdge s (status_of_ending part.ending)) (sym is) part.answers;
          prints = prints_as u v p.device (records_of (k ++ h)) part.ending status (status_of_ran r) (StandsBehind entries may_leave new p h)
              (StandsBehind entries may_leave new p (k ++ h)) records is
              (λ behind i may. subst (λ (d : Device). StandsFor entries i d) (sym device) (behind i may)) part.prints;
          ends = ends_whole p h k stopped stop.3 acts.none device part.ending part.ends;
          end = subst (λ (q : SessionState). IsEnd q status (is_failing part.ending)) (sym (left-append p k h)) stop.2;
          stands = λ i may. subst (λ (l : List Record). StandsForMost entries p.device l i) (sym records) (part.stands i may);
          doubt = doubt_whole entries may_leave new p h k status stop.5 device (by_status (sym is) part.doubt);
          once = subst (λ (l : List Record). TakesOnce p.taken l) (sym records) (part.once serves);
          quits = λ gives. quits_whole p h k stopped stop.3 (stop.5 gives) (part.quits (ap (λ (s : Status). gives_up s) (sym is) ∙ gives));
        },
        refl,
        records,
      )
    where
      by_status : {s t : Status} → s ≡ t → StandsBehind entries may_leave new p part.history ⊎ ((gives_up s ≡ true) × StopsAt part.history) →
          StandsBehind entries may_leave new p part.history ⊎ ((gives_up t ≡ true) × StopsAt part.history)
      by_status {s} {t} same doubt =
          subst (λ (x : Status). StandsBehind entries may_leave new p part.history ⊎ ((gives_up x ≡ true) × StopsAt part.history)) same
          doubt
