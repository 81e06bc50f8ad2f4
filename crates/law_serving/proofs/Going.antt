-- Whether all components were stopped for the end of the call.
use Rattle.std.specs.Prelude.{Bool, true, false, List, [], ◌∷◌, ◌++◌, None, if◌then◌else◌}
use Rattle.std.specs.List.{AllByRecursion}
use Rattle.std.proofs.Common.{◌≡◌, ◌∙◌, inl, inr, refl, sym, ap, subst}
use Rattle.std.proofs.lemmas.Bool.{false≢true}
use Rattle.records.specs.Stored.{Record, Accepted, BootBegun, BootEnded, Activating, StepFailed, Failing, FailingBack, Closed}
use Rattle.device.specs.Devices.{Device}
use Rattle.device.specs.Lawful.{Allowed}
use Rattle.step_runner.specs.declared.entries.Seen.{Seen}
use Rattle.step_runner.specs.declared.entries.Seen.TheVariants as seen
use Rattle.components.specs.Components.{is_stopped}
use Rattle.components.specs.declared.kinds.Prepared.{Prepared}
use Rattle.histories.specs.Follows.{IsLast, IsProper, MayChangeIn, MayFollow, MayKeep, MayStopAll}
use Rattle.histories.specs.Phases.{Generation, previous, draining, current, shutting_down, Phase, idle, booting, activating, backing, rolling}
use Rattle.histories.specs.Phases.{begins_stage, duty_of, is_idle, is_shutting_down}
use Rattle.histories.specs.States.{SessionState, booted, cut_off, generation_after, leaves, state_after, takes_document}
use Rattle.histories.specs.TraceEvents.{TraceEvent, Ran, Booted, WaitElapsed, KilledOnAbort, Recorded, Moved, ReadClock, Heard, InboxAsked, Changed, StopsAll}
use Rattle.law_histories.proofs.Histories.{Runs, run_before, run_less, silent}
use Rattle.law_serving.specs.Alike.{EndsOnCourse, StopsAtRecord}
use Rattle.law_serving.proofs.Records.{Allows, allows, booted_device, cut_device, idle_takes, pending_idle}

abbrev pub IsDown : SessionState → Bool
IsDown q = is_shutting_down q.generation

pub clash : (b : Bool) → b ≡ true → b ≡ false → ⊥
clash b on off = absurd (false≢true (sym off ∙ on))

-- ---- a bootstrap and a kill leave who the components are

pub booted_generation : (s : Seen) (m : Prepared) (p : SessionState) → (booted s m p).generation ≡ p.generation
booted_generation (seen.Exists x true) m p = refl
booted_generation (seen.Exists x false) m p = refl
booted_generation (seen.OnPath x true) m p = refl
booted_generation (seen.OnPath x false) m p = refl
booted_generation s m p = refl

pub cut_generation : (s : Seen) (p : SessionState) → (cut_off s p).generation ≡ p.generation
cut_generation (seen.Killed n) p = refl
cut_generation s p = refl

last_generation : (q : SessionState) (e : TraceEvent) → IsLast e → (leaves q e).generation ≡ q.generation
last_generation q (KilledOnAbort e) last = cut_generation e.seen q
last_generation q (ReadClock m) last = refl
last_generation q e last = absurd last

-- ---- once they were, they are

down_stays : (q : SessionState) (e : TraceEvent) → MayFollow q e → IsDown q ≡ true → IsDown (leaves q e) ≡ true
down_stays q (Ran e k s) may down = down
down_stays q (Booted e m) may down = ap (λ (c : Generation). is_shutting_down c) (booted_generation e.seen m q) ∙ down
down_stays q (WaitElapsed e) may down = down
down_stays q (KilledOnAbort e) may down = ap (λ (c : Generation). is_shutting_down c) (cut_generation e.seen q) ∙ down
down_stays q (Recorded r) may down = kept_down r may.0
  where
    kept_down : (r : Record) → MayKeep q r → is_shutting_down (generation_after r q.world q.generation) ≡ true
    kept_down (Accepted x) keep = absurd (clash (IsDown q) down keep.0.on)
    kept_down (BootBegun n) keep = down
    kept_down (BootEnded n e) keep = down
    kept_down Activating keep = absurd (clash (IsDown q) down keep.on)
    kept_down (StepFailed n s e) keep = down
    kept_down (Failing n) keep = absurd (clash (IsDown q) down keep.0.on)
    kept_down (FailingBack n) keep = absurd (clash (IsDown q) down keep.on)
    kept_down (Closed o) keep = down
    kept_down r keep = absurd keep
down_stays q (Moved k e) may down = down
down_stays q (ReadClock m) may down = down
down_stays q (Heard k) may down = down
down_stays q (InboxAsked a) may down = down
down_stays q (Changed f c b) may down = absurd (no_change (duty_of q.device).phase q.generation down may.0.phase)
  where
    no_change : (f : Phase) (c : Generation) → is_shutting_down c ≡ true → MayChangeIn f c q → ⊥
    no_change f previous on change = false≢true on
    no_change f draining on change = false≢true on
    no_change f current on change = false≢true on
    no_change idle shutting_down on change = change
    no_change booting shutting_down on change = change
    no_change activating shutting_down on change = change
    no_change backing shutting_down on change = change
    no_change rolling shutting_down on change = change
down_stays q StopsAll may down = stopped (duty_of q.device).phase q.generation down may.0
  where
    stopped : (f : Phase) (c : Generation) → is_shutting_down c ≡ true → MayStopAll (duty_of q.device) f c q →
        is_shutting_down (if is_idle f then shutting_down else draining) ≡ true
    stopped f previous on stop = absurd (false≢true on)
    stopped f draining on stop = absurd (false≢true on)
    stopped f current on stop = absurd (false≢true on)
    stopped idle shutting_down on stop = refl
    stopped booting shutting_down on stop = absurd stop
    stopped activating shutting_down on stop = absurd stop
    stopped backing shutting_down on stop = absurd stop
    stopped rolling shutting_down on stop = absurd stop

-- so where they are not, they were not
pub was_up : (q : SessionState) (e : TraceEvent) → MayFollow q e → IsDown (leaves q e) ≡ false → IsDown q ≡ false
was_up q e may up = by (IsDown q) refl
  where
    by : (b : Bool) → IsDown q ≡ b → IsDown q ≡ false
    by true is = absurd (clash (IsDown (leaves q e)) (down_stays q e may is) up)
    by false is = is

-- ---- then nothing is pending

abbrev DownIdle : SessionState → Type 0
DownIdle q = IsDown q ≡ true → q.device.pending ≡ None

kept_up : (q : SessionState) (r : Record) → DownIdle q → MayKeep q r → Allowed q.device r → IsDown q ≡ false
kept_up q r still keep allowed = by (IsDown q) refl
  where
    on_of : (r : Record) → MayKeep q r → takes_document r ≡ true → IsDown q ≡ false
    on_of (Accepted x) keep takes = keep.0.on
    on_of r keep takes = absurd (false≢true takes)

    by : (b : Bool) → IsDown q ≡ b → IsDown q ≡ false
    by true is = on_of r keep (idle_takes q r (still is) keep allowed)
    by false is = is

recorded_up : (q : SessionState) (r : Record) → DownIdle q → MayKeep q r → Allowed q.device r → IsDown (leaves q (Recorded r)) ≡ false
recorded_up q r still keep allowed = by (begins_stage r) (is_stopped q.world)
  where
    by : (b c : Bool) → is_shutting_down (if b then (if c then draining else previous) else q.generation) ≡ false
    by true true = refl
    by true false = refl
    by false c = kept_up q r still keep allowed

event_idle : (q : SessionState) (e : TraceEvent) → DownIdle q → MayFollow q e → Allows q e → DownIdle (leaves q e)
event_idle q (Ran e k s) still may allowed = still
event_idle q (Booted e m) still may allowed = λ down. ap (λ (d : Device). d.pending) (booted_device e.seen m q)
    ∙ still (sym (ap (λ (c : Generation). is_shutting_down c) (booted_generation e.seen m q)) ∙ down)
event_idle q (WaitElapsed e) still may allowed = still
event_idle q (KilledOnAbort e) still may allowed = λ down. ap (λ (d : Device). d.pending) (cut_device e.seen q)
    ∙ still (sym (ap (λ (c : Generation). is_shutting_down c) (cut_generation e.seen q)) ∙ down)
event_idle q (Recorded r) still may allowed = λ down. absurd (clash (IsDown (leaves q (Recorded r))) down (recorded_up q r still may.0 allowed))
event_idle q (Moved k e) still may allowed = still
event_idle q (ReadClock m) still may allowed = still
event_idle q (Heard k) still may allowed = still
event_idle q (InboxAsked a) still may allowed = still
event_idle q (Changed f c b) still may allowed = λ down. absurd (false≢true down)
event_idle q StopsAll still may allowed = λ down. pending_idle q.device (by (is_idle (duty_of q.device).phase) down)
  where
    by : (b : Bool) → is_shutting_down (if b then shutting_down else draining) ≡ true → b ≡ true
    by true down = refl
    by false down = absurd (false≢true down)

all_idle : (p : SessionState) (h : List TraceEvent) → IsDown p ≡ false → IsProper p h → Runs p h → DownIdle (state_after p h)
all_idle p [] up proper run = λ down. absurd (clash (IsDown p) down up)
all_idle p (e ∷ h) up proper run = event_idle (state_after p h) e (all_idle p h up proper.1 (run_less p e h run)) proper.0 (allows p e h run)

-- ---- at an end on its course

cuts_up : (p : SessionState) (cuts g : List TraceEvent) → AllByRecursion IsLast cuts → IsDown (state_after p g) ≡ false →
    IsDown (state_after p (cuts ++ g)) ≡ false
cuts_up p [] g kills up = up
cuts_up p (e ∷ cuts) g kills up =
    ap (λ (c : Generation). is_shutting_down c) (last_generation (state_after p (cuts ++ g)) e kills.0) ∙ cuts_up p cuts g kills.1 up

proper_tail : (p : SessionState) (cuts g : List TraceEvent) → IsProper p (cuts ++ g) → IsProper p g
proper_tail p [] g proper = proper
proper_tail p (e ∷ cuts) g proper = proper_tail p cuts g proper.1

run_tail : (p : SessionState) (cuts g : List TraceEvent) → Runs p (cuts ++ g) → Runs p g
run_tail p [] g run = run
run_tail p (e ∷ cuts) g run = run_tail p cuts g (run_less p e (cuts ++ g) run)

last_up : (p : SessionState) (h : List TraceEvent) → IsDown p ≡ false → AllByRecursion IsLast h → IsDown (state_after p h) ≡ false
last_up p [] up kills = up
last_up p (e ∷ h) up kills = ap (λ (c : Generation). is_shutting_down c) (last_generation (state_after p h) e kills.0) ∙ last_up p h up kills.1

stops_up : (p : SessionState) (h : List TraceEvent) → IsDown p ≡ false → IsProper p h → Runs p h → StopsAtRecord h → IsDown (state_after p h) ≡ false
stops_up p h up proper run s =
    let g : List TraceEvent = Recorded s.last ∷ s.before in
    let tail = proper_tail p s.cuts g (subst (λ (l : List TraceEvent). IsProper p l) s.split proper) in
    let runs = run_tail p s.cuts g (subst (λ (l : List TraceEvent). Runs p l) s.split run) in
    let still = all_idle p s.before up tail.1 (run_less p (Recorded s.last) s.before runs) in
    subst (λ (l : List TraceEvent). IsDown (state_after p l) ≡ false) (sym s.split)
    (cuts_up p s.cuts g s.kills (recorded_up (state_after p s.before) s.last still tail.0.0 (run_before p s.last s.before runs).1))

over_up : (p : SessionState) (h : List TraceEvent) → p.over ≡ false → IsDown p ≡ false → IsProper p h → Runs p h → (state_after p h).over ≡ true →
    IsDown (state_after p h) ≡ false
over_up p [] on up proper run over = up
over_up p (Recorded r ∷ h) on up proper run over =
    recorded_up (state_after p h) r (all_idle p h up proper.1 (run_less p (Recorded r) h run)) proper.0.0 (run_before p r h run).1
over_up p (e ∷ h) on up proper run over =
    absurd (clash (state_after p h).over (sym ((silent e refl).over (state_after p h)) ∙ over) proper.0.2)

pub course_up : (p : SessionState) (h : List TraceEvent) → p.over ≡ false → IsDown p ≡ false → IsProper p h → Runs p h → EndsOnCourse p h →
    IsDown (state_after p h) ≡ false
course_up p h on up proper run (inl is) = is
course_up p h on up proper run (inr (inl kills)) = last_up p h up kills
course_up p h on up proper run (inr (inr (inl s))) = stops_up p h up proper run s
course_up p h on up proper run (inr (inr (inr over))) = over_up p h on up proper run over
