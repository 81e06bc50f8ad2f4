-- What a record is where nothing is pending, and what it leaves of the origin.
use Rattle.std.specs.Prelude.{Bool, true, false, List, ◌∷◌, Option, Some, None, option_map}
use Rattle.std.specs.Option.{IsSomeAnd}
use Rattle.std.proofs.Common.{◌≡◌, ◌∙◌, refl, sym, subst}
use Rattle.std.proofs.lemmas.Bool.{false≢true}
use Rattle.nuc_base.specs.declared.kinds.Outcome.{Outcome}
use Rattle.records.specs.Stored.{Record, Genesis, Accepted, BootBegun, BootEnded, Activating, StepFailed, Failing, FailingBack, Closed}
use Rattle.device.specs.Devices.{Device, Pending}
use Rattle.device.specs.Lawful.{Allowed, MayBegin, MayEnd, MayActivate, MayFail, MayBreak, MayGoBack, MayClose}
use Rattle.device.specs.Lawful.{activated, applied, begun, boot_ended, close_pending, count_failure, on_pending, rolled, sent_back}
use Rattle.device.specs.declared.staged.Stage.{Stage}
use Rattle.device.specs.declared.staged.Stage.TheVariants as stages
use Rattle.histories.specs.Phases.{duty_in, duty_of, idle, is_idle}
use Rattle.step_runner.specs.declared.entries.Seen.{Seen}
use Rattle.step_runner.specs.declared.entries.Seen.TheVariants as seen
use Rattle.components.specs.declared.kinds.Prepared.{Prepared}
use Rattle.histories.specs.States.{SessionState, booted, cut_off, state_after, takes_document}
use Rattle.histories.specs.Follows.{MayKeep}
use Rattle.histories.specs.TraceEvents.{TraceEvent, Recorded}
use Rattle.law_histories.proofs.Histories.{Runs, run_before}

no_pending : (o : Option Pending) (P : Pending → Type 0) → o ≡ None → IsSomeAnd o P → ⊥
no_pending o P is some = subst (λ (x : Option Pending). IsSomeAnd x P) is some

-- where nothing is pending only an acceptance is kept
pub idle_takes : (q : SessionState) (r : Record) → q.device.pending ≡ None → MayKeep q r → Allowed q.device r → takes_document r ≡ true
idle_takes q (Accepted x) none may allowed = refl
idle_takes q (BootBegun n) none may allowed = absurd (no_pending q.device.pending (MayBegin n) none allowed)
idle_takes q (BootEnded n e) none may allowed = absurd (no_pending q.device.pending (MayEnd n) none allowed)
idle_takes q Activating none may allowed = absurd (no_pending q.device.pending MayActivate none allowed)
idle_takes q (StepFailed n s e) none may allowed = absurd (no_pending q.device.pending (MayFail q.device.set n s e) none allowed)
idle_takes q (Failing n) none may allowed = absurd (no_pending q.device.pending (MayBreak n) none allowed)
idle_takes q (FailingBack n) none may allowed = absurd (no_pending q.device.pending (MayGoBack q.device.origin q.device.set n) none allowed)
idle_takes q (Closed o) none may allowed = absurd (no_pending q.device.pending (λ p. MayClose p o) none allowed)
idle_takes q r none may allowed = absurd may

closed_origin : (o : Outcome) (d : Device) (p : Option Pending) → (close_pending o d p).origin ≡ d.origin
closed_origin o d None = refl
closed_origin o d (Some q) = refl

-- the origin stays
pub origin_on : (q : SessionState) (r : Record) → MayKeep q r → (applied q.device r).origin ≡ q.device.origin
origin_on q (Accepted x) may = refl
origin_on q (BootBegun n) may = refl
origin_on q (BootEnded n e) may = refl
origin_on q Activating may = refl
origin_on q (StepFailed n s e) may = refl
origin_on q (Failing n) may = refl
origin_on q (FailingBack n) may = refl
origin_on q (Closed o) may = closed_origin o q.device q.device.pending
origin_on q r may = absurd may

-- ---- stages

busy_at : (d : Device) (q : Pending) (s : Stage) → is_idle (duty_in d (record q { stage = s })).phase ≡ false
busy_at d q stages.Booting = refl
busy_at d q stages.Activating = refl
busy_at d q stages.Backing = refl
busy_at d q stages.Rolling = refl

-- nothing is pending exactly in the phase that is idle
pub pending_idle : (d : Device) → is_idle (duty_of d).phase ≡ true → d.pending ≡ None
pending_idle d is = by d.pending is
  where
    by : (o : Option Pending) → is_idle (duty_of (record d { pending = o })).phase ≡ true → o ≡ None
    by None h = refl
    by (Some q) h = absurd (false≢true (sym (busy_at (record d { pending = Some q }) q q.stage) ∙ h))

pub idle_phase : (d : Device) → d.pending ≡ None → (duty_of d).phase ≡ idle
idle_phase d is = by d.pending is
  where
    by : (o : Option Pending) → o ≡ None → (duty_of (record d { pending = o })).phase ≡ idle
    by None none = refl
    by (Some q) none = absurd cc

pub idle_is : (d : Device) → d.pending ≡ None → is_idle (duty_of d).phase ≡ true
idle_is d is = by d.pending is
  where
    by : (o : Option Pending) → o ≡ None → is_idle (duty_of (record d { pending = o })).phase ≡ true
    by None none = refl
    by (Some q) none = absurd cc

-- a deployment that is taken is pending
pub taken_pends : (q : SessionState) (r : Record) → takes_document r ≡ true → is_idle (duty_of (applied q.device r)).phase ≡ true → ⊥
taken_pends q (Accepted x) takes is = false≢true is
taken_pends q _ takes is = false≢true takes

-- what neither takes a document nor closes a deployment leaves one pending where one was
abbrev changes_pending : Record → Bool
changes_pending (Accepted x) = true
changes_pending (Closed o) = true
changes_pending (Genesis o) = true
changes_pending r = false

mapped_idle : (d : Device) (f : Pending → Pending) → is_idle (duty_of (on_pending f d)).phase ≡ true → is_idle (duty_of d).phase ≡ true
mapped_idle d f is = by d.pending is
  where
    by : (o : Option Pending) → is_idle (duty_of (record d { pending = option_map f o })).phase ≡ true →
        is_idle (duty_of (record d { pending = o })).phase ≡ true
    by None h = refl
    by (Some q) h = absurd (false≢true (sym (busy_at (record d { pending = Some (f q) }) (f q) (f q).stage) ∙ h))

pub stays_idle : (q : SessionState) (r : Record) → changes_pending r ≡ false → is_idle (duty_of (applied q.device r)).phase ≡ true →
    is_idle (duty_of q.device).phase ≡ true
stays_idle q (BootBegun n) not is = mapped_idle q.device begun is
stays_idle q (BootEnded n e) not is = mapped_idle q.device (boot_ended e) is
stays_idle q Activating not is = mapped_idle q.device activated is
stays_idle q (StepFailed n s e) not is = mapped_idle q.device (count_failure q.device.set n) is
stays_idle q (Failing n) not is = mapped_idle q.device rolled is
stays_idle q (FailingBack n) not is = mapped_idle q.device (sent_back q.device.origin q.device.set) is
stays_idle q (Accepted x) not is = absurd (false≢true (sym not))
stays_idle q (Closed o) not is = absurd (false≢true (sym not))
stays_idle q (Genesis o) not is = absurd (false≢true (sym not))
stays_idle q r not is = is

-- ---- along a history

-- a record that stands here is allowed
abbrev pub Allows : SessionState → TraceEvent → Type 0
Allows q (Recorded r) = Allowed q.device r
Allows q e = Unit {0}

pub allows : (p : SessionState) (e : TraceEvent) (h : List TraceEvent) → Runs p (e ∷ h) → Allows (state_after p h) e
allows p (Recorded r) h run = (run_before p r h run).1
allows p e h run = tt

-- ---- what is no record leaves the device

pub booted_device : (s : Seen) (m : Prepared) (p : SessionState) → (booted s m p).device ≡ p.device
booted_device (seen.Exists x true) m p = refl
booted_device (seen.Exists x false) m p = refl
booted_device (seen.OnPath x true) m p = refl
booted_device (seen.OnPath x false) m p = refl
booted_device s m p = refl

pub cut_device : (s : Seen) (p : SessionState) → (cut_off s p).device ≡ p.device
cut_device (seen.Killed n) p = refl
cut_device s p = refl
