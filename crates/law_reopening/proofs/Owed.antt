-- A failure that a component owes stays owed until it is recorded.
use Rattle.std.proofs.Common.{◌≡◌, ◌⊎◌, inl, inr, ◌∙◌, ℕ, zero, suc, true, false, List, [], ◌∷◌, ◌++◌, Option, Some, None, refl, sym, ap, subst}
use Rattle.std.proofs.Common.{append_assoc, is_some}
use Rattle.std.proofs.lemmas.Bool.{false≢true}
use Rattle.std.specs.Prelude.{option_map, slice_get}
use Rattle.std.specs.List.{list_any}
use Rattle.std.specs.Option.{IsSomeAnd}
use Rattle.nuc_base.specs.declared.kinds.Exit.{Exit}
use Rattle.nuc_base.specs.declared.kinds.Step.{Step}
use Rattle.records.specs.Stored as stored
use Rattle.records.specs.Stored.{Record}
use Rattle.device.specs.declared.staged.Stage.{Stage}
use Rattle.device.specs.declared.staged.Stage.TheVariants as stages
use Rattle.device.specs.Devices.{Device, Pending}
use Rattle.device.specs.Lawful.{boot_ended, count_failure}
use Rattle.step_runner.specs.declared.entries.Seen.{Seen}
use Rattle.step_runner.specs.declared.entries.Seen.TheVariants as seen
use Rattle.components.specs.Changes.{leaving}
use Rattle.components.specs.Components.{Components, ComponentState, At, changed_at, component_name, place_of}
use Rattle.components.specs.Turns.{owes}
use Rattle.components.specs.declared.kinds.Prepared.{Prepared}
use Rattle.histories.specs.Phases.{Duty, duty_in, duty_of, is_idle}
use Rattle.histories.specs.TraceEvents.{TraceEvent, Ran, Booted, WaitElapsed, KilledOnAbort, Recorded, Moved, ReadClock, Heard, InboxAsked, Changed, StopsAll}
use Rattle.histories.specs.TraceEvents.{records_of}
use Rattle.histories.specs.States.{SessionState, state_after}
use Rattle.histories.specs.Follows.{IsProper, MayBooted, MayFollow, MayRun, OwesBy}
use Rattle.histories.proofs.Joined.{records-append}
use Rattle.law_histories.proofs.Debts.{Debt, Owes, debt, debts, each_same, leaving_debt, none_owed, place_named}
use Rattle.law_histories.proofs.Duties.{duty_by}
use Rattle.law_histories.proofs.Facts.{some_same}
use Rattle.law_histories.proofs.Histories.{history_at, silent}
use Rattle.law_histories.proofs.StepEnds.{at_owes, booted_world, cut_debts, told_by}
use Rattle.law_reopening.specs.Failed.{FailuresComeFirst, is_start, starts}

-- ---- who owes

-- the component of this number owes this, and a deployment is pending
abbrev OwesYet : SessionState → ℕ → List ℕ → Step × Exit → Type 0
OwesYet q k name f = Owes q.world.parts k name f × (is_some q.device.pending ≡ true)

-- where one is told of its failure another one owes what it owed
owes_or_told : (k : ℕ) (ps : List ComponentState) (j : ℕ) (name : List ℕ) (f : Step × Exit) → Owes ps j name f →
    Owes (changed_at k (λ p. record p { owed = None }) ps) j name f ⊎ (j ≡ k)
owes_or_told k [] j name f is = inl is
owes_or_told zero (p ∷ ps) zero name f is = inr refl
owes_or_told zero (p ∷ ps) (suc j) name f is = inl is
owes_or_told (suc k) (p ∷ ps) zero name f is = inl is
owes_or_told (suc k) (p ∷ ps) (suc j) name f is = elim (owes_or_told k ps j name f is) [ inl o ↦ inl o | inr e ↦ inr (ap suc e) ]

owes_here : (ps : List ComponentState) (k : ℕ) (name : List ℕ) (f : Step × Exit) → At k (λ q. (component_name q ≡ name) × (q.owed ≡ Some f)) ps →
    Owes ps k name f
owes_here [] k name f at = absurd at
owes_here (p ∷ ps) zero name f at = ap Some (ap (λ (n : List ℕ). (n, p.owed)) at.0 ∙ ap (λ (o : Option (Step × Exit)). (name, o)) at.1)
owes_here (p ∷ ps) (suc k) name f at = owes_here ps k name f at

-- a debt is one failure of one name
one_debt : (ps : List ComponentState) (k : ℕ) (name n : List ℕ) (f g : Step × Exit) → Owes ps k name f → Owes ps k n g → (n ≡ name) × (g ≡ f)
one_debt ps k name n f g is other =
    let same : (n, Some g) ≡ (name, Some f) = some_same (n, Some g) (name, Some f) (sym other ∙ is) in
    (ap (λ (x : Debt). x.0) same, some_same g f (ap (λ (x : Debt). x.1) same))

-- ---- what needs that nobody owes

ran_told : (d : Duty) (q : SessionState) (s : Seen) (k : ℕ) (t : Step) → MayRun d q s k t → list_any owes q.world.parts ≡ false
ran_told d q (seen.Started n c) k t may = may.0.owes_none
ran_told d q (seen.Refused c) k t may = may.0.owes_none
ran_told d q (seen.Exists x found) k t may = may.0.owes_none
ran_told d q (seen.OnPath x found) k t may = may.0.owes_none
ran_told d q (seen.Killed n) k t may = may.0.owes_none
ran_told d q (seen.Ended n e limit) k t may = may.0.quiet.owes_none
ran_told d q (seen.Elapsed limit) k t may = absurd may

boot_told : (d : Duty) (q : SessionState) (s : Seen) (m : Prepared) → is_start s ≡ true → MayBooted d q s m → list_any owes q.world.parts ≡ false
boot_told d q (seen.Started n c) m is may = may.0.owes_none
boot_told d q s m is may = absurd (false≢true is)

start_told : (q : SessionState) (e : TraceEvent) → starts e ≡ true → MayFollow q e → list_any owes q.world.parts ≡ false
start_told q (Ran e k s) is may = ran_told (duty_of q.device) q e.seen k s may.0.0
start_told q (Booted e m) is may = boot_told (duty_of q.device) q e.seen m is may.0.0
start_told q e is may = absurd (false≢true is)

-- ---- a pending deployment

pending_still : (f : Pending → Pending) (o : Option Pending) → is_some o ≡ true → is_some (option_map f o) ≡ true
pending_still f None is = is
pending_still f (Some q) is = refl

pending_busy : (d : Device) → is_some d.pending ≡ true → is_idle (duty_of d).phase ≡ true → ⊥
pending_busy d is idle = by d.pending is idle
  where
    staged : (q : Pending) (s : Stage) → is_idle (duty_in d (record q { stage = s })).phase ≡ true → ⊥
    staged q stages.Booting idle = false≢true idle
    staged q stages.Activating idle = false≢true idle
    staged q stages.Backing idle = false≢true idle
    staged q stages.Rolling idle = false≢true idle

    by : (o : Option Pending) → is_some o ≡ true → is_idle (duty_by d o).phase ≡ true → ⊥
    by None is idle = false≢true is
    by (Some q) is idle = staged q q.stage idle

-- ---- one more event

module _ (p : SessionState) (h : List TraceEvent) (k : ℕ) (name : List ℕ) (f : Step × Exit) where
  -- It is owed still; or this records it.
  abbrev Next : TraceEvent → Type 0
  Next e = OwesYet (state_after p (e ∷ h)) k name f ⊎ (e ≡ Recorded (stored.StepFailed name f.0 f.1))

  still : (e : TraceEvent) → debts (state_after p (e ∷ h)).world.parts ≡ debts (state_after p h).world.parts →
      (is_some (state_after p h).device.pending ≡ true → is_some (state_after p (e ∷ h)).device.pending ≡ true) → OwesYet (state_after p h) k name f → Next e
  still e same pending owed = inl (subst (λ (l : List Debt). slice_get l k ≡ Some (name, Some f)) (sym same) owed.0, pending owed.1)

  device_still : (e : TraceEvent) → (state_after p (e ∷ h)).device ≡ (state_after p h).device → is_some (state_after p h).device.pending ≡ true →
      is_some (state_after p (e ∷ h)).device.pending ≡ true
  device_still e same is = subst (λ (d : Device). is_some d.pending ≡ true) (sym same) is

  never : (e : TraceEvent) → list_any owes (state_after p h).world.parts ≡ false → OwesYet (state_after p h) k name f → Next e
  never e told owed = absurd (none_owed (state_after p h).world.parts k name f told owed.0)

  failure_next : (n : List ℕ) (s : Step) (x : Exit) → OwesBy (state_after p h).world n s x → OwesYet (state_after p h) k name f →
      Next (Recorded (stored.StepFailed n s x))
  failure_next n s x by_name owed = by (place_of n (state_after p h).world.parts) refl by_name
    where
      parts : List ComponentState
      parts = (state_after p h).world.parts

      pending : is_some (state_after p (Recorded (stored.StepFailed n s x) ∷ h)).device.pending ≡ true
      pending = pending_still (count_failure (state_after p h).device.set n) (state_after p h).device.pending owed.1

      by : (o : Option ℕ) → place_of n parts ≡ o → IsSomeAnd o (λ i. At i (λ q. q.owed ≡ Some (s, x)) parts)
          → (Owes (told_by (state_after p h).world o).parts k name f × (is_some (state_after p (Recorded (stored.StepFailed n s x) ∷ h)).device.pending ≡ true))
          ⊎ (Recorded (stored.StepFailed n s x) ≡ Recorded (stored.StepFailed name f.0 f.1))
      by None place owes_it = absurd owes_it
      by (Some i) place owes_it = elim (owes_or_told i parts k name f owed.0) [
        | inl o ↦ inl (o, pending)
        | inr e ↦ inr (same e)
      ]
        where
          same : k ≡ i → Recorded (stored.StepFailed n s x) ≡ Recorded (stored.StepFailed name f.0 f.1)
          same e =
              let here : Owes parts i n (s, x) = at_owes parts i n (s, x) (place_named i n parts place) owes_it in
              let its : Owes parts i name f = subst (λ (m : ℕ). Owes parts m name f) e owed.0 in
              let one = one_debt parts i name n f (s, x) its here in
              ap (λ (m : List ℕ). Recorded (stored.StepFailed m s x)) one.0
              ∙ ap (λ (g : Step × Exit). Recorded (stored.StepFailed name g.0 g.1)) one.1

  next : (e : TraceEvent) → MayFollow (state_after p h) e → OwesYet (state_after p h) k name f → Next e
  next (Ran entry j t) may owed = never (Ran entry j t) (ran_told (duty_of (state_after p h).device) (state_after p h) entry.seen j t may.0.0) owed
  next (Booted entry m) may owed =
      still (Booted entry m) (ap (λ (w : Components). debts w.parts) (booted_world entry.seen m (state_after p h)))
      (device_still (Booted entry m) ((silent (Booted entry m) refl).device (state_after p h))) owed
  next (WaitElapsed entry) may owed = still (WaitElapsed entry) refl (λ is. is) owed
  next (KilledOnAbort entry) may owed =
      still (KilledOnAbort entry) (cut_debts entry.seen (state_after p h))
      (device_still (KilledOnAbort entry) ((silent (KilledOnAbort entry) refl).device (state_after p h))) owed
  next (Recorded (stored.StepFailed n s x)) may owed = failure_next n s x may.0 owed
  next (Recorded (stored.BootEnded n x)) may owed =
      still (Recorded (stored.BootEnded n x)) refl (λ is. pending_still (boot_ended x) (state_after p h).device.pending is) owed
  next (Recorded (stored.Accepted x)) may owed = never (Recorded (stored.Accepted x)) may.0.0.owes_none owed
  next (Recorded (stored.BootBegun n)) may owed = never (Recorded (stored.BootBegun n)) may.0.0.owes_none owed
  next (Recorded stored.Activating) may owed = never (Recorded stored.Activating) may.0.owes_none owed
  next (Recorded (stored.Failing n)) may owed = never (Recorded (stored.Failing n)) may.0.0.owes_none owed
  next (Recorded (stored.FailingBack n)) may owed = never (Recorded (stored.FailingBack n)) may.0.owes_none owed
  next (Recorded (stored.Closed o)) may owed = never (Recorded (stored.Closed o)) may.0.0.owes_none owed
  next (Recorded r) may owed = absurd may.0
  next (Moved j e) may owed = never (Moved j e) may.0.1.owes_none owed
  next (ReadClock m) may owed = still (ReadClock m) refl (λ is. is) owed
  next (Heard j) may owed = absurd (pending_busy (state_after p h).device owed.1 may.0.0)
  next (InboxAsked a) may owed = never (InboxAsked a) may.0.quiet.owes_none owed
  next (Changed items counts steady) may owed = never (Changed items counts steady) may.0.owes_none owed
  next StopsAll may owed = still StopsAll (each_same debt leaving leaving_debt (state_after p h).world.parts) (λ is. is) owed

-- ---- until it is recorded

abbrev IsAmong : List Record → List ℕ → Step × Exit → Type 0
IsAmong records name f = (earlier : List Record) × (after : List Record) × (records ≡ earlier ++ stored.StepFailed name f.0 f.1 ∷ after)

among_more : (e : TraceEvent) (later : List TraceEvent) (name : List ℕ) (f : Step × Exit) → IsAmong (records_of later) name f →
    IsAmong (records_of (e ∷ later)) name f
among_more (Recorded r) later name f is =
    (is.0, is.1 ++ r ∷ [], ap (λ (l : List Record). l ++ r ∷ []) is.2 ∙ append_assoc is.0 (stored.StepFailed name f.0 f.1 ∷ is.1) (r ∷ []))
among_more e later name f is = (is.0, is.1, (silent e refl).records later ∙ is.2)

among_last : (e : TraceEvent) (later : List TraceEvent) (name : List ℕ) (f : Step × Exit) → e ≡ Recorded (stored.StepFailed name f.0 f.1) →
    IsAmong (records_of (e ∷ later)) name f
among_last e later name f is = (records_of later, [], ap (λ (x : TraceEvent). records_of (x ∷ later)) is)

owed_until : (p : SessionState) (later h : List TraceEvent) (k : ℕ) (name : List ℕ) (f : Step × Exit) → IsProper p (later ++ h) →
    OwesYet (state_after p h) k name f
    → OwesYet (state_after p (later ++ h)) k name f ⊎ IsAmong (records_of later) name f
owed_until p [] h k name f proper owed = inl owed
owed_until p (e ∷ later) h k name f proper owed = elim (owed_until p later h k name f proper.1 owed) [
  | inl o ↦ elim (next p (later ++ h) k name f e proper.0 o) [
    | inl s ↦ inl s
    | inr is ↦ inr (among_last e later name f is)
  ]
  | inr r ↦ inr (among_more e later name f r)
]

-- ---- where something starts

pub failures_told : FailuresComeFirst
failures_told p h before e name s x is stood start failed =
    let here = history_at p h e before is stood in
    let first : List TraceEvent = Ran failed.entry failed.who s ∷ failed.before in
    let told = start_told (state_after p before) e start here.proper.0 in
    let same = (silent (Ran failed.entry failed.who s) refl).device (state_after p failed.before) in
    let pending = subst (λ (d : Device). is_some d.pending ≡ true) (sym same) failed.pending in
    let owed : OwesYet (state_after p first) failed.who name (s, x)
    = (owes_here (state_after p first).world.parts failed.who name (s, x) failed.fails, pending) in
    let proper = subst (λ (l : List TraceEvent). IsProper p l) failed.stood.split here.proper.1 in
    elim (owed_until p failed.stood.later first failed.who name (s, x) proper owed) [
      | inl o ↦ absurd (none_owed (state_after p before).world.parts failed.who name (s, x) told
          (subst (λ (l : List TraceEvent). Owes (state_after p l).world.parts failed.who name (s, x)) (sym failed.stood.split) o.0))
      | inr r ↦ (
        r.0,
        r.1,
        ap records_of failed.stood.split ∙ records-append failed.stood.later first ∙ ap (λ (l : List Record). records_of failed.before ++ l) r.2,
      )
    ]
