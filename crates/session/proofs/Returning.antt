-- A call that comes back or ends, by its status, and the documents that it may still take.
use Rattle.std.specs.Prelude.{ℕ, Bool, true, false, List, [], ◌∷◌, Option, Result, Ok, Err, IfOk, OnErr, is_none, is_some, if◌then◌else◌}
use Rattle.std.proofs.Common.{◌≡◌, ◌≢◌, ◌⊎◌, ◌∙◌, inl, inr, refl, sym, ap, subst}
use Rattle.std.proofs.lemmas.Bool.{false≢true}
use Rattle.disk_model.specs.Disk.{Image}
use Rattle.nuc_base.specs.declared.kinds.Outcome.{Outcome}
use Rattle.nuc_base.specs.declared.status.Status.{Status}
use Rattle.nuc_base.specs.declared.status.Status.TheVariants as statuses
use Rattle.records.specs.Stored.{Plan, Record, Accepted}
use Rattle.device.specs.Devices.{Device}
use Rattle.deploy_state.specs.States.{OwnsIdle}
use Rattle.deploy_state.specs.declared.state.Idle.{Idle}
use Rattle.step_runner.specs.Entries.{Told}
use Rattle.components.specs.Components.{Components}
use Rattle.histories.specs.Courses.{gives_up, is_restart}
use Rattle.histories.specs.Phases.{Generation}
use Rattle.histories.specs.Follows.{IsProper, MayTakeBy}
use Rattle.histories.specs.TraceEvents.{Answer, TraceEvent, records_of}
use Rattle.histories.specs.Once.{TakesOnce}
use Rattle.histories.specs.States.{SessionState, state_after}
use Rattle.histories.proofs.Once.{takes_once}
use Rattle.law_histories.proofs.Serving.{given_open, last_unasked, serving_once}
use Rattle.session_admission.specs.Accepts.{IsOpen}
use Rattle.session_startup.specs.Ended.{ClosesAs}
use Rattle.session_rollout.specs.Driven.{generation_left}
use Rattle.session_rollout.specs.declared.driven.Presence.{Presence}
use Rattle.session_rollout.specs.declared.driven.Presence.TheVariants as presences
use Rattle.session.specs.Calls.{IsOrEdge}
use Rattle.session.specs.Endings.{Ending, ByClose, ByRestart, ByReboot, ByDiskFault, BySinkFault, WantAfter, WantBefore, ByDecline, Full, Idle as NothingPending}
use Rattle.session.specs.Endings.{IsBegun, status_of_ending}
use Rattle.session.specs.Parts.{CameBy, EndsCall, EndsPart, EndsRan, NoMemoryGoesOn, IsAnew, IsBack, IsGeneration, IsOver, OwnsRan, RanLeft, TakesLast, TakesNone}
use Rattle.session.specs.Parts.{came_of, must_end, standing_of, status_of_ran}
use Rattle.session.specs.declared.ran.Ran.{Ran}
use Rattle.session.specs.declared.ran.Ran.TheVariants as ran
use Rattle.session.specs.declared.ran.Standing.{Standing}
use Rattle.session.specs.declared.ran.Standing.TheVariants as standings
use Rattle.session.proofs.Ending.{once_after}

-- ---- by its status

module _ {J : Type 0} (idle : Idle J) (status : Status) (standing : Standing) where
  status_by : (b : Bool) → status_of_ran (if b then ran.Over status else ran.Back idle status standing) ≡ status
  status_by true = refl
  status_by false = refl

  pub status_came : (r : Ran J) → r ≡ came_of idle status standing → status_of_ran r ≡ status
  status_came r is = ap status_of_ran is ∙ status_by (must_end status standing)

  pub came_over : must_end status standing ≡ true → came_of idle status standing ≡ ran.Over status
  came_over ends = ap (λ (b : Bool). if b then ran.Over status else ran.Back idle status standing) ends

  pub came_back : must_end status standing ≡ false → came_of idle status standing ≡ ran.Back idle status standing
  came_back ends = ap (λ (b : Bool). if b then ran.Over status else ran.Back idle status standing) ends

  -- where it comes back by its status the components are these
  anew_by : standing ≢ standings.AsBefore → (b : Bool) → IsAnew (if b then ran.Over status else ran.Back idle status standing)
  anew_by other true = tt
  anew_by other false = other

  pub came_anew : (r : Ran J) → r ≡ came_of idle status standing → standing ≢ standings.AsBefore → IsAnew r
  came_anew r is other = subst IsAnew (sym is) (anew_by other (must_end status standing))

  module _ {D : Type 0} (is_modelled : Bool) (may_leave : D → Image → Type 0) (stands : J → Image → List (List ℕ) → Type 0) (end : J → ℕ) (disk : D) where
    held_by : (b : Bool) → OwnsIdle is_modelled may_leave stands end idle disk →
        OwnsRan is_modelled may_leave stands end (if b then ran.Over status else ran.Back idle status standing) disk
    held_by true held = tt
    held_by false held = held

    pub came_held : (r : Ran J) → r ≡ came_of idle status standing → OwnsIdle is_modelled may_leave stands end idle disk →
        OwnsRan is_modelled may_leave stands end r disk
    came_held r is held = subst (λ (x : Ran J). OwnsRan is_modelled may_leave stands end x disk) (sym is) (held_by (must_end status standing) held)

module _ {J : Type 0} (status : Status) (r : Ran J) (is : r ≡ ran.Over status) where
  pub over_status : status_of_ran r ≡ status
  over_status = ap status_of_ran is

  pub over_is : IsOver r
  over_is = subst IsOver (sym is) tt

  pub over_never : IsBack r → ⊥
  over_never back = subst IsBack is back

  pub over_held : {D : Type 0} (is_modelled : Bool) (may_leave : D → Image → Type 0) (stands : J → Image → List (List ℕ) → Type 0) (end : J → ℕ) (disk : D)
      → OwnsRan is_modelled may_leave stands end r disk
  over_held is_modelled may_leave stands end disk = subst (λ (x : Ran J). OwnsRan is_modelled may_leave stands end x disk) (sym is) tt

-- where it cannot go on it gives up
pub must_give : (status : Status) (standing : Standing) → must_end status standing ≡ true → gives_up status ≡ true
must_give statuses.Disk standing ends = refl
must_give statuses.Edge standing ends = refl
must_give status standing ends = absurd cc

-- with which status it ends the call
ends_by : {J : Type 0} (idle : Idle J) (status : Status) (standing : Standing) (b : Bool) → must_end status standing ≡ b →
    EndsRan (if b then ran.Over status else ran.Back idle status standing)
ends_by idle status standing true ends = inl (must_give status standing ends)
ends_by idle status standing false ends = tt

pub came_ends : {J : Type 0} (idle : Idle J) (status : Status) (standing : Standing) (r : Ran J) → r ≡ came_of idle status standing → EndsRan r
came_ends idle status standing r is = subst EndsRan (sym is) (ends_by idle status standing (must_end status standing) refl)

-- not for want of memory
must_memory : (status : Status) (standing : Standing) → must_end status standing ≡ true → status ≡ statuses.Memory → ⊥
must_memory status standing ends is = false≢true (sym (ap (λ (s : Status). must_end s standing) is) ∙ ends)

no_memory_by : {J : Type 0} (idle : Idle J) (status : Status) (standing : Standing) (b : Bool) → must_end status standing ≡ b →
    NoMemoryGoesOn (if b then ran.Over status else ran.Back idle status standing)
no_memory_by idle status standing true ends = must_memory status standing ends
no_memory_by idle status standing false ends = tt

pub came_no_memory : {J : Type 0} (idle : Idle J) (status : Status) (standing : Standing) (r : Ran J) → r ≡ came_of idle status standing → NoMemoryGoesOn r
came_no_memory idle status standing r is = subst NoMemoryGoesOn (sym is) (no_memory_by idle status standing (must_end status standing) refl)

pub over_no_memory : {J : Type 0} (status : Status) (r : Ran J) → r ≡ ran.Over status → status ≢ statuses.Memory → NoMemoryGoesOn r
over_no_memory status r is other = subst NoMemoryGoesOn (sym is) other

pub over_anew : {J : Type 0} (status : Status) (r : Ran J) → r ≡ ran.Over status → IsAnew r
over_anew status r is = subst IsAnew (sym is) tt

-- ---- what was recorded

pub over_came : {J : Type 0} (status : Status) (r : Ran J) (records : List Record) → r ≡ ran.Over status → CameBy r records
over_came status r records is = subst (λ (x : Ran _). CameBy x records) (sym is) tt

-- nothing, where the components are those that stood before
unbegun_by : {J : Type 0} (idle : Idle J) (status : Status) (records : List Record) → records ≡ [] → (b : Bool) →
    CameBy (if b then ran.Over status else ran.Back idle status standings.AsBefore) records
unbegun_by idle status records none true = tt
unbegun_by idle status records none false = none

pub came_unbegun : {J : Type 0} (idle : Idle J) (status : Status) (records : List Record) (r : Ran J) → r ≡ came_of idle status standings.AsBefore →
    records ≡ [] → CameBy r records
came_unbegun idle status records r is none =
    subst (λ (x : Ran _). CameBy x records) (sym is) (unbegun_by idle status records none (must_end status standings.AsBefore))

-- a close, where a deployment was begun and the call can go on
module _ (p : SessionState) (h : List TraceEvent) (status : Status) (standing : Standing) (on : must_end status standing ≡ false)
    (stays : is_restart status ≡ false) (disk : status ≡ statuses.Disk → ⊥) where
  on_edge : status ≡ statuses.Edge → ⊥
  on_edge is = false≢true (sym on ∙ ap (λ (s : Status). must_end s standing) is)

  on_restart : (again : Status) → is_restart again ≡ true → IsOrEdge status again → ⊥
  on_restart again restarts (inl is) = false≢true (sym stays ∙ ap is_restart is ∙ restarts)
  on_restart again restarts (inr edge) = on_edge edge

  on_other : (other : Status) → (status ≡ other → ⊥) → IsOrEdge status other → ⊥
  on_other other never (inl is) = never is
  on_other other never (inr edge) = on_edge edge

  closed_by : (ending : Ending) → IsOrEdge status (status_of_ending ending) → IsBegun ending → EndsPart p ending h → (o : Outcome) × ClosesAs o (records_of h)
  closed_by (ByClose o) answers begun ends = (o, ends.0)
  closed_by (ByRestart id) answers begun ends = absurd (on_restart statuses.Restart refl answers)
  closed_by (ByReboot id) answers begun ends = absurd (on_restart statuses.Reboot refl answers)
  closed_by ByDiskFault answers begun ends = absurd (on_other statuses.Disk disk answers)
  closed_by BySinkFault answers begun ends = absurd (on_other statuses.Edge on_edge answers)
  closed_by WantAfter answers begun ends = ends
  closed_by WantBefore answers begun ends = absurd begun
  closed_by (ByDecline d) answers begun ends = absurd begun
  closed_by (Full at) answers begun ends = absurd begun
  closed_by NothingPending answers begun ends = absurd begun

pub came_begun : {J : Type 0} (r : Ran J) (before : Generation) (rose : Bool) (p : SessionState) (h : List TraceEvent) (world : Components) (told : Told)
    (living : List ℕ) (ending : Ending) → IsAnew r → IsBegun ending → IsOrEdge (status_of_ran r) (status_of_ending ending) → EndsPart p ending h →
    RanLeft before r rose (state_after p h) world told living → CameBy r (records_of h)
came_begun (ran.Back s status standings.AsBefore) before rose p h world told living ending anew begun answers ends left = absurd (anew refl)
came_begun (ran.Back s status standings.OfSet) before rose p h world told living ending anew begun answers ends left =
    closed_by p h status standings.OfSet left.2 left.3
    (λ is. false≢true (sym left.2 ∙ ap (λ (x : Status). must_end x standings.OfSet) is)) ending answers begun ends
came_begun (ran.Back s status standings.Nobody) before rose p h world told living ending anew begun answers ends left =
    closed_by p h status standings.Nobody left.2 left.3
    (λ is. false≢true (sym left.2 ∙ ap (λ (x : Status). must_end x standings.Nobody) is)) ending answers begun ends
came_begun (ran.Over status) before rose p h world told living ending anew begun answers ends left = tt

pub over_ends : {J : Type 0} (status : Status) (r : Ran J) → r ≡ ran.Over status → EndsCall status → EndsRan r
over_ends status r is ends = subst EndsRan (sym is) ends

pub edge_ends : (status given : Status) → IsOrEdge status given → EndsCall given → EndsCall status
edge_ends status given (inl is) ends = subst EndsCall (sym is) ends
edge_ends status given (inr is) ends = inl (ap gives_up is)

-- it comes back only from a deployment that was driven
pub back_driven : {A J E : Type 0} (X : Type 0) (driven : Result A E) (r : Ran J) → IfOk driven (λ x. X) → OnErr driven (IsOver r) → IsBack r → X
back_driven X (Ok x) r kept over back = kept
back_driven X (Err e) r kept over back = absurd (both r over back)
  where
    both : {J : Type 0} (r : Ran J) → IsOver r → IsBack r → ⊥
    both (ran.Back s status standing) over back = over
    both (ran.Over status) over back = back

-- ---- who the components are

left_by : (presence : Presence) (before now : Generation) → now ≡ generation_left presence → IsGeneration (standing_of presence) before now
left_by presences.Present before now is = is
left_by presences.Absent before now is = is

-- not those that stood before
pub standing_anew : (presence : Presence) (standing : Standing) → standing ≡ standing_of presence → standing ≢ standings.AsBefore
standing_anew presences.Present standing is before = cc
standing_anew presences.Absent standing is before = cc

pub generation_by : (presence : Presence) (standing : Standing) (before now : Generation) → standing ≡ standing_of presence → now ≡ generation_left presence →
    IsGeneration standing before now
generation_by presence standing before now same is = subst (λ (s : Standing). IsGeneration s before now) (sym same) (left_by presence before now is)

-- ---- the documents that it may still take

-- behind the document that was accepted
pub once_open : (p : SessionState) (d : Device) (world : Components) (told : Told) (living : List ℕ) (h : List TraceEvent) (plan : Plan) (rest : List Record) →
    IsOpen p d world told living → TakesLast p → IsProper p h → records_of h ≡ Accepted plan ∷ rest → TakesOnce true rest
once_open p d world told living h plan rest o last proper is = by p.serves refl last
  where
    by : (b : Bool) → p.serves ≡ b → TakesLast p → TakesOnce true rest
    by false serves taken =
        once_after p.taken plan (records_of h) rest (subst (λ (b : Bool). MayTakeBy b p) serves o.takes) is (takes_once p h serves proper)
    by true serves (inl other) = absurd (false≢true (sym other ∙ serves))
    by true serves (inr none) =
        once_after (is_none p.answer) plan (records_of h) rest (given_open p.answer (subst (λ (b : Bool). MayTakeBy b p) serves o.takes).given) is
        (serving_once p h serves (last_unasked p h none proper) proper)

-- where a deployment is pending
pub once_pending : (p : SessionState) (h : List TraceEvent) → TakesNone p → is_some p.device.pending ≡ true → IsProper p h → TakesOnce true (records_of h)
once_pending p h (inl none) some proper = subst (λ (b : Bool). TakesOnce b (records_of h)) (none.1 ∙ some) (takes_once p h none.0 proper)
once_pending p h (inr none) some proper =
    subst (λ (b : Bool). TakesOnce b (records_of h)) (ap (λ (a : Option Answer). is_none a) none.2)
    (serving_once p h none.0 (last_unasked p h none.1 proper) proper)
