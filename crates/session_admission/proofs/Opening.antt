-- The record of an acceptance in a history.
use Rattle.std.specs.Prelude.{ℕ, Bool, List, [], ◌∷◌, Option, Err, IfOk}
use Rattle.std.proofs.Common.{◌≡◌, ◌∙◌, refl, sym, ap, subst}
use Rattle.std.proofs.lemmas.List.{append-nil}
use Rattle.disk_model.specs.Disk.{Image, HasLeft, DiskLaws}
use Rattle.disk_model.specs.Moments.{tells_of}
use Rattle.gate_log.specs.Journal.{JournalLaws}
use Rattle.records.specs.Stored.{Plan, Accepted}
use Rattle.device.specs.Devices.{Device}
use Rattle.device.specs.Lawful.{Allowed, applied}
use Rattle.device.specs.Standing.{IsMeant, HasSpace}
use Rattle.deploy_state.specs.Accepting.{AcceptResult, HandsBack, IsHandedBack, booting_log}
use Rattle.deploy_state.specs.Owned.{LeavesEither}
use Rattle.deploy_state.specs.States.{OwnsBooting, OwnsIdle, booting_device, idle_device}
use Rattle.deploy_state.specs.declared.fault.AcceptRefusal.{AcceptRefusal}
use Rattle.deploy_state.specs.declared.fault.AcceptRefusal.TheVariants as refused
use Rattle.deploy_state.specs.Accepting as accepting
use Rattle.deploy_state.specs.declared.state.Booting.{Booting}
use Rattle.deploy_state.specs.declared.state.Idle.{Idle}
use Rattle.step_runner.specs.Entries.{Told}
use Rattle.step_runner.specs.declared.entries.RunnerEntry.{RunnerEntry}
use Rattle.components.specs.Components.{Components}
use Rattle.histories.specs.TraceEvents.{TraceEvent, Recorded, records_of}
use Rattle.histories.specs.States.{SessionState, leaves}
use Rattle.histories.specs.Follows.{MayFollow}
use Rattle.session_boots.specs.Lines.{accepted_line, lines_of}
use Rattle.session_boots.specs.Ends.{ResultLeft, HasLines}
use Rattle.session_boots.specs.Stands.{IsOpened}
use Rattle.session_boots.specs.Traces.{IsTrace}
use Rattle.session_boots.specs.declared.ends.SessionFault.TheVariants as over
use Rattle.session_boots.proofs.Entries.{never}
use Rattle.session_boots.proofs.Joins.{kept_one}
use Rattle.session_boots.proofs.Records.{doubt_at}
use Rattle.session_boots.proofs.Told.{last_unprinted}
use Rattle.session_admission.specs.Accepts.{AcceptAnswer, HasDiskFailed, HasTaken, OwnsTaken, IsAcceptedAt, IsFullAt, IsFullOrShort, IsOpen, IsTakenOf, TakenLeft, answer_of}

-- ---- it may come there, and what it leaves

accept_follows : (p : SessionState) (d : Device) (world : Components) (told : Told) (living : List ℕ) (plan : Plan) → IsOpen p d world told living →
    MayFollow p (Recorded (Accepted plan))
accept_follows p d world told living plan o = (
  (record { owes_none = o.quiet.owes_none; alone = o.boot; no_end = o.boot_end; on = o.going }, o.quiet, o.takes),
  (λ cut. absurd (never p.cut o.cut cut)),
  o.over,
)

pub opened_by : (p : SessionState) (d e : Device) (world : Components) (told : Told) (living : List ℕ) (plan : Plan) → IsOpen p d world told living →
    e ≡ applied d (Accepted plan)
    → IsOpened (leaves p (Recorded (Accepted plan))) e world told living
opened_by p d e world told living plan o same =
    let s = o.stands in
    record {
      stands = record {
        device_is = ap (λ (x : Device). applied x (Accepted plan)) s.device_is ∙ sym same;
        world_is = s.world_is;
        answered = s.answered;
        not_before = s.not_before;
        asked = s.asked;
        children = s.children;
      };
      quiet = o.quiet;
      generation = refl;
      boot = o.boot;
      boot_end = o.boot_end;
      probed = refl;
      over = refl;
      cut = o.cut;
    }

-- its line
pub line_is : (d : Device) (plan : Plan) → accepted_line plan.id ≡ lines_of d (records_of (Recorded (Accepted plan) ∷ []))
line_is d plan = sym (append-nil (accepted_line plan.id))

-- ---- over a disk

module _ (entries : Image → List (List ℕ) → Type 0) (files : List ℕ → Type 0) {D : Type 0} {may_leave : D → Image → Type 0} {moment : D → ℕ} {left_since : D →
    ℕ → Image → Type 0} {is_modelled : Bool} {seen : D → Image}
    (laws : DiskLaws is_modelled seen may_leave moment left_since) where
  abbrev Notes : D → D → Device → Plan → Type 0
  Notes old new d plan = HasLeft moment left_since old new (LeavesEither may_leave files entries old d (applied d (Accepted plan)))

  pub accept_went : (old new : D) (list : Option (List RunnerEntry)) (p : SessionState) (d : Device) (world : Components) (told : Told) (living : List ℕ)
      (plan : Plan) → IsOpen p d world told living
      → Allowed d (Accepted plan) → Notes old new d plan → IsTrace entries files may_leave moment left_since old new list list p (Recorded (Accepted plan) ∷ [])
  accept_went old new list p d world told living plan o allowed notes =
      let same = sym o.stands.device_is in
      kept_one entries files laws old new list p (Accepted plan) (accept_follows p d world told living plan o)
      (subst (λ (x : Device). Allowed x (Accepted plan)) same allowed) (subst (λ (x : Device). Notes old new x plan) same notes)

  -- a refusal after which the plan is not given back
  pub stopped_went : {J : Type 0} (refusal : AcceptRefusal J) (old new : D) (held : Option (List ℕ)) (p : SessionState) (d : Device) (world : Components)
      (told : Told) (living : List ℕ) (plan : Plan)
      → HasTaken (answer_of refusal) → IsOpen p d world told living → Allowed d (Accepted plan) → Notes old new d plan
      → (h : List TraceEvent) × IsTrace entries files may_leave moment left_since old new told.list told.list p h
      × HasLines held held p.device (records_of h) (answer_of refusal)
      × ResultLeft entries may_leave new p h (λ x q. TakenLeft x q world told living) (answer_of refusal)
      × (records_of h ≡ Accepted plan ∷ [])
  stopped_went (refused.Full s at) old new held p d world told living plan taken o allowed notes = absurd taken
  stopped_went (refused.NoMemory s) old new held p d world told living plan taken o allowed notes = absurd taken
  stopped_went (refused.NoRoom s) old new held p d world told living plan taken o allowed notes = absurd taken
  stopped_went (refused.Stopped s) old new held p d world told living plan taken o allowed notes = (
    Recorded (Accepted plan) ∷ [],
    accept_went old new told.list p d world told living plan o allowed notes,
    last_unprinted held p.device (Accepted plan),
    doubt_at entries files laws old new p d (Accepted plan) o.stands.device_is allowed notes,
    refl,
  )

  pub stopped_answer : {J : Type 0} (refusal : AcceptRefusal J) (r : AcceptAnswer J) → r ≡ answer_of refusal →
      (old new : D) (held : Option (List ℕ)) (p : SessionState) (d : Device) (world : Components) (told : Told) (living : List ℕ) (plan : Plan)
      → HasTaken r → IsOpen p d world told living → Allowed d (Accepted plan) → Notes old new d plan
      → (h : List TraceEvent) × IsTrace entries files may_leave moment left_since old new told.list told.list p h
      × HasLines held held p.device (records_of h) r
      × ResultLeft entries may_leave new p h (λ x q. TakenLeft x q world told living) r
      × (records_of h ≡ Accepted plan ∷ [])
  stopped_answer {J = J} refusal r is old new held p d world told living plan taken o allowed notes =
      subst (λ (x : AcceptAnswer J). (h : List TraceEvent) × IsTrace entries files may_leave moment left_since old new told.list told.list p h
      × HasLines held held p.device (records_of h) x × ResultLeft entries may_leave new p h (λ y q. TakenLeft y q world told living) x ×
      (records_of h ≡ Accepted plan ∷ [])) (sym is)
      (stopped_went refusal old new held p d world told living plan (subst HasTaken is taken) o allowed notes)

-- ---- where its entry stands

-- behind an entry of this many bytes, each image of the disk
pub sited_at : {J D : Type 0} {is_modelled : Bool} {seen : D → Image} {may_leave : D → Image → Type 0} {moment : D → ℕ} {left_since : D → ℕ → Image → Type 0}
    {files : List ℕ → Type 0} {entries : Image → List (List ℕ) → Type 0} {holds_none : Image → Type 0} {is_damaged : Image → ℕ → Type 0} {stands : J → Image →
    List (List ℕ) → Type 0} {end : J → ℕ}
    → DiskLaws is_modelled seen may_leave moment left_since → JournalLaws files entries holds_none is_damaged stands end
    → (s : Booting J) (disk : D) (d : Device) (plan : Plan) (place : ℕ) → OwnsBooting is_modelled may_leave stands end s disk
    → booting_device s ≡ applied d (Accepted plan) → end (booting_log s) ≡ place → (image : Image) → may_leave disk image
    → IsAcceptedAt entries d plan place image
sited_at {entries = entries} disk_laws laws s disk d plan place held is ends image left =
    let hand = held.0.0 in
    let means = hand.means (tells_of disk_laws disk image left) in
    let stands = hand.behind.each image left in
    record {
      stands = record {
        payloads = hand.payloads;
        live = laws.holds (booting_log s) image hand.payloads stands;
        means = subst (λ (x : Device). IsMeant hand.payloads x) is means.0;
        room = subst (λ (x : Device). HasSpace hand.payloads x) is means.1;
      };
      ends = sym (laws.ends (booting_log s) image hand.payloads stands) ∙ ends;
    }

-- ---- the refusals one by one

module _ {J : Type 0} where
  abbrev Refused : AcceptRefusal J → AcceptResult J
  Refused refusal = Err refusal

  pub refusal_full : (refusal : AcceptRefusal J) (at : ℕ) → IsFullAt (answer_of refusal) at → accepting.IsFullAt (Refused refusal) at
  refusal_full (refused.Full s place) at is = is
  refusal_full (refused.NoMemory s) at is = is
  refusal_full (refused.NoRoom s) at is = is
  refusal_full (refused.Stopped s) at is = is

  pub refusal_fills : (refusal : AcceptRefusal J) (at : ℕ) → accepting.IsFullOrShort (Refused refusal) at → IsFullOrShort (answer_of refusal) at
  refusal_fills (refused.Full s place) at is = is
  refusal_fills (refused.NoMemory s) at is = is
  refusal_fills (refused.NoRoom s) at is = is
  refusal_fills (refused.Stopped s) at is = is

  pub refusal_disk : (refusal : AcceptRefusal J) → HasDiskFailed (answer_of refusal) → accepting.HasDiskFailed (Refused refusal)
  refusal_disk (refused.Full s at) failed = failed
  refusal_disk (refused.NoMemory s) failed = failed
  refusal_disk (refused.NoRoom s) failed = failed
  refusal_disk (refused.Stopped s) failed = failed

  pub refusal_back : (refusal : AcceptRefusal J) → ¬ (HasTaken (answer_of refusal)) → IsHandedBack (Refused refusal)
  refusal_back (refused.Full s at) given = tt
  refusal_back (refused.NoMemory s) given = tt
  refusal_back (refused.NoRoom s) given = tt
  refusal_back (refused.Stopped s) given = absurd (given tt)

  pub disk_refusal : (refusal : AcceptRefusal J) → accepting.HasDiskFailed (Refused refusal) → HasDiskFailed (answer_of refusal)
  disk_refusal (refused.Full s at) failed = failed
  disk_refusal (refused.NoMemory s) failed = failed
  disk_refusal (refused.NoRoom s) failed = failed
  disk_refusal (refused.Stopped s) failed = failed

  pub refusal_fails : (refusal : AcceptRefusal J) → HasTaken (answer_of refusal) → answer_of refusal ≡ Err over.Disk
  refusal_fails (refused.Full s at) taken = absurd taken
  refusal_fails (refused.NoMemory s) taken = absurd taken
  refusal_fails (refused.NoRoom s) taken = absurd taken
  refusal_fails (refused.Stopped s) taken = refl

  pub refusal_edge : (refusal : AcceptRefusal J) → answer_of refusal ≡ Err over.Output → ⊥
  refusal_edge (refused.Full s at) is = cc
  refusal_edge (refused.NoMemory s) is = cc
  refusal_edge (refused.NoRoom s) is = cc
  refusal_edge (refused.Stopped s) is = cc

  pub refusal_taken : (refusal : AcceptRefusal J) (Is : Idle J → Type 0) (d : Device) (plan : Plan) → HandsBack (λ s. Is s × (idle_device s ≡ d))
      (Refused refusal) → IfOk (answer_of refusal) (IsTakenOf d plan)
  refusal_taken (refused.Full s at) Is d plan back = back.1
  refusal_taken (refused.NoMemory s) Is d plan back = back.1
  refusal_taken (refused.NoRoom s) Is d plan back = back.1
  refusal_taken (refused.Stopped s) Is d plan back = tt

  module _ {D : Type 0} (is_modelled : Bool) (may_leave : D → Image → Type 0) (stands : J → Image → List (List ℕ) → Type 0) (end : J → ℕ) where
    pub refusal_held : (refusal : AcceptRefusal J) (disk : D) (d : Device) →
        HandsBack (λ s. OwnsIdle is_modelled may_leave stands end s disk × (idle_device s ≡ d)) (Refused refusal)
        → IfOk (answer_of refusal) (λ x. OwnsTaken is_modelled may_leave stands end x disk)
    refusal_held (refused.Full s at) disk d back = back.0
    refusal_held (refused.NoMemory s) disk d back = back.0
    refusal_held (refused.NoRoom s) disk d back = back.0
    refusal_held (refused.Stopped s) disk d back = tt
