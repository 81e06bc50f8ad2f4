-- The close of a deployment in a history.
use Rattle.std.specs.Prelude.{Contains, ℕ, ◌==◌, nat_eq, nat_lt, length, Bool, true, false, List, [], ◌∷◌, ◌++◌, Option, Some, None, IsSome, is_some}
use Rattle.std.specs.Prelude.{Result, Ok, Err, OnErr, OnOk, if◌then◌else◌}
use Rattle.std.specs.List.{list_any, position_or_len}
use Rattle.std.specs.Option.{IsSomeAnd, option_map_or}
use Rattle.std.proofs.Common.{◌≡◌, ◌↔◌, ◌∙◌, inl, refl, sym, ap, subst, arith}
use Rattle.std.proofs.lemmas.Bool.Decides.{nat_tests}
use Rattle.std.proofs.lemmas.List.{append-nil}
use Rattle.disk_model.specs.Disk.{Image, HasLeft, DiskLaws}
use Rattle.nuc_base.specs.declared.kinds.Outcome.{Outcome}
use Rattle.nuc_base.specs.declared.kinds.Outcome.TheVariants as outcomes
use Rattle.nuc_base.specs.declared.kinds.Step.{Step}
use Rattle.records.specs.Stored as stored
use Rattle.records.specs.Stored.{Record}
use Rattle.device.specs.Devices.{Device, Pending}
use Rattle.device.specs.Lawful.{Allowed, MayClose, applied, broken, close_pending}
use Rattle.device.specs.declared.staged.Stage.{Stage}
use Rattle.device.specs.declared.staged.Stage.TheVariants as stages
use Rattle.deploy_state.specs.Fields.{rolled_outcome}
use Rattle.deploy_state.specs.Owned.{LeavesEither}
use Rattle.deploy_state.specs.States.{IsIn, idle_device}
use Rattle.deploy_state.specs.declared.state.Idle.{Idle}
use Rattle.step_runner.specs.Entries.{Told}
use Rattle.step_runner.specs.declared.entries.RunnerEntry.{RunnerEntry}
use Rattle.components.specs.Components.{Components, is_settled, owner}
use Rattle.components.specs.Answers.{has_answered}
use Rattle.components.specs.Events.{later}
use Rattle.components.specs.Changes.{steadied}
use Rattle.histories.specs.Phases.{Generation, duty_in, duty_of, is_shutting_down, is_idle, is_current, current}
use Rattle.histories.specs.TraceEvents.{Recorded, records_of}
use Rattle.histories.specs.States.{SessionState, leaves}
use Rattle.histories.specs.Waits.{has_three}
use Rattle.histories.specs.Follows.{MayClose as MayEnd}
use Rattle.session_boots.specs.Lines.{closed_line, id_of, line_of, lines_of}
use Rattle.session_boots.specs.Ends.{ResultLeft, LeftAt}
use Rattle.session_boots.specs.Traces.{IsTrace}
use Rattle.session_boots.specs.declared.ends.SessionFault.{SessionFault}
use Rattle.session_boots.specs.declared.ends.SessionFault.TheVariants as over
use Rattle.session_boots.proofs.Joins.{kept_one}
use Rattle.session_boots.proofs.Records.{doubt_at}
use Rattle.law_supervisor.specs.Sound.{AreDistinct}
use Rattle.law_supervisor.proofs.Steadied.{closed_orderly, living_steadied, owes_steadied, owner_steadied}
use Rattle.session_startup.specs.Closing.{MayCloseNow, just_closed}
use Rattle.session_startup.specs.Ended.{HasClosed}
use Rattle.session_startup.specs.Runs.{MayAbort, HasNoActLeft}
use Rattle.session_acts.proofs.Answered.{free_is, free_steadied, is_free}
use Rattle.session_acts.proofs.Entering.{later_same, never, no_boot, without_boot}
use Rattle.session_startup.proofs.Quiet.{quiet_steadied}

-- ---- a third failure

is_cond : (b : Bool) (k : ℕ) → is_some (if b then Some k else None) ≡ b
is_cond true k = refl
is_cond false k = refl

eq_swapped : (a b : ℕ) → nat_eq a b ≡ (b == a)
eq_swapped a b = grind (arith, nat_tests)

abbrev Found : List ℕ → Type 0
Found l = nat_lt (position_or_len (nat_eq 3) l) (length l) ≡ list_any (λ n. n == 3) l

found_by : (x : ℕ) (l : List ℕ) (b : Bool) → nat_eq 3 x ≡ b → Found l → Found (x ∷ l)
found_by x l true is rest = let turned : (x == 3) ≡ true = sym (eq_swapped 3 x) ∙ is in grind (arith, nat_tests, is, turned)
found_by x l false is rest = let turned : (x == 3) ≡ false = sym (eq_swapped 3 x) ∙ is in grind (arith, nat_tests, is, turned, rest)

found_in : (l : List ℕ) → Found l
found_in [] = refl
found_in (x ∷ l) = found_by x l (nat_eq 3 x) refl (found_in l)

pub three_same : (q : Pending) → is_some (broken q) ≡ has_three q.failures
three_same q = is_cond (nat_lt (position_or_len (nat_eq 3) q.failures) (length q.failures)) (position_or_len (nat_eq 3) q.failures) ∙ found_in q.failures

pub counts_in : (d : Device) (q : Pending) (s : Stage) → (duty_in d (record q { stage = s })).counts ≡ q.failures
counts_in d q stages.Booting = refl
counts_in d q stages.Activating = refl
counts_in d q stages.Backing = refl
counts_in d q stages.Rolling = refl

none_of : (o : Option ℕ) → is_some o ≡ false → o ≡ None
none_of None is = refl
none_of (Some k) is = absurd cc

abbrev pends : Device → Option Pending → Device
pends d o = record d { pending = o }

-- the plan's items closes as successful where none has three failures
pub may_complete : (d : Device) → IsIn stages.Activating d → has_three (duty_of d).counts ≡ false → Allowed d (stored.Closed outcomes.Successful)
may_complete d is few = by d.pending is few
  where
    by : (o : Option Pending) → IsSomeAnd o (λ q. q.stage ≡ stages.Activating) → has_three (duty_of (pends d o)).counts ≡ false →
        IsSomeAnd o (λ q. MayClose q outcomes.Successful)
    by None is few = absurd is
    by (Some q) is few = (is, none_of (broken q) (three_same q ∙ ap has_three (sym (counts_in (pends d (Some q)) q q.stage)) ∙ few))

pub outcome_of : (d : Device) (b : Bool) → IsIn stages.Rolling d → has_three (duty_of d).counts ≡ b →
    rolled_outcome d ≡ (if b then outcomes.UnableToRollback else outcomes.RollbackComplete)
outcome_of d b is three = ap (λ (x : Bool). if x then outcomes.UnableToRollback else outcomes.RollbackComplete) (by d.pending is three)
  where
    by : (o : Option Pending) → IsSomeAnd o (λ q. q.stage ≡ stages.Rolling) → has_three (duty_of (pends d o)).counts ≡ b →
        option_map_or (λ q. is_some (broken q)) o false ≡ b
    by None is three = absurd is
    by (Some q) is three = three_same q ∙ ap has_three (sym (counts_in (pends d (Some q)) q q.stage)) ∙ three

pub completes : (p : SessionState) (d : Device) (world : Components) (told : Told) (living : List ℕ) → IsIn stages.Activating d →
    HasNoActLeft p d false world told living → Allowed d (stored.Closed outcomes.Successful)
completes p d world told living is r = may_complete d is (ap (λ (x : Device). has_three (duty_of x).counts) (sym r.device_is) ∙ r.counts)

-- the outcome by whether one has three failures
abbrev pub set_outcome : Bool → Outcome
set_outcome b = if b then outcomes.UnableToRollback else outcomes.RollbackComplete

pub rolls : (p : SessionState) (d : Device) (b : Bool) (world : Components) (told : Told) (living : List ℕ) → IsIn stages.Rolling d →
    HasNoActLeft p d b world told living → rolled_outcome d ≡ set_outcome b
rolls p d b world told living is r = outcome_of d b is (ap (λ (x : Device). has_three (duty_of x).counts) (sym r.device_is) ∙ r.counts)

-- ---- the device behind it

last_in : (d : Device) (p : Option Pending) (o : Outcome) → IsSome p → (close_pending o d p).closed ≡ d.closed ++ (id_of (pends d p), o) ∷ []
last_in d None o h = absurd cc
last_in d (Some q) o h = refl

pub last_closed : (d e : Device) (o : Outcome) → IsSome d.pending → e ≡ applied d (stored.Closed o) → e.closed ≡ d.closed ++ (id_of d, o) ∷ []
last_closed d e o h same = ap (λ (x : Device). x.closed) same ∙ last_in d d.pending o h

pub line_closed : (p : SessionState) (d : Device) (o : Outcome) → p.device ≡ d → closed_line (id_of d) o ≡ lines_of p.device
    (records_of (Recorded (stored.Closed o) ∷ []))
line_closed p d o device = ap (λ (x : Device). closed_line (id_of x) o) (sym device) ∙ sym (append-nil (line_of p.device (stored.Closed o)))

pub pends_in : (s : Stage) (d : Device) → IsIn s d → IsSome d.pending
pends_in s d is = by d.pending is
  where
    by : (o : Option Pending) → IsSomeAnd o (λ q. q.stage ≡ s) → IsSome o
    by None h = absurd h
    by (Some q) h = refl

pub pends_still : (d : Device) (o : Outcome) → Allowed d (stored.Closed o) → IsSome d.pending
pends_still d o may = by d.pending may
  where
    by : (x : Option Pending) → IsSomeAnd x (λ q. MayClose q o) → IsSome x
    by None h = absurd h
    by (Some q) h = refl

idle_of : (d : Device) (p : Option Pending) (o : Outcome) → IsSome p → is_idle (duty_of (close_pending o d p)).phase ≡ true
idle_of d None o h = absurd cc
idle_of d (Some q) o h = refl

-- ---- the components behind it

present_is : (c : Generation) → c ≡ current → is_current c ≡ true
present_is c is = rw is refl

not_closing : (c : Generation) → c ≡ current → is_shutting_down c ≡ false
not_closing c is = rw is refl

pub closed_at : (p : SessionState) (d e : Device) (b : Bool) (o : Outcome) (world : Components) (told : Told) (living : List ℕ) → IsSome d.pending →
    HasNoActLeft p d b world told living → e ≡ applied d (stored.Closed o)
    → HasClosed o current (Recorded (stored.Closed o) ∷ []) (leaves p (Recorded (stored.Closed o))) e (steadied world) told living
closed_at p d e b o world told living pending r same =
    let w = r.runs.within in
    let on = w.on in
    record {
      stands = record {
        device_is = ap (λ (x : Device). applied x (stored.Closed o)) r.device_is ∙ sym same;
        world_is = sym (later_same told.moment (steadied p.world) w.moment) ∙ ap (λ (v : Components). later told.moment (steadied v)) (sym r.runs.world_is);
        answered = ap (λ (v : Components). has_answered (steadied v)) r.runs.world_is ∙ free_is (steadied p.world)
            (free_steadied p.world ∙ is_free p.world w.answered);
        not_before = omega (arith, w.moment, ap (λ (v : Components). v.moment) r.runs.world_is);
        asked = w.asked;
        children = λ n. (
          (λ h. inl (subst (λ (x : Option (ℕ × Step)). IsSome x) (sym (owner_steadied n p.world)) ((w.children n).0 h))),
          (λ h. (w.children n).1 (subst (λ (x : Option (ℕ × Step)). IsSome x) (owner_steadied n p.world) (without_boot (no_boot p.boot n on.boot) h))),
        );
      };
      back = record {
        idle_is = idle_of p.device p.device.pending o (subst (λ (x : Device). IsSome x.pending) (sym r.device_is) pending);
        going = not_closing p.generation on.generation;
        there = inl (present_is p.generation on.generation);
        boot = on.boot;
        boot_end = on.boot_end;
        owes_none = owes_steadied p.world ∙ r.quiet.owes_none;
        over = refl;
        cut = on.cut;
      };
      generation_is = on.generation;
      quiet = quiet_steadied p.world r.quiet;
      orderly = closed_orderly p.device p.world w.keeps;
      closed = ([], refl);
    }

-- where the close left the call
pub left_closed : {J D : Type 0} (entries : Image → List (List ℕ) → Type 0) (may_leave : D → Image → Type 0) (disk : D) (p : SessionState) (d : Device)
    (b : Bool) (o : Outcome) (world now : Components) (told : Told) (living : List ℕ) → IsSome d.pending → HasNoActLeft p d b world told living →
    (result : Result (Idle J) SessionFault) → ResultLeft entries may_leave disk p (just_closed o) (λ s q. idle_device s ≡ q.device) result →
    OnOk result (now ≡ steadied world)
    → ResultLeft entries may_leave disk p (just_closed o) (λ s q. HasClosed o current (just_closed o) q (idle_device s) now told living) result
left_closed entries may_leave disk p d b o world now told living pending r (Ok s) same is = subst
    (λ (w : Components). HasClosed o current (just_closed o) (leaves p (Recorded (stored.Closed o))) (idle_device s) w told living) (sym is)
    (closed_at p d (idle_device s) b o world told living pending r (same ∙ ap (λ (x : Device). applied x (stored.Closed o)) r.device_is))
left_closed entries may_leave disk p d b o world now told living pending r (Err e) left is = left

-- where the call gives up behind the close, whether or not the supervisor knows of it
pub closed_quits : (p : SessionState) (d : Device) (b : Bool) (o : Outcome) (world now : Components) (told : Told) (living : List ℕ) →
    HasNoActLeft p d b world told living → ((n : ℕ) → owner n now.parts ≡ owner n p.world.parts) →
    MayAbort (leaves p (Recorded (stored.Closed o))) now told living
closed_quits p d b o world now told living r same =
    let w = r.runs.within in
    record {
      moment = w.moment;
      asked = w.asked;
      due = w.due;
      boot = w.on.boot;
      boot_end = w.on.boot_end;
      over = refl;
      cut = w.on.cut;
      differ = subst (λ (l : List ℕ). AreDistinct l) (sym (living_steadied p.world)) w.keeps.differ;
      owners = λ n. same n ∙ sym (owner_steadied n p.world);
      children = λ n. subst (λ (x : Option (ℕ × Step)). Contains living n ↔ IsSome x) (sym (owner_steadied n p.world)) (w.children n);
    }

same_owners : (p : SessionState) (d : Device) (b : Bool) (world : Components) (told : Told) (living : List ℕ) → HasNoActLeft p d b world told living →
    (n : ℕ) → owner n world.parts ≡ owner n p.world.parts
same_owners p d b world told living r n = ap (λ (v : Components). owner n v.parts) r.runs.world_is

pub kept_owners : (p : SessionState) (d : Device) (b : Bool) (world now : Components) (told : Told) (living : List ℕ) → HasNoActLeft p d b world told living →
    ((n : ℕ) → owner n now.parts ≡ owner n world.parts) → (n : ℕ) → owner n now.parts ≡ owner n p.world.parts
kept_owners p d b world now told living r same n = same n ∙ same_owners p d b world told living r n

-- what holds anyway holds at a fault
pub at_fault : {A E X : Type 0} (result : Result A E) → X → OnErr result X
at_fault (Ok x) h = tt
at_fault (Err e) h = h

pub close_follows : (p : SessionState) (d : Device) (b : Bool) (o : Outcome) (world : Components) (told : Told) (living : List ℕ) →
    HasNoActLeft p d b world told living → MayEnd p o → MayCloseNow p d o
close_follows p d b o world told living r may =
    let on = r.runs.within.on in
    record {
      device_is = r.device_is;
      follows = (
        (record { owes_none = r.quiet.owes_none; alone = on.boot; no_end = on.boot_end; on = not_closing p.generation on.generation }, may),
        (λ cut. absurd (never p.cut on.cut cut)),
        on.over,
      );
    }

-- all are up
pub ends_up : (p : SessionState) (d : Device) (b : Bool) (world : Components) (told : Told) (living : List ℕ) → HasNoActLeft p d b world told living →
    is_settled p.world ≡ true → MayEnd p outcomes.Successful
ends_up p d b world told living r up = (present_is p.generation r.runs.within.on.generation, up)

pub ends_set : (p : SessionState) (d : Device) (b : Bool) (world : Components) (told : Told) (living : List ℕ) → HasNoActLeft p d b world told living →
    (b ≡ false → is_settled p.world ≡ true) → MayEnd p (if b then outcomes.UnableToRollback else outcomes.RollbackComplete)
ends_set p d true world told living r up = tt
ends_set p d false world told living r up = (present_is p.generation r.runs.within.on.generation, up refl)

-- ---- over a disk

module _ (entries : Image → List (List ℕ) → Type 0) (files : List ℕ → Type 0) {D : Type 0} {may_leave : D → Image → Type 0} {moment : D → ℕ} {left_since : D →
    ℕ → Image → Type 0} {is_modelled : Bool} {seen : D → Image}
    (laws : DiskLaws is_modelled seen may_leave moment left_since) where
  abbrev pub Notes : D → D → Device → Record → Type 0
  Notes old new d r = HasLeft moment left_since old new (LeavesEither may_leave files entries old d (applied d r))

  pub close_went : (old new : D) (list : Option (List RunnerEntry)) (p : SessionState) (d : Device) (o : Outcome) → MayCloseNow p d o →
      Allowed d (stored.Closed o) → Notes old new d (stored.Closed o) → IsTrace entries files may_leave moment left_since old new list list p (just_closed o)
  close_went old new list p d o now allowed notes =
      let same = sym now.device_is in
      kept_one entries files laws old new list p (stored.Closed o) now.follows (subst (λ (x : Device). Allowed x (stored.Closed o)) same allowed)
      (subst (λ (x : Device). Notes old new x (stored.Closed o)) same notes)

  pub close_doubt : (old new : D) (p : SessionState) (d : Device) (o : Outcome) → p.device ≡ d → Allowed d (stored.Closed o) →
      Notes old new d (stored.Closed o) → LeftAt entries may_leave new p (Recorded (stored.Closed o) ∷ []) over.Disk
  close_doubt old new p d o same allowed notes = doubt_at entries files laws old new p d (stored.Closed o) same allowed notes
