-- Every device that records leave is sound.
use Rattle.std.proofs.Common.{◌≡◌, ℕ, ◌≤◌, Bool, true, false, List, [], ◌∷◌, ◌++◌, Option, Some, None, Result, Ok, Err, refl, sym, subst, arith}
use Rattle.std.specs.Prelude.{option_map, if◌then◌else◌}
use Rattle.std.specs.List.{IsDistinct}
use Rattle.std.specs.List.Sorted.{IsStrictlySortedBy}
use Rattle.std.specs.Option.{IfSome, IsSomeAnd}
use Rattle.std.proofs.lemmas.Bool.{false≢true}
use Rattle.nuc_base.specs.Leads.{HasPath, direct, through}
use Rattle.nuc_base.specs.declared.kinds.Outcome.{Outcome}
use Rattle.nuc_base.specs.declared.platform.Platform.{Platform}
use Rattle.nuc_base.proofs.Lists.{in_nil}
use Rattle.records.specs.declared.record.Origin.{Origin}
use Rattle.records.specs.Stored.{Item, Plan, Record, Genesis, Accepted, BootBegun, BootEnded, Activating, StepFailed, Failing, FailingBack, Closed}
use Rattle.device.specs.declared.fault.ApplyFault.{ApplyFault}
use Rattle.device.specs.declared.fault.ApplyFault.TheVariants as fault
use Rattle.device.specs.Devices.{Device, Pending, no_device}
use Rattle.device.specs.Does.{DoesRecord}
use Rattle.device.specs.Grouped.{revision_of, with_group}
use Rattle.device.specs.Plans.{AreItems, NeedsByName}
use Rattle.device.specs.Lawful.{Allowed, applied, Lawful, Run, MayAccept, MayBegin, MayEnd, MayActivate, MayFail, MayBreak, MayGoBack, on_pending}
use Rattle.device.specs.Lawful.{close_pending, takes_plan, boot_ended, count_failure, begun, activated, rolled, sent_back}
use Rattle.device.specs.Sound.{IsPlanFor, IsAccepted, IsInStage, IsUnderWay, AreGroups, AreClosed, AreItemsFor, IsSound}
use Rattle.device.proofs.Course.{ended_plan, counted_plan}
use Rattle.device.proofs.SoundStages.{begun_in, ended_in, active_in, counted_in, rolled_in, sent_back_in}
use Rattle.device.proofs.SoundLists.{closed_more, groups_with, revision_rises}

-- ---- no items

no_needs : (platform : Platform) (a b : List ℕ) → HasPath (NeedsByName platform []) a b → ⊥
no_needs platform a b (direct n) = in_nil n.item n.is_one
no_needs platform a b (through n more) = in_nil n.item n.is_one

no_items : (platform : Platform) → AreItems platform []
unfolding IsStrictlySortedBy
no_items platform = record { few = omega arith; rise = tt; recipes = tt; configs = tt; supplied = tt; acyclic = λ n leads. no_needs platform n n leads }

items_for : (origin : Option Origin) (o : Origin) (items : List Item) → origin ≡ None → AreItemsFor origin items → AreItems o.platform items
items_for None o items none is = subst (AreItems o.platform) (sym is) (no_items o.platform)
items_for (Some p) o items none is = absurd cc

plan_items : (origin : Option Origin) (p : Plan) → IsPlanFor origin p → AreItemsFor origin p.items
plan_items None p is = absurd is
plan_items (Some o) p is = is.items

-- ---- step by step

no_plan : (origin : Option Origin) (p : Plan) → origin ≡ None → IsPlanFor origin p → ⊥
no_plan None p none is = is
no_plan (Some o) p none is = absurd cc

genesis : (d : Device) (o : Origin) → Allowed d (Genesis o) → IsSound d → IsSound (record d { origin = Some o })
genesis d o allowed sound = record {
  root = allowed.1;
  groups = sound.groups;
  set = items_for d.origin o d.set allowed.0 sound.set;
  closed = sound.closed;
  pending = by d.pending sound.pending;
}
  where
    by : (p : Option Pending) → IfSome p (IsUnderWay d) → IfSome p (IsUnderWay (record d { origin = Some o }))
    by None h = tt
    by (Some q) h = absurd (no_plan d.origin q.plan allowed.0 h.0.plan_is)

accepts : (d : Device) (p : Plan) (origin : Option Origin) → IsSomeAnd origin (MayAccept d p) → IsAccepted origin d.groups d.closed p
accepts d p None may = absurd may
accepts d p (Some o) may = record { plan_is = may.2; fresh = may.0.1; closes = may.0.2; joins = may.0.3; young = may.1 }

accept : (d : Device) (p : Plan) → Allowed d (Accepted p) → IsSound d → IsSound (applied d (Accepted p))
accept d p may sound = record {
  root = sound.root;
  groups = sound.groups;
  set = sound.set;
  closed = sound.closed;
  pending = (
    accepts d p d.origin may,
    record {
      ended = omega arith;
      begun = λ e. absurd (false≢true e);
      failed = λ e. absurd (false≢true e);
      failures =
          refl;
    },
  );
}

-- the change keeps it in step
abbrev Keeps : Device → (Pending → Pending) → Pending → Type 0
Keeps d f q = IsInStage d.origin d.set q → IsInStage d.origin d.set (f q)

-- a change of the pending deployment that keeps its plan and is in step
staged : (f : Pending → Pending) (d : Device) (o : Option Pending) → ((q : Pending) → (f q).plan ≡ q.plan) → IsSomeAnd o (Keeps d f) → IfSome o (IsUnderWay d)
    → IfSome (option_map f o) (λ q. IsUnderWay d q)
staged f d None same keeps h = tt
staged f d (Some q) same keeps h = (subst (IsAccepted d.origin d.groups d.closed) (sym (same q)) h.0, keeps h.1)

stays : (f : Pending → Pending) (d : Device) → ((q : Pending) → (f q).plan ≡ q.plan) → IsSomeAnd d.pending (Keeps d f) → IsSound d → IsSound (on_pending f d)
stays f d same keeps sound = record {
  root = sound.root;
  groups = sound.groups;
  set = sound.set;
  closed = sound.closed;
  pending =
      staged f d d.pending same keeps sound.pending;
}

each_of : {A : Type 0} (o : Option A) (P Q : A → Type 0) → ((x : A) → P x → Q x) → IsSomeAnd o P → IsSomeAnd o Q
each_of None P Q f h = h
each_of (Some x) P Q f h = f x h

closed : (d : Device) (o : Outcome) (p : Option Pending) → d.pending ≡ p → IsSound d → IsSound (close_pending o d p)
closed d o None is sound = sound
closed d o (Some q) is sound = by (takes_plan o)
  where
    way : IsUnderWay d q
    way = subst (λ (p : Option Pending). IfSome p (IsUnderWay d)) is sound.pending

    requirements : (origin : Option Origin) → IsPlanFor origin q.plan → AreGroups (with_group d.groups q.plan)
    requirements None h = absurd h
    requirements (Some x) h = groups_with d.groups q.plan way.0.joins h.requirements sound.groups

    more : AreClosed (d.closed ++ (q.plan.id, o) ∷ [])
    more = closed_more d.closed q.plan.id o way.0.closes way.0.fresh sound.closed

    by : (b : Bool) → IsSound (record {
      origin = d.origin;
      groups = if b then with_group d.groups q.plan else d.groups;
      set = if b then q.plan.items else d.set;
      closed = d.closed ++ (q.plan.id, o) ∷ [];
      pending = None;
    })
    by true = record {
      root = sound.root;
      groups = requirements d.origin way.0.plan_is;
      set = plan_items d.origin q.plan way.0.plan_is;
      closed =
          more;
      pending = tt;
    }
    by false = record { root = sound.root; groups = sound.groups; set = sound.set; closed = more; pending = tt }

step : (d : Device) (r : Record) → Allowed d r → IsSound d → IsSound (applied d r)
step d (Genesis o) may sound = genesis d o may sound
step d (Accepted p) may sound = accept d p may sound
step d (BootBegun n) may sound = stays begun d (λ q. refl) (each_of d.pending (MayBegin n) (Keeps d begun) (λ q m. begun_in d.origin d.set q.stage q n m) may)
    sound
step d (BootEnded n e) may sound = stays (boot_ended e) d (ended_plan e)
    (each_of d.pending (MayEnd n) (Keeps d (boot_ended e)) (λ q m. ended_in d.origin d.set e q n m) may) sound
step d Activating may sound = stays activated d (λ q. refl) (each_of d.pending MayActivate (Keeps d activated) (λ q m. active_in d.origin d.set q m) may) sound
step d (StepFailed n s e) may sound = stays (count_failure d.set n) d (counted_plan d.set n)
    (each_of d.pending (MayFail d.set n s e) (Keeps d (count_failure d.set n)) (λ q m. counted_in d.origin d.set q.stage q n m.0) may) sound
step d (Failing n) may sound = stays rolled d (λ q. refl) (each_of d.pending (MayBreak n) (Keeps d rolled) (λ q m is. rolled_in d.origin d.set q) may) sound
step d (FailingBack n) may sound = stays (sent_back d.origin d.set) d (λ q. refl)
    (each_of d.pending (MayGoBack d.origin d.set n) (Keeps d (sent_back d.origin d.set)) (λ q m is. sent_back_in d.origin d.set q n m) may) sound
step d (Closed o) may sound = closed d o d.pending refl sound
step d _ may sound = absurd may

pub stays_sound : (d e : Device) (r : Record) → IsSound d → Lawful d r e → IsSound e
stays_sound d e r sound lawful = subst IsSound (sym lawful.leaves) (step d r lawful.allowed sound)

pub after : (r : Record) (old new : Device) (result : Result (Unit {0}) ApplyFault) → DoesRecord r old new result → IsSound old → IsSound new
after r old new (Ok x) does sound = subst IsSound (sym does.1) (step old r does.0 sound)
after r old new (Err fault.NotLawful) does sound = subst IsSound (sym does.1) sound
after r old new (Err fault.NoMemory) does sound = subst IsSound (sym does) sound

-- ---- runs

pub none_sound : IsSound no_device
unfolding IsDistinct
none_sound = record {
  root = tt;
  groups = record { few = omega arith; differ = tt; requirements = tt };
  set = refl;
  closed =
      record { few = omega arith; differ = tt };
  pending = tt;
}

pub run_sound : (records : List Record) (d e : Device) → IsSound d → Run d records e → IsSound e
run_sound [] d e sound run = subst IsSound (sym run) sound
run_sound (r ∷ records) d e sound run = run_sound records run.0 e (stays_sound d run.0 r sound run.1) run.2

-- ---- revisions

closing_rises : (d : Device) (o : Outcome) (p : Option Pending) (arn : List ℕ) → IfSome p (IsUnderWay d) → revision_of arn d.groups ≤ revision_of arn
    (close_pending o d p).groups
closing_rises d o None arn h = omega arith
closing_rises d o (Some q) arn h = by (takes_plan o)
  where
    by : (b : Bool) → revision_of arn d.groups ≤ revision_of arn (if b then with_group d.groups q.plan else d.groups)
    by true = revision_rises d.groups q.plan arn h.0.young
    by false = omega arith

rises : (d : Device) (r : Record) (arn : List ℕ) → IsSound d → revision_of arn d.groups ≤ revision_of arn (applied d r).groups
rises d (Closed o) arn sound = closing_rises d o d.pending arn sound.pending
rises d _ arn sound = omega arith

pub revisions_rise : (records : List Record) (d e : Device) → IsSound d → Run d records e → (arn : List ℕ) → revision_of arn d.groups ≤ revision_of arn e.groups
revisions_rise [] d e sound run arn = subst (λ (x : Device). revision_of arn d.groups ≤ revision_of arn x.groups) (sym run) (omega arith)
revisions_rise (r ∷ records) d e sound run arn =
    let first = subst (λ (x : Device). revision_of arn d.groups ≤ revision_of arn x.groups) (sym run.1.leaves) (rises d r arn sound) in
    let rest = revisions_rise records run.0 e (stays_sound d run.0 r sound run.1) run.2 arn in
    omega (arith, first, rest)
