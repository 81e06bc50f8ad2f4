-- The run of one bootstrap as a history: its probe, its start, its wait and its end.
use Rattle.std.specs.Prelude.{ℕ, ◌-◌, Bool, true, false, List, [], ◌∷◌, ◌++◌, Option, Some, None, pos, is_some, nat_le}
use Rattle.std.specs.List.{list_any}
use Rattle.std.specs.Option.{IsSomeAnd}
use Rattle.std.proofs.Common.{◌≡◌, ◌≤◌, ◌<◌, ◌∙◌, inl, inr, refl, sym, ap, subst, arith}
use Rattle.std.proofs.lemmas.Bool.{le-leb, leb-true}
use Rattle.nuc_base.specs.declared.kinds.Exit.{Exit}
use Rattle.nuc_base.specs.declared.kinds.Exit.TheVariants as exits
use Rattle.nuc_base.specs.declared.kinds.Step.TheVariants as step
use Rattle.recipe_reader.specs.declared.recipe.Skip.{Skip}
use Rattle.recipe_reader.specs.declared.recipe.Skip.TheVariants as skips
use Rattle.step_runner.specs.Entries.{Told, HasNoted}
use Rattle.step_runner.specs.declared.command.Command.{Command}
use Rattle.step_runner.specs.declared.entries.RunnerEntry.{RunnerEntry}
use Rattle.step_runner.specs.declared.entries.Seen.{Seen}
use Rattle.step_runner.specs.declared.entries.Seen.TheVariants as seen
use Rattle.components.specs.Components.{Components, Child, is_stopped}
use Rattle.components.specs.Deadlines.{deadline_after, has_passed}
use Rattle.components.specs.Events.{later}
use Rattle.components.specs.Turns.{IsQuiet, owes}
use Rattle.components.specs.declared.kinds.Prepared.{Prepared}
use Rattle.histories.specs.Phases.{Duty, duty_of}
use Rattle.histories.specs.TraceEvents.{TraceEvent, Booted, WaitElapsed, ReadClock}
use Rattle.histories.specs.States.{SessionState, leaves, state_after, booted, noted, is_wait}
use Rattle.histories.specs.Waits.{MayWait, boot_deadline}
use Rattle.histories.specs.Follows.{IsEntry, IsBootChild, MayBoot, MayBooted}
use Rattle.histories.proofs.Joined.{left-append}
use Rattle.session_boots.specs.Stands.{IsStill}
use Rattle.session_boots.specs.Steps.{IsAlive, IsEnded, IsProbed, IsUpToDate, MayProbe, MayStart, MayStep, probe_seen}
use Rattle.session_boots.specs.Traces.{ActTrace}
use Rattle.session_boots.proofs.Acting.{acts_none, acts_on, grows_none}
use Rattle.session_boots.proofs.Still.{later_now, later_quiet, limit_on, waits_on}

pub never : (b : Bool) → b ≡ false → b ≡ true → ⊥
never b e f = absurd cc

abbrev pub entry : Told → Seen → RunnerEntry
entry told s = record { moment = told.moment; asked = told.asked; seen = s }

is_entry : (p : SessionState) (told : Told) (s : Seen) → IsUpToDate p told → IsEntry p (entry told s)
is_entry p told s t = record { moment = t.moment; asked = t.asked; due = λ d. t.asked ∙ t.due d }

abbrev HasNoneOwed : Components → Type 0
HasNoneOwed w = list_any owes w.parts ≡ false

-- what a bootstrap rests on is the device, the components and the bootstrap
pub boot_as : (d : Duty) (p q : SessionState) (m : Prepared) → q.world ≡ p.world → q.boot ≡ p.boot → q.boot_end ≡ p.boot_end → MayBoot d p m → MayBoot d q m
boot_as d p q m world boot end may = record {
  phase = may.phase;
  begun = may.begun;
  origin = may.origin;
  of_device = may.of_device;
  at = may.at;
  item = may.item;
  there = may.there;
  next = may.next;
  prepared = may.prepared;
  stopped = ap (λ (w : Components). is_stopped w) world ∙ may.stopped;
  owes_none = subst (λ (w : Components). HasNoneOwed w) (sym world) may.owes_none;
  alone = boot ∙ may.alone;
  no_end = end ∙ may.no_end;
}

-- it is as still where only the time, or nothing of this, changed
still_as : (p q : SessionState) → q.world ≡ p.world → q.generation ≡ p.generation → q.cut ≡ p.cut → IsStill p → IsStill q
still_as p q world generation cut still = record {
  stopped = ap (λ (w : Components). is_stopped w) world ∙ still.stopped;
  quiet = subst (λ (w : Components). IsQuiet w) (sym world) still.quiet;
  generation = generation ∙ still.generation;
  cut = cut ∙ still.cut;
}

pub still_later : (p q : SessionState) (m : ℕ) → q.world ≡ later m p.world → q.generation ≡ p.generation → q.cut ≡ false → IsStill p → IsStill q
still_later p q m world generation cut still = record {
  stopped = ap (λ (w : Components). is_stopped w) world ∙ still.stopped;
  quiet = subst (λ (w : Components). IsQuiet w) (sym world) (later_quiet m p.world still.stopped still.quiet);
  generation = generation ∙ still.generation;
  cut = cut;
}

-- ---- the moment

pub pass_acts : (p : SessionState) (m : Prepared) (told : Told) (now : ℕ) (old new : Option (List RunnerEntry)) → MayStep p m told → told.moment ≤ now →
    new ≡ old → ActTrace p (ReadClock now ∷ []) old new
pass_acts p m told now old new may later same = record {
  proper = ((omega (arith, may.moment, later), (λ cut. absurd (never p.cut may.still.cut cut)), may.over), tt);
  none = refl;
  list = grows_none old new same;
  device = refl;
}

pub pass_probe : (p : SessionState) (m : Prepared) (told new : Told) (now : ℕ) → MayStep p m told → new.moment ≡ now → new.asked ≡ true →
    MayProbe (leaves p (ReadClock now)) m new
pass_probe p m told new now may moment asked = record {
  may = record {
    phase = may.may.phase;
    begun = may.may.begun;
    origin = may.may.origin;
    of_device = may.may.of_device;
    at = may.may.at;
    item = may.may.item;
    there = may.may.there;
    next = may.may.next;
    prepared = may.may.prepared;
    stopped = may.may.stopped;
    owes_none = may.may.owes_none;
    alone = may.may.alone;
    no_end = may.may.no_end;
  };
  still = still_later p (leaves p (ReadClock now)) now refl refl may.still.cut may.still;
  probed = refl;
  up_to_date = record { moment = moment; asked = asked; due = λ d. refl; over = may.over; cut = may.still.cut };
}

-- ---- an entry

entry_acts : (p : SessionState) (m : Prepared) (old new : Told) (s : Seen) → IsUpToDate p old → MayBooted (duty_of p.device) p s m → HasNoted old new s →
    (booted s m p).device ≡ p.device → ActTrace p (Booted (entry old s) m ∷ []) old.list new.list
entry_acts p m old new s told may notes device = record {
  proper = (((may, is_entry p old s told), (λ cut. absurd (never p.cut told.cut cut)), told.over), tt);
  none = refl;
  list = notes.entry;
  device = device;
}

-- the state behind it
told_on : (p : SessionState) (old new : Told) (s : Seen) → IsUpToDate p old → HasNoted old new s → is_wait s ≡ false → IsUpToDate (noted s p) new
told_on p old new s told notes wait = record {
  moment = notes.moment ∙ told.moment;
  asked = notes.asked;
  due = λ d. absurd (never (is_wait s) wait d);
  over = told.over;
  cut = told.cut;
}

-- ---- a probe

pub record Probed (p : SessionState) (m : Prepared) (old new : Told) (h : List TraceEvent) : Type 0 where
  pub acts : ActTrace p h old.list new.list
  pub start : MayStart (state_after p h) m new
  pub probed : IsProbed p (state_after p h) new

pub record Ended (p : SessionState) (old new : Told) (exit : Exit) (h : List TraceEvent) : Type 0 where
  pub acts : ActTrace p h old.list new.list
  pub ended : IsEnded p (state_after p h) exit new

same_world : (p : SessionState) (old new : Told) (s : Seen) → IsUpToDate p old → HasNoted old new s → p.world ≡ later new.moment p.world
same_world p old new s told notes = later_now new.moment p.world (notes.moment ∙ told.moment)

-- it says that the step is to be skipped
exists_yes : (p : SessionState) (m : Prepared) (old new : Told) (x : List ℕ) → MayProbe p m old → m.skip ≡ Some (skips.Exists x) →
    HasNoted old new (seen.Exists x true) → Ended p old new (exits.Code (pos 0)) (Booted (entry old (seen.Exists x true)) m ∷ [])
exists_yes p m old new x may skip notes = record {
  acts = entry_acts p m old new (seen.Exists x true) may.up_to_date (may.may, (skip, may.probed)) notes refl;
  ended = record {
    world = same_world p old new (seen.Exists x true) may.up_to_date notes;
    generation = refl;
    asked = notes.asked;
    boot = may.may.alone;
    boot_end = refl;
    over = may.up_to_date.over;
    cut = may.up_to_date.cut;
  };
}

path_yes : (p : SessionState) (m : Prepared) (old new : Told) (x : List ℕ) → MayProbe p m old → m.skip ≡ Some (skips.OnPath x) →
    HasNoted old new (seen.OnPath x true) → Ended p old new (exits.Code (pos 0)) (Booted (entry old (seen.OnPath x true)) m ∷ [])
path_yes p m old new x may skip notes = record {
  acts = entry_acts p m old new (seen.OnPath x true) may.up_to_date (may.may, (skip, may.probed)) notes refl;
  ended = record {
    world = same_world p old new (seen.OnPath x true) may.up_to_date notes;
    generation = refl;
    asked = notes.asked;
    boot = may.may.alone;
    boot_end = refl;
    over = may.up_to_date.over;
    cut = may.up_to_date.cut;
  };
}

-- it says no
exists_no : (p : SessionState) (m : Prepared) (old new : Told) (x : List ℕ) → MayProbe p m old → m.skip ≡ Some (skips.Exists x) →
    HasNoted old new (seen.Exists x false) → Probed p m old new (Booted (entry old (seen.Exists x false)) m ∷ [])
exists_no p m old new x may skip notes =
    let s = seen.Exists x false in
    let q = leaves p (Booted (entry old s) m) in
    let told = told_on p old new s may.up_to_date notes refl in
    record {
      acts = entry_acts p m old new s may.up_to_date (may.may, (skip, may.probed)) notes refl;
      start = record {
        may = boot_as (duty_of p.device) p q m refl refl refl may.may;
        still = still_as p q refl refl refl may.still;
        asked =
            inr refl;
        up_to_date = told;
      };
      probed = record { world = refl; generation = refl; up_to_date = told };
    }

path_no : (p : SessionState) (m : Prepared) (old new : Told) (x : List ℕ) → MayProbe p m old → m.skip ≡ Some (skips.OnPath x) →
    HasNoted old new (seen.OnPath x false) → Probed p m old new (Booted (entry old (seen.OnPath x false)) m ∷ [])
path_no p m old new x may skip notes =
    let s = seen.OnPath x false in
    let q = leaves p (Booted (entry old s) m) in
    let told = told_on p old new s may.up_to_date notes refl in
    record {
      acts = entry_acts p m old new s may.up_to_date (may.may, (skip, may.probed)) notes refl;
      start = record {
        may = boot_as (duty_of p.device) p q m refl refl refl may.may;
        still = still_as p q refl refl refl may.still;
        asked =
            inr refl;
        up_to_date = told;
      };
      probed = record { world = refl; generation = refl; up_to_date = told };
    }

-- whatever it looks for
pub probe_yes : (p : SessionState) (m : Prepared) (old new : Told) (x : Skip) → MayProbe p m old → m.skip ≡ Some x → HasNoted old new (probe_seen x true) →
    Ended p old new (exits.Code (pos 0)) (Booted (entry old (probe_seen x true)) m ∷ [])
probe_yes p m old new (skips.Exists x) may skip notes = exists_yes p m old new x may skip notes
probe_yes p m old new (skips.OnPath x) may skip notes = path_yes p m old new x may skip notes

pub probe_no : (p : SessionState) (m : Prepared) (old new : Told) (x : Skip) → MayProbe p m old → m.skip ≡ Some x → HasNoted old new (probe_seen x false) →
    Probed p m old new (Booted (entry old (probe_seen x false)) m ∷ [])
probe_no p m old new (skips.Exists x) may skip notes = exists_no p m old new x may skip notes
probe_no p m old new (skips.OnPath x) may skip notes = path_no p m old new x may skip notes

-- the step has none
pub no_probe : (p : SessionState) (m : Prepared) (told : Told) → MayProbe p m told → m.skip ≡ None → Probed p m told told []
no_probe p m told may skip = record {
  acts = acts_none p told.list told.list refl;
  start = record { may = may.may; still = may.still; asked = inl skip; up_to_date = may.up_to_date };
  probed = record { world = refl; generation = refl; up_to_date = may.up_to_date };
}

-- ---- a start

pub refused : (p : SessionState) (m : Prepared) (old new : Told) (c : Command) → MayStart p m old → c ≡ m.command → HasNoted old new (seen.Refused c) →
    Ended p old new exits.NotStarted (Booted (entry old (seen.Refused c)) m ∷ [])
refused p m old new c may is notes = record {
  acts = entry_acts p m old new (seen.Refused c) may.up_to_date (may.may, (is, may.asked)) notes refl;
  ended = record {
    world = same_world p old new (seen.Refused c) may.up_to_date notes;
    generation = refl;
    asked = notes.asked;
    boot = may.may.alone;
    boot_end = refl;
    over = may.up_to_date.over;
    cut = may.up_to_date.cut;
  };
}

abbrev child_until : ℕ → Option ℕ → Option Child
child_until n d = Some (record { number = n; of = step.Bootstrap; deadline = d })

pub started_acts : (p : SessionState) (m : Prepared) (old new : Told) (n : ℕ) (c : Command) → MayStart p m old → c ≡ m.command →
    HasNoted old new (seen.Started n c) → ActTrace p (Booted (entry old (seen.Started n c)) m ∷ []) old.list new.list
started_acts p m old new n c may is notes = entry_acts p m old new (seen.Started n c) may.up_to_date (may.may, (is, may.asked)) notes refl

pub started_alive : (p : SessionState) (m : Prepared) (old new : Told) (n : ℕ) (c : Command) (deadline : ℕ) → MayStart p m old →
    HasNoted old new (seen.Started n c) → deadline_after m.limit_ms old.moment ≡ Some deadline
    → IsAlive (leaves p (Booted (entry old (seen.Started n c)) m)) n deadline new
started_alive p m old new n c deadline may notes is = record {
  phase = may.may.phase;
  boot = ap (λ (d : Option ℕ). child_until n d) (ap (λ (x : ℕ). deadline_after m.limit_ms x) (sym may.up_to_date.moment) ∙ is);
  no_end = may.may.no_end;
  still = still_as p (leaves p (Booted (entry old (seen.Started n c)) m)) refl refl refl may.still;
  up_to_date = record {
    moment = notes.moment ∙ may.up_to_date.moment;
    asked = notes.asked;
    due = λ d. absurd (never false refl d);
    over = may.up_to_date.over;
    cut =
        may.up_to_date.cut;
  };
}

-- ---- its end

is_child : (p : SessionState) (child deadline : ℕ) (told : Told) → IsAlive p child deadline told → IsBootChild child p
is_child p child deadline told alive = subst (λ (o : Option Child). IsSomeAnd o (λ (c : Child). c.number ≡ child)) (sym alive.boot) refl

passed : (p : SessionState) (child deadline : ℕ) (told : Told) → IsAlive p child deadline told → deadline ≤ told.moment →
    has_passed p.world.moment (boot_deadline p.boot) ≡ true
passed p child deadline told alive le =
    let at = alive.up_to_date.moment in
    let done : nat_le deadline p.world.moment ≡ true = le-leb deadline p.world.moment (omega (arith, le, at)) in
    rw alive.boot done

not_passed : (a b : ℕ) → b < a → nat_le a b ≡ false
not_passed a b lt = by (nat_le a b) refl
  where
    by : (x : Bool) → nat_le a b ≡ x → nat_le a b ≡ false
    by true is = let le = leb-true a b is in absurd (omega (arith, le, lt))
    by false is = is

may_wait : (p : SessionState) (child deadline : ℕ) (told : Told) → IsAlive p child deadline told → told.moment < deadline →
    MayWait (duty_of p.device) p (deadline - told.moment)
may_wait p child deadline told alive lt =
    let at = alive.up_to_date.moment in
    let open_yet : nat_le deadline p.world.moment ≡ false = not_passed deadline p.world.moment (omega (arith, lt, at)) in
    record {
      quiet = alive.still.quiet;
      no_end = alive.no_end;
      in_time = rw alive.boot open_yet;
      work = waits_on (duty_of p.device).phase p.generation (duty_of p.device).counts p alive.phase alive.still.generation
          (ap (λ (o : Option Child). is_some o) alive.boot);
      limit_is = ap (λ (x : ℕ). deadline - x) at ∙ sym (limit_on (duty_of p.device).phase p
          (record { number = child; of = step.Bootstrap; deadline = Some deadline }) deadline alive.phase alive.still.stopped alive.boot refl);
    }

pub killed : (p : SessionState) (m : Prepared) (child deadline : ℕ) (old new : Told) → IsAlive p child deadline old → deadline ≤ old.moment →
    HasNoted old new (seen.Killed child)
    → Ended p old new exits.TimedOut (Booted (entry old (seen.Killed child)) m ∷ [])
killed p m child deadline old new alive le notes = record {
  acts = entry_acts p m old new (seen.Killed child) alive.up_to_date (is_child p child deadline old alive, passed p child deadline old alive le) notes refl;
  ended = record {
    world = same_world p old new (seen.Killed child) alive.up_to_date notes;
    generation = refl;
    asked = notes.asked;
    boot = refl;
    boot_end = refl;
    over = alive.up_to_date.over;
    cut = alive.up_to_date.cut;
  };
}

pub ended_itself : (p : SessionState) (m : Prepared) (child deadline : ℕ) (old new : Told) (exit : Exit) → IsAlive p child deadline old →
    old.moment < deadline → HasNoted old new (seen.Ended child exit (deadline - old.moment))
    → Ended p old new exit (Booted (entry old (seen.Ended child exit (deadline - old.moment))) m ∷ [])
ended_itself p m child deadline old new exit alive lt notes = record {
  acts = entry_acts p m old new (seen.Ended child exit (deadline - old.moment)) alive.up_to_date (
    may_wait p child deadline old alive lt,
    is_child p child deadline old alive,
  ) notes refl;
  ended = record {
    world = same_world p old new (seen.Ended child exit (deadline - old.moment)) alive.up_to_date notes;
    generation = refl;
    asked = notes.asked;
    boot = refl;
    boot_end = refl;
    over = alive.up_to_date.over;
    cut = alive.up_to_date.cut;
  };
}

-- behind a state with the components of another time
ended_from : (p q r : SessionState) (exit : Exit) (told : Told) (k : ℕ) → q.world ≡ later k p.world → q.generation ≡ p.generation → IsEnded q r exit told →
    IsEnded p r exit told
ended_from p q r exit told k world generation e = record {
  world = e.world ∙ ap (λ (w : Components). later told.moment w) world;
  generation = e.generation ∙ generation;
  asked = e.asked;
  boot = e.boot;
  boot_end = e.boot_end;
  over = e.over;
  cut = e.cut;
}

pub ended_on : (p : SessionState) (g h : List TraceEvent) (old mid new : Told) (exit : Exit) (k : ℕ) → ActTrace p g old.list mid.list →
    (state_after p g).world ≡ later k p.world → (state_after p g).generation ≡ p.generation
    → Ended (state_after p g) mid new exit h → Ended p old new exit (h ++ g)
ended_on p g h old mid new exit k acts world generation e = record {
  acts = acts_on p g h old.list mid.list new.list acts e.acts;
  ended = subst (λ (q : SessionState). IsEnded p q exit new) (sym (left-append p h g))
      (ended_from p (state_after p g) (state_after (state_after p g) h) exit new k world generation e.ended);
}

-- the wait elapsed, and a moment was asked for
pub slept_acts : (p : SessionState) (child deadline : ℕ) (old new : Told) (now : ℕ) (list : Option (List RunnerEntry)) → IsAlive p child deadline old →
    old.moment < deadline → HasNoted old new (seen.Elapsed (deadline - old.moment)) → old.moment ≤ now → list ≡ new.list
    → ActTrace p (ReadClock now ∷ WaitElapsed (entry old (seen.Elapsed (deadline - old.moment))) ∷ []) old.list list
slept_acts p child deadline old new now list alive lt notes le same =
    let e = entry old (seen.Elapsed (deadline - old.moment)) in
    let one : ActTrace p (WaitElapsed e ∷ []) old.list new.list = record {
      proper = (
        (
          (may_wait p child deadline old alive lt, is_entry p old (seen.Elapsed (deadline - old.moment)) alive.up_to_date),
          (λ cut. absurd (never p.cut alive.up_to_date.cut cut)),
          alive.up_to_date.over,
        ),
        tt,
      );
      none = refl;
      list = notes.entry;
      device = refl;
    } in
    let two : ActTrace (leaves p (WaitElapsed e)) (ReadClock now ∷ []) new.list list = record {
      proper = ((omega (arith, alive.up_to_date.moment, le), (λ cut. absurd (never p.cut alive.up_to_date.cut cut)), alive.up_to_date.over), tt);
      none = refl;
      list = grows_none new.list list same;
      device = refl;
    } in
    acts_on p (WaitElapsed e ∷ []) (ReadClock now ∷ []) old.list new.list list one two

pub slept_alive : (p : SessionState) (child deadline : ℕ) (old new : Told) (now : ℕ) → IsAlive p child deadline old → new.moment ≡ now → new.asked ≡ true
    → IsAlive (state_after p (ReadClock now ∷ WaitElapsed (entry old (seen.Elapsed (deadline - old.moment))) ∷ [])) child deadline new
slept_alive p child deadline old new now alive moment asked = record {
  phase = alive.phase;
  boot = alive.boot;
  no_end = alive.no_end;
  still = still_later p (state_after p (ReadClock now ∷ WaitElapsed (entry old (seen.Elapsed (deadline - old.moment))) ∷ [])) now refl refl alive.still.cut
      alive.still;
  up_to_date = record { moment = moment; asked = asked; due = λ d. refl; over = alive.up_to_date.over; cut = alive.up_to_date.cut };
}

pub now_world : (p : SessionState) (told : Told) → IsUpToDate p told → p.world ≡ later told.moment p.world
now_world p told t = later_now told.moment p.world t.moment
