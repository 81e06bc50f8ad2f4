-- The start of a step, its probe, and a kill.
use Rattle.std.specs.Prelude.{ℕ, suc, zero, ◌+◌, Bool, true, false, not, List, [], ◌∷◌, Option, Some, None, Contains, IsSome, slice_get, option_map}
use Rattle.std.specs.Prelude.{option_and_then, ⊤}
use Rattle.std.specs.Option.{IsSomeAnd}
use Rattle.std.proofs.Common.{◌≡◌, ◌↔◌, ◌⊎◌, ◌∙◌, inl, inr, refl, sym, ap, subst}
use Rattle.nuc_base.specs.declared.kinds.Step.{Step}
use Rattle.recipe_reader.specs.declared.recipe.Skip.{Skip}
use Rattle.recipe_reader.specs.declared.recipe.Skip.TheVariants as skips
use Rattle.step_runner.specs.Entries.{HasNoted, Told, without}
use Rattle.step_runner.specs.declared.command.Command.{Command}
use Rattle.step_runner.specs.declared.entries.Seen.TheVariants as seen
use Rattle.components.specs.Fitted.{prepared_of}
use Rattle.components.specs.Components.{Components, ComponentState, At, changed_at, owner, owner_from, child_of}
use Rattle.components.specs.Turns.{IsNext, is_begun}
use Rattle.components.specs.Acts.{HasStart, MayKill}
use Rattle.components.specs.Answers.{HasHanded}
use Rattle.components.specs.Events.{handed_at, killed, refused, skipped, started}
use Rattle.components.specs.declared.kinds.Prepared.{Prepared}
use Rattle.components.proofs.Handed.{refused-handed, skipped-handed, started-handed}
use Rattle.histories.specs.Phases.{duty_of}
use Rattle.histories.specs.TraceEvents.{TraceEvent, Ran}
use Rattle.histories.specs.States.{SessionState, is_wait, leaves, state_after, ran, says_no}
use Rattle.histories.specs.Follows.{HasStep, MayRun, MayTry, IsProbeOf, IsStartOf}
use Rattle.session_boots.specs.Steps.{probe_seen}
use Rattle.law_supervisor.specs.Keeps.{Owns}
use Rattle.session_acts.specs.Laws.{Laws}
use Rattle.session_acts.specs.Runs.{IsStarting, IsWithin, MayLaunch, IsInTurn}
use Rattle.session_acts.specs.Traces.{ActsInTurn, IsActEntry}
use Rattle.session_acts.proofs.Answered.{free_is, free_killed, free_refused, free_skipped, free_started, is_free}
use Rattle.session_acts.proofs.Entering.{IsRunAfter, entry, moment_killed, moment_started, ran_in_turn, turn_none, within_on}
use Rattle.session_acts.proofs.Living.{lives_cons, lives_without}

-- ---- one component

at_some : (o : Option ComponentState) (P Q : ComponentState → Type 0) → ((p : ComponentState) → P p → Q p) → IsSomeAnd o P → IsSomeAnd o Q
at_some None P Q f h = absurd h
at_some (Some p) P Q f h = f p h

pub at_both : (o : Option ComponentState) (P Q : ComponentState → Type 0) → IsSomeAnd o P → IsSomeAnd o Q → IsSomeAnd o (λ p. P p × Q p)
at_both None P Q h k = absurd h
at_both (Some p) P Q h k = (h, k)

-- what holds of the component, where it was changed
pub at_changed : (k : ℕ) (f : ComponentState → ComponentState) (ps : List ComponentState) (P Q : ComponentState → Type 0) →
    ((p : ComponentState) → P p → Q (f p)) → At k P ps → At k Q (changed_at k f ps)
at_changed k f [] P Q g h = absurd h
at_changed zero f (p ∷ ps) P Q g h = g p h
at_changed (suc k) f (p ∷ ps) P Q g h = at_changed k f ps P Q g h

-- and where it was before
pub at_before : (k : ℕ) (f : ComponentState → ComponentState) (ps : List ComponentState) (P Q : ComponentState → Type 0) →
    ((p : ComponentState) → Q (f p) → P p) → At k Q (changed_at k f ps) → At k P ps
at_before k f [] P Q g h = absurd h
at_before zero f (p ∷ ps) P Q g h = g p h
at_before (suc k) f (p ∷ ps) P Q g h = at_before k f ps P Q g h

abbrev hand : ComponentState → ComponentState
hand p = record p { handed = true }

owner_at : (j k n : ℕ) (ps : List ComponentState) → owner_from j n (changed_at k hand ps) ≡ owner_from j n ps
owner_at j k n [] = refl
owner_at j zero n (p ∷ ps) = refl
owner_at j (suc k) n (p ∷ ps) = ap (λ (o : Option (ℕ × Step)). elim (child_of n p.children) [ None ↦ o | Some c ↦ Some (j, c.of) ]) (owner_at (j + 1) k n ps)

pub owner_handed : (k n : ℕ) (w : Components) → owner n (handed_at k w).parts ≡ owner n w.parts
owner_handed k n w = owner_at 0 k n w.parts

-- its start was handed out, which is to be answered
pub has_handed : (k : ℕ) (t : Step) (w : Components) → At k (HasStart t) w.parts → HasHanded k t (handed_at k w)
has_handed k t w start = at_changed k hand w.parts (HasStart t) (λ p. (p.handed ≡ true) × (is_begun t p ≡ true)) (λ p h. (refl, h.begun)) start

pub handed_world : (k : ℕ) (t : Step) (v w : Components) → v ≡ handed_at k w → At k (HasStart t) w.parts → HasHanded k t v
handed_world k t v w is start = subst (λ (x : Components). HasHanded k t x) (sym is) (has_handed k t w start)

pub prepared_world : (k : ℕ) (t : Step) (v w : Components) → v ≡ handed_at k w → At k (HasStart t) w.parts → At k (λ p. IsSome (prepared_of p.fitted t)) v.parts
prepared_world k t v w is start =
    subst (λ (x : Components). At k (λ p. IsSome (prepared_of p.fitted t)) x.parts) (sym is)
    (at_changed k hand w.parts (HasStart t) (λ p. IsSome (prepared_of p.fitted t)) (λ p h. h.prepared) start)

-- what the supervisor tells of the step
abbrev pub ToldAt : Components → ℕ → (ComponentState → Type 0) → Type 0
ToldAt v k P = At k P v.parts

pub told_before : (k : ℕ) (v w : Components) (P : ComponentState → Type 0) → v ≡ handed_at k w → ((p : ComponentState) → P (hand p) → P p) → At k P v.parts →
    At k P w.parts
told_before k v w P is g h = at_before k hand w.parts P P g (subst (λ (x : Components). At k P x.parts) is h)

-- ---- a probe

has_step : (p : ComponentState) (t : Step) (P : Prepared → Type 0) → ((m : Prepared) → prepared_of p.fitted t ≡ Some m → P m) →
    IsSome (prepared_of p.fitted t) → HasStep p t P
has_step p t P f some = by (prepared_of p.fitted t) refl some
  where
    by : (o : Option Prepared) → prepared_of p.fitted t ≡ o → IsSome o → IsSomeAnd o P
    by None is h = absurd cc
    by (Some m) is h = f m is

abbrev pub SkipIs : Step → Option Skip → ComponentState → Type 0
SkipIs t x p = option_and_then (λ m. m.skip) (prepared_of p.fitted t) ≡ x

of_skip : (o : Option Prepared) (x : Option Skip) (P : Prepared → Type 0) → IsSome o → option_and_then (λ m. m.skip) o ≡ x →
    ((m : Prepared) → m.skip ≡ x → P m) → IsSomeAnd o P
of_skip None x P some is f = absurd cc
of_skip (Some m) x P some is f = f m is

try_at : (t : Step) (x : Option Skip) (P : Prepared → Type 0) → ((m : Prepared) → m.skip ≡ x → P m) → (q : ComponentState) → HasStart t q × SkipIs t x q →
    (is_begun t q ≡ true) × HasStep q t P
try_at t x P f q h = (h.0.begun, of_skip (prepared_of q.fitted t) x P h.0.prepared h.1 f)

abbrev Asks : ℕ → Step → Option Skip → Components → Type 0
Asks k t x w = At k (λ q. HasStart t q × SkipIs t x q) w.parts

pub asks : (k : ℕ) (t : Step) (x : Option Skip) (v w : Components) → v ≡ handed_at k w → At k (HasStart t) w.parts → At k (SkipIs t x) v.parts → Asks k t x w
asks k t x v w is start told = at_both (slice_get w.parts k) (HasStart t) (SkipIs t x) start (told_before k v w (SkipIs t x) is (λ p h. h) told)

may_probe : (p : SessionState) (k : ℕ) (t : Step) (x : Skip) → IsNext p.world k → p.probed ≡ false → Asks k t (Some x) p.world → MayTry p k t (IsProbeOf p x)
may_probe p k t x next probed a = (
  next,
  at_some (slice_get p.world.parts k) (λ q. HasStart t q × SkipIs t (Some x) q) (λ q. (is_begun t q ≡ true) × HasStep q t (IsProbeOf p x))
      (try_at t (Some x) (IsProbeOf p x) (λ m is. (is, probed))) a,
)

may_run_probe : (p : SessionState) (k : ℕ) (t : Step) (x : Skip) (b : Bool) → MayTry p k t (IsProbeOf p x) → MayRun (duty_of p.device) p (probe_seen x b) k t
may_run_probe p k t (skips.Exists x) b may = may
may_run_probe p k t (skips.OnPath x) b may = may

-- the components once a step was skipped
skip_after : Laws → (p : SessionState) (told : Told) (living : List ℕ) (k : ℕ) (t : Step) (x : Skip) → IsWithin p told living → IsNext p.world k →
    IsRunAfter p (probe_seen x true) k t living
skip_after laws p told living k t (skips.Exists x) w next = record {
  moment = refl;
  orderly = laws.keeps_skipped k p.world w.orderly;
  answered = free_is (skipped k p.world) (free_skipped k p.world (is_free p.world w.answered));
  children = λ n. subst (λ (o : Option (ℕ × Step)). Contains living n ↔ IsSome o) (sym (laws.owner_skipped k n p.world)) (w.children n);
}
skip_after laws p told living k t (skips.OnPath x) w next = record {
  moment = refl;
  orderly = laws.keeps_skipped k p.world w.orderly;
  answered = free_is (skipped k p.world) (free_skipped k p.world (is_free p.world w.answered));
  children = λ n. subst (λ (o : Option (ℕ × Step)). Contains living n ↔ IsSome o) (sym (laws.owner_skipped k n p.world)) (w.children n);
}

skip_world : (p : SessionState) (k : ℕ) (t : Step) (x : Skip) → ran (probe_seen x true) k t p.world ≡ skipped k p.world
skip_world p k t (skips.Exists x) = refl
skip_world p k t (skips.OnPath x) = refl

pub record Skipped (p : SessionState) (k : ℕ) (world : Components) (old new : Told) (living : List ℕ) : Type 0 where
  pub h : List TraceEvent
  pub acts : ActsInTurn p h old.list new.list
  pub runs : IsInTurn (state_after p h) (skipped k world) new living

probe_entry : (p : SessionState) (x : Skip) (b : Bool) → IsActEntry p (probe_seen x b)
probe_entry p (skips.Exists x) b = tt
probe_entry p (skips.OnPath x) b = tt

probe_waits : (x : Skip) (b : Bool) → is_wait (probe_seen x b) ≡ false
probe_waits (skips.Exists x) b = refl
probe_waits (skips.OnPath x) b = refl

says : (x : Skip) (b : Bool) → says_no (probe_seen x b) ≡ not b
says (skips.Exists x) true = refl
says (skips.Exists x) false = refl
says (skips.OnPath x) true = refl
says (skips.OnPath x) false = refl

-- it says that the step is to be skipped
pub probe_yes : Laws → (p : SessionState) (k : ℕ) (t : Step) (x : Skip) (world : Components) (old new : Told) (living next : List ℕ) →
    IsStarting p k t world old living → At k (SkipIs t (Some x)) world.parts → HasNoted old new (probe_seen x true) → next ≡ living
    → Skipped p k world old new next
probe_yes laws p k t x world old new living next s told notes same =
    let seen = probe_seen x true in
    let may = may_run_probe p k t x true (may_probe p k t x s.next s.probed (asks k t (Some x) world p.world s.world_is s.start told)) in
    record {
      h = Ran (entry old seen) k t ∷ [];
      acts = ran_in_turn p old new living seen k t s.within may notes (probe_entry p x true);
      runs = record {
        within = subst (λ (l : List ℕ). IsWithin (leaves p (Ran (entry old seen) k t)) new l) (sym same)
            (within_on p old new seen k t living living s.within notes (probe_waits x true) (skip_after laws p old living k t x s.within s.next));
        probed = says x true;
        world_is = ap (λ (w : Components). skipped k w) s.world_is ∙ skipped-handed k p.world ∙ sym (skip_world p k t x);
      };
    }

pub record Launches (p : SessionState) (k : ℕ) (t : Step) (world : Components) (old new : Told) (living : List ℕ) : Type 0 where
  pub h : List TraceEvent
  pub acts : ActsInTurn p h old.list new.list
  pub may : MayLaunch (state_after p h) k t world new living

same_world : (p : SessionState) (k : ℕ) (t : Step) (x : Skip) → ran (probe_seen x false) k t p.world ≡ p.world
same_world p k t (skips.Exists x) = refl
same_world p k t (skips.OnPath x) = refl

no_after : (p : SessionState) (told : Told) (living : List ℕ) (k : ℕ) (t : Step) (x : Skip) → IsWithin p told living →
    IsRunAfter p (probe_seen x false) k t living
no_after p told living k t (skips.Exists x) w = record { moment = refl; orderly = w.orderly; answered = w.answered; children = w.children }
no_after p told living k t (skips.OnPath x) w = record { moment = refl; orderly = w.orderly; answered = w.answered; children = w.children }

-- it says no
pub probe_no : (p : SessionState) (k : ℕ) (t : Step) (x : Skip) (world : Components) (old new : Told) (living next : List ℕ) →
    IsStarting p k t world old living → At k (SkipIs t (Some x)) world.parts → HasNoted old new (probe_seen x false) → next ≡ living
    → Launches p k t world old new next
probe_no p k t x world old new living next s told notes same =
    let seen = probe_seen x false in
    let q = leaves p (Ran (entry old seen) k t) in
    let a = asks k t (Some x) world p.world s.world_is s.start told in
    let may = may_run_probe p k t x false (may_probe p k t x s.next s.probed a) in
    let is : q.world ≡ p.world = same_world p k t x in
    let asked : At k (λ r. HasStep r t (λ m. (m.skip ≡ None) ⊎ (q.probed ≡ true))) p.world.parts =
    at_some (slice_get p.world.parts k) (λ r. HasStart t r × SkipIs t (Some x) r) (λ r. HasStep r t (λ m. (m.skip ≡ None) ⊎ (q.probed ≡ true)))
    (λ r h. (try_at t (Some x) (λ m. (m.skip ≡ None) ⊎ (q.probed ≡ true)) (λ m is. inr (says x false)) r h).1) a in
    record {
      h = Ran (entry old seen) k t ∷ [];
      acts = ran_in_turn p old new living seen k t s.within may notes (probe_entry p x false);
      may = record {
        within = subst (λ (l : List ℕ). IsWithin q new l) (sym same)
            (within_on p old new seen k t living living s.within notes (probe_waits x false) (no_after p old living k t x s.within));
        world_is = s.world_is ∙ ap (λ (w : Components). handed_at k w) (sym is);
        next = subst (λ (w : Components). IsNext w k) (sym is) s.next;
        start = subst (λ (w : Components). At k (HasStart t) w.parts) (sym is) s.start;
        asked = subst (λ (w : Components). At k (λ r. HasStep r t (λ m. (m.skip ≡ None) ⊎ (q.probed ≡ true))) w.parts) (sym is) asked;
      };
    }

-- the step has none
pub no_probe : (p : SessionState) (k : ℕ) (t : Step) (world : Components) (told : Told) (living : List ℕ) → IsStarting p k t world told living →
    At k (SkipIs t None) world.parts → Launches p k t world told told living
no_probe p k t world told living s is =
    let a = asks k t None world p.world s.world_is s.start is in
    record {
      h = [];
      acts = turn_none p told.list told.list refl;
      may = record {
        within = s.within;
        world_is = s.world_is;
        next = s.next;
        start = s.start;
        asked = at_some (slice_get p.world.parts k) (λ r. HasStart t r × SkipIs t None r) (λ r. HasStep r t (λ m. (m.skip ≡ None) ⊎ (p.probed ≡ true)))
            (λ r h. (try_at t None (λ m. (m.skip ≡ None) ⊎ (p.probed ≡ true)) (λ m is. inl is) r h).1) a;
      };
    }

-- ---- a start

abbrev pub CommandIs : Step → Command → ComponentState → Type 0
CommandIs t c p = option_map (λ m. m.command) (prepared_of p.fitted t) ≡ Some c

some_same : {A : Type 0} (a b : A) → Some a ≡ Some b → a ≡ b
some_same a b is = ap (λ (o : Option _). elim o [ None ↦ a | Some x ↦ x ]) is

of_start : (o : Option Prepared) (c : Command) (P : Prepared → Type 0) → IsSomeAnd o P → option_map (λ m. m.command) o ≡ Some c →
    IsSomeAnd o (λ m. (c ≡ m.command) × P m)
of_start None c P h is = absurd h
of_start (Some m) c P h is = (sym (some_same m.command c is), h)

may_start : (p : SessionState) (k : ℕ) (t : Step) (c : Command) (world : Components) (told : Told) (living : List ℕ) → MayLaunch p k t world told living →
    At k (CommandIs t c) world.parts → MayTry p k t (IsStartOf p c)
may_start p k t c world told living m is =
    let before = told_before k world p.world (CommandIs t c) m.world_is (λ q h. h) is in
    let all = at_both (slice_get p.world.parts k) (HasStart t) (λ q. HasStep q t (λ m. (m.skip ≡ None) ⊎ (p.probed ≡ true)) × CommandIs t c q) m.start
    (at_both (slice_get p.world.parts k) (λ q. HasStep q t (λ m. (m.skip ≡ None) ⊎ (p.probed ≡ true))) (CommandIs t c) m.asked before) in (
      m.next,
      at_some (slice_get p.world.parts k) (λ q. HasStart t q × (HasStep q t (λ m. (m.skip ≡ None) ⊎ (p.probed ≡ true)) × CommandIs t c q))
          (λ q. (is_begun t q ≡ true) × HasStep q t (IsStartOf p c))
          (λ q h. (h.0.begun, of_start (prepared_of q.fitted t) c (λ m. (m.skip ≡ None) ⊎ (p.probed ≡ true)) h.1.0 h.1.1)) all,
    )

pub record Launched (p : SessionState) (world : Components) (old new : Told) (living : List ℕ) : Type 0 where
  pub h : List TraceEvent
  pub acts : ActsInTurn p h old.list new.list
  pub runs : IsInTurn (state_after p h) world new living

no_owner : (o : Option (ℕ × Step)) → (IsSome o → ⊥) → o ≡ None
no_owner None h = refl
no_owner (Some x) h = absurd (h cc)

-- the number of a child that was started is new
pub is_new : (p : SessionState) (told : Told) (living : List ℕ) (n : ℕ) → IsWithin p told living → (Contains living n → ⊥) → owner n p.world.parts ≡ None
is_new p told living n w fresh = no_owner (owner n p.world.parts) (λ h. fresh ((w.children n).1 h))

or_on : {A B C : Type 0} (f : A → B) → C ⊎ A → C ⊎ B
or_on f (inl c) = inl c
or_on f (inr a) = inr (f a)

either : {A B C : Type 0} → A ↔ B → (C ⊎ A) ↔ (C ⊎ B)
either e = ((λ h. or_on e.0 h), (λ h. or_on e.1 h))

pub through : {A B C : Type 0} → A ↔ B → B ↔ C → A ↔ C
through e f = ((λ h. f.0 (e.0 h)), (λ h. e.1 (f.1 h)))

pub back : {A B : Type 0} → A ↔ B → B ↔ A
back e = (e.1, e.0)

there_is : (k : ℕ) (t : Step) (w : Components) → At k (HasStart t) w.parts → At k (λ p. ⊤) w.parts
there_is k t w h = at_some (slice_get w.parts k) (HasStart t) (λ p. ⊤) (λ p h. tt) h

pub start_runs : Laws → (p : SessionState) (k : ℕ) (t : Step) (n : ℕ) (c : Command) (world : Components) (old new : Told) (living next : List ℕ) →
    MayLaunch p k t world old living → At k (CommandIs t c) world.parts
    → HasNoted old new (seen.Started n c) → next ≡ n ∷ living → (Contains living n → ⊥) → Launched p (started k t n world) old new next
start_runs laws p k t n c world old new living next m is notes lives fresh =
    let w = p.world in
    let owner = is_new p old living n m.within fresh in
    record {
      h = Ran (entry old (seen.Started n c)) k t ∷ [];
      acts = ran_in_turn p old new living (seen.Started n c) k t m.within (may_start p k t c world old living m is) notes owner;
      runs = record {
        within = within_on p old new (seen.Started n c) k t living next m.within notes refl (record {
          moment = moment_started k t n w;
          orderly = laws.keeps_started k t n w owner m.within.orderly;
          answered = free_is (started k t n w) (free_started k t n w (is_free w m.within.answered));
          children = λ j. subst (λ (l : List ℕ). Contains l j ↔ Owns (started k t n w) j) (sym lives)
              (through (through (lives_cons n living j) (either (m.within.children j))) (back (laws.owner_started k t n j w (there_is k t w m.start))));
        });
        probed = refl;
        world_is = ap (λ (v : Components). started k t n v) m.world_is ∙ started-handed k t n w;
      };
    }

pub refuse_runs : Laws → (p : SessionState) (k : ℕ) (t : Step) (c : Command) (world : Components) (old new : Told) (living next : List ℕ) →
    MayLaunch p k t world old living → At k (CommandIs t c) world.parts
    → HasNoted old new (seen.Refused c) → next ≡ living → Launched p (refused k t world) old new next
refuse_runs laws p k t c world old new living next m is notes same =
    let w = p.world in
    record {
      h = Ran (entry old (seen.Refused c)) k t ∷ [];
      acts = ran_in_turn p old new living (seen.Refused c) k t m.within (may_start p k t c world old living m is) notes tt;
      runs = record {
        within = within_on p old new (seen.Refused c) k t living next m.within notes refl (record {
          moment = refl;
          orderly = laws.keeps_refused k t w m.within.orderly;
          answered = free_is (refused k t w) (free_refused k t w (is_free w m.within.answered));
          children = λ j. subst (λ (l : List ℕ). Contains l j ↔ Owns (refused k t w) j) (sym same)
              (subst (λ (o : Option (ℕ × Step)). Contains living j ↔ IsSome o) (sym (laws.owner_refused k t j w)) (m.within.children j));
        });
        probed = refl;
        world_is = ap (λ (v : Components). refused k t v) m.world_is ∙ refused-handed k t w;
      };
    }

-- ---- a kill

owns : (o : Option (ℕ × Step)) (x : ℕ × Step) → o ≡ Some x → IsSome o
owns o x is = subst (λ (y : Option (ℕ × Step)). IsSome y) (sym is) cc

pub kill_lives : (p : SessionState) (told : Told) (living : List ℕ) (n k : ℕ) (t : Step) → IsWithin p told living → MayKill p.world n k t → Contains living n
kill_lives p told living n k t w may = (w.children n).1 (owns (owner n p.world.parts) (k, t) may.0)

pub beside : {A B C : Type 0} → A ↔ B → (C × A) ↔ (C × B)
beside e = ((λ h. (h.0, e.0 h.1)), (λ h. (h.0, e.1 h.1)))

pub kill_runs : Laws → (p : SessionState) (n k : ℕ) (t : Step) (world : Components) (old new : Told) (living next : List ℕ) → IsWithin p old living →
    IsNext p.world k → MayKill p.world n k t → world ≡ killed n p.world
    → HasNoted old new (seen.Killed n) → next ≡ without n living → Launched p world old new next
kill_runs laws p n k t world old new living next within may_next may is notes lives =
    let w = p.world in
    record {
      h = Ran (entry old (seen.Killed n)) k t ∷ [];
      acts = ran_in_turn p old new living (seen.Killed n) k t within (may_next, may) notes tt;
      runs = record {
        within = within_on p old new (seen.Killed n) k t living next within notes refl (record {
          moment = moment_killed n w;
          orderly = laws.keeps_killed n w within.orderly;
          answered = free_is (killed n w) (free_killed n w ∙ is_free w within.answered);
          children = λ j. subst (λ (l : List ℕ). Contains l j ↔ Owns (killed n w) j) (sym lives)
              (through (through (lives_without n living j) (beside (within.children j))) (back (laws.owner_killed n j w within.orderly)));
        });
        probed = refl;
        world_is = is;
      };
    }

-- the moment of the components
pub handed_moment : (p : SessionState) (k : ℕ) (t : Step) (world : Components) (told : Told) (living : List ℕ) → MayLaunch p k t world told living →
    told.moment ≡ world.moment
handed_moment p k t world told living m = m.within.moment ∙ sym (ap (λ (w : Components). w.moment) m.world_is)

pub starting_moment : (p : SessionState) (k : ℕ) (t : Step) (world : Components) (told : Told) (living : List ℕ) → IsStarting p k t world told living →
    told.moment ≡ world.moment
starting_moment p k t world told living s = s.within.moment ∙ sym (ap (λ (w : Components). w.moment) s.world_is)
