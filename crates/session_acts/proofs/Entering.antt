-- An entry of the runner within a turn.
use Rattle.std.specs.Prelude.{ℕ, Bool, true, false, List, [], ◌∷◌, ◌++◌, Option, Some, None, Contains, IsSome, if◌then◌else◌}
use Rattle.std.specs.Option.{IsSomeAnd}
use Rattle.std.proofs.Common.{◌≡◌, ◌≤◌, ◌↔◌, ◌⊎◌, ◌∙◌, inl, inr, refl, sym, ap, subst, arith}
use Rattle.nuc_base.specs.declared.kinds.Exit.{Exit}
use Rattle.nuc_base.specs.declared.kinds.Step.{Step}
use Rattle.nuc_base.specs.declared.kinds.Step.TheVariants as step
use Rattle.device.specs.Devices.{Device}
use Rattle.lifecycle.specs.declared.kinds.LifeEvent.{LifeEvent}
use Rattle.lifecycle.specs.declared.kinds.LifeEvent.TheVariants as event
use Rattle.step_runner.specs.Entries.{HasNoted, Told}
use Rattle.step_runner.specs.declared.entries.RunnerEntry.{RunnerEntry}
use Rattle.step_runner.specs.declared.entries.Seen.{Seen}
use Rattle.components.specs.Components.{Components, Child, child_gone, owner}
use Rattle.components.specs.Lives.{lived_at}
use Rattle.components.specs.Answers.{has_answered}
use Rattle.components.specs.Events.{ended, gone_by, is_orphan_at, kill_event_at, killed, later, launched, started}
use Rattle.components.specs.Acts.{Move, MovesInOrder}
use Rattle.histories.specs.Phases.{duty_of}
use Rattle.histories.specs.TraceEvents.{TraceEvent, ReadClock, Moved, Ran}
use Rattle.histories.specs.States.{SessionState, is_wait, leaves, state_after, ran}
use Rattle.histories.specs.Follows.{MayRun}
use Rattle.histories.proofs.Joined.{left-append}
use Rattle.session_boots.specs.Traces.{ActTrace}
use Rattle.session_boots.proofs.Acting.{acts_none, acts_on, grows_none}
use Rattle.law_supervisor.specs.Sound.{IsOrderly}
use Rattle.session_acts.specs.Laws.{Laws}
use Rattle.session_acts.specs.Runs.{IsAtTurnStart, IsDriving, IsInTurn, IsWithin}
use Rattle.session_acts.specs.Traces.{ActsInTurn, AreActEvents, IsActEntry, IsActEvent}
use Rattle.session_acts.proofs.Answered.{free_is, free_moved, is_free}

pub never : (b : Bool) → b ≡ false → b ≡ true → ⊥
never b e f = absurd cc

pub later_same : (m : ℕ) (w : Components) → m ≡ w.moment → later m w ≡ w
later_same m w is = ap (λ (x : ℕ). later x w) is

-- ---- events leave the moment

moment_launched : (s : Step) (k : ℕ) (w : Components) → (launched s k w).moment ≡ w.moment
moment_launched step.Install k w = refl
moment_launched step.Run k w = refl
moment_launched step.Startup k w = refl
moment_launched step.Shutdown k w = refl
moment_launched step.Recover k w = refl
moment_launched step.Bootstrap k w = refl

pub moment_started : (k : ℕ) (s : Step) (n : ℕ) (w : Components) → (started k s n w).moment ≡ w.moment
moment_started k s n w = moment_launched s k _

moment_gone : (o : Option LifeEvent) (k : ℕ) (s : Step) (n : ℕ) (w : Components) → (gone_by o k s n w).moment ≡ w.moment
moment_gone None k s n w = refl
moment_gone (Some e) k s n w = by (is_orphan_at k s w)
  where
    by : (b : Bool) → (if b then child_gone k n w else lived_at k e (child_gone k n w)).moment ≡ w.moment
    by true = refl
    by false = refl

pub moment_killed : (n : ℕ) (w : Components) → (killed n w).moment ≡ w.moment
moment_killed n w = by (owner n w.parts)
  where
    by : (o : Option (ℕ × Step)) → (elim o as (λ x. Components) [ None ↦ w | Some o ↦ gone_by (kill_event_at o.0 o.1 n w) o.0 o.1 n w ]).moment ≡ w.moment
    by None = refl
    by (Some o) = moment_gone (kill_event_at o.0 o.1 n w) o.0 o.1 n w

pub moment_ended : (n : ℕ) (x : Exit) (w : Components) → (ended n x w).moment ≡ w.moment
moment_ended n x w = by (owner n w.parts)
  where
    by : (o : Option (ℕ × Step)) → (elim o as (λ x. Components) [ None ↦ w | Some o ↦ gone_by (Some (event.Ended o.1 x)) o.0 o.1 n w ]).moment ≡ w.moment
    by None = refl
    by (Some o) = moment_gone (Some (event.Ended o.1 x)) o.0 o.1 n w

-- ---- parts of a turn join

of_turn_append : (p : SessionState) (g h : List TraceEvent) → AreActEvents (state_after p h) g → AreActEvents p h → AreActEvents p (g ++ h)
of_turn_append p [] h a b = b
of_turn_append p (e ∷ g) h a b = (subst (λ (x : SessionState). IsActEvent x e) (sym (left-append p g h)) a.0, of_turn_append p g h a.1 b)

pub turn_none : (p : SessionState) (old new : Option (List RunnerEntry)) → new ≡ old → ActsInTurn p [] old new
turn_none p old new same = record { acts = acts_none p old new same; each = tt }

pub turn_on : (p : SessionState) (h g : List TraceEvent) (a b c : Option (List RunnerEntry)) → ActsInTurn p h a b → ActsInTurn (state_after p h) g b c →
    ActsInTurn p (g ++ h) a c
turn_on p h g a b c one two = record { acts = acts_on p h g a b c one.acts two.acts; each = of_turn_append p g h two.each one.each }

-- ---- an entry

abbrev pub entry : Told → Seen → RunnerEntry
entry old s = record { moment = old.moment; asked = old.asked; seen = s }

pub ran_acts : (p : SessionState) (old new : Told) (living : List ℕ) (s : Seen) (k : ℕ) (t : Step) → IsWithin p old living →
    MayRun (duty_of p.device) p s k t → HasNoted old new s → ActTrace p (Ran (entry old s) k t ∷ []) old.list new.list
ran_acts p old new living s k t w may notes = record {
  proper = (
    (
      (may, record { moment = w.moment; asked = w.asked; due = λ d. w.asked ∙ w.due d }, w.on.drives),
      (λ cut. absurd (never p.cut w.on.cut cut)),
      w.on.over,
    ),
    tt,
  );
  none = refl;
  list = notes.entry;
  device = refl;
}

pub ran_in_turn : (p : SessionState) (old new : Told) (living : List ℕ) (s : Seen) (k : ℕ) (t : Step) → IsWithin p old living →
    MayRun (duty_of p.device) p s k t → HasNoted old new s → IsActEntry p s → ActsInTurn p (Ran (entry old s) k t ∷ []) old.list new.list
ran_in_turn p old new living s k t w may notes is = record { acts = ran_acts p old new living s k t w may notes; each = (is, tt) }

-- the components behind it
pub record IsRunAfter (p : SessionState) (s : Seen) (k : ℕ) (t : Step) (living : List ℕ) : Type 0 where
  pub moment : (ran s k t p.world).moment ≡ p.world.moment
  pub orderly : IsOrderly (ran s k t p.world)
  pub answered : has_answered (ran s k t p.world) ≡ true
  pub children : (n : ℕ) → Contains living n ↔ IsSome (owner n (ran s k t p.world).parts)

pub on_ran : (p : SessionState) (e : RunnerEntry) (k : ℕ) (t : Step) → IsDriving p → IsDriving (leaves p (Ran e k t))
on_ran p e k t on = record { drives = on.drives; boot = on.boot; boot_end = on.boot_end; over = on.over; cut = on.cut }

-- back in the turn
pub within_on : (p : SessionState) (old new : Told) (s : Seen) (k : ℕ) (t : Step) (before living : List ℕ) → IsWithin p old before → HasNoted old new s →
    is_wait s ≡ false → IsRunAfter p s k t living
    → IsWithin (leaves p (Ran (entry old s) k t)) new living
within_on p old new s k t before living w notes wait a = record {
  on = on_ran p (entry old s) k t w.on;
  orderly = a.orderly;
  answered = a.answered;
  moment = notes.moment ∙ w.moment ∙ sym a.moment;
  asked = notes.asked;
  due = λ d. absurd (never (is_wait s) wait d);
  children = a.children;
}

-- ---- moves

-- a state with these components
pub record MovedTo (p : SessionState) (told : Told) (living : List ℕ) (list : Option (List RunnerEntry)) (v : Components) : Type 0 where
  pub h : List TraceEvent
  pub acts : ActsInTurn p h list list
  pub within : IsWithin (state_after p h) told living
  pub probed : (state_after p h).probed ≡ false
  pub world_is : (state_after p h).world ≡ v

-- moves within a turn, one after another
pub moves_on : Laws → (p : SessionState) (told : Told) (living : List ℕ) (list : Option (List RunnerEntry)) (v : Components) (ms : List Move) →
    MovesInOrder p.world ms v → IsWithin p told living → p.probed ≡ false → MovedTo p told living list v
moves_on laws p told living list v [] q w probed = record { h = []; acts = turn_none p list list refl; within = w; probed = probed; world_is = sym q }
moves_on laws p told living list v (m ∷ ms) q w probed =
    let first : List TraceEvent = Moved m.who m.what ∷ [] in
    let two = leaves p (Moved m.who m.what) in
    let alone : MovesInOrder p.world (m ∷ []) two.world = (q.0, q.1, refl) in
    let one : ActsInTurn p first list list = record {
      acts = record {
        proper = (((q.1, q.0, w.on.drives), (λ cut. absurd (never p.cut w.on.cut cut)), w.on.over), tt);
        none = refl;
        list = grows_none list list refl;
        device = refl;
      };
      each = (tt, tt);
    } in
    let next : IsWithin two told living = record {
      on = record { drives = w.on.drives; boot = w.on.boot; boot_end = w.on.boot_end; over = w.on.over; cut = w.on.cut };
      orderly = laws.keeps_moved p.world two.world (m ∷ []) alone w.orderly;
      answered = free_is two.world (free_moved p.world two.world (m ∷ []) alone ∙ is_free p.world w.answered);
      moment = w.moment;
      asked = w.asked;
      due = w.due;
      children = λ n. subst (λ (o : Option (ℕ × Step)). Contains living n ↔ IsSome o) (sym (laws.owner_moved n p.world two.world (m ∷ []) alone))
          (w.children n);
    } in
    let rest = moves_on laws two told living list v ms q.2 next refl in
    record {
      h = rest.h ++ first;
      acts = turn_on p first rest.h list list list one rest.acts;
      within = subst (λ (s : SessionState). IsWithin s told living) (sym (left-append p rest.h first)) rest.within;
      probed = ap (λ (x : SessionState). x.probed) (left-append p rest.h first) ∙ rest.probed;
      world_is = ap (λ (x : SessionState). x.world) (left-append p rest.h first) ∙ rest.world_is;
    }

-- ---- a turn's start

pub no_boot : (o : Option Child) (n : ℕ) → o ≡ None → IsSomeAnd o (λ (c : Child). c.number ≡ n) → ⊥
no_boot o n is h = subst (λ (x : Option Child). IsSomeAnd x (λ (c : Child). c.number ≡ n)) is h

pub without_boot : {A B : Type 0} → (B → ⊥) → A ⊎ B → A
without_boot never (inl a) = a
without_boot never (inr b) = absurd (never b)

pub pass_runs : Laws → (p : SessionState) (d : Device) (world : Components) (old new : Told) (living next : List ℕ) (now : ℕ) →
    IsAtTurnStart p d world old living → new.moment ≡ now → new.asked ≡ true → next ≡ living
    → IsInTurn (leaves p (ReadClock now)) (later now world) new next
pass_runs laws p d world old new living next now c moment asked same =
    let s = c.stands in
    record {
      within = record {
        on = record { drives = c.on.drives; boot = c.on.boot; boot_end = c.on.boot_end; over = c.on.over; cut = c.on.cut };
        orderly = laws.keeps_later now p.world c.orderly;
        answered = subst (λ (w : Components). has_answered (later now w) ≡ true) (sym s.world_is) s.answered;
        moment = moment;
        asked = asked;
        due = λ d. refl;
        children = λ n. subst (λ (l : List ℕ). Contains l n ↔ IsSome (owner n p.world.parts)) (sym same)
            ((λ h. without_boot (no_boot p.boot n c.on.boot) ((s.children n).0 h)), (λ h. (s.children n).1 (inl h)));
      };
      probed = refl;
      world_is = sym (ap (λ (w : Components). later now w) s.world_is);
    }

pub pass_acts : (p : SessionState) (d : Device) (world : Components) (old : Told) (living : List ℕ) (now : ℕ) (list new : Option (List RunnerEntry)) →
    IsAtTurnStart p d world old living → old.moment ≤ now → new ≡ list → ActsInTurn p (ReadClock now ∷ []) list new
pass_acts p d world old living now list new c later_on same = record {
  acts = record {
    proper = ((subst (λ (w : Components). w.moment ≤ now) (sym c.stands.world_is) later_on, (λ cut. absurd (never p.cut c.on.cut cut)), c.on.over), tt);
    none = refl;
    list = grows_none list new same;
    device = refl;
  };
  each = (tt, tt);
}

-- back at a start
pub comes_of : (p : SessionState) (d : Device) (world : Components) (told : Told) (living : List ℕ) → IsInTurn p world told living → p.device ≡ d →
    IsAtTurnStart p d world told living
comes_of p d world told living r device =
    let w = r.within in
    record {
      stands = record {
        device_is = device;
        world_is = sym (later_same told.moment p.world w.moment) ∙ ap (λ (x : Components). later told.moment x) (sym r.world_is);
        answered = ap (λ (x : Components). has_answered x) r.world_is ∙ w.answered;
        not_before = omega (arith, w.moment, ap (λ (x : Components). x.moment) r.world_is);
        asked = w.asked;
        children = λ n. ((λ h. inl ((w.children n).0 h)), (λ h. (w.children n).1 (without_boot (no_boot p.boot n w.on.boot) h)));
      };
      on = w.on;
      orderly = w.orderly;
    }
