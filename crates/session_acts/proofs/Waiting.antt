-- A wait, and what comes of it.
use Rattle.std.specs.Prelude.{ℕ, List, Option, Some, None, Contains, IsSome}
use Rattle.std.proofs.Common.{◌≡◌, ◌↔◌, ◌∙◌, inl, refl, sym, ap, subst, arith}
use Rattle.nuc_base.specs.declared.kinds.Exit.{Exit}
use Rattle.nuc_base.specs.declared.kinds.Step.{Step}
use Rattle.step_runner.specs.Entries.{HasNoted, Told, without}
use Rattle.step_runner.specs.declared.entries.Seen.TheVariants as seen
use Rattle.components.specs.Components.{Components, owner}
use Rattle.components.specs.Answers.{has_answered}
use Rattle.components.specs.Events.{ended, later}
use Rattle.histories.specs.TraceEvents.{TraceEvent, Ran, WaitElapsed}
use Rattle.histories.specs.States.{SessionState, leaves}
use Rattle.law_supervisor.specs.Keeps.{Owns}
use Rattle.session_acts.specs.Laws.{Laws}
use Rattle.session_acts.specs.Runs.{IsAtTurnStart, IsInTurn}
use Rattle.session_acts.specs.Waits.{IsReadyToWait, WaitsOnce}
use Rattle.session_acts.proofs.Answered.{free_ended, free_is, is_free}
use Rattle.session_acts.proofs.Entering.{entry, later_same, moment_ended, never, no_boot, on_ran, ran_acts, without_boot}
use Rattle.session_acts.proofs.Living.{lives_without}
use Rattle.session_acts.proofs.Starting.{back, beside, through}

pub record Waited (p : SessionState) (world : Components) (old new : Told) (living : List ℕ) : Type 0 where
  pub event : TraceEvent
  pub once : WaitsOnce p event old.list new.list
  pub left : IsAtTurnStart (leaves p event) p.device world new living

pub elapsed : (p : SessionState) (world : Components) (old new : Told) (living next : List ℕ) (limit : ℕ) → IsReadyToWait p limit world old living →
    HasNoted old new (seen.Elapsed limit) → next ≡ living → Waited p world old new next
elapsed p world old new living next limit s notes same =
    let w = s.runs.within in
    let at : new.moment ≡ p.world.moment = notes.moment ∙ w.moment in
    record {
      event = WaitElapsed (entry old (seen.Elapsed limit));
      once = record {
        acts = record {
          proper = (
            (
              (s.may, record { moment = w.moment; asked = w.asked; due = λ d. w.asked ∙ w.due d }),
              (λ cut. absurd (never p.cut w.on.cut cut)),
              w.on.over,
            ),
            tt,
          );
          none = refl;
          list = notes.entry;
          device = refl;
        };
        wait = refl;
      };
      left = record {
        stands = record {
          device_is = refl;
          world_is = sym (later_same new.moment p.world at) ∙ ap (λ (v : Components). later new.moment v) (sym s.runs.world_is);
          answered = ap (λ (v : Components). has_answered v) s.runs.world_is ∙ w.answered;
          not_before = omega (arith, at, ap (λ (v : Components). v.moment) s.runs.world_is);
          asked = notes.asked;
          children = λ n. (
            (λ h. inl ((w.children n).0 (subst (λ (l : List ℕ). Contains l n) same h))),
            (λ h. subst (λ (l : List ℕ). Contains l n) (sym same) ((w.children n).1 (without_boot (no_boot p.boot n w.on.boot) h))),
          );
        };
        on = record { drives = w.on.drives; boot = w.on.boot; boot_end = w.on.boot_end; over = w.on.over; cut = w.on.cut };
        orderly = w.orderly;
      };
    }

-- whose child it is
is_owned : (o : Option (ℕ × Step)) → IsSome o → (x : ℕ × Step) × (o ≡ Some x)
is_owned None h = absurd cc
is_owned (Some x) h = (x, refl)

pub owns_world : (p : SessionState) (world : Components) (told : Told) (living : List ℕ) (n : ℕ) → IsInTurn p world told living → Contains living n →
    IsSome (owner n world.parts)
owns_world p world told living n r lives = subst (λ (v : Components). IsSome (owner n v.parts)) (sym r.world_is) ((r.within.children n).0 lives)

pub ends : Laws → (p : SessionState) (world : Components) (old new : Told) (living next : List ℕ) (n : ℕ) (x : Exit) (limit now : ℕ) →
    IsReadyToWait p limit world old living → old.moment ≡ now → HasNoted old new (seen.Ended n x limit) → Contains living n → next ≡ without n living →
    Waited p (ended n x (later now world)) old new next
ends laws p world old new living next n x limit now s moment notes lives same =
    let w = s.runs.within in
    let own = is_owned (owner n p.world.parts) ((w.children n).0 lives) in
    let k = own.0.0 in
    let t = own.0.1 in
    let e = entry old (seen.Ended n x limit) in
    let at : new.moment ≡ p.world.moment = notes.moment ∙ w.moment in
    let after : ended n x (later now world) ≡ ended n x p.world =
    ap (λ (v : Components). ended n x (later now v)) s.runs.world_is ∙ ap (λ (v : Components). ended n x v) (later_same now p.world (sym moment ∙ w.moment)) in
    let same_moment = moment_ended n x p.world in
    let child : (j : ℕ) → Contains next j ↔ Owns (ended n x p.world) j = λ j. subst (λ (l : List ℕ). Contains l j ↔ Owns (ended n x p.world) j) (sym same)
    (through (through (lives_without n living j) (beside (w.children j))) (back (laws.owner_ended n j x p.world w.orderly))) in
    record {
      event = Ran e k t;
      once = record { acts = ran_acts p old new living (seen.Ended n x limit) k t w (s.may, own.1) notes; wait = refl };
      left = record {
        stands = record {
          device_is = refl;
          world_is = sym (later_same new.moment (ended n x p.world) (at ∙ sym same_moment)) ∙ ap (λ (v : Components). later new.moment v) (sym after);
          answered = ap (λ (v : Components). has_answered v) after ∙ free_is (ended n x p.world) (free_ended n x p.world ∙ is_free p.world w.answered);
          not_before = omega (arith, at, same_moment, ap (λ (v : Components). v.moment) after);
          asked = notes.asked;
          children = λ j. ((λ h. inl ((child j).0 h)), (λ h. (child j).1 (without_boot (no_boot p.boot j w.on.boot) h)));
        };
        on = on_ran p e k t w.on;
        orderly = laws.keeps_ended n x p.world w.orderly;
      };
    }
