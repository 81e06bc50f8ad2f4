-- A failure is heard of: nothing is recorded.
use Rattle.std.specs.Prelude.{ℕ, Bool, true, false, List, [], ◌∷◌, Option, Some, None, Contains, IsSome, is_some, slice_get}
use Rattle.std.specs.Option.{IsSomeAnd}
use Rattle.std.proofs.Common.{◌≡◌, ◌↔◌, ◌∙◌, refl, sym, ap, subst}
use Rattle.nuc_base.specs.declared.kinds.Exit.{Exit}
use Rattle.nuc_base.specs.declared.kinds.Step.{Step}
use Rattle.step_runner.specs.Entries.{Told}
use Rattle.step_runner.specs.declared.entries.RunnerEntry.{RunnerEntry}
use Rattle.components.specs.Acts.{OwesAt}
use Rattle.components.specs.Components.{At, ComponentState, Components, component_name, is_broken, place_of}
use Rattle.components.specs.Events.{heard_at}
use Rattle.components.specs.Turns.{owes}
use Rattle.histories.specs.Phases.{duty_of, is_idle}
use Rattle.histories.specs.TraceEvents.{Heard}
use Rattle.histories.specs.States.{SessionState, leaves}
use Rattle.session_boots.specs.Traces.{ActTrace}
use Rattle.session_boots.proofs.Acting.{grows_none}
use Rattle.session_acts.proofs.Answered.{free_is, free_told, is_free}
use Rattle.session_acts.proofs.Entering.{never}
use Rattle.session_acts.specs.Laws.{Laws}
use Rattle.session_acts.specs.Runs.{HasFailed, IsInTurn}
use Rattle.session_steady.specs.Runs.{IsSince}

owes_at : (w : Components) (k : ℕ) (s : Step) (e : Exit) (b : Bool) → OwesAt w k s e b → At k (λ q. owes q ≡ true) w.parts
owes_at w k s e b o = by (slice_get w.parts k) o
  where
    by : (x : Option ComponentState) →
        IsSomeAnd x (λ p. (p.owed ≡ Some (s, e)) × (is_broken p.life.state ≡ b) × (place_of (component_name p) w.parts ≡ Some k)) →
        IsSomeAnd x (λ q. owes q ≡ true)
    by None h = absurd h
    by (Some p) h = ap (λ (y : Option (Step × Exit)). is_some y) h.0

pub hear_acts : (p : SessionState) (k : ℕ) (s : Step) (e : Exit) (world : Components) (told : Told) (living : List ℕ) (list : Option (List RunnerEntry)) →
    HasFailed p k s e world told living → is_idle (duty_of p.device).phase ≡ true → ActTrace p (Heard k ∷ []) list list
hear_acts p k s e world told living list f idle =
    let on = f.within.on in
    record {
      proper = (
        (
          (idle, owes_at p.world k s e f.breaks f.owes),
          (λ cut. absurd (never p.cut on.cut cut)),
          on.over,
        ),
        tt,
      );
      none = refl;
      list = grows_none list list refl;
      device = refl;
    }

pub hear_runs : Laws → (p : SessionState) (k : ℕ) (s : Step) (e : Exit) (world : Components) (told : Told) (living : List ℕ) →
    HasFailed p k s e world told living → IsInTurn (leaves p (Heard k)) world told living
hear_runs laws p k s e world told living f =
    let w = f.within in
    record {
      within = record {
        on = record { drives = w.on.drives; boot = w.on.boot; boot_end = w.on.boot_end; over = w.on.over; cut = w.on.cut };
        orderly = laws.keeps_told k p.world w.orderly;
        answered = free_is (heard_at k p.world) (free_told k p.world ∙ is_free p.world w.answered);
        moment = w.moment;
        asked = w.asked;
        due = w.due;
        children = λ n. subst (λ (o : Option (ℕ × Step)). Contains living n ↔ IsSome o) (sym (laws.owner_heard n k p.world)) (w.children n);
      };
      probed = refl;
      world_is = f.world_is;
    }

pub hear_since : (p : SessionState) (k : ℕ) → IsSince p (leaves p (Heard k))
hear_since p k = (record { device = refl; generation = refl; serves = refl; opened = refl; turns = refl; taken = refl }, refl)

pub apart : true ≡ false → ⊥
apart is = absurd cc
