-- What a change to the items of a stage makes of a state.
use Rattle.std.proofs.Common.{◌≡◌, ℕ, List, [], ◌∷◌, Option, Some, None, true, false, refl, sym, ap, subst, ◌∙◌, inl, inr}
use Rattle.std.specs.Prelude.{◌↔◌}
use Rattle.std.proofs.lemmas.Bool.{false≢true}
use Rattle.device.specs.Devices.{Device, Pending}
use Rattle.device.specs.declared.staged.Stage.{Stage}
use Rattle.device.specs.Lawful.{no_failures}
use Rattle.device.specs.declared.staged.Stage.TheVariants as stages
use Rattle.step_runner.specs.Entries.{Told}
use Rattle.components.specs.Fitted.{Fitted}
use Rattle.components.specs.Changes.{changed_to}
use Rattle.components.specs.Marks.{HasFirst}
use Rattle.components.specs.Components.{Components}
use Rattle.histories.specs.TraceEvents.{TraceEvent, Changed}
use Rattle.histories.specs.Phases.{Duty, Phase, duty_in, duty_of, is_idle, idle, booting, activating, backing, rolling}
use Rattle.histories.specs.States.{SessionState, leaves, state_after}
use Rattle.histories.specs.Follows.{MayChange, MayFollow}
use Rattle.histories.specs.Waits.{has_three}
use Rattle.session_boots.specs.Traces.{ActTrace}
use Rattle.session_boots.proofs.Acting.{grows_none}
use Rattle.session_boots.proofs.Entries.{never}
use Rattle.session_startup.specs.Runs.{IsAtTurnStart, rises}
use Rattle.law_supervisor.specs.Keeps.{IsSupervised, Owns}
use Rattle.session_transitions.specs.Enters.{AreReady, MayEnter}
use Rattle.session_transitions.proofs.Shut.{changed_answered}

abbrev idle_duty : Device → Duty
idle_duty d = record { origin = d.origin; phase = idle; items = d.set; counts = no_failures; boots = []; next_bootstrap = None; begun = false }

not_idle : (f : Phase) → rises f ≡ true → false ≡ is_idle f
not_idle idle up = absurd (false≢true up)
not_idle booting up = refl
not_idle activating up = refl
not_idle backing up = refl
not_idle rolling up = refl

-- the duty has the device's origin
duty_origin : (d : Device) (s : Stage) (q : Pending) → (duty_in d (record q { stage = s })).origin ≡ d.origin
duty_origin d stages.Booting q = refl
duty_origin d stages.Activating q = refl
duty_origin d stages.Backing q = refl
duty_origin d stages.Rolling q = refl

origin_of : (d : Device) → (duty_of d).origin ≡ d.origin
origin_of d = by d.pending
  where
    by : (x : Option Pending) → (elim x as (λ (y : Option Pending). Duty) [ None ↦ idle_duty d | Some q ↦ duty_in d q ]).origin ≡ d.origin
    by None = refl
    by (Some q) = duty_origin d q.stage q

module _ (first : HasFirst) (d : Device) (fitted : List Fitted) (counts : List ℕ) where
  abbrev Change : TraceEvent
  Change = Changed fitted counts false

  -- it may come there
  change_follows : (p : SessionState) (world : Components) (told : Told) (living : List ℕ) → MayEnter p d world told living → rises (duty_of d).phase ≡ true →
      AreReady d fitted
      → counts ≡ (duty_of d).counts → has_three counts ≡ false → MayFollow p Change
  change_follows p world told living e up ready same few =
      let back : duty_of d ≡ duty_of p.device = ap (λ (x : Device). duty_of x) (sym e.stands.device_is) in
      let may : MayChange (duty_of d) p fitted counts false = record {
        phase = e.stage;
        origin = ready.0;
        of_device = origin_of d ∙ ready.1;
        made = ready.2;
        recorded = same;
        few = few;
        mode = not_idle (duty_of d).phase up;
        owes_none = e.recorded;
        answered = e.begun;
      } in
      (subst (λ (x : Duty). MayChange x p fitted counts false) back may, (λ cut. absurd (never p.cut e.cut cut)), e.over)

  -- and leaves the items coming up
  comes : (p : SessionState) (world : Components) (told : Told) (living : List ℕ) → MayEnter p d world told living → rises (duty_of d).phase ≡ true
      → IsSupervised d (changed_to fitted counts false p.world) → ((n : ℕ) → Owns (changed_to fitted counts false p.world) n ↔ Owns p.world n)
      → IsAtTurnStart (leaves p Change) d (changed_to fitted counts false world) told living
  comes p world told living e up keeps owners =
      let s = e.stands in
      record {
        stands = record {
          device_is = s.device_is;
          world_is = ap (λ (w : Components). changed_to fitted counts false w) s.world_is;
          answered = changed_answered first fitted counts false world s.answered;
          not_before = s.not_before;
          asked = s.asked;
          children = λ n. (
            (λ h. elim ((s.children n).0 h) [ inl o ↦ inl ((owners n).1 o) | inr b ↦ inr b ]),
            (λ l. (s.children n).1 (elim l [ inl o ↦ inl ((owners n).0 o) | inr b ↦ inr b ])),
          );
        };
        on = record {
          phase = ap (λ (x : Device). rises (duty_of x).phase) s.device_is ∙ up;
          generation = refl;
          boot = e.boot;
          boot_end = e.boot_end;
          over = e.over;
          cut = e.cut;
        };
        keeps = subst (λ (x : Device). IsSupervised x (changed_to fitted counts false p.world)) (sym s.device_is) keeps;
        probed = refl;
      }

  pub entered : (p : SessionState) (world : Components) (told : Told) (living : List ℕ) → MayEnter p d world told living → rises (duty_of d).phase ≡ true →
      AreReady d fitted
      → counts ≡ (duty_of d).counts → has_three counts ≡ false
      → IsSupervised d (changed_to fitted counts false p.world) → ((n : ℕ) → Owns (changed_to fitted counts false p.world) n ↔ Owns p.world n)
      → (h : List TraceEvent) × ActTrace p h told.list told.list × IsAtTurnStart (state_after p h) d (changed_to fitted counts false world) told living
  entered p world told living e up ready same few keeps owners = (
    Change ∷ [],
    record { proper = (change_follows p world told living e up ready same few, tt); none = refl; list = grows_none told.list told.list refl; device = refl },
    comes p world told living e up keeps owners,
  )
