-- The set is brought up.
use Rattle.std.specs.Prelude.{◌↔◌, ℕ, Bool, true, false, ◌||◌, List, [], ◌∷◌, Option, Some, None}
use Rattle.std.proofs.Common.{◌≡◌, ◌∙◌, inl, inr, refl, sym, ap, subst}
use Rattle.std.proofs.lemmas.Bool.{false≢true}
use Rattle.records.specs.declared.record.Origin.{Origin}
use Rattle.device.specs.Devices.{Device, Pending}
use Rattle.device.specs.Lawful.{no_failures}
use Rattle.step_runner.specs.Entries.{Told}
use Rattle.components.specs.Answers.{has_answered}
use Rattle.components.specs.Changes.{changed_to}
use Rattle.components.specs.Components.{Components}
use Rattle.components.specs.Fitted.{Fitted}
use Rattle.components.specs.Made.{AreFitted}
use Rattle.components.specs.Marks.{HasFirst}
use Rattle.histories.specs.Follows.{MayChange, MayFollow}
use Rattle.histories.specs.Phases.{Duty, duty_of, idle, is_idle}
use Rattle.histories.specs.States.{SessionState, state_after}
use Rattle.histories.specs.TraceEvents.{TraceEvent, Changed}
use Rattle.law_serving.proofs.Records.{idle_is}
use Rattle.law_supervisor.specs.Keeps.{Owns}
use Rattle.law_supervisor.specs.Sound.{IsOrderly}
use Rattle.session_boots.specs.Traces.{ActTrace}
use Rattle.session_boots.proofs.Acting.{grows_none}
use Rattle.session_steady.specs.Serves.{IsServing}
use Rattle.session_transitions.proofs.Rising.{none_begun}
use Rattle.session_transitions.proofs.Shut.{changed_answered}
use Rattle.session_serving.specs.Pauses.{IsChangeAlone}
use Rattle.session_serving.specs.States.{IsUnopened}

-- ---- where nothing is pending

abbrev idle_duty : Device → Duty
idle_duty d = record { origin = d.origin; phase = idle; items = d.set; counts = no_failures; boots = []; next_bootstrap = None; begun = false }

duty_is : (d : Device) → d.pending ≡ None → duty_of d ≡ idle_duty d
duty_is d is = by d.pending is
  where
    by : (o : Option Pending) → o ≡ None → duty_of (record d { pending = o }) ≡ idle_duty (record d { pending = o })
    by None none = refl
    by (Some q) none = absurd cc

or_right : (a b : Bool) → b ≡ true → (a || b) ≡ true
or_right true b is = refl
or_right false b is = is

-- ---- the change

module _ (first : HasFirst) (d : Device) (o : Origin) (origin : d.origin ≡ Some o) (none : d.pending ≡ None) (fitted : List Fitted)
    (made : AreFitted o d.set fitted) (p : SessionState) (world : Components) (told : Told) (living : List ℕ) (u : IsUnopened p d world told living) where
  abbrev Change : TraceEvent
  Change = Changed fitted no_failures true

  may_in : MayChange (idle_duty d) p fitted no_failures true
  may_in =
      let r = u.returned in
      record {
        phase = u.may;
        origin = o;
        of_device = origin;
        made = made;
        recorded = refl;
        few = refl;
        mode = refl;
        owes_none = r.quiet.owes_none;
        answered = none_begun p.world p.world.parts r.quiet.none (ap has_answered r.stands.world_is ∙ r.stands.answered);
      }

  change_follows : MayFollow p Change
  change_follows =
      let r = u.returned in
      let same : duty_of p.device ≡ idle_duty d = ap (λ (x : Device). duty_of x) r.stands.device_is ∙ duty_is d none in
      (subst (λ (x : Duty). MayChange x p fitted no_failures true) (sym same) may_in, (λ cut. absurd (false≢true (sym r.cut ∙ cut))), r.over)

  pub opened : ((n : ℕ) → Owns (changed_to fitted no_failures true p.world) n ↔ Owns p.world n) → IsOrderly (changed_to fitted no_failures true p.world) →
      (h : List TraceEvent) × ActTrace p h told.list told.list × IsServing (state_after p h) d (changed_to fitted no_failures true world) told living
      × ((state_after p h).turns ≡ p.turns) × IsChangeAlone h
  opened owners orderly =
      let r = u.returned in
      let s = r.stands in (
        Change ∷ [],
        record { proper = (change_follows, tt); none = refl; list = grows_none told.list told.list refl; device = refl },
        record {
          stands = record {
            device_is = s.device_is;
            world_is = ap (λ (w : Components). changed_to fitted no_failures true w) s.world_is;
            answered = changed_answered first fitted no_failures true world s.answered;
            not_before = s.not_before;
            asked = s.asked;
            children = λ n. (
              (λ h. elim ((s.children n).0 h) [ inl x ↦ inl ((owners n).1 x) | inr b ↦ inr b ]),
              (λ l. (s.children n).1 (elim l [ inl x ↦ inl ((owners n).0 x) | inr b ↦ inr b ])),
            );
          };
          steady = record {
            serves = u.serves;
            idle_is = idle_is p.device (ap (λ (x : Device). x.pending) s.device_is ∙ none);
            generation = refl;
            opened = or_right p.opened (is_idle (duty_of p.device).phase) (idle_is p.device (ap (λ (x : Device). x.pending) s.device_is ∙ none));
            boot = r.boot;
            boot_end = r.boot_end;
            over = r.over;
            cut = r.cut;
          };
          done = u.done;
          orderly = orderly;
        },
        refl,
        record { fitted = fitted; is = refl },
      )
