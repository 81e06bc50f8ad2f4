-- The record that the plan's items are to run, in a history.
use Rattle.std.specs.Prelude.{ℕ, Bool, true, false, List, [], ◌∷◌, Option, Some, None, if◌then◌else◌}
use Rattle.std.specs.Option.{IsSomeAnd, option_map_or}
use Rattle.std.proofs.Common.{◌≡◌, ◌∙◌, refl, sym, ap, subst}
use Rattle.std.proofs.lemmas.Bool.{false≢true}
use Rattle.disk_model.specs.Disk.{Image, HasLeft, DiskLaws}
use Rattle.records.specs.Stored as stored
use Rattle.device.specs.Devices.{Device, Pending}
use Rattle.device.specs.Lawful.{Allowed, MayActivate, applied, next_boot, no_failures}
use Rattle.device.specs.declared.staged.Stage.{Stage}
use Rattle.device.specs.declared.staged.Stage.TheVariants as stages
use Rattle.deploy_state.specs.Fields.{has_failed}
use Rattle.deploy_state.specs.Owned.{LeavesEither}
use Rattle.deploy_state.specs.States.{IsIn}
use Rattle.step_runner.specs.Entries.{Told}
use Rattle.step_runner.specs.declared.entries.RunnerEntry.{RunnerEntry}
use Rattle.components.specs.Components.{Components, is_stopped, owner}
use Rattle.histories.specs.Phases.{Duty, draining, duty_in, duty_of, is_shutting_down, previous}
use Rattle.histories.specs.Phases as phases
use Rattle.histories.specs.TraceEvents.{TraceEvent, Recorded}
use Rattle.histories.specs.States.{SessionState, leaves}
use Rattle.histories.specs.Follows.{MayFollow}
use Rattle.law_supervisor.specs.Sound.{IsOrderly}
use Rattle.session_boots.specs.Stands.{IsOpened}
use Rattle.session_boots.specs.Traces.{IsTrace}
use Rattle.session_boots.proofs.Entries.{never}
use Rattle.session_transitions.specs.Fails.{IsGivenUp}
use Rattle.session_transitions.proofs.Closing.{no_other}
use Rattle.session_transitions.proofs.RolledBack.{back_went}

abbrev pub Begin : TraceEvent
Begin = Recorded stored.Activating

-- ---- it is lawful

none_next : (b : Bool) (o : Option (List ℕ)) → b ≡ false → (if b then None else o) ≡ None → o ≡ None
none_next true o well none = absurd (false≢true (sym well))
none_next false o well none = none

pub can_activate : (d : Device) → IsIn stages.Booting d → (duty_of d).next_bootstrap ≡ None → has_failed d ≡ false → Allowed d stored.Activating
can_activate d is none well = by d.pending is none well
  where
    in_stage : (s : Stage) (q : Pending) → s ≡ stages.Booting → (duty_in d (record q { stage = s })).next_bootstrap ≡ None → q.boot_failed ≡ false →
        next_boot (record q { stage = s }) ≡ None
    in_stage s q is none well =
        let there : Pending = record q { stage = stages.Booting } in
        let is_next : (duty_in d there).next_bootstrap ≡ None = subst (λ (x : Stage). (duty_in d (record q { stage = x })).next_bootstrap ≡ None) is none in
        subst (λ (x : Stage). next_boot (record q { stage = x }) ≡ None) (sym is) (none_next q.boot_failed (next_boot there) well is_next)

    by : (o : Option Pending) → IsSomeAnd o (λ q. q.stage ≡ stages.Booting)
        → (elim o as (λ (x : Option Pending). Duty) [
          | None ↦ record {
            origin = d.origin;
            phase = phases.idle;
            items = d.set;
            counts =
                no_failures;
            boots = [];
            next_bootstrap = None;
            begun = false;
          }
          | Some q ↦ duty_in d q
        ]).next_bootstrap ≡ None
        → option_map_or (λ q. q.boot_failed) o false ≡ false → IsSomeAnd o MayActivate
    by None is none well = absurd is
    by (Some q) is none well = (is, well, in_stage q.stage q is none well)

-- ---- in a history

goes_on : (b : Bool) → is_shutting_down (if b then draining else previous) ≡ false
goes_on true = refl
goes_on false = refl

module _ (p : SessionState) (d : Device) (world : Components) (told : Told) (living : List ℕ) (o : IsOpened p d world told living) where
  begin_follows : MayFollow p Begin
  begin_follows = (
    record { owes_none = o.quiet.owes_none; alone = o.boot; no_end = o.boot_end; on = ap is_shutting_down o.generation ∙ goes_on (is_stopped p.world) },
    (λ cut. absurd (never p.cut o.cut cut)),
    o.over,
  )

  -- the next stage begins there
  pub begun_opened : (e : Device) → e ≡ applied d stored.Activating → IsOpened (leaves p Begin) e world told living
  begun_opened e same =
      let s = o.stands in
      record {
        stands = record {
          device_is = ap (λ (x : Device). applied x stored.Activating) s.device_is ∙ sym same;
          world_is = s.world_is;
          answered = s.answered;
          not_before = s.not_before;
          asked = s.asked;
          children = s.children;
        };
        quiet = o.quiet;
        generation = refl;
        boot = o.boot;
        boot_end = o.boot_end;
        probed = refl;
        over = refl;
        cut = o.cut;
      }

  -- and the call may give up there
  pub begun_given_up : IsOrderly p.world → IsGivenUp (leaves p Begin) world told living
  begun_given_up orderly =
      let s = o.stands in
      record {
        moment = sym (ap (λ (w : Components). w.moment) s.world_is);
        asked = s.asked;
        boot = o.boot;
        boot_end = o.boot_end;
        over = refl;
        cut = o.cut;
        differ = orderly.differ;
        owners = λ n. sym (ap (λ (w : Components). owner n w.parts) s.world_is);
        children = λ n. no_other p n living o.boot (s.children n);
      }

-- ---- over a disk

module _ (entries : Image → List (List ℕ) → Type 0) (files : List ℕ → Type 0) {D : Type 0} {may_leave : D → Image → Type 0} {moment : D → ℕ} {left_since : D →
    ℕ → Image → Type 0} {is_modelled : Bool} {seen : D → Image}
    (laws : DiskLaws is_modelled seen may_leave moment left_since) where
  pub begin_went : (old new : D) (list : Option (List RunnerEntry)) (p : SessionState) (d : Device) (world : Components) (told : Told) (living : List ℕ) →
      IsOpened p d world told living → Allowed d stored.Activating
      → HasLeft moment left_since old new (LeavesEither may_leave files entries old d (applied d stored.Activating)) →
      IsTrace entries files may_leave moment left_since old new list list p (Begin ∷ [])
  begin_went old new list p d world told living o allowed notes = back_went entries files laws old new list p d stored.Activating o.stands.device_is
      (begin_follows p d world told living o) allowed notes
