-- The components behind one deployment.
use Rattle.std.specs.Prelude.{ℕ, Bool, true, false, not, List, [], ◌∷◌, Option, Some, None, if◌then◌else◌}
use Rattle.std.proofs.Common.{◌≡◌, ◌∙◌, sym, ap, subst}
use Rattle.nuc_base.specs.declared.platform.Platform.{Platform}
use Rattle.records.specs.declared.record.Origin.{Origin}
use Rattle.device.specs.Devices.{Device}
use Rattle.device.specs.Lawful.{Run}
use Rattle.deploy_state.specs.States.{idle_device}
use Rattle.step_runner.specs.Entries.{Told}
use Rattle.components.specs.Changes.{standing}
use Rattle.components.specs.Components.{Components, ComponentState, is_over}
use Rattle.components.specs.Platforms.{AllRunFor}
use Rattle.histories.specs.Courses.{IsStart, IsStateOf}
use Rattle.histories.specs.Follows.{IsProper}
use Rattle.histories.specs.Phases.{duty_of, is_idle}
use Rattle.histories.specs.States.{SessionState, state_after}
use Rattle.histories.specs.TraceEvents.{TraceEvent, records_of}
use Rattle.law_serving.specs.Kept.{ComponentsRunTheirItems, IdleIsSteady}
use Rattle.law_serving.proofs.Records.{idle_is}
use Rattle.law_supervisor.specs.Sound.{IsOrderly}
use Rattle.law_termination.specs.Drives.{AreDriven}
use Rattle.law_termination.proofs.Comes.{none_drives}
use Rattle.session_transitions.specs.Enters.{RunOn}
use Rattle.session.specs.Parts.{IsBack, RanLeft}
use Rattle.session.specs.declared.ran.Ran.{Ran}
use Rattle.session.specs.declared.ran.Ran.TheVariants as ran
use Rattle.session_serving.specs.States.{AreUp}
use Rattle.session_serving.specs.Turns.{UpRan}

-- those that stand run their items
all_standing : (platform : Platform) (ps : List ComponentState) → AllRunFor platform ps → AllRunFor platform (standing ps)
all_standing platform [] a = tt
all_standing platform (p ∷ ps) a = by (not (is_over p)) (all_standing platform ps a.1)
  where
    by : (b : Bool) → AllRunFor platform (standing ps) → AllRunFor platform (if b then p ∷ standing ps else standing ps)
    by true rest = (a.0, rest)
    by false rest = rest

pub made_standing : (d : Device) (w : Components) → RunOn d w.parts → RunOn d (standing w.parts)
made_standing d w made o is = all_standing o.platform w.parts (made o is)

pub orderly_world : (p : SessionState) (w : Components) → w ≡ p.world → IsOrderly p.world → IsOrderly w
orderly_world p w is orderly = subst IsOrderly (sym is) orderly

pub one_origin : (a b : Origin) (x : Option Origin) → x ≡ Some a → x ≡ Some b → a ≡ b
one_origin a b x one two = cc

-- A device has the origin that it had, and so its components go on.
module _ (runs : ComponentsRunTheirItems) (steady : IdleIsSteady) (q : SessionState) (h : List TraceEvent) (o : Origin) (origin : q.device.origin ≡ Some o)
    (proper : IsProper q h) (run : Run q.device (records_of h) (state_after q h).device) (made : AllRunFor o.platform q.world.parts)
    (mode : is_idle (duty_of q.device).phase ≡ true → q.world.steady ≡ true) where
  pub up_behind : (d : Device) (w : Components) (told : Told) (living : List ℕ) → IsStateOf (state_after q h) d w told living →
      d.pending ≡ None → AreDriven w → AreUp d w
  up_behind d w told living s none drives =
      let all = runs q h o origin made proper run in record {
        drives = drives;
        steady = sym (ap (λ (x : Components). x.steady) s.world_is)
            ∙ steady q h mode proper run (idle_is (state_after q h).device (ap (λ (x : Device). x.pending) s.device_is ∙ none));
        made = λ e is.
            let same = one_origin o e d.origin (sym (ap (λ (x : Device). x.origin) s.device_is) ∙ all.0) is in
            subst (λ (x : Origin). AllRunFor x.platform w.parts) same
            (subst (λ (ps : List ComponentState). AllRunFor o.platform ps) (ap (λ (x : Components). x.parts) s.world_is) all.1);
      }

  pub up_ran : {J : Type 0} (r : Ran J) (rose : Bool) (before : _) (w : Components) (told : Told) (living : List ℕ) →
      RanLeft before r rose (state_after q h) w told living → (IsBack r → AreDriven w) → UpRan r w
  up_ran (ran.Back s st standing) rose before w told living left drives =
      up_behind (idle_device s) w told living left.0.stands left.0.idle_is (drives tt)
  up_ran (ran.Over st) rose before w told living left drives = tt

-- ---- where none stands

pub none_run : (o : Origin) (w : Components) → w.parts ≡ [] → AllRunFor o.platform w.parts
none_run o w none = subst (λ (ps : List ComponentState). AllRunFor o.platform ps) (sym none) tt

pub begun_steady : (p : SessionState) (d : Device) (w : Components) (told : Told) (living : List ℕ) → IsStart p → IsStateOf p d w told living → w.steady ≡ true
begun_steady p d w told living start s = sym (ap (λ (x : Components). x.steady) s.world_is) ∙ ap (λ (q : SessionState). q.world.steady) start

pub none_up : (p : SessionState) (d : Device) (w : Components) → w.parts ≡ [] → w.steady ≡ true → AreUp d w
none_up p d w none steady = record { drives = none_drives w none; steady = steady; made = λ o is. none_run o w none }
