-- One bootstrap: its beginning, its run and its end, one after the other.
use Rattle.std.specs.Prelude.{ℕ, Bool, List, [], ◌++◌, Option}
use Rattle.std.proofs.Common.{◌≡◌, ◌≤◌, ◌∙◌, sym, ap, subst}
use Rattle.disk_model.specs.Disk.{Image, DiskLaws}
use Rattle.nuc_base.specs.declared.kinds.Exit.{Exit}
use Rattle.records.specs.Stored.{Record}
use Rattle.device.specs.Devices.{Device}
use Rattle.device.specs.Standing.{StandsFor}
use Rattle.step_runner.specs.Entries.{Told}
use Rattle.step_runner.specs.declared.entries.RunnerEntry.{RunnerEntry}
use Rattle.components.specs.Components.{Components}
use Rattle.histories.specs.TraceEvents.{TraceEvent, records_of}
use Rattle.histories.specs.States.{SessionState, state_after}
use Rattle.histories.proofs.Joined.{left-append}
use Rattle.session_boots.specs.Lines.{lines_of}
use Rattle.session_boots.specs.Stands.{IsAtBootStage}
use Rattle.session_boots.specs.Steps.{HasEnd, IsEnded}
use Rattle.session_boots.specs.Traces.{ActTrace, IsTrace}
use Rattle.session_boots.proofs.Between.{has_end}
use Rattle.session_boots.proofs.Joins.{opened, records_opened}

module _ (entries : Image → List (List ℕ) → Type 0) (files : List ℕ → Type 0) {D : Type 0} (may_leave : D → Image → Type 0) (moment : D → ℕ)
    (left_since : D → ℕ → Image → Type 0) where
  -- up to the end of a bootstrap, which is still to be recorded
  pub record Ran (old mid : D) (a b : Option (List RunnerEntry)) (p : SessionState) (d : Device) (exit : Exit) (world : Components) (told : Told)
      (living : List ℕ) (h : List TraceEvent) : Type 0 where
    pub trace : IsTrace entries files may_leave moment left_since old mid a b p h
    pub none : lines_of p.device (records_of h) ≡ []
    pub end : HasEnd (state_after p h) d exit world told living

  module _ {is_modelled : Bool} {seen : D → Image} (laws : DiskLaws is_modelled seen may_leave moment left_since) where
    pub ran : (old mid : D) (p : SessionState) (d : Device) (exit : Exit) (world : Components) (told new : Told) (living next : List ℕ) (h g : List TraceEvent)
        → IsTrace entries files may_leave moment left_since old mid told.list told.list p h → lines_of p.device (records_of h) ≡ [] →
        IsAtBootStage (state_after p h) d world told living → ((c : Image) → may_leave mid c → StandsFor entries c d)
        → ActTrace (state_after p h) g told.list new.list → IsEnded (state_after p h) (state_after (state_after p h) g) exit new → told.moment ≤ new.moment →
        next ≡ []
        → Ran old mid told.list new.list p d exit world new next (g ++ h)
    ran old mid p d exit world told new living next h g trace none at_stage stands acts ended later empty = record {
      trace = opened entries files laws old mid told.list new.list p h g trace
          (λ c left. subst (λ (x : Device). StandsFor entries c x) (sym at_stage.between.stands.device_is) (stands c left)) acts;
      none = ap (λ (l : List Record). lines_of p.device l) (records_opened h g acts.none) ∙ none;
      end = subst (λ (q : SessionState). HasEnd q d exit world new next) (sym (left-append p g h))
          (has_end (state_after p h) (state_after (state_after p h) g) d world told new living next exit at_stage acts.device ended later empty);
    }
