-- The records of a bootstrap in a history.
use Rattle.std.specs.Prelude.{ℕ, Bool, true, false, List, [], ◌∷◌, Option, is_none, is_some, if◌then◌else◌}
use Rattle.std.proofs.Common.{◌≡◌, ◌∙◌, refl, sym, ap, subst}
use Rattle.std.proofs.lemmas.List.{append-nil}
use Rattle.disk_model.specs.Disk.{Image, HasLeft, DiskLaws}
use Rattle.nuc_base.specs.declared.kinds.Exit.{Exit}
use Rattle.nuc_base.specs.declared.kinds.Step.TheVariants as steps
use Rattle.records.specs.Stored as stored
use Rattle.records.specs.Stored.{Record}
use Rattle.device.specs.Devices.{Device}
use Rattle.device.specs.Lawful.{Allowed, applied, goes_on}
use Rattle.device.specs.Standing.{StandsFor}
use Rattle.deploy_state.specs.Fields.{IsBegun}
use Rattle.deploy_state.specs.Owned.{LeavesEither}
use Rattle.step_runner.specs.Entries.{Told}
use Rattle.step_runner.specs.declared.entries.RunnerEntry.{RunnerEntry}
use Rattle.components.specs.Components.{Components}
use Rattle.histories.specs.Phases.{Generation, draining, is_shutting_down, duty_of}
use Rattle.histories.specs.Courses.{IsBare}
use Rattle.histories.specs.TraceEvents.{TraceEvent, Recorded, records_of}
use Rattle.histories.specs.States.{SessionState, leaves, state_after}
use Rattle.histories.specs.Follows.{MayFollow}
use Rattle.session_boots.specs.Booted.{restart_of}
use Rattle.session_boots.specs.Lines.{failed_line, id_of, line_of, lines_of}
use Rattle.session_boots.specs.Ends.{IsOne, LeftAt}
use Rattle.session_boots.specs.declared.ends.SessionFault.TheVariants as over
use Rattle.session_boots.specs.Stands.{IsBetween, IsAtBootStage}
use Rattle.session_boots.specs.Steps.{HasEnd}
use Rattle.session_boots.specs.Traces.{StandsForMost, IsTrace}
use Rattle.session_boots.proofs.Duties.{IsNextIn, allowed_begun, restart_is, same_id, was_begun}
use Rattle.session_boots.proofs.Entries.{never}
use Rattle.session_boots.proofs.Prefixes.{in_doubt}
use Rattle.session_boots.proofs.Acting.{acts_none}
use Rattle.session_boots.proofs.Joins.{acted, kept_one}
use Rattle.session_boots.proofs.Still.{childless}
use Rattle.session_boots.proofs.Told.{stops_last}

-- ---- that it begins

still_on : (c : Generation) → c ≡ draining → is_shutting_down c ≡ false
still_on c is = rw is refl

begin_follows : (p : SessionState) (d : Device) (world : Components) (told : Told) (living : List ℕ) (name : List ℕ) → IsAtBootStage p d world told living →
    MayFollow p (Recorded (stored.BootBegun name))
begin_follows p d world told living name f = (
  (
    record {
      owes_none = f.between.still.quiet.owes_none;
      alone = f.between.boot;
      no_end = f.between.boot_end;
      on = still_on p.generation f.between.still.generation;
    },
    f.between.still.stopped,
  ),
  (λ cut. absurd (never p.cut f.between.still.cut cut)),
  f.over,
)

pub stage_begun : (p : SessionState) (d e : Device) (world : Components) (told : Told) (living : List ℕ) (name : List ℕ) →
    IsAtBootStage p d world told living → e ≡ applied d (stored.BootBegun name)
    → IsAtBootStage (leaves p (Recorded (stored.BootBegun name))) e world told living
stage_begun p d e world told living name f same =
    let s = f.between.stands in
    record {
      between = record {
        stands = record {
          device_is = ap (λ (x : Device). applied x (stored.BootBegun name)) s.device_is ∙ sym same;
          world_is = s.world_is;
          answered = s.answered;
          not_before = s.not_before;
          asked = s.asked;
          children = s.children;
        };
        still = record { stopped = f.between.still.stopped; quiet = f.between.still.quiet; generation = f.between.still.generation; cut = f.between.still.cut };
        boot = f.between.boot;
        boot_end = f.between.boot_end;
        probed = refl;
      };
      over = refl;
    }

pub stage_bare : (p : SessionState) (d : Device) (world : Components) (told : Told) (living : List ℕ) → IsAtBootStage p d world told living → IsBare p
stage_bare p d world told living f = record { parts = childless p.world f.between.still.stopped; boot = f.between.boot }

pub bare_begun : (p : SessionState) (name : List ℕ) → IsBare p → IsBare (leaves p (Recorded (stored.BootBegun name)))
bare_begun p name b = record { parts = b.parts; boot = b.boot }

-- ---- its end

end_follows : (p : SessionState) (d : Device) (exit : Exit) (world : Components) (told : Told) (living : List ℕ) (name : List ℕ) →
    HasEnd p d exit world told living → MayFollow p (Recorded (stored.BootEnded name exit))
end_follows p d exit world told living name h = ((h.boot, h.boot_end), (λ cut. absurd (never p.cut h.still.cut cut)), h.over)

pub between_ended : (p : SessionState) (d e : Device) (exit : Exit) (world : Components) (told : Told) (living : List ℕ) (name : List ℕ) →
    HasEnd p d exit world told living → e ≡ applied d (stored.BootEnded name exit)
    → IsBetween (leaves p (Recorded (stored.BootEnded name exit))) e world told living
between_ended p d e exit world told living name h same =
    let s = h.stands in
    record {
      stands = record {
        device_is = ap (λ (x : Device). applied x (stored.BootEnded name exit)) s.device_is ∙ sym same;
        world_is = s.world_is;
        answered = s.answered;
        not_before = s.not_before;
        asked = s.asked;
        children = s.children;
      };
      still = record { stopped = h.still.stopped; quiet = h.still.quiet; generation = h.still.generation; cut = h.still.cut };
      boot = h.boot;
      boot_end = refl;
      probed = refl;
    }

pub bare_ended : (p : SessionState) (d : Device) (exit : Exit) (world : Components) (told : Told) (living : List ℕ) (name : List ℕ) →
    HasEnd p d exit world told living → IsBare (leaves p (Recorded (stored.BootEnded name exit)))
bare_ended p d exit world told living name h = record { parts = childless p.world h.still.stopped; boot = h.boot }

-- whether the call ends there
pub over_ended : (p : SessionState) (d e : Device) (exit : Exit) (name : List ℕ) → p.device ≡ d → e ≡ applied d (stored.BootEnded name exit)
    → (leaves p (Recorded (stored.BootEnded name exit))).over ≡ is_some (restart_of exit (is_none (duty_of e).next_bootstrap))
over_ended p d e exit name device same =
    restart_is exit (is_none (duty_of (applied p.device (stored.BootEnded name exit))).next_bootstrap)
    ∙ ap (λ (x : Device). is_some (restart_of exit (is_none (duty_of x).next_bootstrap)))
    (ap (λ (x : Device). applied x (stored.BootEnded name exit)) device ∙ sym same)

-- its line
same_line : (d e : Device) (name : List ℕ) (exit : Exit) → id_of e ≡ id_of d → line_of e (stored.BootEnded name exit) ≡ line_of d (stored.BootEnded name exit)
same_line d e name exit same = ap (λ (id : List ℕ). if goes_on exit then [] else failed_line id name steps.Bootstrap exit) same

pub line_ended : (p : SessionState) (d e : Device) (name : List ℕ) (exit : Exit) → p.device ≡ d → e ≡ applied d (stored.BootEnded name exit)
    → line_of e (stored.BootEnded name exit) ≡ lines_of p.device (records_of (Recorded (stored.BootEnded name exit) ∷ []))
line_ended p d e name exit device same =
    same_line p.device e name exit (ap id_of same ∙ same_id d name exit ∙ ap id_of (sym device)) ∙ sym
    (append-nil (line_of p.device (stored.BootEnded name exit)))

-- ---- over a disk

module _ (entries : Image → List (List ℕ) → Type 0) (files : List ℕ → Type 0) {D : Type 0} {may_leave : D → Image → Type 0} {moment : D → ℕ} {left_since : D →
    ℕ → Image → Type 0} {is_modelled : Bool} {seen : D → Image}
    (laws : DiskLaws is_modelled seen may_leave moment left_since) where
  abbrev Notes : D → D → Device → Record → Type 0
  Notes old new d r = HasLeft moment left_since old new (LeavesEither may_leave files entries old d (applied d r))

  pub begin_went : (old new : D) (list : Option (List RunnerEntry)) (p : SessionState) (d : Device) (world : Components) (told : Told) (living : List ℕ)
      (name : List ℕ) → IsAtBootStage p d world told living → Allowed d (stored.BootBegun name)
      → Notes old new d (stored.BootBegun name) → IsTrace entries files may_leave moment left_since old new list list p (Recorded (stored.BootBegun name) ∷ [])
  begin_went old new list p d world told living name f allowed notes =
      let same = sym f.between.stands.device_is in
      kept_one entries files laws old new list p (stored.BootBegun name) (begin_follows p d world told living name f)
      (subst (λ (x : Device). Allowed x (stored.BootBegun name)) same allowed) (subst (λ (x : Device). Notes old new x (stored.BootBegun name)) same notes)

  pub end_went : (old new : D) (list : Option (List RunnerEntry)) (p : SessionState) (d : Device) (exit : Exit) (world : Components) (told : Told)
      (living : List ℕ) (name : List ℕ) → HasEnd p d exit world told living → Allowed d (stored.BootEnded name exit)
      → Notes old new d (stored.BootEnded name exit) → IsTrace entries files may_leave moment left_since old new list list p
      (Recorded (stored.BootEnded name exit) ∷ [])
  end_went old new list p d exit world told living name h allowed notes =
      let same = sym h.stands.device_is in
      kept_one entries files laws old new list p (stored.BootEnded name exit) (end_follows p d exit world told living name h)
      (subst (λ (x : Device). Allowed x (stored.BootEnded name exit)) same allowed)
      (subst (λ (x : Device). Notes old new x (stored.BootEnded name exit)) same notes)

  -- one record that is in doubt
  pub doubt_at : (old new : D) (p : SessionState) (d : Device) (r : Record) → p.device ≡ d → Allowed d r → Notes old new d r →
      LeftAt entries may_leave new p (Recorded r ∷ []) over.Disk
  doubt_at old new p d r device allowed notes = (
    stops_last r,
    λ c left. subst (λ (x : Device). StandsForMost entries x (r ∷ []) c) (sym device)
        (in_doubt entries files laws old new d r allowed notes c left),
  )

  none_went : (old new : D) (list : Option (List RunnerEntry)) (p : SessionState) (d : Device) → ((c : Image) → may_leave old c → StandsFor entries c d) →
      p.device ≡ d → new ≡ old → IsTrace entries files may_leave moment left_since old new list list p []
  none_went old new list p d stands device same =
      subst (λ (x : D). IsTrace entries files may_leave moment left_since old x list list p []) (sym same)
      (acted entries files laws old list list p [] (λ c left. subst (λ (x : Device). StandsFor entries c x) (sym device) (stands c left))
      (acts_none p list list refl))

  -- where it was begun before nothing happens, and else its record is kept
  pub begun_went : (old new : D) (list : Option (List RunnerEntry)) (p : SessionState) (d e : Device) (world : Components) (told : Told) (living : List ℕ)
      (name : List ℕ) (t : IsNextIn d name) → IsAtBootStage p d world told living
      → ((c : Image) → may_leave old c → StandsFor entries c d) → (IsBegun d → new ≡ old) → (IsBegun d → e ≡ d) → Notes old new d (stored.BootBegun name) →
      e ≡ applied d (stored.BootBegun name)
      → (h : List TraceEvent) × IsTrace entries files may_leave moment left_since old new list list p h × (lines_of p.device (records_of h) ≡ []) ×
      IsAtBootStage (state_after p h) e world told living
  begun_went old new list p d e world told living name t f stands same_disk same_device notes same = by t.q.begun refl
    where
      by : (b : Bool) → t.q.begun ≡ b → (h : List TraceEvent) × IsTrace entries files may_leave moment left_since old new list list p h ×
          (lines_of p.device (records_of h) ≡ []) × IsAtBootStage (state_after p h) e world told living
      by true is =
          let begun = was_begun d name t is in (
            [],
            none_went old new list p d stands f.between.stands.device_is (same_disk begun),
            refl,
            subst (λ (x : Device). IsAtBootStage p x world told living) (sym (same_device begun)) f,
          )
      by false is = (
        Recorded (stored.BootBegun name) ∷ [],
        begin_went old new list p d world told living name f (allowed_begun d name t is) notes,
        refl,
        stage_begun p d e world told living name f same,
      )

  pub begun_doubt : (old new : D) (list : Option (List RunnerEntry)) (p : SessionState) (d : Device) (world : Components) (told : Told) (living : List ℕ)
      (name : List ℕ) (t : IsNextIn d name) → IsAtBootStage p d world told living
      → (IsBegun d → ⊥) → Notes old new d (stored.BootBegun name)
      → (h : List TraceEvent) × IsTrace entries files may_leave moment left_since old new list list p h × (lines_of p.device (records_of h) ≡ []) ×
      LeftAt entries may_leave new p h over.Disk × IsBare (state_after p h) × IsOne (records_of h)
  begun_doubt old new list p d world told living name t f unbegun notes = by t.q.begun refl
    where
      by : (b : Bool) → t.q.begun ≡ b
          → (h : List TraceEvent) × IsTrace entries files may_leave moment left_since old new list list p h × (lines_of p.device (records_of h) ≡ []) ×
          LeftAt entries may_leave new p h over.Disk × IsBare (state_after p h) × IsOne (records_of h)
      by true is = absurd (unbegun (was_begun d name t is))
      by false is =
          let allowed = allowed_begun d name t is in (
            Recorded (stored.BootBegun name) ∷ [],
            begin_went old new list p d world told living name f allowed notes,
            refl,
            doubt_at old new p d (stored.BootBegun name) f.between.stands.device_is allowed notes,
            bare_begun p name (stage_bare p d world told living f),
            (stored.BootBegun name, refl),
          )
