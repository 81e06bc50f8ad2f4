-- Parts of a course join.
use Rattle.std.specs.Prelude.{ℕ, Bool, List, [], ◌∷◌, ◌++◌, Option, Result, Ok, Err, OnErr}
use Rattle.std.specs.List.{AllByRecursion}
use Rattle.std.specs.Io.KnownBytes.{Appends}
use Rattle.std.proofs.Common.{◌≡◌, ◌∙◌, sym, ap, subst, append_assoc}
use Rattle.disk_model.specs.Disk.{Image, DiskLaws}
use Rattle.records.specs.Stored.{Record}
use Rattle.device.specs.Devices.{Device}
use Rattle.device.specs.Lawful.{Run}
use Rattle.device.specs.Standing.{StandsFor}
use Rattle.step_runner.specs.Entries.{HasGrownBy}
use Rattle.step_runner.specs.declared.entries.RunnerEntry.{RunnerEntry}
use Rattle.histories.specs.Courses.{IsBare}
use Rattle.histories.specs.Follows.{IsLast}
use Rattle.histories.specs.TraceEvents.{TraceEvent, Recorded, entries_of, records_of}
use Rattle.histories.specs.States.{SessionState, state_after}
use Rattle.histories.proofs.Joined.{left-append, proper-append, entries-append}
use Rattle.session_boots.specs.Lines.{lines_of}
use Rattle.session_boots.specs.Ends.{LeftAt, ResultLeft, HasLines, LinesAt, StopsAt}
use Rattle.session_boots.specs.Traces.{ActTrace, HoldsPrefixes, StandsForMost, IsTrace}
use Rattle.session_boots.specs.declared.ends.SessionFault.{SessionFault}
use Rattle.session_boots.specs.declared.ends.SessionFault.TheVariants as over
use Rattle.session_boots.proofs.Acting.{grows_on}
use Rattle.session_boots.proofs.Joins.{records_opened, went_on}
use Rattle.session_boots.proofs.Told.{all_printed, left_joined, lines_at_joined}
use Rattle.session_transitions.specs.Kills.{KeepsRest}
use Rattle.session_rollout.specs.Driven.{DrivenCourse}

-- ---- two parts, of which the first one goes on

-- what is said of a value is said of it behind an older history too
abbrev pub Holds : {A : Type 0} → (A → List TraceEvent → SessionState → Type 0) → List TraceEvent → Type 0
Holds {A} is h = (x : A) (g : List TraceEvent) (q : SessionState) → is x g q → is x (g ++ h) q

lines_of_both : {A : Type 0} (a b c : Option (List ℕ)) (p : SessionState) (h g : List TraceEvent) (r : Result A SessionFault) →
    Run p.device (records_of h) (state_after p h).device
    → Appends a b (lines_of p.device (records_of h)) → HasLines b c (state_after p h).device (records_of g) r → HasLines a c p.device (records_of (g ++ h)) r
lines_of_both a b c p h g (Ok x) run one two = all_printed a b c p h g run one two
lines_of_both a b c p h g (Err e) run one two = lines_at_joined a b c p h g e run one two

left_of_both : {A D : Type 0} (entries : Image → List (List ℕ) → Type 0) (may_leave : D → Image → Type 0) (disk : D) (p : SessionState)
    (h g : List TraceEvent) (is : A → List TraceEvent → SessionState → Type 0) (r : Result A SessionFault)
    → Run p.device (records_of h) (state_after p h).device → Holds is h → ResultLeft entries may_leave disk (state_after p h) g (λ x q. is x g q) r →
    ResultLeft entries may_leave disk p (g ++ h) (λ x q. is x (g ++ h) q) r
left_of_both entries may_leave disk p h g is (Ok x) run holds left = subst (λ (q : SessionState). is x (g ++ h) q) (sym (left-append p g h))
    (holds x g (state_after (state_after p h) g) left)
left_of_both entries may_leave disk p h g is (Err e) run holds left = left_joined entries may_leave disk p h g e run left

bare_of_both : {A : Type 0} (p : SessionState) (h g : List TraceEvent) (r : Result A SessionFault) → OnErr r (IsBare (state_after (state_after p h) g)) →
    OnErr r (IsBare (state_after p (g ++ h)))
bare_of_both p h g (Ok x) bare = tt
bare_of_both p h g (Err e) bare = subst (λ (q : SessionState). IsBare q) (sym (left-append p g h)) bare

module _ (entries : Image → List (List ℕ) → Type 0) (files : List ℕ → Type 0) {D : Type 0} {may_leave : D → Image → Type 0} {moment : D → ℕ} {left_since : D →
    ℕ → Image → Type 0} {is_modelled : Bool} {seen : D → Image}
    (laws : DiskLaws is_modelled seen may_leave moment left_since) where
  pub joined : {A : Type 0} (old mid new : D) (a b c : Option (List RunnerEntry)) (u v w : Option (List ℕ)) (p : SessionState) (h : List TraceEvent)
      (r : Result A SessionFault) (is : A → List TraceEvent → SessionState → Type 0)
      → IsTrace entries files may_leave moment left_since old mid a b p h → Appends u v (lines_of p.device (records_of h)) → Holds is h
      → DrivenCourse entries files may_leave moment left_since mid new b c v w (state_after p h) r is
      → DrivenCourse entries files may_leave moment left_since old new a c u w p r is
  joined old mid new a b c u v w p h r is one told holds two = record {
    history = two.history ++ h;
    trace = went_on entries files laws old mid new a b c p h two.history one two.trace;
    lines = lines_of_both u v w p h two.history r one.run told two.lines;
    left = left_of_both entries may_leave new p h two.history is r one.run holds two.left;
    bare = bare_of_both p h two.history r two.bare;
  }

-- ---- a part that keeps no record behind another one

module _ (entries : Image → List (List ℕ) → Type 0) (files : List ℕ → Type 0) {D : Type 0} {may_leave : D → Image → Type 0} {moment : D → ℕ} {left_since : D →
    ℕ → Image → Type 0} where
  pub went_acting : (old new : D) (a b c : Option (List RunnerEntry)) (p : SessionState) (h k : List TraceEvent) →
      IsTrace entries files may_leave moment left_since old new a b p h → ActTrace (state_after p h) k b c
      → IsTrace entries files may_leave moment left_since old new a c p (k ++ h)
  went_acting old new a b c p h k one acts =
      let same = records_opened h k acts.none in
      let left = ap (λ (q : SessionState). q.device) (left-append p k h) ∙ acts.device in
      record {
        proper = proper-append p k h acts.proper one.proper;
        run = subst (λ (l : List Record). Run p.device l (state_after p (k ++ h)).device) (sym same)
            (subst (λ (x : Device). Run p.device (records_of h) x) (sym left) one.run);
        course = subst (λ (l : List Record). HoldsPrefixes entries files may_leave moment left_since old new p.device l) (sym same) one.course;
        list = subst (λ (l : List RunnerEntry). HasGrownBy a c l) (sym (entries-append k h)) (grows_on a b c (entries_of h) (entries_of k) one.list acts.list);
      }

lines_acting : (u v : Option (List ℕ)) (d : Device) (h k : List TraceEvent) (e : SessionFault) → records_of k ≡ [] → LinesAt u v d (records_of h) e →
    LinesAt u v d (records_of (k ++ h)) e
lines_acting u v d h k e none told = subst (λ (l : List Record). LinesAt u v d l e) (sym (records_opened h k none)) told

last_both : (k h : List TraceEvent) → AllByRecursion IsLast k → AllByRecursion IsLast h → AllByRecursion IsLast (k ++ h)
last_both [] h one two = two
last_both (e ∷ k) h one two = (one.0, last_both k h one.1 two)

pub stops_killed : (h k : List TraceEvent) → AllByRecursion IsLast k → StopsAt h → StopsAt (k ++ h)
stops_killed h k kills s = record {
  cuts = k ++ s.cuts;
  last = s.last;
  before = s.before;
  split = ap (λ (l : List TraceEvent). k ++ l) s.split ∙ sym (append_assoc k s.cuts (Recorded s.last ∷ s.before));
  kills = last_both k s.cuts kills s.kills;
}

pub left_killed : {D : Type 0} (entries : Image → List (List ℕ) → Type 0) (may_leave : D → Image → Type 0) (disk : D) (p : SessionState) (h k : List TraceEvent)
    (e : SessionFault) (a b : Option (List RunnerEntry)) → ActTrace (state_after p h) k a b
    → KeepsRest (state_after p h) (state_after (state_after p h) k) → AllByRecursion IsLast k → LeftAt entries may_leave disk p h e →
    LeftAt entries may_leave disk p (k ++ h) e
left_killed entries may_leave disk p h k over.Disk a b acts keeps kills left = (
  stops_killed h k kills left.0,
  λ c may. subst (λ (l : List Record). StandsForMost entries p.device l c) (sym (records_opened h k acts.none)) (left.1 c may),
)
left_killed entries may_leave disk p h k over.Output a b acts keeps kills left = (
  stops_killed h k kills left.0,
  ap (λ (q : SessionState). q.boot_end) (left-append p k h) ∙ keeps.boot_end ∙ left.1,
  λ c may. subst (λ (x : Device). StandsFor entries c x) (sym (ap (λ (q : SessionState). q.device) (left-append p k h) ∙ acts.device)) (left.2 c may),
)

-- ---- a part that gives up

module _ (entries : Image → List (List ℕ) → Type 0) (files : List ℕ → Type 0) {D : Type 0} {may_leave : D → Image → Type 0} {moment : D → ℕ} {left_since : D →
    ℕ → Image → Type 0} where
  -- no child lived
  pub given_up : {A : Type 0} (old new : D) (a b : Option (List RunnerEntry)) (u v : Option (List ℕ)) (p : SessionState) (h : List TraceEvent)
      (e : SessionFault) (is : A → List TraceEvent → SessionState → Type 0)
      → IsTrace entries files may_leave moment left_since old new a b p h → LinesAt u v p.device (records_of h) e → LeftAt entries may_leave new p h e →
      IsBare (state_after p h)
      → DrivenCourse entries files may_leave moment left_since old new a b u v p (Err e) is
  given_up old new a b u v p h e is trace lines left bare = record { history = h; trace = trace; lines = lines; left = left; bare = bare }

  -- its children were killed
  pub cut_off : {A : Type 0} (old new : D) (a b c : Option (List RunnerEntry)) (u v : Option (List ℕ)) (p : SessionState) (h k : List TraceEvent)
      (e : SessionFault) (is : A → List TraceEvent → SessionState → Type 0)
      → IsTrace entries files may_leave moment left_since old new a b p h → LinesAt u v p.device (records_of h) e → LeftAt entries may_leave new p h e
      → ActTrace (state_after p h) k b c → KeepsRest (state_after p h) (state_after (state_after p h) k) → IsBare (state_after (state_after p h) k) →
      AllByRecursion IsLast k
      → DrivenCourse entries files may_leave moment left_since old new a c u v p (Err e) is
  cut_off old new a b c u v p h k e is trace lines left acts keeps bare kills = record {
    history = k ++ h;
    trace = went_acting entries files old new a b c p h k trace acts;
    lines = lines_acting u v p.device h k e acts.none lines;
    left = left_killed entries may_leave new p h k e b c acts keeps kills left;
    bare = subst (λ (q : SessionState). IsBare q) (sym (left-append p k h)) bare;
  }
