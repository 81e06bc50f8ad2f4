-- What a call prints: the lines of its records, and those before and behind them.
use Rattle.std.specs.Prelude.{ℕ, List, [], ◌∷◌, ◌++◌, length, Option, Some, None, codes}
use Rattle.std.specs.Io.KnownBytes.{Appends}
use Rattle.std.specs.Option.{IsSome}
use Rattle.std.proofs.Common.{◌≡◌, ◌≢◌, ◌≤◌, ◌∙◌, inl, refl, sym, ap, subst, append_assoc, arith}
use Rattle.std.proofs.KnownBytes.{Appends-nil, Appends-trans}
use Rattle.std.proofs.lemmas.List.{append-nil}
use Rattle.nuc_base.specs.declared.status.Status.{Status}
use Rattle.nuc_base.specs.declared.status.Status.TheVariants as statuses
use Rattle.edges.specs.Pieces.{AppendsPrefix}
use Rattle.records.specs.Stored.{Record}
use Rattle.device.specs.Devices.{Device, Pending}
use Rattle.session_boots.specs.Lines.{id_of, lines_of}
use Rattle.session_boots.specs.Ends.{LinesAt}
use Rattle.session_boots.specs.declared.ends.SessionFault.{SessionFault}
use Rattle.session_boots.specs.declared.ends.SessionFault.TheVariants as over
use Rattle.artifact_store.specs.declared.fault.StageFault.TheVariants as stage
use Rattle.admission.specs.declared.fault.Declined.{Declined}
use Rattle.admission.specs.declared.fault.Declined.TheVariants.{Unstaged}
use Rattle.session.specs.Calls.{GivenUpStatus, IsOrEdge, LinesPrinted, SaysLine, SaysRefusal, call_lines, opening_line, resumed_line}
use Rattle.session.specs.Declines.{large_line, line_of_declined, mismatch_line, status_of_declined}
use Rattle.session.specs.Endings.{Ending, ByClose, ByRestart, ByReboot, ByDiskFault, BySinkFault, WantAfter, WantBefore, ByDecline, Full, Idle, line_of_ending}

prefix_joined : (a b c : Option (List ℕ)) (x y : List ℕ) → Appends a b x → AppendsPrefix b c y → AppendsPrefix a c (x ++ y)
prefix_joined a b c x y one two = (
  x ++ two.0,
  two.1,
  ap (λ (l : List ℕ). x ++ l) two.2 ∙ sym (append_assoc x two.0 two.1),
  Appends-trans a b c x two.0 one two.3,
)

prefix_longer : (a b : Option (List ℕ)) (x y : List ℕ) → AppendsPrefix a b x → AppendsPrefix a b (x ++ y)
prefix_longer a b x y one = (one.0, one.1 ++ y, ap (λ (l : List ℕ). l ++ y) one.2 ∙ append_assoc one.0 one.1 y, one.3)

-- ---- one line

-- nothing at all
pub says_none : (a b : Option (List ℕ)) (status : Status) → b ≡ a → SaysLine a b status []
says_none a b status same =
    let none : Appends a b [] = subst (λ (x : Option (List ℕ)). Appends a x []) (sym same) (Appends-nil a) in
    (([], [], refl, none), λ well. none)

-- the same line
pub says_as : (a b : Option (List ℕ)) (status : Status) (x y : List ℕ) → x ≡ y → SaysLine a b status x → SaysLine a b status y
says_as a b status x y same says = subst (λ (l : List ℕ). SaysLine a b status l) same says

-- the pieces of a reason, and the end of the line
pub reason_joined : (word space field reason : List ℕ) → word ++ space ++ field ≡ reason → word ++ (space ++ (field ++ codes "\n")) ≡ reason ++ codes "\n"
reason_joined word space field reason is =
    sym (append_assoc word space (field ++ codes "\n")) ∙ sym (append_assoc (word ++ space) field (codes "\n")) ∙ ap (λ (l : List ℕ). l ++ codes "\n") is

-- that of a file with another digest
pub mismatch_says : {x y : List ℕ} (d : Declined) (a b : Option (List ℕ)) (status : Status) → SaysRefusal a b status statuses.Artifact (mismatch_line x y) →
    d ≡ Unstaged (stage.Mismatch x y)
    → SaysRefusal a b status (status_of_declined d) (line_of_declined d)
mismatch_says d a b status says is = subst (λ (e : Declined). SaysRefusal a b status (status_of_declined e) (line_of_declined e)) (sym is) says

-- that of a file with too many bytes
pub large_says : {x : List ℕ} {y : ℕ} (d : Declined) (a b : Option (List ℕ)) (status : Status) → SaysLine a b status (large_line x y) →
    IsOrEdge status statuses.Limit → d ≡ Unstaged (stage.TooLarge x y)
    → SaysRefusal a b status (status_of_declined d) (line_of_declined d)
large_says d a b status says answers is = subst (λ (e : Declined). SaysRefusal a b status (status_of_declined e) (line_of_declined e)) (sym is)
    (inl (says, answers))

-- ---- before the records

opened_as : (o : Option Pending) → IsSome o → resumed_line (elim o [ None ↦ [] | Some q ↦ q.plan.id ]) ≡ elim o [ None ↦ [] | Some q ↦ resumed_line q.plan.id ]
opened_as None h = absurd cc
opened_as (Some q) h = refl

-- a pending deployment is resumed
opening_is : (d : Device) → IsSome d.pending → resumed_line (id_of d) ≡ opening_line d
opening_is d pending = opened_as d.pending pending

pub opening_at : (d e : Device) → d ≡ e → IsSome e.pending → resumed_line (id_of e) ≡ opening_line d
opening_at d e same pending = opening_is e pending ∙ ap opening_line (sym same)

-- none is
pub opening_none : (a : Option (List ℕ)) (d : Device) → d.pending ≡ None → Appends a a (opening_line d)
opening_none a d none = subst (λ (o : Option Pending). Appends a a (elim o [ None ↦ [] | Some q ↦ resumed_line q.plan.id ])) (sym none) (Appends-nil a)

-- ---- the lines of a call

lines_are : (d : Device) (records : List Record) (ending : Ending) → ending ≢ WantBefore → opening_line d ++ (lines_of d records ++ line_of_ending ending)
    ≡ call_lines d records ending
lines_are d records (ByClose o) memory = refl
lines_are d records (ByRestart id) memory = refl
lines_are d records (ByReboot id) memory = refl
lines_are d records ByDiskFault memory = refl
lines_are d records BySinkFault memory = refl
lines_are d records WantAfter memory = refl
lines_are d records WantBefore memory = absurd (memory refl)
lines_are d records (ByDecline x) memory = refl
lines_are d records (Full at) memory = refl
lines_are d records Idle memory = refl

-- the lines of some of the records, and one behind them
told_prints : (sure : Type 0) (a b c e : Option (List ℕ)) (d : Device) (records told rest : List Record) (ending : Ending) (status : Status) →
    (rest ≡ [] → sure) → ending ≢ WantBefore → Appends a b (opening_line d) → Appends b c (lines_of d told)
    → records ≡ told ++ rest → length rest ≤ 1 → (ending ≢ ByDiskFault → rest ≡ []) → SaysLine c e status (line_of_ending ending) →
    LinesPrinted a e d records ending status sure
told_prints sure a b c e d records told rest ending status stable memory before lines split few all says =
    let line = line_of_ending ending in
    let same = lines_are d told ending memory in
    record {
      printed_records = told;
      rest = rest;
      split = split;
      few = few;
      all = all;
      prefix = subst (λ (l : List ℕ). AppendsPrefix a e l) same
          (prefix_joined a b e (opening_line d) (lines_of d told ++ line) before (prefix_joined b c e (lines_of d told) line lines says.0));
      whole = λ well. subst (λ (l : List ℕ). Appends a e l) same
          (Appends-trans a b e (opening_line d) (lines_of d told ++ line) before (Appends-trans b c e (lines_of d told) line lines (says.1 well)));
      stable = stable;
    }

-- those of all
pub all_prints : (sure : Type 0) (a b c e : Option (List ℕ)) (d : Device) (records : List Record) (ending : Ending) (status : Status) → sure →
    ending ≢ WantBefore → Appends a b (opening_line d) → Appends b c (lines_of d records)
    → SaysLine c e status (line_of_ending ending) → LinesPrinted a e d records ending status sure
all_prints sure a b c e d records ending status stable memory before lines says =
    told_prints sure a b c e d records records [] ending status (λ none. stable) memory before lines (sym (append-nil records)) (omega arith) (λ other. refl) says

-- no record was kept, and none was pending
pub said_prints : (sure : Type 0) (a b : Option (List ℕ)) (d : Device) (ending : Ending) (status : Status) → sure → ending ≢ WantBefore → d.pending ≡ None →
    SaysLine a b status (line_of_ending ending) → LinesPrinted a b d [] ending status sure
said_prints sure a b d ending status stable memory none says = all_prints sure a a a b d [] ending status stable memory (opening_none a d none) (Appends-nil a) says

-- there was no memory to begin
pub starved_prints : (sure : Type 0) (a b : Option (List ℕ)) (d : Device) (status : Status) → sure → b ≡ a → LinesPrinted a b d [] WantBefore status sure
starved_prints sure a b d status stable same =
    let says = says_none a b status same in
    record {
      printed_records = [];
      rest = [];
      split = refl;
      few = omega arith;
      all = λ other. refl;
      prefix = says.0;
      whole = says.1;
      stable = λ none. stable;
    }

-- the line of a deployment that is resumed was not written
pub unopened_prints : (sure : Type 0) (a b : Option (List ℕ)) (d : Device) (status : Status) → sure → AppendsPrefix a b (opening_line d) →
    status ≡ statuses.Edge → LinesPrinted a b d [] BySinkFault status sure
unopened_prints sure a b d status stable prefix is = record {
  printed_records = [];
  rest = [];
  split = refl;
  few = omega arith;
  all = λ other. refl;
  prefix = prefix_longer a b (opening_line d) ([] ++ []) prefix;
  whole = λ well. absurd (well is);
  stable = λ none. stable;
}

-- a prefix of them, where the sink failed
edge_prints : (sure : Type 0) (a b c : Option (List ℕ)) (d : Device) (records : List Record) (status : Status) → sure → Appends a b (opening_line d) →
    AppendsPrefix b c (lines_of d records) → status ≡ statuses.Edge → LinesPrinted a c d records BySinkFault status sure
edge_prints sure a b c d records status stable before lines is = record {
  printed_records = records;
  rest = [];
  split = sym (append-nil records);
  few = omega arith;
  all = λ other. refl;
  prefix = prefix_joined a b c (opening_line d) (lines_of d records ++ []) before (prefix_longer b c (lines_of d records) [] lines);
  whole = λ well. absurd (well is);
  stable = λ none. stable;
}

-- how a call ends whose deployment was given up
abbrev pub ending_over : SessionFault → Ending
ending_over over.Disk = ByDiskFault
ending_over over.Output = BySinkFault

-- a deployment that was given up
pub over_prints : (sure : Type 0) (e : SessionFault) (a b c f : Option (List ℕ)) (d : Device) (records : List Record) (status : Status) →
    (e ≡ over.Output → sure) → Appends a b (opening_line d) → LinesAt b c d records e
    → SaysLine c f status (line_of_ending (ending_over e)) → (e ≡ over.Output → f ≡ c) → GivenUpStatus e status →
    LinesPrinted a f d records (ending_over e) status sure
over_prints sure over.Disk a b c f d records status stable before lines says silent answers =
    told_prints sure a b c f d records lines.0 (lines.1 ∷ []) ByDiskFault status (λ none. cc) (λ is. cc) before lines.3 lines.2 (omega arith)
    (λ other. absurd (other refl)) says
over_prints sure over.Output a b c f d records status stable before lines says silent answers =
    subst (λ (x : Option (List ℕ)). LinesPrinted a x d records BySinkFault status sure) (sym (silent refl))
    (edge_prints sure a b c d records status (stable refl) before lines answers)

-- of the same records, and with the same status
pub prints_as : {base : List Record} (a b : Option (List ℕ)) (d : Device) (records : List Record) (ending : Ending) (status given : Status)
    (sure more : Type 0) → records ≡ base → status ≡ given → (sure → more) → LinesPrinted a b d base ending given sure →
    LinesPrinted a b d records ending status more
prints_as {base} a b d records ending status given sure more none same on p =
    subst (λ (l : List Record). LinesPrinted a b d l ending status more) (sym none)
    (subst (λ (s : Status). LinesPrinted a b d base ending s more) (sym same) (record {
      printed_records = p.printed_records;
      rest = p.rest;
      split = p.split;
      few = p.few;
      all = p.all;
      prefix = p.prefix;
      whole = p.whole;
      stable = λ is. on (p.stable is);
    }))
