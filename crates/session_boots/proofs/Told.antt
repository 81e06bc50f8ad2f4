-- What was printed, and what a crash leaves, of two parts one after the other.
use Rattle.std.specs.Prelude.{ℕ, List, [], ◌∷◌, ◌++◌, Option, None}
use Rattle.std.proofs.Common.{◌≡◌, ◌∙◌, refl, sym, ap, subst, append_assoc}
use Rattle.std.proofs.KnownBytes.{Appends-nil, Appends-trans}
use Rattle.std.specs.Io.KnownBytes.{Appends}
use Rattle.edges.specs.Pieces.{AppendsPrefix}
use Rattle.disk_model.specs.Disk.{Image}
use Rattle.records.specs.Stored.{Record}
use Rattle.device.specs.Devices.{Device}
use Rattle.device.specs.Lawful.{Run, applied}
use Rattle.device.specs.Standing.{StandsFor}
use Rattle.histories.specs.TraceEvents.{TraceEvent, Recorded, records_of}
use Rattle.histories.specs.States.{SessionState, state_after}
use Rattle.histories.proofs.Joined.{left-append, records-append}
use Rattle.session_boots.specs.Lines.{line_of, lines_of}
use Rattle.session_boots.specs.Ends.{IsOne, LeftAt, LinesAt, StopsAt}
use Rattle.session_boots.specs.Traces.{StandsForMost}
use Rattle.session_boots.specs.declared.ends.SessionFault.{SessionFault}
use Rattle.session_boots.specs.declared.ends.SessionFault.TheVariants as over
use Rattle.session_boots.proofs.Prefixes.{most_behind}

pub lines_on : (d : Device) (a : List Record) (e : Device) (b : List Record) → Run d a e → lines_of d (a ++ b) ≡ lines_of d a ++ lines_of e b
lines_on d [] e b run = ap (λ (x : Device). lines_of x b) (sym run)
lines_on d (r ∷ a) e b run =
    let rest = lines_on (applied d r) a e b (subst (λ (x : Device). Run x a e) run.1.leaves run.2) in
    ap (λ (l : List ℕ). line_of d r ++ l) rest ∙ sym (append_assoc (line_of d r) (lines_of (applied d r) a) (lines_of e b))

-- the lines of a history
abbrev Printed : SessionState → List TraceEvent → List ℕ
Printed p h = lines_of p.device (records_of h)

pub lines_joined : (p : SessionState) (w t : List TraceEvent) → Run p.device (records_of w) (state_after p w).device → lines_of p.device (records_of (t ++ w))
    ≡ lines_of p.device (records_of w) ++ lines_of (state_after p w).device (records_of t)
lines_joined p w t run = ap (λ (l : List Record). lines_of p.device l) (records-append t w) ∙ lines_on p.device (records_of w) (state_after p w).device
    (records_of t) run

pub all_printed : (a b c : Option (List ℕ)) (p : SessionState) (w t : List TraceEvent) → Run p.device (records_of w) (state_after p w).device
    → Appends a b (lines_of p.device (records_of w)) → Appends b c (lines_of (state_after p w).device (records_of t)) →
    Appends a c (lines_of p.device (records_of (t ++ w)))
all_printed a b c p w t run one two = subst (λ (l : List ℕ). Appends a c l) (sym (lines_joined p w t run))
    (Appends-trans a b c (Printed p w) (Printed (state_after p w) t) one two)

prefix_told : (a b c : Option (List ℕ)) (p : SessionState) (w t : List TraceEvent) → Run p.device (records_of w) (state_after p w).device
    → Appends a b (lines_of p.device (records_of w)) → AppendsPrefix b c (lines_of (state_after p w).device (records_of t)) →
    AppendsPrefix a c (lines_of p.device (records_of (t ++ w)))
prefix_told a b c p w t run one two = (
  Printed p w ++ two.0,
  two.1,
  lines_joined p w t run ∙ ap (λ (l : List ℕ). Printed p w ++ l) two.2 ∙ sym (append_assoc (Printed p w) two.0 two.1),
  Appends-trans a b c (Printed p w) two.0 one two.3,
)

pub lines_at_joined : (a b c : Option (List ℕ)) (p : SessionState) (w t : List TraceEvent) (e : SessionFault) →
    Run p.device (records_of w) (state_after p w).device
    → Appends a b (lines_of p.device (records_of w)) → LinesAt b c (state_after p w).device (records_of t) e → LinesAt a c p.device (records_of (t ++ w)) e
lines_at_joined a b c p w t over.Disk run one two = (
  records_of w ++ two.0,
  two.1,
  records-append t w ∙ ap (λ (l : List Record). records_of w ++ l) two.2 ∙ sym (append_assoc (records_of w) two.0 (two.1 ∷ [])),
  subst (λ (l : List ℕ). Appends a c l) (sym (lines_on p.device (records_of w) (state_after p w).device two.0 run))
      (Appends-trans a b c (Printed p w) (lines_of (state_after p w).device two.0) one two.3),
)
lines_at_joined a b c p w t over.Output run one two = prefix_told a b c p w t run one two

-- nothing was written of lines
none_told : (a : Option (List ℕ)) (lines : List ℕ) → AppendsPrefix a a lines
none_told a lines = ([], lines, refl, Appends-nil a)

-- a part without lines
pub nothing_printed : (a : Option (List ℕ)) (lines : List ℕ) → lines ≡ [] → Appends a a lines
nothing_printed a lines none = subst (λ (l : List ℕ). Appends a a l) (sym none) (Appends-nil a)

-- nothing was written of one record without a line
pub none_at : (a : Option (List ℕ)) (d : Device) (records : List Record) (e : SessionFault) → IsOne records → LinesAt a a d records e
none_at a d records over.Disk one = ([], one.0, one.1, Appends-nil a)
none_at a d records over.Output one = none_told a (lines_of d records)

-- the line of a record that is in doubt was not written
pub last_unprinted : (a : Option (List ℕ)) (d : Device) (r : Record) → LinesAt a a d (r ∷ []) over.Disk
last_unprinted a d r = ([], r, refl, Appends-nil a)

-- ---- nothing is started behind a record that may not be stable

-- of one record
pub stops_last : (r : Record) → StopsAt (Recorded r ∷ [])
stops_last r = record { cuts = []; last = r; before = []; split = refl; kills = tt }

-- and what happened before does not matter
pub stops_behind : (w t : List TraceEvent) → StopsAt t → StopsAt (t ++ w)
stops_behind w t s = record {
  cuts = s.cuts;
  last = s.last;
  before = s.before ++ w;
  split = ap (λ (l : List TraceEvent). l ++ w) s.split ∙ append_assoc s.cuts (Recorded s.last ∷ s.before) w;
  kills = s.kills;
}

pub left_joined : {D : Type 0} (entries : Image → List (List ℕ) → Type 0) (may_leave : D → Image → Type 0) (disk : D) (p : SessionState)
    (w t : List TraceEvent) (e : SessionFault) → Run p.device (records_of w) (state_after p w).device
    → LeftAt entries may_leave disk (state_after p w) t e → LeftAt entries may_leave disk p (t ++ w) e
left_joined entries may_leave disk p w t over.Disk run h = (
  stops_behind w t h.0,
  λ c left.
      subst (λ (l : List Record). StandsForMost entries p.device l c) (sym (records-append t w))
      (most_behind entries p.device (records_of w) (records_of t) (state_after p w).device c run (h.1 c left)),
)
left_joined entries may_leave disk p w t over.Output run h = (
  stops_behind w t h.0,
  subst (λ (x : SessionState). x.boot_end ≡ None) (sym (left-append p t w)) h.1,
  λ c left. subst (λ (x : SessionState). StandsFor entries c x.device) (sym (left-append p t w)) (h.2 c left),
)
