-- Behind bootstraps the deployment is still the one for which all was made ready: a part that takes no document leaves it.
use Rattle.std.specs.Prelude.{ℕ, Bool, true, false, List, [], ◌∷◌, ◌++◌, Option, Some, None, option_map, if◌then◌else◌}
use Rattle.std.specs.List.{AllByRecursion}
use Rattle.std.specs.Option.{IsSomeAnd}
use Rattle.std.proofs.Common.{◌≡◌, ◌∙◌, refl, sym, ap, subst, arith}
use Rattle.std.proofs.lemmas.Bool.{false≢true}
use Rattle.records.specs.Stored.{Record, Accepted, BootBegun, BootEnded, Activating, StepFailed, Failing, FailingBack, Closed}
use Rattle.device.specs.Devices.{Device, Pending}
use Rattle.device.specs.Lawful.{Lawful, Run, activated, applied, begun, boot_ended, close_pending, count_failure, rolled, sent_back}
use Rattle.step_runner.specs.Entries.{Told}
use Rattle.step_runner.specs.declared.entries.Seen.{Seen}
use Rattle.components.specs.Fitted.{Fitted}
use Rattle.components.specs.Components.{Components}
use Rattle.components.specs.declared.kinds.Prepared.{Prepared}
use Rattle.histories.specs.TraceEvents.{Answer, TraceEvent, Ran, Booted, WaitElapsed, KilledOnAbort, Recorded, Moved, ReadClock, Heard, InboxAsked, Changed}
use Rattle.histories.specs.TraceEvents.{StopsAll, is_document, records_of}
use Rattle.histories.specs.States.{SessionState, booted, cut_off, is_wait, leaves, state_after, noted, ran, takes_document}
use Rattle.histories.specs.Follows.{IsProper, MayFollow, MayTakeBy}
use Rattle.histories.proofs.Once.{IsSameInbox, booted_inbox, cut_inbox, untouched}
use Rattle.session_boots.specs.Stands.{IsAtBootStage}
use Rattle.session_admission.specs.Readied.{AreReadiedFor}
use Rattle.session_admission.proofs.Serving.{ready_after}

-- ---- a state in which no document is taken

-- the inbox was asked as often as it is to be, and gave none
pub record TakesNone (p : SessionState) : Type 0 where
  pub serves : p.serves ≡ true
  pub turns : p.turns ≡ 0
  pub answer : p.answer ≡ None

-- the same state but for its inbox
abbrev pub shut : SessionState → SessionState
shut p = record p { serves = true; turns = 0; answer = None }

pub shut_takes : (p : SessionState) → TakesNone (shut p)
shut_takes p = record { serves = refl; turns = refl; answer = refl }

-- the start of a bootstrap asks nothing of an inbox
pub shut_stage : (p : SessionState) (d : Device) (world : Components) (told : Told) (living : List ℕ) → IsAtBootStage p d world told living →
    IsAtBootStage (shut p) d world told living
shut_stage p d world told living f =
    let s = f.between.stands in
    let still = f.between.still in
    record {
      between = record {
        stands = record {
          device_is = s.device_is;
          world_is = s.world_is;
          answered = s.answered;
          not_before = s.not_before;
          asked = s.asked;
          children =
              s.children;
        };
        still = record { stopped = still.stopped; quiet = still.quiet; generation = still.generation; cut = still.cut };
        boot = f.between.boot;
        boot_end = f.between.boot_end;
        probed = f.between.probed;
      };
      over = f.over;
    }

-- ---- what happens there leaves it so

none_or : (b : Bool) (a : Option Answer) → a ≡ None → (if b then None else a) ≡ None
none_or true a none = refl
none_or false a none = none

noted_takes : (s : Seen) (p q : SessionState) → IsSameInbox p q → TakesNone p → TakesNone (noted s q)
noted_takes s p q same t = record {
  serves = same.serves ∙ t.serves;
  turns = same.turns ∙ t.turns;
  answer =
      none_or (is_wait s) q.answer (same.answer ∙ t.answer);
}

takes_on : (p : SessionState) (e : TraceEvent) → MayFollow p e → TakesNone p → TakesNone (leaves p e)
takes_on p (Ran e k s) may t = noted_takes e.seen p (record p { world = ran e.seen k s p.world }) (record { serves = refl; turns = refl; answer = refl }) t
takes_on p (Booted e m) may t = noted_takes e.seen p (booted e.seen m p) (booted_inbox e.seen m p) t
takes_on p (WaitElapsed e) may t = noted_takes e.seen p p (untouched p) t
takes_on p (KilledOnAbort e) may t = noted_takes e.seen p (cut_off e.seen p) (cut_inbox e.seen p) t
takes_on p (Recorded r) may t = record { serves = t.serves; turns = t.turns; answer = none_or (takes_document r) p.answer t.answer }
takes_on p (Moved k e) may t = record { serves = t.serves; turns = t.turns; answer = t.answer }
takes_on p (ReadClock m) may t = record { serves = t.serves; turns = t.turns; answer = t.answer }
takes_on p (Heard k) may t = record { serves = t.serves; turns = t.turns; answer = t.answer }
takes_on p (InboxAsked a) may t = absurd (omega (arith, may.0.left, t.turns))
takes_on p (Changed f c b) may t = record { serves = t.serves; turns = t.turns; answer = t.answer }
takes_on p StopsAll may t = record { serves = t.serves; turns = t.turns; answer = t.answer }

-- ---- so none of its records is an acceptance

abbrev TakeNone : List Record → Type 0
TakeNone records = AllByRecursion (λ (r : Record). takes_document r ≡ false) records

no_acceptance : (p : SessionState) (r : Record) (b : Bool) → takes_document r ≡ b → MayFollow p (Recorded r) → TakesNone p → b ≡ false
no_acceptance p (Accepted x) b is may t = absurd (subst (λ (o : Option Answer). IsSomeAnd o (λ a. is_document a ≡ true)) t.answer
    (subst (λ (s : Bool). MayTakeBy s p) t.serves may.0.2).given)
no_acceptance p _ b is may t = sym is

more_none : (records : List Record) (r : Record) → TakeNone records → takes_document r ≡ false → TakeNone (records ++ r ∷ [])
more_none [] r none is = (is, tt)
more_none (x ∷ records) r none is = (none.0, more_none records r none.1 is)

one_more : (p : SessionState) (e : TraceEvent) (h : List TraceEvent) → MayFollow p e → TakesNone p → TakeNone (records_of h) → TakeNone (records_of (e ∷ h))
one_more p (Ran e k s) h may t none = none
one_more p (Booted e m) h may t none = none
one_more p (WaitElapsed e) h may t none = none
one_more p (KilledOnAbort e) h may t none = none
one_more p (Recorded r) h may t none = more_none (records_of h) r none (no_acceptance p r (takes_document r) refl may t)
one_more p (Moved k e) h may t none = none
one_more p (ReadClock m) h may t none = none
one_more p (Heard k) h may t none = none
one_more p (InboxAsked a) h may t none = none
one_more p (Changed f c b) h may t none = none
one_more p StopsAll h may t none = none

all_on : (p : SessionState) (h : List TraceEvent) → TakesNone p → IsProper p h → TakesNone (state_after p h) × TakeNone (records_of h)
all_on p [] t proper = (t, tt)
all_on p (e ∷ h) t proper =
    let rest = all_on p h t proper.1 in
    (takes_on (state_after p h) e proper.0 rest.0, one_more (state_after p h) e h proper.0 rest.0 rest.1)

-- ---- along such records

-- behind a close nothing else is lawful but an acceptance
still_none : (d : Device) (r : Record) → takes_document r ≡ false → d.pending ≡ None → (applied d r).pending ≡ None
still_none d (Accepted x) other none = absurd (false≢true (sym other))
still_none d (BootBegun n) other none = ap (option_map begun) none
still_none d (BootEnded n e) other none = ap (option_map (boot_ended e)) none
still_none d Activating other none = ap (option_map activated) none
still_none d (StepFailed n s e) other none = ap (option_map (count_failure d.set n)) none
still_none d (Failing n) other none = ap (option_map rolled) none
still_none d (FailingBack n) other none = ap (option_map (sent_back d.origin d.set)) none
still_none d (Closed o) other none = ap (λ (x : Option Pending). (close_pending o d x).pending) none ∙ none
still_none d _ other none = none

module _ (boots backs : List Prepared) (items earlier : List Fitted) where
  abbrev Ready : Device → Type 0
  Ready d = AreReadiedFor d boots backs items earlier

  unasked : (d : Device) → d.pending ≡ None → Ready d
  unasked d none = by d.pending none
    where
      by : (x : Option Pending) → x ≡ None → Ready (record d { pending = x })
      by None is = tt
      by (Some q) is = absurd cc

  ready_one : (d e : Device) (r : Record) → takes_document r ≡ false → Lawful d r e → Ready d → Ready e
  ready_one d e r other lawful ready = by d.pending refl
    where
      by : (x : Option Pending) → d.pending ≡ x → Ready e
      by None is = unasked e (ap (λ (x : Device). x.pending) lawful.leaves ∙ still_none d r other is)
      by (Some q) is = ready_after boots backs items earlier d e r q is lawful ready

  ready_run : (records : List Record) (d e : Device) → TakeNone records → Run d records e → Ready d → Ready e
  ready_run [] d e none run ready = subst (λ (x : Device). Ready x) (sym run) ready
  ready_run (r ∷ records) d e none run ready = ready_run records run.0 e none.1 run.2 (ready_one d run.0 r none.0 run.1 ready)

  pub ready_behind : (p : SessionState) (h : List TraceEvent) (d e : Device) → TakesNone p → IsProper p h →
      Run p.device (records_of h) (state_after p h).device → p.device ≡ d → (state_after p h).device ≡ e → Ready d → Ready e
  ready_behind p h d e t proper run old new ready =
      subst (λ (x : Device). Ready x) new (ready_run (records_of h) p.device (state_after p h).device (all_on p h t proper).1 run
      (subst (λ (x : Device). Ready x) (sym old) ready))
