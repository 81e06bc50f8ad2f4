-- No document is taken behind one, in a call that does not serve.
use Rattle.std.specs.Prelude.{Bool, true, false, ◌||◌, List, [], ◌∷◌, ◌++◌}
use Rattle.std.proofs.Common.{◌≡◌, ◌∙◌, refl, sym, ap, subst}
use Rattle.std.proofs.lemmas.Bool.{false≢true}
use Rattle.records.specs.Stored.{Record, Accepted}
use Rattle.step_runner.specs.declared.entries.Seen.{Seen}
use Rattle.step_runner.specs.declared.entries.Seen.TheVariants as seen
use Rattle.components.specs.declared.kinds.Prepared.{Prepared}
use Rattle.histories.specs.TraceEvents.{TraceEvent, Ran, Booted, WaitElapsed, KilledOnAbort, Recorded, Moved, ReadClock, Heard, InboxAsked, Changed, StopsAll}
use Rattle.histories.specs.TraceEvents.{records_of}
use Rattle.histories.specs.States.{SessionState, booted, cut_off, leaves, state_after, takes_document}
use Rattle.histories.specs.Follows.{IsProper, MayFollow, MayTakeBy}
use Rattle.histories.specs.Once.{TakesOnce}

-- whether one was taken, behind these records
abbrev pub taken_behind : Bool → List Record → Bool
taken_behind taken [] = taken
taken_behind taken (r ∷ records) = taken_behind (taken || takes_document r) records

pub behind_more : (taken : Bool) (records : List Record) (r : Record) → taken_behind taken (records ++ r ∷ []) ≡ taken_behind taken records || takes_document r
behind_more taken [] r = refl
behind_more taken (x ∷ records) r = behind_more (taken || takes_document x) records r

pub once_more : (taken : Bool) (records : List Record) (r : Record) → (takes_document r ≡ true → taken_behind taken records ≡ false) → TakesOnce taken records →
    TakesOnce taken (records ++ r ∷ [])
once_more taken [] r first once = (first, tt)
once_more taken (x ∷ records) r first once = (once.0, once_more (taken || takes_document x) records r first once.1)

-- ---- what a state keeps of it

record Counts (p q : SessionState) : Type 0 where
  serves : q.serves ≡ p.serves
  taken : q.taken ≡ p.taken

same_counts : (p : SessionState) → Counts p p
same_counts p = record { serves = refl; taken = refl }

booted_counts : (s : Seen) (m : Prepared) (p : SessionState) → Counts p (booted s m p)
booted_counts (seen.Started n c) m p = record { serves = refl; taken = refl }
booted_counts (seen.Refused c) m p = record { serves = refl; taken = refl }
booted_counts (seen.Killed n) m p = record { serves = refl; taken = refl }
booted_counts (seen.Exists x true) m p = record { serves = refl; taken = refl }
booted_counts (seen.Exists x false) m p = same_counts p
booted_counts (seen.OnPath x true) m p = record { serves = refl; taken = refl }
booted_counts (seen.OnPath x false) m p = same_counts p
booted_counts (seen.Ended n e l) m p = record { serves = refl; taken = refl }
booted_counts (seen.Elapsed l) m p = same_counts p

cut_counts : (s : Seen) (p : SessionState) → Counts p (cut_off s p)
cut_counts (seen.Started n c) p = record { serves = refl; taken = refl }
cut_counts (seen.Refused c) p = record { serves = refl; taken = refl }
cut_counts (seen.Killed n) p = record { serves = refl; taken = refl }
cut_counts (seen.Exists x b) p = record { serves = refl; taken = refl }
cut_counts (seen.OnPath x b) p = record { serves = refl; taken = refl }
cut_counts (seen.Ended n e l) p = record { serves = refl; taken = refl }
cut_counts (seen.Elapsed l) p = record { serves = refl; taken = refl }

pub serves_on : (p : SessionState) (e : TraceEvent) → (leaves p e).serves ≡ p.serves
serves_on p (Ran e k s) = refl
serves_on p (Booted e m) = (booted_counts e.seen m p).serves
serves_on p (WaitElapsed e) = refl
serves_on p (KilledOnAbort e) = (cut_counts e.seen p).serves
serves_on p (Recorded r) = refl
serves_on p (Moved k e) = refl
serves_on p (ReadClock m) = refl
serves_on p (Heard k) = refl
serves_on p (InboxAsked a) = refl
serves_on p (Changed f c b) = refl
serves_on p StopsAll = refl

taken_on : (b : Bool) (p : SessionState) (e : TraceEvent) (h : List TraceEvent) → p.taken ≡ taken_behind b (records_of h) →
    (leaves p e).taken ≡ taken_behind b (records_of (e ∷ h))
taken_on b p (Ran e k s) h is = is
taken_on b p (Booted e m) h is = (booted_counts e.seen m p).taken ∙ is
taken_on b p (WaitElapsed e) h is = is
taken_on b p (KilledOnAbort e) h is = (cut_counts e.seen p).taken ∙ is
taken_on b p (Recorded r) h is = ap (λ (x : Bool). x || takes_document r) is ∙ sym (behind_more b (records_of h) r)
taken_on b p (Moved k e) h is = is
taken_on b p (ReadClock m) h is = is
taken_on b p (Heard k) h is = is
taken_on b p (InboxAsked a) h is = is
taken_on b p (Changed f c d) h is = is
taken_on b p StopsAll h is = is

-- ---- what a state keeps of its inbox

pub record IsSameInbox (p q : SessionState) : Type 0 where
  pub serves : q.serves ≡ p.serves
  pub turns : q.turns ≡ p.turns
  pub answer : q.answer ≡ p.answer

pub untouched : (p : SessionState) → IsSameInbox p p
untouched p = record { serves = refl; turns = refl; answer = refl }

pub booted_inbox : (s : Seen) (m : Prepared) (p : SessionState) → IsSameInbox p (booted s m p)
booted_inbox (seen.Started n c) m p = record { serves = refl; turns = refl; answer = refl }
booted_inbox (seen.Refused c) m p = record { serves = refl; turns = refl; answer = refl }
booted_inbox (seen.Killed n) m p = record { serves = refl; turns = refl; answer = refl }
booted_inbox (seen.Exists x true) m p = record { serves = refl; turns = refl; answer = refl }
booted_inbox (seen.Exists x false) m p = untouched p
booted_inbox (seen.OnPath x true) m p = record { serves = refl; turns = refl; answer = refl }
booted_inbox (seen.OnPath x false) m p = untouched p
booted_inbox (seen.Ended n e l) m p = record { serves = refl; turns = refl; answer = refl }
booted_inbox (seen.Elapsed l) m p = untouched p

pub cut_inbox : (s : Seen) (p : SessionState) → IsSameInbox p (cut_off s p)
cut_inbox (seen.Started n c) p = record { serves = refl; turns = refl; answer = refl }
cut_inbox (seen.Refused c) p = record { serves = refl; turns = refl; answer = refl }
cut_inbox (seen.Killed n) p = record { serves = refl; turns = refl; answer = refl }
cut_inbox (seen.Exists x b) p = record { serves = refl; turns = refl; answer = refl }
cut_inbox (seen.OnPath x b) p = record { serves = refl; turns = refl; answer = refl }
cut_inbox (seen.Ended n e l) p = record { serves = refl; turns = refl; answer = refl }
cut_inbox (seen.Elapsed l) p = record { serves = refl; turns = refl; answer = refl }

-- ---- the newest record

untaken_for : (p : SessionState) (r : Record) (b : Bool) → takes_document r ≡ b → p.serves ≡ false → MayFollow p (Recorded r) → b ≡ true → p.taken ≡ false
untaken_for p (Accepted x) b is serves may takes = subst (λ (s : Bool). MayTakeBy s p) serves may.0.2
untaken_for p _ b is serves may takes = absurd (false≢true (is ∙ takes))

one_more : (b : Bool) (p : SessionState) (e : TraceEvent) (h : List TraceEvent) → p.serves ≡ false → p.taken ≡ taken_behind b (records_of h) → MayFollow p e →
    TakesOnce b (records_of h) → TakesOnce b (records_of (e ∷ h))
one_more b p (Ran e k s) h serves is may once = once
one_more b p (Booted e m) h serves is may once = once
one_more b p (WaitElapsed e) h serves is may once = once
one_more b p (KilledOnAbort e) h serves is may once = once
one_more b p (Recorded r) h serves is may once = once_more b (records_of h) r (λ takes. sym is ∙ untaken_for p r (takes_document r) refl serves may takes) once
one_more b p (Moved k e) h serves is may once = once
one_more b p (ReadClock m) h serves is may once = once
one_more b p (Heard k) h serves is may once = once
one_more b p (InboxAsked a) h serves is may once = once
one_more b p (Changed f c d) h serves is may once = once
one_more b p StopsAll h serves is may once = once

-- ---- a history

record Takes (p : SessionState) (h : List TraceEvent) : Type 0 where
  serves : (state_after p h).serves ≡ false
  taken : (state_after p h).taken ≡ taken_behind p.taken (records_of h)
  once : TakesOnce p.taken (records_of h)

takes_by : (p : SessionState) (h : List TraceEvent) → p.serves ≡ false → IsProper p h → Takes p h
takes_by p [] serves proper = record { serves = serves; taken = refl; once = tt }
takes_by p (e ∷ h) serves proper =
    let rest = takes_by p h serves proper.1 in
    record {
      serves = serves_on (state_after p h) e ∙ rest.serves;
      taken = taken_on p.taken (state_after p h) e h rest.taken;
      once = one_more p.taken (state_after p h) e h rest.serves rest.taken proper.0 rest.once;
    }

pub takes_once : (p : SessionState) (h : List TraceEvent) → p.serves ≡ false → IsProper p h → TakesOnce p.taken (records_of h)
takes_once p h serves proper = (takes_by p h serves proper).once
