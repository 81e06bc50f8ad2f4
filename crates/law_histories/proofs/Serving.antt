-- No document is taken behind one before the inbox is asked again.
use Rattle.std.specs.Prelude.{Bool, true, false, ◌||◌, List, [], ◌∷◌, ◌++◌, Option, Some, None, is_none, if◌then◌else◌}
use Rattle.std.specs.List.{AllByRecursion}
use Rattle.std.specs.Option.{IsSomeAnd}
use Rattle.std.proofs.Common.{◌≡◌, ◌∙◌, refl, sym, ap, subst, arith}
use Rattle.std.proofs.lemmas.Bool.{false≢true}
use Rattle.records.specs.Stored.{Record, Accepted}
use Rattle.step_runner.specs.declared.entries.Seen.{Seen}
use Rattle.histories.specs.TraceEvents.{Answer, TraceEvent, Ran, Booted, WaitElapsed, KilledOnAbort, Recorded, Moved, ReadClock, Heard, InboxAsked, Changed}
use Rattle.histories.specs.TraceEvents.{StopsAll, is_document, records_of}
use Rattle.histories.specs.States.{SessionState, booted, cut_off, is_wait, leaves, state_after, takes_document}
use Rattle.histories.specs.Follows.{IsProper, MayFollow, MayTakeBy}
use Rattle.histories.specs.Once.{TakesOnce}
use Rattle.histories.proofs.Once.{behind_more, booted_inbox, cut_inbox, once_more, serves_on, taken_behind}
use Rattle.law_histories.specs.Serving.{IsUnasked}

-- ---- how often it may be asked

turns_on : (p : SessionState) (e : TraceEvent) → p.turns ≡ 0 → MayFollow p e → (leaves p e).turns ≡ 0
turns_on p (Ran e k s) none may = none
turns_on p (Booted e m) none may = (booted_inbox e.seen m p).turns ∙ none
turns_on p (WaitElapsed e) none may = none
turns_on p (KilledOnAbort e) none may = (cut_inbox e.seen p).turns ∙ none
turns_on p (Recorded r) none may = none
turns_on p (Moved k e) none may = none
turns_on p (ReadClock m) none may = none
turns_on p (Heard k) none may = none
turns_on p (InboxAsked a) none may = absurd (omega (arith, may.0.left, none))
turns_on p (Changed f c b) none may = none
turns_on p StopsAll none may = none

unasked_by : (p : SessionState) (e : TraceEvent) → p.turns ≡ 0 → MayFollow p e → IsUnasked e
unasked_by p (InboxAsked a) none may = omega (arith, may.0.left, none)
unasked_by p (Ran e k s) none may = tt
unasked_by p (Booted e m) none may = tt
unasked_by p (WaitElapsed e) none may = tt
unasked_by p (KilledOnAbort e) none may = tt
unasked_by p (Recorded r) none may = tt
unasked_by p (Moved k e) none may = tt
unasked_by p (ReadClock m) none may = tt
unasked_by p (Heard k) none may = tt
unasked_by p (Changed f c b) none may = tt
unasked_by p StopsAll none may = tt

all_unasked : (p : SessionState) (h : List TraceEvent) → p.turns ≡ 0 → IsProper p h → ((state_after p h).turns ≡ 0) × AllByRecursion IsUnasked h
all_unasked p [] none proper = (none, tt)
all_unasked p (e ∷ h) none proper =
    let rest = all_unasked p h none proper.1 in
    (turns_on (state_after p h) e rest.0 proper.0, (unasked_by (state_after p h) e rest.0 proper.0, rest.1))

pub last_unasked : (p : SessionState) (h : List TraceEvent) → p.turns ≡ 0 → IsProper p h → AllByRecursion IsUnasked h
last_unasked p h none proper = (all_unasked p h none proper).1

-- ---- the answer that stands given

-- where an answer stands given none was taken
abbrev Opens : Bool → Option Answer → List Record → Type 0
Opens b a records = is_none a ≡ false → taken_behind b records ≡ false

or_none : (b : Bool) (a : Option Answer) → is_none (if b then None else a) ≡ false → (b ≡ false) × (is_none a ≡ false)
or_none true a given = absurd (false≢true (sym given))
or_none false a given = (refl, given)

noted_opens : (s : Seen) (b : Bool) (p q : SessionState) (records : List Record) → q.answer ≡ p.answer → Opens b p.answer records →
    Opens b (if is_wait s then None else q.answer) records
noted_opens s b p q records same opens = λ given.
    opens (sym (ap (λ (a : Option Answer). is_none a) same) ∙ (or_none (is_wait s) q.answer given).1)

kept_opens : (b t : Bool) (a : Option Answer) (records : List Record) (r : Record) → takes_document r ≡ t → Opens b a records →
    Opens b (if t then None else a) (records ++ r ∷ [])
kept_opens b t a records r is opens = λ given.
    let both = or_none t a given in
    behind_more b records r ∙ ap (λ (x : Bool). taken_behind b records || x) (is ∙ both.0) ∙ ap (λ (x : Bool). x || false) (opens both.1)

opens_on : (b : Bool) (p : SessionState) (e : TraceEvent) (h : List TraceEvent) → IsUnasked e → Opens b p.answer (records_of h) →
    Opens b (leaves p e).answer (records_of (e ∷ h))
opens_on b p (Ran e k s) h not opens = noted_opens e.seen b p p (records_of h) refl opens
opens_on b p (Booted e m) h not opens = noted_opens e.seen b p (booted e.seen m p) (records_of h) (booted_inbox e.seen m p).answer opens
opens_on b p (WaitElapsed e) h not opens = noted_opens e.seen b p p (records_of h) refl opens
opens_on b p (KilledOnAbort e) h not opens = noted_opens e.seen b p (cut_off e.seen p) (records_of h) (cut_inbox e.seen p).answer opens
opens_on b p (Recorded r) h not opens = kept_opens b (takes_document r) p.answer (records_of h) r refl opens
opens_on b p (Moved k e) h not opens = opens
opens_on b p (ReadClock m) h not opens = opens
opens_on b p (Heard k) h not opens = opens
opens_on b p (InboxAsked a) h not opens = absurd not
opens_on b p (Changed f c d) h not opens = opens
opens_on b p StopsAll h not opens = opens

-- ---- the newest record

pub given_open : (a : Option Answer) → IsSomeAnd a (λ x. is_document x ≡ true) → is_none a ≡ false
given_open None given = absurd given
given_open (Some x) given = refl

open_for : (p : SessionState) (r : Record) (b : Bool) → takes_document r ≡ b → p.serves ≡ true → MayFollow p (Recorded r) → b ≡ true →
    is_none p.answer ≡ false
open_for p (Accepted x) b is serves may takes = given_open p.answer (subst (λ (s : Bool). MayTakeBy s p) serves may.0.2).given
open_for p _ b is serves may takes = absurd (false≢true (is ∙ takes))

one_more : (b : Bool) (p : SessionState) (e : TraceEvent) (h : List TraceEvent) → p.serves ≡ true → Opens b p.answer (records_of h) → MayFollow p e →
    TakesOnce b (records_of h) → TakesOnce b (records_of (e ∷ h))
one_more b p (Ran e k s) h serves opens may once = once
one_more b p (Booted e m) h serves opens may once = once
one_more b p (WaitElapsed e) h serves opens may once = once
one_more b p (KilledOnAbort e) h serves opens may once = once
one_more b p (Recorded r) h serves opens may once = once_more b (records_of h) r (λ takes. opens (open_for p r (takes_document r) refl serves may takes)) once
one_more b p (Moved k e) h serves opens may once = once
one_more b p (ReadClock m) h serves opens may once = once
one_more b p (Heard k) h serves opens may once = once
one_more b p (InboxAsked a) h serves opens may once = once
one_more b p (Changed f c d) h serves opens may once = once
one_more b p StopsAll h serves opens may once = once

-- ---- a history

record Takes (p : SessionState) (h : List TraceEvent) : Type 0 where
  serves : (state_after p h).serves ≡ true
  opens : Opens (is_none p.answer) (state_after p h).answer (records_of h)
  once : TakesOnce (is_none p.answer) (records_of h)

takes_by : (p : SessionState) (h : List TraceEvent) → p.serves ≡ true → AllByRecursion IsUnasked h → IsProper p h → Takes p h
takes_by p [] serves not proper = record { serves = serves; opens = λ given. given; once = tt }
takes_by p (e ∷ h) serves not proper =
    let rest = takes_by p h serves not.1 proper.1 in
    let q = state_after p h in
    record {
      serves = serves_on q e ∙ rest.serves;
      opens = opens_on (is_none p.answer) q e h not.0 rest.opens;
      once = one_more (is_none p.answer) q e h rest.serves rest.opens proper.0 rest.once;
    }

pub serving_once : (p : SessionState) (h : List TraceEvent) → p.serves ≡ true → AllByRecursion IsUnasked h → IsProper p h →
    TakesOnce (is_none p.answer) (records_of h)
serving_once p h serves not proper = (takes_by p h serves not proper).once
