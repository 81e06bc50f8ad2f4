-- How a deployment closed, by what its call left of the closed list.
use Rattle.std.proofs.Common.{◌≡◌, ◌≤◌, ◌⊎◌, ◌∙◌, inl, inr, ℕ, ◌+◌, Bool, true, false, List, [], ◌∷◌, ◌++◌, length, Option, Some, None, refl}
use Rattle.std.proofs.Common.{append_assoc, ap, arith, subst, sym}
use Rattle.std.specs.Prelude.{option_map}
use Rattle.std.specs.Option.{IsSome, IsSomeAnd}
use Rattle.std.proofs.lemmas.Bool.{false≢true}
use Rattle.std.proofs.lemmas.List.{append_cancel_left, length-append}
use Rattle.nuc_base.specs.declared.kinds.Outcome.{Outcome}
use Rattle.records.specs.Stored.{Plan, Record, Accepted, BootBegun, BootEnded, Activating, StepFailed, Failing, FailingBack, Closed}
use Rattle.device.specs.Devices.{Device, Pending}
use Rattle.device.specs.Lawful.{MayClose, Run, activated, applied, begun, boot_ended, close_pending, count_failure, rolled, sent_back}
use Rattle.histories.specs.Once.{TakesOnce}
use Rattle.histories.specs.States.{takes_document}
use Rattle.law_histories.proofs.Growing.{head_same, tail_same}
use Rattle.law_histories.specs.Onward.{ClosedAs}
use Rattle.session_startup.specs.Ended.{ClosesAs}
use Rattle.nucleus_top.specs.Completeness.{EachOneOn, RestartsAreFew}

-- ---- where nothing is accepted

not_taken : (b : Bool) → (b ≡ true → true ≡ false) → b ≡ false
not_taken true never = absurd (false≢true (sym (never refl)))
not_taken false never = refl

-- behind a close nothing is pending
close_none : (o : Outcome) (c : Device) (x : Option Pending) → c.pending ≡ x → (close_pending o c x).pending ≡ None
close_none o c None is = is
close_none o c (Some q) is = refl

none_on : (c : Device) (r : Record) → takes_document r ≡ false → c.pending ≡ None → (applied c r).pending ≡ None
none_on c (Accepted p) free none = absurd (false≢true (sym free))
none_on c (BootBegun n) free none = ap (option_map begun) none
none_on c (BootEnded n e) free none = ap (option_map (boot_ended e)) none
none_on c Activating free none = ap (option_map activated) none
none_on c (StepFailed n s e) free none = ap (option_map (count_failure c.set n)) none
none_on c (Failing n) free none = ap (option_map rolled) none
none_on c (FailingBack n) free none = ap (option_map (sent_back c.origin c.set)) none
none_on c (Closed o) free none = close_none o c c.pending refl
none_on c r free none = none

none_stays : (d e : Device) (records : List Record) → TakesOnce true records → Run d records e → d.pending ≡ None → e.pending ≡ None
none_stays d e [] once run none = ap (λ (x : Device). x.pending) run ∙ none
none_stays d e (r ∷ records) once run none =
    let free = not_taken (takes_document r) once.0 in
    none_stays run.0 e records once.1 run.2 (ap (λ (x : Device). x.pending) run.1.leaves ∙ none_on d r free none)

closed_or_same : (c : Device) (r : Record) → ((applied c r).pending ≡ None) ⊎ ((applied c r).closed ≡ c.closed)
closed_or_same c (Closed o) = inl (close_none o c c.pending refl)
closed_or_same c r = inr refl

none_or_some : (x : Option Pending) → x ≡ None → IsSome x → ⊥
none_or_some None is some = false≢true some
none_or_some (Some q) is some = absurd cc

-- what is pending at the end was not closed, and so nothing was
still_closed : (d e : Device) (records : List Record) → TakesOnce true records → Run d records e → IsSome e.pending → e.closed ≡ d.closed
still_closed d e [] once run some = ap (λ (x : Device). x.closed) run
still_closed d e (r ∷ records) once run some =
    let later = still_closed run.0 e records once.1 run.2 some in
    let leaves = run.1.leaves in
    elim (closed_or_same d r) [
      | inl none ↦ absurd (none_or_some e.pending (none_stays run.0 e records once.1 run.2 (ap (λ (x : Device). x.pending) leaves ∙ none)) some)
      | inr same ↦ later ∙ ap (λ (x : Device). x.closed) leaves ∙ same
    ]

-- ---- the last record

-- the run of all but the last
run_less : (d e : Device) (prefix : List Record) (r : Record) → Run d (prefix ++ r ∷ []) e → (c : Device) × Run d prefix c × (e ≡ applied c r) ×
    Run c (r ∷ []) e
run_less d e [] r run = (d, refl, run.2 ∙ run.1.leaves, run)
run_less d e (s ∷ prefix) r run =
    let more = run_less run.0 e prefix r run.2 in
    (more.0, (run.0, run.1, more.1), more.2, more.3)

once_less : (prefix : List Record) (taken : Bool) (r : Record) → TakesOnce taken (prefix ++ r ∷ []) → TakesOnce taken prefix
once_less [] taken r once = tt
once_less (s ∷ prefix) taken r once = (once.0, once_less prefix _ r once.1)

may_some : (o : Outcome) (x : Option Pending) → IsSomeAnd x (λ q. MayClose q o) → IsSome x
may_some o None may = absurd may
may_some o (Some q) may = refl

-- a close adds one
closes_one : (o : Outcome) (c : Device) (x : Option Pending) → IsSome x → (q : Pending) × ((close_pending o c x).closed ≡ c.closed ++ (q.plan.id, o) ∷ [])
closes_one o c None some = absurd (false≢true some)
closes_one o c (Some q) some = (q, refl)

same_outcome : (a b : List ℕ) (o u : Outcome) (more : List (List ℕ × Outcome)) → (a, o) ∷ [] ≡ ((b, u) ∷ []) ++ more → o ≡ u
same_outcome a b o u more is = ap (λ (p : List ℕ × Outcome). p.1) (head_same (a, o) (b, u) [] more is)

-- Of a deployment that was pending, or accepted, at first, and closed so: no other closed, and so that is its outcome.
pub closes_as : (d e : Device) (plan : Plan) (records : List Record) (o u : Outcome) → TakesOnce true records → Run d records e → ClosesAs o records
    → ClosedAs d plan u e → o ≡ u
closes_as d e plan records o u once run closes closed =
    let prefix = closes.0 in
    let whole = subst (λ (l : List Record). Run d l e) closes.1 run in
    let last = run_less d e prefix (Closed o) whole in
    let c = last.0 in
    let some = may_some o c.pending last.3.1.allowed in
    let before = once_less prefix true (Closed o) (subst (λ (l : List Record). TakesOnce true l) closes.1 once) in
    let one = closes_one o c c.pending some in
    let same : e.closed ≡ d.closed ++ (one.0.plan.id, o) ∷ [] =
    ap (λ (x : Device). x.closed) last.2 ∙ one.1 ∙ ap (λ (l : List (List ℕ × Outcome)). l ++ (one.0.plan.id, o) ∷ [])
    (still_closed d c prefix before last.1 some) in
    same_outcome one.0.plan.id plan.id o u closed.0
    (append_cancel_left d.closed ((one.0.plan.id, o) ∷ []) (((plan.id, u) ∷ []) ++ closed.0)
    (sym same ∙ closed.1 ∙ append_assoc d.closed ((plan.id, u) ∷ []) closed.0))

first_behind : (plan : Plan) (o : Outcome) (rest prefix : List Record) → Accepted plan ∷ rest ≡ prefix ++ Closed o ∷ [] → ClosesAs o rest
first_behind plan o rest [] is = absurd cc
first_behind plan o rest (r ∷ prefix) is = (prefix, tail_same (Accepted plan) r rest (prefix ++ Closed o ∷ []) is)

-- so it is from its acceptance on
pub closes_behind : (d e : Device) (plan : Plan) (rest : List Record) (o u : Outcome) → TakesOnce true rest → Run d (Accepted plan ∷ rest) e
    → ClosesAs o (Accepted plan ∷ rest) → ClosedAs d plan u e → o ≡ u
closes_behind d e plan rest o u once run closes closed =
    closes_as run.0 e plan rest o u once run.2 (first_behind plan o rest closes.0 closes.1)
    (closed.0, closed.1 ∙ ap (λ (l : List (List ℕ × Outcome)). (l ++ (plan.id, u) ∷ []) ++ closed.0) (sym (ap (λ (x : Device). x.closed) run.1.leaves)))

-- and where one is pending at the end, none closed
pub pending_none : (d e : Device) (plan : Plan) (records : List Record) (u : Outcome) → TakesOnce true records → Run d records e → IsSome e.pending
    → ClosedAs d plan u e → ⊥
pending_none d e plan records u once run some closed =
    let same = sym (still_closed d e records once run some) ∙ closed.1 in
    let long = ap length same ∙ length-append (d.closed ++ (plan.id, u) ∷ []) closed.0 in
    let one = length-append d.closed ((plan.id, u) ∷ []) in
    omega (arith, long, one)

-- ---- restarts

more_on : (q : Pending) (calls : List Pending) → EachOneOn q calls → (calls ≡ []) ⊎ (q.ended + length calls ≤ length q.plan.boots)
more_on q [] each = inl refl
more_on q (next ∷ more) each = elim (more_on next more each.2) [
  | inl none ↦ inr (one_more (ap length none))
  | inr few ↦ inr (some_more few)
]
  where
    same : length next.plan.boots ≡ length q.plan.boots
    same = ap (λ (p : Plan). length p.boots) each.0.plan

    one_more : length more ≡ 0 → q.ended + length (next ∷ more) ≤ length q.plan.boots
    one_more none = let on = each.1.more in let most = each.1.most in omega (arith, none, on, most, same)

    some_more : next.ended + length more ≤ length next.plan.boots → q.ended + length (next ∷ more) ≤ length q.plan.boots
    some_more few = let on = each.1.more in omega (arith, few, on, same)

pub restarts_are_few : RestartsAreFew
restarts_are_few q calls each = elim (more_on q calls each) [
  | inl none ↦ let zero = ap length none in omega (arith, zero)
  | inr few ↦ omega (arith, few)
]
