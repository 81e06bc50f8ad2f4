-- Nothing that was taken is lost along a run.
use Rattle.std.proofs.Common.{◌≡◌, ◌∙◌, inl, inr, ℕ, Bool, true, false, List, [], ◌∷◌, ◌++◌, Option, Some, None, refl, sym, ap, subst, append-nil}
use Rattle.std.proofs.Common.{append_assoc, ◌<◌, length, length-append, arith}
use Rattle.std.specs.Prelude.{if◌then◌else◌, option_map}
use Rattle.std.specs.Map.{lookup}
use Rattle.std.specs.Option.{IsSome, IsSomeAnd}
use Rattle.std.specs.Str.{bytes_eq}
use Rattle.std.proofs.lemmas.Bool.{false≢true}
use Rattle.std.proofs.lemmas.Slice.Eq.{bytes_eq-Decides}
use Rattle.nuc_base.specs.declared.kinds.Outcome.{Outcome}
use Rattle.records.specs.Stored.{Plan, Record, Accepted, Closed}
use Rattle.records.specs.declared.record.Origin.{Origin}
use Rattle.device.specs.After.{Course, closing, course, course_after}
use Rattle.device.specs.Devices.{Device, Pending}
use Rattle.device.specs.Lawful.{Allowed, Lawful, MayAccept, MayClose, Run, close_pending}
use Rattle.device.proofs.Course.{run}
use Rattle.nucleus_top.specs.Lasting.{IsTaken, LosesNothing}

-- ---- what is found in a list that grows

found_on : (id : List ℕ) (closed more : List (List ℕ × Outcome)) → IsSome (lookup (bytes_eq id) closed) → IsSome (lookup (bytes_eq id) (closed ++ more))
found_on id [] more some = absurd (false≢true some)
found_on id (e ∷ closed) more some = by (bytes_eq id e.0) (found_on id closed more) some
  where
    by : (b : Bool) → (IsSome (lookup (bytes_eq id) closed) → IsSome (lookup (bytes_eq id) (closed ++ more)))
        → IsSome (if b then Some e.1 else lookup (bytes_eq id) closed) → IsSome (if b then Some e.1 else lookup (bytes_eq id) (closed ++ more))
    by true later here = refl
    by false later here = later here

found_last : (id : List ℕ) (o : Outcome) (closed : List (List ℕ × Outcome)) → IsSome (lookup (bytes_eq id) (closed ++ (id, o) ∷ []))
found_last id o [] = by (bytes_eq id id) ((bytes_eq-Decides id id).1 refl)
  where
    by : (b : Bool) → b ≡ true → IsSome (if b then Some o else lookup (bytes_eq id) [])
    by true is = refl
    by false is = absurd (false≢true is)
found_last id o (e ∷ closed) = by (bytes_eq id e.0) (found_last id o closed)
  where
    by : (b : Bool) → IsSome (lookup (bytes_eq id) (closed ++ (id, o) ∷ [])) → IsSome (if b then Some e.1 else lookup (bytes_eq id) (closed ++ (id, o) ∷ []))
    by true later = refl
    by false later = later

-- ---- one record

closed_after : (c : Course) (r : Record) → (more : List (List ℕ × Outcome)) × ((course_after c r).closed ≡ c.closed ++ more)
closed_after c (Closed o) = by c.plan
  where
    by : (p : Option Plan) → (more : List (List ℕ × Outcome)) × ((closing o c p).closed ≡ c.closed ++ more)
    by None = ([], sym (append-nil c.closed))
    by (Some p) = ((p.id, o) ∷ [], refl)
closed_after c _ = ([], sym (append-nil c.closed))

-- a plan is accepted only where none is pending
none_pends : (d : Device) (plan : Plan) (origin : Option Origin) → IsSomeAnd origin (MayAccept d plan) → d.pending ≡ None
none_pends d plan None may = absurd may
none_pends d plan (Some o) may = may.0.0

closing_taken : (id : List ℕ) (o : Outcome) (c : Course) (p : Option Plan) → c.plan ≡ p → IsTaken id c → IsTaken id (closing o c p)
closing_taken id o c None is taken = taken
closing_taken id o c (Some p) is (inl pending) =
    let same : p.id ≡ id = subst (λ (x : Option Plan). IsSomeAnd x (λ q. q.id ≡ id)) is pending in
    inr (subst (λ (k : List ℕ). IsSome (lookup (bytes_eq id) (c.closed ++ (k, o) ∷ []))) (sym same) (found_last id o c.closed))
closing_taken id o c (Some p) is (inr closed) = inr (found_on id c.closed ((p.id, o) ∷ []) closed)

taken_after : (id : List ℕ) (d : Device) (r : Record) → Allowed d r → IsTaken id (course d) → IsTaken id (course_after (course d) r)
taken_after id d (Accepted plan) allowed (inl pending) =
    absurd (subst (λ (x : Option Pending). IsSomeAnd (option_map (λ q. q.plan) x) (λ p. p.id ≡ id)) (none_pends d plan d.origin allowed) pending)
taken_after id d (Accepted plan) allowed (inr closed) = inr closed
taken_after id d (Closed o) allowed taken = closing_taken id o (course d) (course d).plan refl taken
taken_after id d _ allowed taken = taken

one : (d e : Device) (r : Record) → Lawful d r e → course e ≡ course_after (course d) r
one d e r lawful = run (r ∷ []) d e (e, lawful, refl)

one_loses : (d e : Device) (r : Record) → Lawful d r e → LosesNothing (course d) (course e)
one_loses d e r lawful = subst (λ (c : Course). LosesNothing (course d) c) (sym (one d e r lawful)) (record {
  closed = closed_after (course d) r;
  taken = λ id taken. taken_after id d r lawful.allowed taken;
})

-- ---- runs

none_loses : (c : Course) → LosesNothing c c
none_loses c = record { closed = ([], sym (append-nil c.closed)); taken = λ id taken. taken }

loses_on : (a b c : Course) → LosesNothing a b → LosesNothing b c → LosesNothing a c
loses_on a b c first second = record {
  closed = (
    first.closed.0 ++ second.closed.0,
    second.closed.1 ∙ ap (λ (l : List (List ℕ × Outcome)). l ++ second.closed.0) first.closed.1 ∙ append_assoc a.closed first.closed.0 second.closed.0,
  );
  taken = λ id taken. second.taken id (first.taken id taken);
}

pub runs_lose_nothing : (d e : Device) (records : List Record) → Run d records e → LosesNothing (course d) (course e)
runs_lose_nothing d e [] along = subst (λ (x : Device). LosesNothing (course d) (course x)) (sym along) (none_loses (course d))
runs_lose_nothing d e (r ∷ records) along = loses_on (course d) (course along.0) (course e) (one_loses d along.0 r along.1)
    (runs_lose_nothing along.0 e records along.2)

pub runs_take : (d e : Device) (before after : List Record) (plan : Plan) → Run d (before ++ Accepted plan ∷ after) e → IsTaken plan.id (course e)
runs_take d e [] after plan along =
    (runs_lose_nothing along.0 e after along.2).taken plan.id (subst (λ (c : Course). IsTaken plan.id c) (sym (one d along.0 (Accepted plan) along.1))
    (inl refl))
runs_take d e (r ∷ before) after plan along = runs_take along.0 e before after plan along.2

-- ---- a close

closes_one : (d : Device) (o : Outcome) (p : Option Pending) → IsSomeAnd p (λ q. MayClose q o) → length d.closed < length (close_pending o d p).closed
closes_one d o None may = absurd may
closes_one d o (Some q) may = omega (arith, length-append d.closed ((q.plan.id, o) ∷ []))

closes_behind : (prefix : List Record) (d e : Device) (o : Outcome) → Run d (prefix ++ Closed o ∷ []) e → length d.closed < length e.closed
closes_behind [] d e o run =
    let same : e ≡ close_pending o d d.pending = run.2 ∙ run.1.leaves in
    subst (λ (x : Device). length d.closed < length x.closed) (sym same) (closes_one d o d.pending run.1.allowed)
closes_behind (r ∷ prefix) d e o run =
    let c = run.0 in
    let grows = (runs_lose_nothing d c (r ∷ []) (c, run.1, refl)).closed in
    let long : length c.closed ≡ length (d.closed ++ grows.0) = ap (λ (l : List (List ℕ × Outcome)). length l) grows.1 in
    omega (arith, long, length-append d.closed grows.0, closes_behind prefix c e o run.2)

pub runs_close_more : (d e : Device) (prefix : List Record) (o : Outcome) → Run d (prefix ++ Closed o ∷ []) e → length d.closed < length e.closed
runs_close_more d e prefix o run = closes_behind prefix d e o run
