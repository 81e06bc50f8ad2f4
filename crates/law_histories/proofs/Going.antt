-- How far a deployment gets of which a call records no failure.
use Rattle.std.proofs.Common.{◌≡◌, ◌⊎◌, inl, inr, ◌∙◌, ℕ, ◌+◌, ◌<◌, ◌≤◌, Bool, true, false, List, [], ◌∷◌, ◌++◌, length, Option, Some, None, refl, sym, ap}
use Rattle.std.proofs.Common.{subst, arith, append-nil, append_assoc, is_some}
use Rattle.std.specs.Prelude.{◌&&◌, if◌then◌else◌, map, not, option_and_then, option_map, slice_get}
use Rattle.std.specs.List.{list_any}
use Rattle.std.specs.Option.{IsSomeAnd}
use Rattle.std.proofs.lemmas.Bool.{false≢true}
use Rattle.std.proofs.lemmas.Option.{slice_get_within}
use Rattle.nuc_base.specs.declared.kinds.Exit.{Exit}
use Rattle.nuc_base.specs.declared.kinds.Outcome.{Outcome}
use Rattle.nuc_base.specs.declared.kinds.Outcome.TheVariants as outcomes
use Rattle.records.specs.Stored.{Plan, Record, Accepted, BootBegun, BootEnded, Activating, StepFailed, Failing, FailingBack, Closed}
use Rattle.records.specs.declared.record.Origin.{Origin}
use Rattle.device.specs.declared.staged.Stage.{Stage}
use Rattle.device.specs.declared.staged.Stage.TheVariants as stages
use Rattle.device.specs.Devices.{Device, Pending}
use Rattle.device.specs.Lawful.{Allowed, MayAccept, MayActivate, MayBreak, MayClose, MayEnd, MayGoBack, accepted, activated, applied, begun, boot_ended}
use Rattle.device.specs.Lawful.{broken, close_pending, failing_name, goes_on, has_gone_back, is_backing, moved_on, next_boot, one_ended, rolled}
use Rattle.device.proofs.SoundStages.{at}
use Rattle.histories.specs.TraceEvents.{TraceEvent, Recorded, records_of}
use Rattle.histories.specs.States.{SessionState, state_after, ends_boot, restarts}
use Rattle.histories.specs.Follows.{IsProper}
use Rattle.law_histories.specs.Stood.{IsHistory}
use Rattle.law_histories.specs.Ends.{is_failure}
use Rattle.law_histories.specs.Onward.{ComesUp, GoesBack, IsNoLess, ClosedAs, IsOneOn, ResumesGoOn, DeploysGoOn, IsOneBack, BacksGoOn}
use Rattle.law_histories.proofs.Growing.{cut_last, head_same, none_before, not_empty, tail_same}
use Rattle.law_histories.proofs.Histories.{IsOwn, Steps, along, silent}
use Rattle.law_histories.proofs.Facts.{clash, none_at}

-- ---- the last record

-- it is the end of a bootstrap
abbrev EndsByEnd : List Record → Type 0
EndsByEnd records = (earlier : List Record) × (n : List ℕ) × (e : Exit) × (records ≡ earlier ++ BootEnded n e ∷ [])

last_same : (xs : List Record) (x : Record) (ys : List Record) (y : Record) → xs ++ x ∷ [] ≡ ys ++ y ∷ [] → x ≡ y
last_same xs x ys y is = elim (cut_last xs x ys y [] is) [ inl l ↦ l.1 | inr l ↦ absurd (not_empty l.0 x [] l.1) ]

no_end : (records : List Record) (r : Record) → ends_boot r ≡ false → EndsByEnd (records ++ r ∷ []) → ⊥
no_end records r not ends = false≢true (sym not ∙ ap ends_boot (last_same records r ends.0 (BootEnded ends.1 ends.2) ends.3))

no_first : EndsByEnd [] → ⊥
no_first ends = not_empty ends.0 (BootEnded ends.1 ends.2) [] ends.3

-- where the call ended for a restart it is
restarts_by : (r : Record) (d : Device) → restarts r d ≡ true → ends_boot r ≡ true
restarts_by (BootEnded n e) d is = refl
restarts_by r d is = is

end_of : (records : List Record) (r : Record) → ends_boot r ≡ true → EndsByEnd (records ++ r ∷ [])
end_of records (BootEnded n e) is = (records, n, e, refl)
end_of records r is = absurd (false≢true is)

over_ends : (p : SessionState) (h : List TraceEvent) → p.over ≡ false → IsProper p h → (state_after p h).over ≡ true → EndsByEnd (records_of h)
over_ends p [] not proper over = absurd (false≢true (sym not ∙ over))
over_ends p (Recorded r ∷ h) not proper over = end_of (records_of h) r (restarts_by r (applied (state_after p h).device r) over)
over_ends p (e ∷ h) not proper over =
    let s = silent e refl in
    absurd (false≢true (sym proper.0.2 ∙ (sym (s.over (state_after p h)) ∙ over)))

-- ---- what was closed stays closed

closed_on : (c : Device) (r : Record) → (more : List (List ℕ × Outcome)) × ((applied c r).closed ≡ c.closed ++ more)
closed_on c (Closed o) = by c.pending
  where
    by : (x : Option Pending) → (more : List (List ℕ × Outcome)) × ((close_pending o c x).closed ≡ c.closed ++ more)
    by None = ([], sym (append-nil c.closed))
    by (Some q) = ((q.plan.id, o) ∷ [], refl)
closed_on c _ = ([], sym (append-nil c.closed))

closed_more : (d : Device) (plan : Plan) (o : Outcome) (c : Device) (r : Record) → ClosedAs d plan o c → ClosedAs d plan o (applied c r)
closed_more d plan o c r is =
    let m = closed_on c r in
    (is.0 ++ m.0, m.1 ∙ (ap (λ (l : List (List ℕ × Outcome)). l ++ m.0) is.1 ∙ append_assoc (d.closed ++ (plan.id, o) ∷ []) is.0 m.0))

closes_now : (d : Device) (old : Pending) (o : Outcome) (c : Device) (q : Pending) → c.pending ≡ Some q → q.plan ≡ old.plan → c.closed ≡ d.closed →
    ClosedAs d old.plan o (applied c (Closed o))
closes_now d old o c q pending plan closed = (
  [],
  ap (λ (x : Option Pending). (close_pending o c x).closed) pending
      ∙ (ap (λ (l : List (List ℕ × Outcome)). l ++ (q.plan.id, o) ∷ []) closed
      ∙ (ap (λ (x : Plan). d.closed ++ (x.id, o) ∷ []) plan
      ∙ sym (append-nil (d.closed ++ (old.plan.id, o) ∷ [])))),
)

-- ---- facts of a pending deployment

-- with a good end the next one is up
ended_is : (e : Exit) (q : Pending) → goes_on e ≡ true → boot_ended e q ≡ moved_on q
ended_is e q good = ap (λ (b : Bool). if b then moved_on q else record q { boot_failed = true }) good

good_end : (e : Exit) → not (goes_on e) ≡ false → goes_on e ≡ true
good_end e is = by (goes_on e) is
  where
    by : (b : Bool) → not b ≡ false → b ≡ true
    by true is = refl
    by false is = sym is

-- who is pending is not accepted again
not_accepted : (c : Device) (q : Pending) (p : Plan) (o : Option Origin) → c.pending ≡ Some q → IsSomeAnd o (MayAccept c p) → ⊥
not_accepted c q p None pending may = may
not_accepted c q p (Some o) pending may = let no : None ≡ Some q = sym may.0.0 ∙ pending in absurd cc

may_of : (P : Pending → Type 0) (c : Device) (q : Pending) → c.pending ≡ Some q → IsSomeAnd c.pending P → P q
may_of P c q pending may = subst (λ (x : Option Pending). IsSomeAnd x P) pending may

-- ---- on the way up

record Up (d : Device) (old : Pending) (records : List Record) (e : Device) : Type 0 where
  new : Pending
  pending : e.pending ≡ Some new
  up : ComesUp new
  no_less : IsNoLess old new
  first : new.stage ≡ stages.Booting → old.stage ≡ stages.Booting
  closed : e.closed ≡ d.closed
  ended : EndsByEnd records → IsOneOn old new

up_boots : (q : Pending) → ComesUp q → (n : List ℕ) → next_boot q ≡ Some n → (q.stage ≡ stages.Booting) × (q.ended < length q.plan.boots)
up_boots q (inl b) n is_next = (b.0, slice_get_within q.plan.boots q.ended n (subst (λ (s : Stage). next_boot (at s q) ≡ Some n) b.0 is_next))
up_boots q (inr a) n is_next = absurd (none_at q.ended n (subst (λ (s : Stage). next_boot (at s q) ≡ Some n) a.0 is_next))

up_fails_not : (q : Pending) → ComesUp q → (n : List ℕ) → failing_name q ≡ Some n → ⊥
up_fails_not q (inl b) n fails =
    let here = subst (λ (s : Stage). failing_name (at s q) ≡ Some n) b.0 fails in
    let no : None ≡ Some n = subst (λ (x : Bool). (if x then next_boot (at stages.Booting q) else None) ≡ Some n) b.1 here in
    absurd cc
up_fails_not q (inr a) n fails =
    let here = subst (λ (s : Stage). failing_name (at s q) ≡ Some n) a.0 fails in
    let no : None ≡ Some n = subst (λ (o : Option ℕ). option_and_then (λ k. slice_get (map (λ i. i.name) q.plan.items) k) o ≡ Some n) a.1 here in
    absurd cc

up_closes : (q : Pending) (o : Outcome) → ComesUp q → MayClose q o → o ≡ outcomes.Successful
up_closes q outcomes.Successful up may = refl
up_closes q outcomes.RollbackNotRequested (inl b) may = elim may.1 [
  | inl f ↦ absurd (clash q.boot_failed f.1 b.1)
  | inr f ↦ let no : stages.Booting ≡ stages.Activating = sym b.0 ∙ f.0 in absurd cc
]
up_closes q outcomes.RollbackNotRequested (inr a) may = elim may.1 [
  | inl f ↦ let no : stages.Activating ≡ stages.Booting = sym a.0 ∙ f.0 in absurd cc
  | inr f ↦ absurd (clash (is_some (broken q)) f.1 (ap is_some a.1))
]
up_closes q outcomes.RollbackComplete (inl b) may = let no : stages.Booting ≡ stages.Rolling = sym b.0 ∙ may.0 in absurd cc
up_closes q outcomes.RollbackComplete (inr a) may = let no : stages.Activating ≡ stages.Rolling = sym a.0 ∙ may.0 in absurd cc
up_closes q outcomes.UnableToRollback (inl b) (inl f) = let no : stages.Booting ≡ stages.Rolling = sym b.0 ∙ f.0 in absurd cc
up_closes q outcomes.UnableToRollback (inl b) (inr f) = let no : stages.Booting ≡ stages.Backing = sym b.0 ∙ f.0 in absurd cc
up_closes q outcomes.UnableToRollback (inr a) (inl f) = let no : stages.Activating ≡ stages.Rolling = sym a.0 ∙ f.0 in absurd cc
up_closes q outcomes.UnableToRollback (inr a) (inr f) = let no : stages.Activating ≡ stages.Backing = sym a.0 ∙ f.0 in absurd cc

-- a good end is one more
moved_up : (q : Pending) → q.stage ≡ stages.Booting → moved_on q ≡ one_ended q
moved_up q stage = ap (λ (s : Stage). if (is_backing s && not (is_some (next_boot (one_ended q)))) then rolled (one_ended q) else one_ended q) stage

module _ (d : Device) (old : Pending) where
  abbrev Comes : List Record → Device → Type 0
  Comes records e = list_any is_failure records ≡ false → ClosedAs d old.plan outcomes.Successful e ⊎ Up d old records e

  up_on : (records : List Record) (c : Device) (r : Record) → IsOwn r → Allowed c r → is_failure r ≡ false → Up d old records c →
      ClosedAs d old.plan outcomes.Successful (applied c r) ⊎ Up d old (records ++ r ∷ []) (applied c r)
  up_on records c (Accepted p) own allowed good u = absurd (not_accepted c u.new p c.origin u.pending allowed)
  up_on records c (BootBegun n) own allowed good u = inr (record {
    new = begun u.new;
    pending = ap (option_map begun) u.pending;
    up = u.up;
    no_less = record { plan = u.no_less.plan; backs = u.no_less.backs; ended = u.no_less.ended };
    first = u.first;
    closed = u.closed;
    ended = λ ends. absurd (no_end records (BootBegun n) refl ends);
  })
  up_on records c (BootEnded n e) own allowed good u =
      let q = u.new in
      let may = may_of (MayEnd n) c q u.pending allowed in
      let boots = up_boots q u.up n may.1 in
      let before = u.no_less.ended in
      let left = boots.1 in
      let none : q.boot_failed ≡ false = may.0 in
      inr (record {
        new = one_ended q;
        pending = ap (option_map (boot_ended e)) u.pending ∙ ap Some (ended_is e q (good_end e good) ∙ moved_up q boots.0);
        up = inl (boots.0, none);
        no_less = record { plan = u.no_less.plan; backs = u.no_less.backs; ended = omega (arith, before) };
        first = u.first;
        closed = u.closed;
        ended = λ ends. record { stage = u.first boots.0; still = boots.0; more = omega (arith, before); most = omega (arith, left) };
      })
  up_on records c Activating own allowed good u = inr (record {
    new = activated u.new;
    pending = ap (option_map activated) u.pending;
    up = inr (refl, refl);
    no_less = record { plan = u.no_less.plan; backs = u.no_less.backs; ended = u.no_less.ended };
    first = λ is. absurd cc;
    closed = u.closed;
    ended = λ ends. absurd (no_end records Activating refl ends);
  })
  up_on records c (StepFailed n s e) own allowed good u = absurd (false≢true (sym good))
  up_on records c (Failing n) own allowed good u = absurd (up_fails_not u.new u.up n (may_of (MayBreak n) c u.new u.pending allowed).1)
  up_on records c (FailingBack n) own allowed good u = absurd (up_fails_not u.new u.up n (may_of (MayGoBack c.origin c.set n) c u.new u.pending allowed).0.1)
  up_on records c (Closed o) own allowed good u =
      let is = up_closes u.new o u.up (may_of (λ q. MayClose q o) c u.new u.pending allowed) in
      inl (subst (λ (x : Outcome). ClosedAs d old.plan outcomes.Successful (applied c (Closed x))) (sym is)
      (closes_now d old outcomes.Successful c u.new u.pending u.no_less.plan u.closed))
  up_on records c r own allowed good u = absurd own

  up_steps : Steps d Comes
  up_steps records c r run own allowed known free =
      let f = none_before is_failure records r free in
      elim (known f.0) [ inl closed ↦ inl (closed_more d old.plan outcomes.Successful c r closed) | inr u ↦ up_on records c r own allowed f.1 u ]

  up_first : d.pending ≡ Some old → ComesUp old → Comes [] d
  up_first pending up = λ free. inr (record {
    new = old;
    pending = pending;
    up = up;
    no_less = record { plan = refl; backs = refl; ended = omega arith };
    first = λ is. is;
    closed = refl;
    ended = λ ends. absurd (no_first ends);
  })

never_over : (p : SessionState) (h : List TraceEvent) → IsHistory p h → p.over ≡ false
never_over p h is = ap (λ (q : SessionState). q.over) is.start

pub resumes_go_on : ResumesGoOn
resumes_go_on p h q is pending up free = elim (along p (Comes p.device q) (up_first p.device q pending up) (up_steps p.device q) h is.proper is.run free) [
  | inl closed ↦ inl closed
  | inr u ↦ inr (record {
    new = u.new;
    pending = u.pending;
    up = u.up;
    no_less = u.no_less;
    restarted =
        λ over. u.ended (over_ends p h (never_over p h is) is.proper over);
  })
]

-- ---- from its acceptance on

-- what ends by the end of a bootstrap ends so behind the acceptance
ends_behind : (plan : Plan) (after : List Record) → EndsByEnd (Accepted plan ∷ after) → EndsByEnd after
ends_behind plan after ends = by ends.0 ends.3
  where
    by : (earlier : List Record) → Accepted plan ∷ after ≡ earlier ++ BootEnded ends.1 ends.2 ∷ [] → EndsByEnd after
    by [] is = let no : Accepted plan ≡ BootEnded ends.1 ends.2 = head_same (Accepted plan) (BootEnded ends.1 ends.2) after [] is in absurd cc
    by (x ∷ earlier) is = (earlier, ends.1, ends.2, tail_same (Accepted plan) x after (earlier ++ BootEnded ends.1 ends.2 ∷ []) is)

module _ (d : Device) (plan : Plan) where
  -- it closed, or comes up by the records behind its acceptance
  abbrev Goes : List Record → Device → Type 0
  Goes after e = ClosedAs d plan outcomes.Successful e ⊎ Up d (accepted plan) after e

  abbrev Taken : List Record → Device → Type 0
  Taken records e = list_any is_failure records ≡ false → (after : List Record) → records ≡ Accepted plan ∷ after → Goes after e

  taken_steps : Steps d Taken
  taken_steps [] c r run own allowed known free after is =
      subst (λ (l : List Record). Goes l (applied c r)) (tail_same r (Accepted plan) [] after is)
      (subst (λ (x : Record). Goes [] (applied c x)) (sym (head_same r (Accepted plan) [] after is))
      (inr (record {
        new = accepted plan;
        pending = refl;
        up = inl (refl, refl);
        no_less = record { plan = refl; backs = refl; ended = omega arith };
        first = λ is. is;
        closed = ap (λ (x : Device). x.closed) run;
        ended = λ ends. absurd (no_first ends);
      })))
  taken_steps (x ∷ records) c r run own allowed known free after is =
      let f = none_before is_failure (x ∷ records) r free in
      let first = head_same x (Accepted plan) (records ++ r ∷ []) after is in
      subst (λ (l : List Record). Goes l (applied c r)) (tail_same x (Accepted plan) (records ++ r ∷ []) after is)
      (elim (known f.0 records (ap (λ (y : Record). y ∷ records) first)) [
        | inl closed ↦ inl (closed_more d plan outcomes.Successful c r closed)
        | inr u ↦ up_on d (accepted plan) records c r own allowed f.1 u
      ])

  taken_first : Taken [] d
  taken_first free after is = absurd (not_empty [] (Accepted plan) after is)

pub deploys_go_on : DeploysGoOn
deploys_go_on p h plan after is first free = elim (along p (Taken p.device plan) (taken_first p.device plan) (taken_steps p.device plan) h is.proper is.run
    free after first) [
      | inl closed ↦ inl closed
      | inr u ↦ inr (record {
        new = u.new;
        pending = u.pending;
        up = u.up;
        no_less = u.no_less;
        restarted = λ over. u.ended (ends_behind plan after (subst EndsByEnd first (over_ends p h (never_over p h is) is.proper over)));
      })
    ]

-- ---- on the way back

record Back (d : Device) (old : Pending) (records : List Record) (e : Device) : Type 0 where
  new : Pending
  pending : e.pending ≡ Some new
  back : GoesBack new
  no_less : IsNoLess old new
  first : new.stage ≡ stages.Backing → old.stage ≡ stages.Backing
  closed : e.closed ≡ d.closed
  ended : EndsByEnd records → IsOneBack old new

back_boots : (q : Pending) → GoesBack q → (n : List ℕ) → next_boot q ≡ Some n → (q.stage ≡ stages.Backing) × (q.ended < length q.backs)
back_boots q (inl b) n is_next = (b.0, slice_get_within q.backs q.ended n (subst (λ (s : Stage). next_boot (at s q) ≡ Some n) b.0 is_next))
back_boots q (inr a) n is_next = absurd (none_at q.ended n (subst (λ (s : Stage). next_boot (at s q) ≡ Some n) a.0 is_next))

back_fails_not : (q : Pending) → GoesBack q → (n : List ℕ) → failing_name q ≡ Some n → ⊥
back_fails_not q (inl b) n fails = let no : None ≡ Some n = subst (λ (s : Stage). failing_name (at s q) ≡ Some n) b.0 fails in absurd cc
back_fails_not q (inr a) n fails = let no : None ≡ Some n = subst (λ (s : Stage). failing_name (at s q) ≡ Some n) a.0 fails in absurd cc

back_stage : (q : Pending) → GoesBack q → (q.stage ≡ stages.Booting) ⊎ (q.stage ≡ stages.Activating) → ⊥
back_stage q (inl b) (inl is) = let no : stages.Backing ≡ stages.Booting = sym b.0 ∙ is in absurd cc
back_stage q (inl b) (inr is) = let no : stages.Backing ≡ stages.Activating = sym b.0 ∙ is in absurd cc
back_stage q (inr a) (inl is) = let no : stages.Rolling ≡ stages.Booting = sym a.0 ∙ is in absurd cc
back_stage q (inr a) (inr is) = let no : stages.Rolling ≡ stages.Activating = sym a.0 ∙ is in absurd cc

back_closes : (q : Pending) (o : Outcome) → GoesBack q → MayClose q o → o ≡ outcomes.RollbackComplete
back_closes q outcomes.Successful back may = absurd (back_stage q back (inr may.0))
back_closes q outcomes.RollbackNotRequested back may = elim may.1 [
  | inl f ↦ absurd (back_stage q back (inl f.0))
  | inr f ↦ absurd
      (back_stage q back (inr f.0))
]
back_closes q outcomes.RollbackComplete back may = refl
back_closes q outcomes.UnableToRollback (inl b) (inl f) = let no : stages.Backing ≡ stages.Rolling = sym b.0 ∙ f.0 in absurd cc
back_closes q outcomes.UnableToRollback (inl b) (inr f) = absurd (clash q.boot_failed f.1 b.1)
back_closes q outcomes.UnableToRollback (inr a) (inl f) = absurd (clash (is_some (broken q)) f.1 (ap is_some a.1))
back_closes q outcomes.UnableToRollback (inr a) (inr f) = let no : stages.Rolling ≡ stages.Backing = sym a.0 ∙ f.0 in absurd cc

-- a good end is one more, and behind the last one the set's items come up again
record MovedBack (q new : Pending) : Type 0 where
  is : moved_on q ≡ new
  plan : new.plan ≡ q.plan
  backs : new.backs ≡ q.backs
  ended : new.ended ≡ q.ended + 1
  back : GoesBack new
  first : new.stage ≡ stages.Backing → q.stage ≡ stages.Backing

moved_back : (q : Pending) → q.stage ≡ stages.Backing → q.boot_failed ≡ false → (new : Pending) × MovedBack q new
moved_back q stage good = by (has_gone_back (one_ended q)) refl
  where
    by : (b : Bool) → has_gone_back (one_ended q) ≡ b → (new : Pending) × MovedBack q new
    by true gone = (
      rolled (one_ended q),
      record {
        is = ap (λ (b : Bool). if b then rolled (one_ended q) else one_ended q) gone;
        plan = refl;
        backs = refl;
        ended = refl;
        back =
            inr (refl, refl);
        first = λ is. absurd cc;
      },
    )
    by false not = (
      one_ended q,
      record {
        is = ap (λ (b : Bool). if b then rolled (one_ended q) else one_ended q) not;
        plan = refl;
        backs = refl;
        ended = refl;
        back =
            inl (stage, good);
        first = λ is. stage;
      },
    )

module _ (d : Device) (old : Pending) where
  abbrev Returns : List Record → Device → Type 0
  Returns records e = list_any is_failure records ≡ false → ClosedAs d old.plan outcomes.RollbackComplete e ⊎ Back d old records e

  back_on : (records : List Record) (c : Device) (r : Record) → IsOwn r → Allowed c r → is_failure r ≡ false → Back d old records c
      → ClosedAs d old.plan outcomes.RollbackComplete (applied c r) ⊎ Back d old (records ++ r ∷ []) (applied c r)
  back_on records c (Accepted p) own allowed good u = absurd (not_accepted c u.new p c.origin u.pending allowed)
  back_on records c (BootBegun n) own allowed good u = inr (record {
    new = begun u.new;
    pending = ap (option_map begun) u.pending;
    back = u.back;
    no_less = record { plan = u.no_less.plan; backs = u.no_less.backs; ended = u.no_less.ended };
    first = u.first;
    closed = u.closed;
    ended = λ ends. absurd (no_end records (BootBegun n) refl ends);
  })
  back_on records c (BootEnded n e) own allowed good u =
      let q = u.new in
      let may = may_of (MayEnd n) c q u.pending allowed in
      let boots = back_boots q u.back n may.1 in
      let m = moved_back q boots.0 may.0 in
      let before = u.no_less.ended in
      let left = boots.1 in
      let next = m.1.ended in
      let room : m.0.ended ≤ length q.backs = omega (arith, left, next) in
      inr (record {
        new = m.0;
        pending = ap (option_map (boot_ended e)) u.pending ∙ ap Some (ended_is e q (good_end e good) ∙ m.1.is);
        back = m.1.back;
        no_less = record { plan = m.1.plan ∙ u.no_less.plan; backs = m.1.backs ∙ u.no_less.backs; ended = omega (arith, before, next) };
        first = λ is. u.first (m.1.first is);
        closed = u.closed;
        ended = λ ends. record {
          stage = u.first boots.0;
          more = omega (arith, before, next);
          most = subst (λ (l : List (List ℕ)). m.0.ended ≤ length l)
              (sym m.1.backs) room;
        };
      })
  back_on records c Activating own allowed good u = absurd (back_stage u.new u.back (inl (may_of MayActivate c u.new u.pending allowed).0))
  back_on records c (StepFailed n s e) own allowed good u = absurd (false≢true (sym good))
  back_on records c (Failing n) own allowed good u = absurd (back_fails_not u.new u.back n (may_of (MayBreak n) c u.new u.pending allowed).1)
  back_on records c (FailingBack n) own allowed good u = absurd
      (back_fails_not u.new u.back n (may_of (MayGoBack c.origin c.set n) c u.new u.pending allowed).0.1)
  back_on records c (Closed o) own allowed good u =
      let is = back_closes u.new o u.back (may_of (λ q. MayClose q o) c u.new u.pending allowed) in
      inl (subst (λ (x : Outcome). ClosedAs d old.plan outcomes.RollbackComplete (applied c (Closed x))) (sym is)
      (closes_now d old outcomes.RollbackComplete c u.new u.pending u.no_less.plan u.closed))
  back_on records c r own allowed good u = absurd own

  back_steps : Steps d Returns
  back_steps records c r run own allowed known free =
      let f = none_before is_failure records r free in
      elim (known f.0) [ inl closed ↦ inl (closed_more d old.plan outcomes.RollbackComplete c r closed) | inr u ↦ back_on records c r own allowed f.1 u ]

  back_first : d.pending ≡ Some old → GoesBack old → Returns [] d
  back_first pending back = λ free. inr (record {
    new = old;
    pending = pending;
    back = back;
    no_less = record { plan = refl; backs = refl; ended = omega arith };
    first = λ is. is;
    closed = refl;
    ended = λ ends. absurd (no_first ends);
  })

pub backs_go_on : BacksGoOn
backs_go_on p h q is pending back free = elim (along p (Returns p.device q) (back_first p.device q pending back) (back_steps p.device q) h is.proper is.run
    free) [
      | inl closed ↦ inl closed
      | inr u ↦ inr (record {
        new = u.new;
        pending = u.pending;
        back = u.back;
        no_less = u.no_less;
        restarted =
            λ over. u.ended (over_ends p h (never_over p h is) is.proper over);
      })
    ]
