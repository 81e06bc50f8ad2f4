-- One lawful record, as the plain course sees it.
use Rattle.std.proofs.Common.{◌≡◌, ℕ, Bool, true, false, List, [], ◌∷◌, Option, Some, None, refl, ap, ◌∙◌}
use Rattle.std.specs.Prelude.{option_map, if◌then◌else◌}
use Rattle.nuc_base.specs.declared.kinds.Exit.{Exit}
use Rattle.nuc_base.specs.declared.kinds.Outcome.{Outcome}
use Rattle.records.specs.Stored.{Item, Plan, Record, BootBegun, BootEnded, Activating, StepFailed, Failing, FailingBack, Closed}
use Rattle.device.specs.After.{course, closing, course_after, After}
use Rattle.device.specs.Devices.{Device, Pending}
use Rattle.device.specs.Lawful.{applied, on_pending, close_pending, boot_ended, moved_on, has_gone_back, one_ended, goes_on, count_failure, failing_place}
use Rattle.device.specs.Lawful.{begun, activated, rolled, sent_back, counted, Run}

moved_plan : (q : Pending) → (moved_on q).plan ≡ q.plan
moved_plan q = by (has_gone_back (one_ended q))
  where
    by : (b : Bool) → (if b then rolled (one_ended q) else one_ended q).plan ≡ q.plan
    by true = refl
    by false = refl

pub ended_plan : (e : Exit) (q : Pending) → (boot_ended e q).plan ≡ q.plan
ended_plan e q = by (goes_on e)
  where
    by : (b : Bool) → (if b then moved_on q else record q { boot_failed = true }).plan ≡ q.plan
    by true = moved_plan q
    by false = refl

pub counted_plan : (set : List Item) (n : List ℕ) (q : Pending) → (count_failure set n q).plan ≡ q.plan
counted_plan set n q = by (failing_place set q n)
  where
    by : (o : Option ℕ) → (counted o q).plan ≡ q.plan
    by None = refl
    by (Some k) = refl

-- a change of the pending deployment that keeps its plan
kept : (f : Pending → Pending) (d : Device) → ((q : Pending) → (f q).plan ≡ q.plan) → course (on_pending f d) ≡ course d
kept f d same = ap (λ (p : Option Plan). record { groups = d.groups; set = d.set; closed = d.closed; plan = p }) (by d.pending)
  where
    by : (o : Option Pending) → option_map (λ q. q.plan) (option_map f o) ≡ option_map (λ q. q.plan) o
    by None = refl
    by (Some q) = ap Some (same q)

closes : (d : Device) (o : Outcome) (p : Option Pending) → d.pending ≡ p → course (close_pending o d p) ≡ closing o (course d) (option_map (λ q. q.plan) p)
closes d o None is = refl
closes d o (Some q) is = refl

step : (d : Device) (r : Record) → course (applied d r) ≡ course_after (course d) r
step d (BootBegun n) = kept begun d (λ q. refl)
step d (BootEnded n e) = kept (boot_ended e) d (ended_plan e)
step d Activating = kept activated d (λ q. refl)
step d (StepFailed n s e) = kept (count_failure d.set n) d (counted_plan d.set n)
step d (Failing n) = kept rolled d (λ q. refl)
step d (FailingBack n) = kept (sent_back d.origin d.set) d (λ q. refl)
step d (Closed o) = closes d o d.pending refl
step d _ = refl

pub run : (records : List Record) (d e : Device) → Run d records e → course e ≡ After (course d) records
run [] d e h = ap course h
run (r ∷ rs) d e h = run rs h.0 e h.2 ∙ ap (λ c. After c rs) (ap course h.1.leaves ∙ step d r)
