-- What is whole is whole after a lawful record.
use Rattle.std.proofs.Common.{◌≡◌, ℕ, ◌+◌, ◌<◌, Bool, true, false, List, [], ◌∷◌, ◌++◌, length, map, refl, sym, subst, arith}
use Rattle.std.specs.Prelude.{Option, Some, None, option_map, if◌then◌else◌}
use Rattle.std.specs.List.{All}
use Rattle.std.specs.Option.{IfSome}
use Rattle.nuc_base.specs.Leads.{HasPath, direct, through}
use Rattle.nuc_base.specs.declared.kinds.Outcome.{Outcome}
use Rattle.nuc_base.proofs.Lists.{all_from_in, in_nil}
use Rattle.recipe_reader.specs.Candidates.{IsReadFor}
use Rattle.recipe_reader.specs.Members.{Need, members}
use Rattle.recipe_reader.specs.Sets.{IsMet, IsReached, IsValid, HasDependency, needs_of}
use Rattle.recipe_reader.specs.declared.candidate.Candidate.{Candidate}
use Rattle.records.specs.Stored.{Item, Plan, Record, Genesis, Accepted, BootBegun, BootEnded, Activating, StepFailed, Failing, FailingBack, Closed}
use Rattle.records.specs.declared.record.Origin.{Origin}
use Rattle.device.specs.Devices.{Device, Group, Pending, no_device}
use Rattle.device.specs.Grouped.{with_group}
use Rattle.device.specs.Lawful.{Allowed, Lawful, Run, activated, applied, begun, boot_ended, close_pending, count_failure, on_pending, rolled, takes_plan}
use Rattle.device.specs.Lawful.{sent_back}
use Rattle.device.proofs.Course.{counted_plan, ended_plan}
use Rattle.law_whole.specs.Whole.{AreWhole, AreWholeOn, BringWhole, BringsWhole, Whole}

-- ---- without groups and items

leads_nowhere : (ms : _) {a b : ℕ} → HasPath (HasDependency ms []) a b → ⊥
leads_nowhere ms {a} (direct n) = in_nil a n.from
leads_nowhere ms {a} (through n more) = in_nil a n.from

none_valid : IsValid (members []) [] []
none_valid = record {
  rising = λ k within. absurd (omega (arith, within));
  inside = all_from_in (λ (p : ℕ). p < 0) [] (λ p i. absurd (in_nil p i));
  one_version = λ p q i j same. absurd (in_nil p i);
  wanted_met = all_from_in (λ (w : Need). IsMet (members []) [] w.name w.range) [] (λ w i. absurd (in_nil w i));
  needs_met = all_from_in (λ (p : ℕ). All (λ (d : Need). IsMet (members []) [] d.name d.range) (needs_of (members []) p)) [] (λ p i. absurd (in_nil p i));
  reached = all_from_in (λ (p : ℕ). IsReached (members []) [] [] p) [] (λ p i. absurd (in_nil p i));
  acyclic = λ p l. leads_nowhere (members []) l;
}

empty_on : (o : Origin) → AreWholeOn o [] []
empty_on o = record {
  candidates = [];
  are = tt;
  read = all_from_in (IsReadFor o.platform) [] (λ c i. absurd (in_nil c i));
  valid = record { set = []; valid = none_valid; all = λ p below. absurd (omega (arith, below)) };
  built_in = λ i among. absurd (in_nil i among);
}

pub empty_whole : Whole no_device
empty_whole = record { set = (refl, refl); pending = tt }

with_origin : (before : Option Origin) (o : Origin) (groups : List Group) (items : List Item) → before ≡ None → AreWhole before groups items →
    AreWhole (Some o) groups items
with_origin None o groups items is none =
    subst (λ (gs : List Group). AreWholeOn o gs items) (sym none.0) (subst (λ (is : List Item). AreWholeOn o [] is) (sym none.1) (empty_on o))
with_origin (Some p) o groups items is h = absurd cc

-- ---- one record

genesis : (d : Device) (o : Origin) → d.origin ≡ None → Whole d → Whole (record d { origin = Some o })
genesis d o none whole = record { set = with_origin d.origin o d.groups d.set none whole.set; pending = by d.pending whole.pending }
  where
    by : (p : Option Pending) → IfSome p (λ q. AreWhole d.origin (with_group d.groups q.plan) q.plan.items) →
        IfSome p (λ q. AreWhole (Some o) (with_group d.groups q.plan) q.plan.items)
    by None h = tt
    by (Some q) h = with_origin d.origin o (with_group d.groups q.plan) q.plan.items none h

-- a change of the pending deployment that keeps its plan
staged : (f : Pending → Pending) (d : Device) → ((q : Pending) → (f q).plan ≡ q.plan) → Whole d → Whole (on_pending f d)
staged f d same whole = record { set = whole.set; pending = by d.pending whole.pending }
  where
    by : (p : Option Pending) → IfSome p (λ q. AreWhole d.origin (with_group d.groups q.plan) q.plan.items)
        → IfSome (option_map f p) (λ q. AreWhole d.origin (with_group d.groups q.plan) q.plan.items)
    by None h = tt
    by (Some q) h = subst (λ (p : Plan). AreWhole d.origin (with_group d.groups p) p.items) (sym (same q)) h

closed : (d : Device) (o : Outcome) (p : Option Pending) → d.pending ≡ p → Whole d → Whole (close_pending o d p)
closed d o None is whole = whole
closed d o (Some q) is whole = by (takes_plan o)
  where
    plan : AreWhole d.origin (with_group d.groups q.plan) q.plan.items
    plan = subst (λ (p : Option Pending). IfSome p (λ q. AreWhole d.origin (with_group d.groups q.plan) q.plan.items)) is whole.pending

    by : (b : Bool) → Whole (record {
      origin = d.origin;
      groups = if b then with_group d.groups q.plan else d.groups;
      set = if b then q.plan.items else d.set;
      closed = d.closed ++ (q.plan.id, o) ∷ [];
      pending = None;
    })
    by true = record { set = plan; pending = tt }
    by false = record { set = whole.set; pending = tt }

step : (d : Device) (r : Record) → Whole d → Allowed d r → BringsWhole d r → Whole (applied d r)
step d (Genesis o) whole allowed brings = genesis d o allowed.0 whole
step d (Accepted p) whole allowed brings = record { set = whole.set; pending = brings }
step d (BootBegun n) whole allowed brings = staged begun d (λ q. refl) whole
step d (BootEnded n e) whole allowed brings = staged (boot_ended e) d (ended_plan e) whole
step d Activating whole allowed brings = staged activated d (λ q. refl) whole
step d (StepFailed n s e) whole allowed brings = staged (count_failure d.set n) d (counted_plan d.set n) whole
step d (Failing n) whole allowed brings = staged rolled d (λ q. refl) whole
step d (FailingBack n) whole allowed brings = staged (sent_back d.origin d.set) d (λ q. refl) whole
step d (Closed o) whole allowed brings = closed d o d.pending refl whole
step d _ whole allowed brings = absurd allowed

pub after_record : (d e : Device) (r : Record) → Whole d → Lawful d r e → BringsWhole d r → Whole e
after_record d e r whole lawful brings = subst Whole (sym lawful.leaves) (step d r whole lawful.allowed brings)

pub after_run : (records : List Record) (d e : Device) → Whole d → Run d records e → BringWhole d records → Whole e
after_run [] d e whole run brings = subst Whole (sym run) whole
after_run (r ∷ rs) d e whole run brings =
    let c = run.0 in
    after_run rs c e (after_record d c r whole run.1 (brings.0 whole)) run.2 (subst (λ (x : Device). BringWhole x rs) (sym run.1.leaves) brings.1)
