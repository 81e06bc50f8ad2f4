-- What meets its groups and its items meets them after a lawful record.
use Rattle.std.proofs.Common.{◌≡◌, Bool, true, false, List, [], ◌∷◌, ◌++◌, Option, Some, None, refl, sym, subst}
use Rattle.std.specs.Prelude.{option_map, if◌then◌else◌, ◌↔◌}
use Rattle.std.specs.Option.{IfSome, IsSomeAnd}
use Rattle.nuc_base.specs.declared.kinds.Outcome.{Outcome}
use Rattle.records.specs.declared.record.Origin.{Origin}
use Rattle.records.specs.Stored.{Item, Plan, Record, Genesis, Accepted, BootBegun, BootEnded, Activating, StepFailed, Failing, FailingBack, Closed}
use Rattle.device.specs.Devices.{Device, Pending, Group}
use Rattle.device.specs.Grouped.{with_group}
use Rattle.device.specs.Plans.{IsSupplied}
use Rattle.std.specs.List.{AllByRecursion}
use Rattle.device.specs.Lawful.{Allowed, MayAccept, applied, Lawful, Run, on_pending, close_pending, takes_plan, boot_ended, count_failure, begun, activated}
use Rattle.device.specs.Lawful.{rolled, sent_back}
use Rattle.device.specs.Met.{Met, GroupsAreMet, ItemsAreMet, IsPlanMet, BringsMet, BringMet}
use Rattle.device.proofs.Course.{ended_plan, counted_plan}

-- what is met where there is no origin is met with any
with_origin : (before : Option Origin) (o : Origin) (items : List Item) → before ≡ None → ItemsAreMet before items → ItemsAreMet (Some o) items
with_origin None o items is none = subst (λ (is : List Item). AllByRecursion (IsSupplied o.platform is) is) (sym none) tt
with_origin (Some p) o items is met = absurd cc

-- the same groups and the same origin, or one where there was none
plan_kept : (d e : Device) (p : Plan) → e.groups ≡ d.groups → (ItemsAreMet d.origin p.items → ItemsAreMet e.origin p.items) → IsPlanMet d p → IsPlanMet e p
plan_kept d e p same items met = record {
  groups = subst (λ (gs : List Group). GroupsAreMet (with_group gs p) p.items) (sym same) met.groups;
  items = items met.items;
}

genesis : (d : Device) (o : Origin) → d.origin ≡ None → Met d → Met (record d { origin = Some o })
genesis d o none met = record {
  groups = met.groups;
  items = with_origin d.origin o d.set none met.items;
  pending = by d.pending met.pending;
}
  where
    by : (p : Option Pending) → IfSome p (λ q. IsPlanMet d q.plan) → IfSome p (λ q. IsPlanMet (record d { origin = Some o }) q.plan)
    by None h = tt
    by (Some q) h = plan_kept d (record d { origin = Some o }) q.plan refl (with_origin d.origin o q.plan.items none) h

-- a change of the pending deployment that keeps its plan
staged : (f : Pending → Pending) (d : Device) → ((q : Pending) → (f q).plan ≡ q.plan) → Met d → Met (on_pending f d)
staged f d same met = record { groups = met.groups; items = met.items; pending = by d.pending met.pending }
  where
    by : (p : Option Pending) → IfSome p (λ q. IsPlanMet d q.plan) → IfSome (option_map f p) (λ q. IsPlanMet (on_pending f d) q.plan)
    by None h = tt
    by (Some q) h = subst (λ (p : Plan). IsPlanMet (on_pending f d) p) (sym (same q)) (plan_kept d (on_pending f d) q.plan refl (λ items. items) h)

closed : (d : Device) (o : Outcome) (p : Option Pending) → d.pending ≡ p → Met d → Met (close_pending o d p)
closed d o None is met = met
closed d o (Some q) is met = by (takes_plan o)
  where
    plan : IsPlanMet d q.plan
    plan = subst (λ (p : Option Pending). IfSome p (λ q. IsPlanMet d q.plan)) is met.pending

    by : (b : Bool) → Met (record {
      origin = d.origin;
      groups = if b then with_group d.groups q.plan else d.groups;
      set = if b then q.plan.items else d.set;
      closed = d.closed ++ (q.plan.id, o) ∷ [];
      pending = None;
    })
    by true = record { groups = plan.groups; items = plan.items; pending = tt }
    by false = record { groups = met.groups; items = met.items; pending = tt }

-- the items of a plan that is taken meet what they ask of one another
supplied : (d : Device) (p : Plan) (o : Option Origin) → IsSomeAnd o (MayAccept d p) → ItemsAreMet o p.items
supplied d p None h = absurd h
supplied d p (Some o) h = h.2.items.supplied

both : {A : Type 0} → A → A ↔ Unit {0}
both a = (λ _. tt, λ _. a)

step : (d : Device) (r : Record) → Met d → Allowed d r → Met (applied d r) ↔ BringsMet d r
step d (Genesis o) met allowed = both (genesis d o allowed.0 met)
step d (Accepted p) met allowed = (
  λ after. after.pending.groups,
  λ brings. record { groups = met.groups; items = met.items; pending = record { groups = brings; items = supplied d p d.origin allowed } },
)
step d (BootBegun n) met allowed = both (staged begun d (λ q. refl) met)
step d (BootEnded n e) met allowed = both (staged (boot_ended e) d (ended_plan e) met)
step d Activating met allowed = both (staged activated d (λ q. refl) met)
step d (StepFailed n s e) met allowed = both (staged (count_failure d.set n) d (counted_plan d.set n) met)
step d (Failing n) met allowed = both (staged rolled d (λ q. refl) met)
step d (FailingBack n) met allowed = both (staged (sent_back d.origin d.set) d (λ q. refl) met)
step d (Closed o) met allowed = both (closed d o d.pending refl met)
step d _ met allowed = absurd allowed

pub after_record : (d e : Device) (r : Record) → Met d → Lawful d r e → Met e ↔ BringsMet d r
after_record d e r met lawful = subst (λ (x : Device). Met x ↔ BringsMet d r) (sym lawful.leaves) (step d r met lawful.allowed)

pub after_run : (records : List Record) (d e : Device) → Met d → Run d records e → BringMet d records → Met e
after_run [] d e met run brings = subst Met (sym run) met
after_run (r ∷ rs) d e met run brings =
    let c = run.0 in
    after_run rs c e ((after_record d c r met run.1).1 brings.0) run.2 (subst (λ (x : Device). BringMet x rs) (sym run.1.leaves) brings.1)
