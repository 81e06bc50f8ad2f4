-- Configurations stay regular.
use Rattle.std.proofs.Common.{◌≡◌, zero, suc, arith, Bool, true, false, List, [], ◌∷◌, ◌++◌, Option, Some, None, Result, Ok, Err, refl, sym, subst}
use Rattle.std.specs.Prelude.{option_map, if◌then◌else◌}
use Rattle.std.specs.List.{AllByRecursion}
use Rattle.std.specs.Option.{IfSome}
use Rattle.nuc_base.specs.declared.kinds.Outcome.{Outcome}
use Rattle.records.specs.Layout.{IsWritable, item}
use Rattle.records.specs.Stored.{Item, Plan, Record, Genesis, Accepted, BootBegun, BootEnded, Activating, StepFailed, Failing, FailingBack, Closed, Kept}
use Rattle.device.specs.Devices.{Device, Pending, IsRegularDevice}
use Rattle.device.specs.Does.{HasActed}
use Rattle.device.specs.declared.fault.ApplyFault.{ApplyFault}
use Rattle.device.specs.declared.fault.ApplyFault.TheVariants as fault
use Rattle.device.specs.Grouped.{with_group}
use Rattle.device.specs.Regularity.{IsRegularRecord}
use Rattle.device.specs.Plans.{AreRegularItems}
use Rattle.device.specs.Lawful.{Allowed, applied, on_pending, close_pending, takes_plan, boot_ended, count_failure, begun, activated, rolled, sent_back}
use Rattle.device.proofs.Course.{ended_plan, counted_plan}

items_regular : (items : List Item) → AllByRecursion item.Asks items → AreRegularItems items
items_regular [] asks k d lt = absurd (omega (arith, lt))
items_regular (i ∷ is) asks zero d lt = asks.0.1.1.1.0.regular
items_regular (i ∷ is) asks (suc k) d lt = items_regular is asks.1 k d (omega (arith, lt))

pub writable : (r : Record) → IsWritable r → IsRegularRecord r
writable (Accepted p) w = items_regular p.items w.1.1.0.1
writable (Kept i) w = w.1.1.1.0.regular
writable _ w = tt

staged : (f : Pending → Pending) (d : Device) → ((q : Pending) → (f q).plan ≡ q.plan) → IsRegularDevice d → IsRegularDevice (on_pending f d)
staged f d same regular = record { set = regular.set; pending = by d.pending regular.pending }
  where
    by : (p : Option Pending) → IfSome p (λ q. AreRegularItems q.plan.items) → IfSome (option_map f p) (λ q. AreRegularItems q.plan.items)
    by None h = tt
    by (Some q) h = subst (λ (p : Plan). AreRegularItems p.items) (sym (same q)) h

closed : (d : Device) (o : Outcome) (p : Option Pending) → d.pending ≡ p → IsRegularDevice d → IsRegularDevice (close_pending o d p)
closed d o None is regular = regular
closed d o (Some q) is regular = by (takes_plan o)
  where
    plan : AreRegularItems q.plan.items
    plan = subst (λ (p : Option Pending). IfSome p (λ q. AreRegularItems q.plan.items)) is regular.pending

    by : (b : Bool) → IsRegularDevice (record {
      origin = d.origin;
      groups = if b then with_group d.groups q.plan else d.groups;
      set = if b then q.plan.items else d.set;
      closed = d.closed ++ (q.plan.id, o) ∷ [];
      pending = None;
    })
    by true = record { set = plan; pending = tt }
    by false = record { set = regular.set; pending = tt }

step : (d : Device) (r : Record) → IsRegularRecord r → IsRegularDevice d → IsRegularDevice (applied d r)
step d (Genesis o) r regular = record { set = regular.set; pending = regular.pending }
step d (Accepted p) r regular = record { set = regular.set; pending = r }
step d (BootBegun n) r regular = staged begun d (λ q. refl) regular
step d (BootEnded n e) r regular = staged (boot_ended e) d (ended_plan e) regular
step d Activating r regular = staged activated d (λ q. refl) regular
step d (StepFailed n s e) r regular = staged (count_failure d.set n) d (counted_plan d.set n) regular
step d (Failing n) r regular = staged rolled d (λ q. refl) regular
step d (FailingBack n) r regular = staged (sent_back d.origin d.set) d (λ q. refl) regular
step d (Closed o) r regular = closed d o d.pending refl regular
step d _ r regular = regular

pub after : (old new : Device) (r : Record) (result : Result (Unit {0}) ApplyFault) → IsRegularRecord r
    → HasActed (Allowed old r) (applied old r) old new result
    → IsRegularDevice old → IsRegularDevice new
after old new r (Ok x) writable does regular = subst IsRegularDevice (sym does.1) (step old r writable regular)
after old new r (Err fault.NotLawful) writable does regular = subst IsRegularDevice (sym does.1) regular
after old new r (Err fault.NoMemory) writable does regular = subst IsRegularDevice (sym does) regular
