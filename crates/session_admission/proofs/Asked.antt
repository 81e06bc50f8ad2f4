-- What making ready asks, of a sound device: for a plan that it may accept, and for the one that is pending.
use Rattle.std.proofs.Common.{◌≡◌, Option, Some, None, refl, subst}
use Rattle.std.specs.Option.{IfSome, IsSomeAnd}
use Rattle.records.specs.Stored.{Plan, Accepted}
use Rattle.records.specs.declared.record.Origin.{Origin}
use Rattle.device.specs.Devices.{Device, IsRegularDevice, Pending}
use Rattle.device.specs.Lawful.{Allowed, MayAccept}
use Rattle.device.specs.Plans.{AreItems, AreRegularItems, IsPlan}
use Rattle.device.specs.Sound.{AreItemsFor, IsPlanFor, IsSound, IsUnderWay}

-- ---- the items of the set

pub set_items : (d : Device) (o : Origin) → IsSound d → d.origin ≡ Some o → AreItems o.platform d.set
set_items d o sound is = subst (λ (x : Option Origin). AreItemsFor x d.set) is sound.set

-- ---- a plan that may be accepted

pub accepted_plan : (d : Device) (o : Origin) (plan : Plan) → d.origin ≡ Some o → Allowed d (Accepted plan) → IsPlan o.platform plan
accepted_plan d o plan is allowed =
    let may : MayAccept d plan o = subst (λ (x : Option Origin). IsSomeAnd x (MayAccept d plan)) is allowed in
    may.2

some_of : {A : Type 0} (P : A → Type 0) (x : Option A) → IsSomeAnd x P → (a : A) × (x ≡ Some a)
some_of P None h = absurd h
some_of P (Some a) h = (a, refl)

pub accepting_origin : (d : Device) (plan : Plan) → Allowed d (Accepted plan) → (o : Origin) × (d.origin ≡ Some o)
accepting_origin d plan allowed = some_of (MayAccept d plan) d.origin allowed

-- ---- the plan that is pending

under_way : (d : Device) (q : Pending) → IsSound d → d.pending ≡ Some q → IsUnderWay d q
under_way d q sound is = subst (λ (x : Option Pending). IfSome x (IsUnderWay d)) is sound.pending

pub pending_origin : (d : Device) (q : Pending) → IsSound d → d.pending ≡ Some q → (o : Origin) × (d.origin ≡ Some o)
pending_origin d q sound is = some_of (λ (o : Origin). IsPlan o.platform q.plan) d.origin (under_way d q sound is).0.plan_is

pub pending_plan : (d : Device) (o : Origin) (q : Pending) → IsSound d → d.origin ≡ Some o → d.pending ≡ Some q → IsPlan o.platform q.plan
pending_plan d o q sound origin is = subst (λ (x : Option Origin). IsPlanFor x q.plan) origin (under_way d q sound is).0.plan_is

pub pending_regular : (d : Device) (q : Pending) → IsRegularDevice d → d.pending ≡ Some q → AreRegularItems q.plan.items
pending_regular d q regular is = subst (λ (x : Option Pending). IfSome x (λ p. AreRegularItems p.plan.items)) is regular.pending
