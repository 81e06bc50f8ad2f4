-- A device has an origin from its first record on.
use Rattle.std.proofs.Common.{◌≡◌, ◌∙◌, inl, inr, ℕ, List, [], ◌∷◌, ap, refl, Option, Some, None}
use Rattle.std.specs.Option.{IsSome}
use Rattle.nuc_base.specs.declared.kinds.Outcome.{Outcome}
use Rattle.records.specs.declared.record.Origin.{Origin}
use Rattle.records.specs.Stored.{Record, Genesis, Closed}
use Rattle.device.specs.Devices.{Device, Pending, no_device}
use Rattle.device.specs.Lawful.{Allowed, applied, close_pending}
use Rattle.device.specs.Standing.{ArePayloads, IsMeant}

close_origin : (o : Outcome) (d : Device) (q : Option Pending) → (close_pending o d q).origin ≡ d.origin
close_origin o d None = refl
close_origin o d (Some q) = refl

keeps_origin : (d : Device) (r : Record) (o : Origin) → d.origin ≡ Some o → Allowed d r → (applied d r).origin ≡ Some o
keeps_origin d (Genesis g) o is allowed = let none : d.origin ≡ None = allowed.0 in cc
keeps_origin d (Closed c) o is allowed = close_origin c d d.pending ∙ is
keeps_origin d _ o is allowed = is

plays_on : (d : Device) (ps : List (List ℕ)) (e : Device) (o : Origin) → d.origin ≡ Some o → ArePayloads d ps e → e.origin ≡ Some o
plays_on d [] e o is plays = ap (λ (x : Device). x.origin) plays ∙ is
plays_on d (p ∷ ps) e o is plays =
    let step = plays.1 in
    plays_on plays.0 ps e o (ap (λ (x : Device). x.origin) step.lawful.leaves ∙ keeps_origin d step.entry o is step.lawful.allowed) plays.2

first_origin : (r : Record) → Allowed no_device r → (o : Origin) × ((applied no_device r).origin ≡ Some o)
first_origin (Genesis o) allowed = (o, refl)
first_origin _ allowed = absurd allowed

has_one : (o : Option Origin) → IsSome o → (x : Origin) × (o ≡ Some x)
has_one None some = absurd cc
has_one (Some x) some = (x, refl)

-- where there is an entry
pub has_origin : (ps : List (List ℕ)) (d : Device) → (ps ≡ [] → ⊥) → IsMeant ps d → (o : Origin) × (d.origin ≡ Some o)
has_origin [] d some (inl plays) = absurd (some refl)
has_origin (p ∷ ps) d some (inl plays) =
    let step = plays.1 in
    let first = first_origin step.entry step.lawful.allowed in
    (first.0, plays_on plays.0 ps d first.0 (ap (λ (x : Device). x.origin) step.lawful.leaves ∙ first.1) plays.2)
has_origin ps d some (inr anew) =
    let first = has_one anew.begun.origin anew.is.has.origin in
    (first.0, plays_on anew.begun anew.after d first.0 first.1 anew.plays)
