-- A failure that was handed out may be recorded, and its record leaves the stage as it is.
use Rattle.std.specs.Prelude.{ℕ, suc, zero, ◌+◌, Bool, true, false, length, map, List, [], ◌∷◌, Option, Some, None, slice_get, option_and_then, ⊤}
use Rattle.std.specs.Option.{IsSomeAnd}
use Rattle.std.proofs.Common.{◌≡◌, ◌<◌, ◌∙◌, refl, sym, ap, subst, arith}
use Rattle.nuc_base.specs.declared.kinds.Exit.{Exit}
use Rattle.nuc_base.specs.declared.kinds.Step.{Step}
use Rattle.records.specs.Stored as stored
use Rattle.device.specs.Devices.{Device, Pending}
use Rattle.device.specs.Lawful.{Allowed, MayFail, applied, count_failure, counted, failing_place}
use Rattle.device.specs.declared.staged.Stage.{Stage}
use Rattle.device.specs.declared.staged.Stage.TheVariants as stages
use Rattle.components.specs.Components.{Components, ComponentState, At, changed_at, is_spared, component_name, place_of}
use Rattle.components.specs.Acts.{OwesAt}
use Rattle.components.specs.Events.{heard_at, heard_of}
use Rattle.histories.specs.Phases.{duty_of, duty_in}
use Rattle.histories.specs.Follows.{OwesBy}
use Rattle.law_supervisor.specs.Keeps.{AgreesBy, IsCounted, IsSupervised}

-- the component at the place, and its name after its failure was told
pub record Named (k : ℕ) (parts : List ComponentState) (P : ComponentState → Type 0) : Type 0 where
  pub part : ComponentState
  pub there : slice_get parts k ≡ Some part
  pub has : P part
  pub name : slice_get (map component_name (changed_at k (λ q. record q { owed = None }) parts)) k ≡ Some (component_name part)
  pub within : k < length (changed_at k (λ q. record q { owed = None }) parts)

pub named : (k : ℕ) (parts : List ComponentState) (P : ComponentState → Type 0) → At k P parts → Named k parts P
named k [] P h = absurd h
named zero (q ∷ ps) P h = record { part = q; there = refl; has = h; name = refl; within = omega arith }
named (suc k) (q ∷ ps) P h =
    let n = named k ps P h in
    record { part = n.part; there = n.there; has = n.has; name = n.name; within = omega (arith, n.within) }

apart : {A : Type 0} (x : A) → Some x ≡ None → ⊥
apart x e = subst (λ o. IsSomeAnd o (λ _. ⊤)) e tt

agrees : (d : Device) (q : ComponentState) (f : Step × Exit) → IsCounted d q → q.owed ≡ Some f → AgreesBy d (component_name q) q.life.failures (Some f)
agrees d q f c is = by (is_spared q) q.life.gone refl refl
  where
    by : (b g : Bool) → is_spared q ≡ b → q.life.gone ≡ g → AgreesBy d (component_name q) q.life.failures (Some f)
    by true g e i = absurd (apart f (sym is ∙ c.spared e))
    by false true e i = absurd (apart f (sym is ∙ c.gone i))
    by false false e i = subst (λ o. AgreesBy d (component_name q) q.life.failures o) is (c.own e i)

less : (o : Option ℕ) (f : ℕ) → IsSomeAnd o (λ c. (f ≡ c + 1) × (c < 3)) → IsSomeAnd o (λ c. c < 3)
less None f h = absurd h
less (Some c) f h = h.1

abbrev pends : Device → Option Pending → Device
pends d o = record d { pending = o }

may : (d : Device) (o : Option Pending) (n : List ℕ) (f : ℕ) (s : Step) (e : Exit) → AgreesBy (pends d o) n f (Some (s, e)) →
    IsSomeAnd o (λ q. MayFail d.set n s e q)
may d None n f s e h = absurd h.0
may d (Some q) n f s e h = (less (option_and_then (slice_get q.failures) (failing_place d.set q n)) f h.0, h.1, h.2)

-- what the record of the failure rests on
pub record CanFail (d : Device) (w : Components) (k : ℕ) (s : Step) (e : Exit) (n : List ℕ) : Type 0 where
  pub allowed : Allowed d (stored.StepFailed n s e)
  pub owes : OwesBy w n s e
  pub place : place_of n w.parts ≡ Some k
  pub named : At k (λ q. component_name q ≡ n) w.parts

owes_by : (o : Option ℕ) (k : ℕ) (P : ℕ → Type 0) → o ≡ Some k → P k → IsSomeAnd o P
owes_by o k P is h = subst (λ (x : Option ℕ). IsSomeAnd x P) (sym is) h

at_part : (o : Option ComponentState) (q : ComponentState) (P : ComponentState → Type 0) → o ≡ Some q → P q → IsSomeAnd o P
at_part o q P is h = subst (λ (x : Option ComponentState). IsSomeAnd x P) (sym is) h

some_same : (a c : List ℕ) → Some a ≡ Some c → a ≡ c
some_same a c e = ap (λ (o : Option (List ℕ)). elim o [ None ↦ a | Some y ↦ y ]) e

-- by the name that the supervisor tells
can_fail : (d : Device) (w : Components) (k : ℕ) (s : Step) (e : Exit) (b : Bool) (n : List ℕ) → IsSupervised d w → OwesAt w k s e b →
    slice_get (map component_name (heard_at k w).parts) k ≡ Some n → CanFail d w k s e n
can_fail d w k s e b n keeps owes is =
    let x = named k w.parts _ owes in
    let same : component_name x.part ≡ n = some_same (component_name x.part) n (sym x.name ∙ is) in
    let counts = keeps.counted k x.part x.there in
    let place = subst (λ (m : List ℕ). place_of m w.parts ≡ Some k) same x.has.2 in
    record {
      allowed = may d d.pending n x.part.life.failures s e (subst (λ (m : List ℕ). AgreesBy d m x.part.life.failures (Some (s, e))) same
          (agrees d x.part (s, e) counts x.has.0));
      owes = owes_by (place_of n w.parts) k (λ j. At j (λ p. p.owed ≡ Some (s, e)) w.parts) place
          (at_part (slice_get w.parts k) x.part (λ p. p.owed ≡ Some (s, e)) x.there x.has.0);
      place = place;
      named = at_part (slice_get w.parts k) x.part (λ p. component_name p ≡ n) x.there same;
    }

-- the same of the supervisor's components, where the failure was told
pub can_tell : (d : Device) (w v : Components) (k : ℕ) (s : Step) (e : Exit) (b : Bool) (n : List ℕ) → IsSupervised d w → OwesAt w k s e b → v ≡ heard_at k w →
    slice_get (map component_name v.parts) k ≡ Some n → CanFail d w k s e n
can_tell d w v k s e b n keeps owes is name = can_fail d w k s e b n keeps owes
    (subst (λ (x : Components). slice_get (map component_name x.parts) k ≡ Some n) is name)

pub within_told : (w v : Components) (k : ℕ) (s : Step) (e : Exit) (b : Bool) → OwesAt w k s e b → v ≡ heard_at k w → k < length v.parts
within_told w v k s e b owes is = subst (λ (x : Components). k < length x.parts) (sym is) (named k w.parts _ owes).within

-- ---- the stage

phase_in : (d e : Device) (q : Pending) (s : Stage) (x : Option ℕ) → (duty_in e (counted x (record q { stage = s }))).phase
    ≡ (duty_in d (record q { stage = s })).phase
phase_in d e q stages.Booting None = refl
phase_in d e q stages.Booting (Some k) = refl
phase_in d e q stages.Activating None = refl
phase_in d e q stages.Activating (Some k) = refl
phase_in d e q stages.Backing None = refl
phase_in d e q stages.Backing (Some k) = refl
phase_in d e q stages.Rolling None = refl
phase_in d e q stages.Rolling (Some k) = refl

same_phase : (d : Device) (o : Option Pending) (n : List ℕ) (s : Step) (e : Exit) → (duty_of (applied (pends d o) (stored.StepFailed n s e))).phase
    ≡ (duty_of (pends d o)).phase
same_phase d None n s e = refl
same_phase d (Some q) n s e = phase_in (pends d (Some q)) (pends d (Some (count_failure d.set n q))) q q.stage (failing_place d.set q n)

-- a failure's record leaves the stage
pub phase_on : (d : Device) (n : List ℕ) (s : Step) (e : Exit) → (duty_of (applied d (stored.StepFailed n s e))).phase ≡ (duty_of d).phase
phase_on d n s e = same_phase d d.pending n s e

pub told_same : (n : List ℕ) (k : ℕ) (w : Components) → place_of n w.parts ≡ Some k → heard_of n w ≡ heard_at k w
told_same n k w is = ap (λ (o : Option ℕ). elim o as (λ x. Components) [ None ↦ w | Some j ↦ heard_at j w ]) is
