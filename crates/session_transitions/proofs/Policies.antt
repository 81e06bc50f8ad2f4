-- What is lawful of a deployment that fails.
use Rattle.std.specs.Prelude.{ℕ, nat_eq, length, map, get_or, slice_get, Bool, true, false, List, [], Option, Some, None, IsSome, is_some}
use Rattle.std.specs.Prelude.{option_and_then, position, if◌then◌else◌}
use Rattle.std.specs.Option.{IfSome, IsSomeAnd, option_map_or}
use Rattle.std.proofs.Common.{◌≡◌, ◌<◌, ◌∙◌, inl, inr, refl, sym, ap, subst, arith}
use Rattle.std.proofs.lemmas.Bool.{eqb-true, false≢true}
use Rattle.std.proofs.lemmas.List.{length-map}
use Rattle.std.proofs.lemmas.List.Quantifiers.{position-Some}
use Rattle.std.proofs.lemmas.Option.{slice_get-get_or}
use Rattle.nuc_base.specs.declared.kinds.Outcome.TheVariants as outcomes
use Rattle.nuc_base.specs.declared.kinds.Policy.{Policy}
use Rattle.nuc_base.specs.declared.kinds.Policy.TheVariants as policies
use Rattle.records.specs.Stored as stored
use Rattle.records.specs.Stored.{Item}
use Rattle.device.specs.Devices.{Device, Pending}
use Rattle.device.specs.Lawful.{Allowed, MayClose, broken, failing_name}
use Rattle.device.specs.Sound.{AreCounts, IsInStage, IsSound, IsUnderWay}
use Rattle.device.specs.declared.staged.Stage.{Stage}
use Rattle.device.specs.declared.staged.Stage.TheVariants as stages
use Rattle.deploy_state.specs.Fields.{CanBreakOff, has_failed}
use Rattle.deploy_state.specs.States.{IsIn}
use Rattle.histories.specs.Phases.{duty_in, duty_of}
use Rattle.histories.specs.Waits.{has_three}
use Rattle.session_startup.proofs.Closed.{counts_in, three_same}
use Rattle.session_transitions.specs.Fails.{is_rollback, is_to_roll_back}

abbrev pends : Device → Option Pending → Device
pends d o = record d { pending = o }

-- ---- what the plan wants

not_rollback : (p : Policy) → is_rollback p ≡ false → p ≡ policies.DoNothing
not_rollback policies.Rollback h = absurd (false≢true (sym h))
not_rollback policies.DoNothing h = refl

rollback_is : (p : Policy) → is_rollback p ≡ true → p ≡ policies.Rollback
rollback_is policies.Rollback h = refl
rollback_is policies.DoNothing h = absurd (false≢true h)

-- ---- a third failure

broke_in : (d : Device) (q : Pending) → has_three (duty_in d q).counts ≡ true → is_some (broken q) ≡ true
broke_in d q three = three_same q ∙ ap has_three (sym (counts_in d q q.stage)) ∙ three

-- ---- it stays as it is

pub keeps_booting : (d : Device) → IsIn stages.Booting d → has_failed d ≡ true → is_to_roll_back d ≡ false →
    Allowed d (stored.Closed outcomes.RollbackNotRequested)
keeps_booting d is failed policy = by d.pending is failed policy
  where
    by : (o : Option Pending) → IsSomeAnd o (λ q. q.stage ≡ stages.Booting) → option_map_or (λ q. q.boot_failed) o false ≡ true →
        option_map_or (λ q. is_rollback q.plan.policy) o false ≡ false
        → IsSomeAnd o (λ q. MayClose q outcomes.RollbackNotRequested)
    by None is failed policy = absurd is
    by (Some q) is failed policy = (not_rollback q.plan.policy policy, inl (is, failed))

pub keeps_activating : (d : Device) → IsIn stages.Activating d → has_three (duty_of d).counts ≡ true → is_to_roll_back d ≡ false →
    Allowed d (stored.Closed outcomes.RollbackNotRequested)
keeps_activating d is three policy = by d.pending is three policy
  where
    by : (o : Option Pending) → IsSomeAnd o (λ q. q.stage ≡ stages.Activating) → has_three (duty_of (pends d o)).counts ≡ true →
        option_map_or (λ q. is_rollback q.plan.policy) o false ≡ false
        → IsSomeAnd o (λ q. MayClose q outcomes.RollbackNotRequested)
    by None is three policy = absurd is
    by (Some q) is three policy = (not_rollback q.plan.policy policy, inr (is, broke_in (pends d (Some q)) q three))

-- ---- a bootstrap that runs again failed

pub closes_backing : (d : Device) → IsIn stages.Backing d → has_failed d ≡ true → Allowed d (stored.Closed outcomes.UnableToRollback)
closes_backing d is failed = by d.pending is failed
  where
    by : (o : Option Pending) → IsSomeAnd o (λ q. q.stage ≡ stages.Backing) → option_map_or (λ q. q.boot_failed) o false ≡ true →
        IsSomeAnd o (λ q. MayClose q outcomes.UnableToRollback)
    by None is failed = absurd is
    by (Some q) is failed = inr (is, failed)

-- ---- it is rolled back

name_there : (b : Bool) (o : Option (List ℕ)) → b ≡ true → is_some o ≡ true → is_some (if b then o else None) ≡ true
name_there true o is some = some
name_there false o is some = absurd (false≢true is)

-- an item with three failures has a name
three_named : (items : List Item) (failures : List ℕ) (k : ℕ) → AreCounts items failures → position (nat_eq 3) failures ≡ Some k →
    is_some (slice_get (map (λ (i : Item). i.name) items) k) ≡ true
three_named items failures k are is =
    let found = position-Some (nat_eq 3) failures k 0 is in
    let three : 3 ≡ get_or failures k 0 = eqb-true 3 (get_or failures k 0) found.1 in
    let same = length-map items (λ (i : Item). i.name) in
    let past = are.past k in
    let below : k < length (map (λ (i : Item). i.name) items) = grind (arith, three, same, past) in
    ap is_some (slice_get-get_or (map (λ (i : Item). i.name) items) k [] below)

named_by : (items : List Item) (failures : List ℕ) (o : Option ℕ) → position (nat_eq 3) failures ≡ o → AreCounts items failures → is_some o ≡ true →
    is_some (option_and_then (λ k. slice_get (map (λ (i : Item). i.name) items) k) o) ≡ true
named_by items failures None is are some = absurd (false≢true some)
named_by items failures (Some k) is are some = three_named items failures k are is

module _ (d : Device) where
  booting_named : (s : Stage) (q : Pending) → s ≡ stages.Booting → IsInStage d.origin d.set (record q { stage = s }) → q.boot_failed ≡ true →
      is_some (failing_name (record q { stage = s })) ≡ true
  booting_named s q is under failed =
      let there : Pending = record q { stage = stages.Booting } in
      let at : IsInStage d.origin d.set there = subst (λ (x : Stage). IsInStage d.origin d.set (record q { stage = x })) is under in
      subst (λ (x : Stage). is_some (failing_name (record q { stage = x })) ≡ true) (sym is)
      (name_there q.boot_failed (slice_get q.plan.boots q.ended) failed (at.begun (at.failed failed)))

  activating_named : (s : Stage) (q : Pending) → s ≡ stages.Activating → IsInStage d.origin d.set (record q { stage = s }) → is_some (broken q) ≡ true →
      is_some (failing_name (record q { stage = s })) ≡ true
  activating_named s q is under broke =
      let there : Pending = record q { stage = stages.Activating } in
      let at : IsInStage d.origin d.set there = subst (λ (x : Stage). IsInStage d.origin d.set (record q { stage = x })) is under in
      subst (λ (x : Stage). is_some (failing_name (record q { stage = x })) ≡ true) (sym is)
      (named_by q.plan.items q.failures (broken q) refl at.failures broke)

  pub breaks_booting : IsSound d → IsIn stages.Booting d → has_failed d ≡ true → is_to_roll_back d ≡ true → CanBreakOff d
  breaks_booting sound is failed policy = by d.pending sound.pending is failed policy
    where
      by : (o : Option Pending) → IfSome o (IsUnderWay d) → IsSomeAnd o (λ q. q.stage ≡ stages.Booting) → option_map_or (λ q. q.boot_failed) o false ≡ true →
          option_map_or (λ q. is_rollback q.plan.policy) o false ≡ true
          → IsSomeAnd o (λ q. IsSome (failing_name q) × (q.plan.policy ≡ policies.Rollback))
      by None under is failed policy = absurd is
      by (Some q) under is failed policy = (booting_named q.stage q is under.1 failed, rollback_is q.plan.policy policy)

  pub breaks_activating : IsSound d → IsIn stages.Activating d → has_three (duty_of d).counts ≡ true → is_to_roll_back d ≡ true → CanBreakOff d
  breaks_activating sound is three policy = by d.pending sound.pending is three policy
    where
      by : (o : Option Pending) → IfSome o (IsUnderWay d) → IsSomeAnd o (λ q. q.stage ≡ stages.Activating) → has_three (duty_of (pends d o)).counts ≡ true →
          option_map_or (λ q. is_rollback q.plan.policy) o false ≡ true
          → IsSomeAnd o (λ q. IsSome (failing_name q) × (q.plan.policy ≡ policies.Rollback))
      by None under is three policy = absurd is
      by (Some q) under is three policy = (activating_named q.stage q is under.1 (broke_in (pends d (Some q)) q three), rollback_is q.plan.policy policy)
