-- In a sound device with a deployment pending some record is lawful.
use Rattle.std.proofs.Common.{◌≡◌, inl, inr, ℕ, ◌<◌, Bool, true, false, List, [], length, map, get_or, Option, Some, None, refl, ap, ◌∙◌, arith, is_some}
use Rattle.std.specs.Prelude.{slice_get, option_and_then, position, nat_eq}
use Rattle.std.specs.Option.{IfSome, IsSome}
use Rattle.std.proofs.lemmas.Bool.{eqb-true}
use Rattle.std.proofs.lemmas.List.{length-map}
use Rattle.std.proofs.lemmas.List.Quantifiers.{position-Some}
use Rattle.std.proofs.lemmas.Option.{slice_get-get_or}
use Rattle.nuc_base.specs.declared.kinds.Exit.TheVariants as exits
use Rattle.nuc_base.specs.declared.kinds.Outcome.TheVariants as outcomes
use Rattle.nuc_base.specs.declared.kinds.Policy.{Policy}
use Rattle.nuc_base.specs.declared.kinds.Policy.TheVariants as policies
use Rattle.records.specs.Stored.{Item, Record, BootBegun, BootEnded, Activating, Failing, Closed}
use Rattle.device.specs.declared.staged.Stage.TheVariants as stages
use Rattle.device.specs.Devices.{Device, Pending, Stage}
use Rattle.device.specs.Lawful.{Allowed, next_boot, broken}
use Rattle.device.specs.Sound.{AreCounts, IsBooting, IsInStage, IsUnderWay, IsSound}
use Rattle.device.proofs.SoundStages.{at, what_is}

-- the device with this pending
abbrev pends : Device → Option Pending → Device
pends d o = record d { pending = o }

-- what may come next
abbrev Next : Device → Pending → Type 0
Next d q = (r : Record) × Allowed (pends d (Some q)) r

-- an item with three failures has a name
three_named : (items : List Item) (failures : List ℕ) (k : ℕ) → AreCounts items failures → position (nat_eq 3) failures ≡ Some k → (n : List ℕ) ×
    (slice_get (map (λ i. i.name) items) k ≡ Some n)
three_named items failures k are is =
    let found = position-Some (nat_eq 3) failures k 0 is in
    let three : 3 ≡ get_or failures k 0 = eqb-true 3 (get_or failures k 0) found.1 in
    let same = length-map items (λ (i : Item). i.name) in
    let past = are.past k in
    let below : k < length (map (λ (i : Item). i.name) items) = grind (arith, three, same, past) in
    (get_or (map (λ i. i.name) items) k [], slice_get-get_or (map (λ i. i.name) items) k [] below)

module _ (d : Device) (q : Pending) where
  failed_boot : (p : Policy) → q.plan.policy ≡ p → q.boot_failed ≡ true → is_some (slice_get q.plan.boots q.ended) ≡ true → Next d (at stages.Booting q)
  failed_boot policies.Rollback is failed some =
      let n = what_is (slice_get q.plan.boots q.ended) some in
      (Failing n.0, (is, rw failed n.1))
  failed_boot policies.DoNothing is failed some = (Closed outcomes.RollbackNotRequested, (is, inl (refl, failed)))

  one_boot : (b : Bool) → q.begun ≡ b → (s : Stage) → q.boot_failed ≡ false → (n : List ℕ) → next_boot (at s q) ≡ Some n → Next d (at s q)
  one_boot true is s failed n next = (BootEnded n exits.Signal, (failed, next, is))
  one_boot false is s failed n next = (BootBegun n, (failed, next, is))

  in_booting : IsBooting (at stages.Booting q) → Next d (at stages.Booting q)
  in_booting is = by q.boot_failed refl
    where
      going : (o : Option (List ℕ)) → slice_get q.plan.boots q.ended ≡ o → q.boot_failed ≡ false → Next d (at stages.Booting q)
      going None next failed = (Activating, (refl, failed, next))
      going (Some n) next failed = one_boot q.begun refl stages.Booting failed n next

      by : (b : Bool) → q.boot_failed ≡ b → Next d (at stages.Booting q)
      by true failed = failed_boot q.plan.policy refl failed (is.begun (is.failed failed))
      by false failed = going (slice_get q.plan.boots q.ended) refl failed

  in_backing : is_some (slice_get q.backs q.ended) ≡ true → Next d (at stages.Backing q)
  in_backing left = by q.boot_failed refl
    where
      by : (b : Bool) → q.boot_failed ≡ b → Next d (at stages.Backing q)
      by true failed = (Closed outcomes.UnableToRollback, inr (refl, failed))
      by false failed = let n = what_is (slice_get q.backs q.ended) left in one_boot q.begun refl stages.Backing failed n.0 n.1

  in_activating : AreCounts q.plan.items q.failures → Next d (at stages.Activating q)
  in_activating are = by (broken q) refl
    where
      fails : (p : Policy) → q.plan.policy ≡ p → (k : ℕ) → broken q ≡ Some k → Next d (at stages.Activating q)
      fails policies.Rollback is k broke =
          let n = three_named q.plan.items q.failures k are broke in
          (Failing n.0, (is, ap (option_and_then (λ j. slice_get (map (λ i. i.name) q.plan.items) j)) broke ∙ n.1))
      fails policies.DoNothing is k broke = (Closed outcomes.RollbackNotRequested, (is, inr (refl, ap is_some broke)))

      by : (o : Option ℕ) → broken q ≡ o → Next d (at stages.Activating q)
      by None whole = (Closed outcomes.Successful, (refl, whole))
      by (Some k) broke = fails q.plan.policy refl k broke

  in_rolling : Next d (at stages.Rolling q)
  in_rolling = by (broken q) refl
    where
      by : (o : Option ℕ) → broken q ≡ o → Next d (at stages.Rolling q)
      by None whole = (Closed outcomes.RollbackComplete, (refl, whole))
      by (Some k) broke = (Closed outcomes.UnableToRollback, inl (refl, ap is_some broke))

  in_stage : (s : Stage) → IsInStage d.origin d.set (at s q) → Next d (at s q)
  in_stage stages.Booting is = in_booting is
  in_stage stages.Activating is = in_activating is.failures
  in_stage stages.Backing is = in_backing is.left
  in_stage stages.Rolling is = in_rolling

some_next : (d : Device) (o : Option Pending) → IsSome o → IfSome o (IsUnderWay d) → (r : Record) × Allowed (pends d o) r
some_next d None some way = absurd cc
some_next d (Some q) some way = in_stage d q q.stage way.1

pub none_stuck : (d : Device) → IsSound d → IsSome d.pending → (r : Record) × Allowed d r
none_stuck d sound some = some_next d d.pending some sound.pending
