-- When a step of a state that was loaded is in turn.
use Rattle.std.proofs.Common.{◌≡◌, ◌∙◌, ◌≤◌, ◌+◌, ◌*◌, inl, inr, ℕ, Bool, true, false, List, [], Option, Some, None, ap, refl, sym, subst, map, is_some}
use Rattle.std.specs.Prelude.{option_and_then, slice_get, if◌then◌else◌}
use Rattle.std.specs.Option.{IfSome, IsSome, IsSomeAnd, option_map_or}
use Rattle.nuc_base.specs.declared.kinds.Exit.{Exit}
use Rattle.nuc_base.specs.declared.kinds.Outcome.TheVariants as outcomes
use Rattle.nuc_base.specs.declared.kinds.Policy.TheVariants as policies
use Rattle.records.proofs.Layouts.{one_record}
use Rattle.records.specs.Layout.{IsWritable, Spelled}
use Rattle.records.specs.Stored as stored
use Rattle.records.specs.Stored.{Item, Plan, Record}
use Rattle.device.specs.Devices.{Device, Pending}
use Rattle.device.specs.Lawful.{Allowed, MayActivate, MayClose, broken, broken_name, failing_name, next_boot}
use Rattle.device.specs.Regularity.{IsRegularRecord}
use Rattle.device.specs.Marks.{IsMarkOf}
use Rattle.device.specs.declared.mark.Mark.TheVariants as marks
use Rattle.device.specs.declared.staged.Stage.{Stage}
use Rattle.device.specs.declared.staged.Stage.TheVariants as stages
use Rattle.device.proofs.Regular.{writable}
use Rattle.device.proofs.SoundStages.{what_is}
use Rattle.deploy_state.specs.Fields.{CanBegin, CanBreakOff, IsBegun, broken_among, broken_item, has_failed, next_name}
use Rattle.deploy_state.specs.Owned.{MayMark}
use Rattle.deploy_state.specs.States.{IsIn}

pub can_begin : (d : Device) → IsSome (next_name d) → has_failed d ≡ false → CanBegin d
can_begin d some well = by d.pending some well
  where
    by : (o : Option Pending) → IsSome (option_and_then next_boot o) → option_map_or (λ q. q.boot_failed) o false ≡ false →
        IsSomeAnd o (λ q. (q.boot_failed ≡ false) × IsSome (next_boot q))
    by None some well = absurd cc
    by (Some q) some well = (well, some)

pub can_end : (d : Device) (e : Exit) → IsSome (next_name d) → has_failed d ≡ false → IsBegun d → MayMark d (marks.BootEnded e)
can_end d e some well begun = by d.pending some well begun
  where
    by : (o : Option Pending) → IsSome (option_and_then next_boot o) → option_map_or (λ q. q.boot_failed) o false ≡ false → IsSomeAnd o (λ q. q.begun ≡ true)
        → (r : Record) × IsSomeAnd o (λ q. IsMarkOf d.set q (marks.BootEnded e) r) × Allowed (record d { pending = o }) r
    by None some well begun = absurd cc
    by (Some q) some well begun =
        let n = what_is (next_boot q) some in
        (stored.BootEnded n.0 e, (n.0, n.1, refl), (well, n.1, begun))

pub can_activate : (d : Device) → IsIn stages.Booting d → next_name d ≡ None → has_failed d ≡ false → Allowed d stored.Activating
can_activate d is none well = by d.pending is none well
  where
    by : (o : Option Pending) → IsSomeAnd o (λ q. q.stage ≡ stages.Booting) → option_and_then next_boot o ≡ None → option_map_or (λ q. q.boot_failed) o false
        ≡ false → IsSomeAnd o MayActivate
    by None is none well = absurd is
    by (Some q) is none well = (is, well, none)

pub can_keep : (d : Device) → IsIn stages.Booting d → has_failed d ≡ true → IsSomeAnd d.pending (λ q. q.plan.policy ≡ policies.DoNothing) →
    Allowed d (stored.Closed outcomes.RollbackNotRequested)
can_keep d is failed policy = by d.pending is failed policy
  where
    by : (o : Option Pending) → IsSomeAnd o (λ q. q.stage ≡ stages.Booting) → option_map_or (λ q. q.boot_failed) o false ≡ true →
        IsSomeAnd o (λ q. q.plan.policy ≡ policies.DoNothing)
        → IsSomeAnd o (λ q. MayClose q outcomes.RollbackNotRequested)
    by None is failed policy = absurd is
    by (Some q) is failed policy = (policy, inl (is, failed))

pub can_complete : (d : Device) → IsIn stages.Activating d → IsSomeAnd d.pending (λ q. broken q ≡ None) → Allowed d (stored.Closed outcomes.Successful)
can_complete d is whole = by d.pending is whole
  where
    by : (o : Option Pending) → IsSomeAnd o (λ q. q.stage ≡ stages.Activating) → IsSomeAnd o (λ q. broken q ≡ None) →
        IsSomeAnd o (λ q. MayClose q outcomes.Successful)
    by None is whole = absurd is
    by (Some q) is whole = (is, whole)

pub plain_record : (r : Record) → IsWritable r → IsRegularRecord r
plain_record r w = writable r w

-- ---- a deployment that fails

pub can_break : (d : Device) → IsIn stages.Booting d → IsSome (next_name d) → has_failed d ≡ true →
    IsSomeAnd d.pending (λ q. q.plan.policy ≡ policies.Rollback) → CanBreakOff d
can_break d is some failed policy = by d.pending is some failed policy
  where
    failing : (q : Pending) (b : Bool) → q.boot_failed ≡ b → b ≡ true → q.stage ≡ stages.Booting → IsSome (next_boot q) → IsSome (failing_name q)
    failing q b has yes_failed stage some =
        subst (λ (s : Stage). IsSome (failing_name (record q { stage = s }))) (sym stage)
        (subst (λ (x : Bool). IsSome (if x then next_boot (record q { stage = stages.Booting }) else None)) (sym (has ∙ yes_failed))
        (subst (λ (s : Stage). IsSome (next_boot (record q { stage = s }))) stage some))

    by : (o : Option Pending) → IsSomeAnd o (λ q. q.stage ≡ stages.Booting) → IsSome (option_and_then next_boot o) →
        option_map_or (λ q. q.boot_failed) o false ≡ true
        → IsSomeAnd o (λ q. q.plan.policy ≡ policies.Rollback) → IsSomeAnd o (λ q. IsSome (failing_name q) × (q.plan.policy ≡ policies.Rollback))
    by None is some failed policy = absurd is
    by (Some q) is some failed policy = (failing q q.boot_failed refl failed is some, policy)

-- the first broken of the items that run, in a stage in which those of the plan do
broken_plan : (set : List Item) (q : Pending) → q.stage ≡ stages.Activating → IsSome (broken_among set q) → IsSome (broken_name q.plan.items q)
broken_plan set q stage some = subst (λ (s : Stage). IsSome (broken_among set (record q { stage = s }))) stage some

is_broken_by : (items : List Item) (q : Pending) (o : Option ℕ) → broken q ≡ o → IsSome (broken_name items q) → is_some (broken q) ≡ true
is_broken_by items q None none some = absurd (let is = subst (λ (x : Option ℕ). IsSome (option_and_then (λ k. slice_get (map (λ i. i.name) items) k) x)) none
    some in cc)
is_broken_by items q (Some k) at some = ap is_some at

pub can_break_broken : (d : Device) → IsIn stages.Activating d → IsSome (broken_item d) → IsSomeAnd d.pending (λ q. q.plan.policy ≡ policies.Rollback) →
    CanBreakOff d
can_break_broken d is some policy = by d.pending is some policy
  where
    by : (o : Option Pending) → IsSomeAnd o (λ q. q.stage ≡ stages.Activating) → IsSome (option_and_then (broken_among d.set) o) →
        IsSomeAnd o (λ q. q.plan.policy ≡ policies.Rollback)
        → IsSomeAnd o (λ q. IsSome (failing_name q) × (q.plan.policy ≡ policies.Rollback))
    by None is some policy = absurd is
    by (Some q) is some policy =
        (subst (λ (s : Stage). IsSome (failing_name (record q { stage = s }))) (sym is) (broken_plan d.set q is some), policy)

pub can_keep_broken : (d : Device) → IsIn stages.Activating d → IsSome (broken_item d) → IsSomeAnd d.pending (λ q. q.plan.policy ≡ policies.DoNothing) →
    Allowed d (stored.Closed outcomes.RollbackNotRequested)
can_keep_broken d is some policy = by d.pending is some policy
  where
    by : (o : Option Pending) → IsSomeAnd o (λ q. q.stage ≡ stages.Activating) → IsSome (option_and_then (broken_among d.set) o) →
        IsSomeAnd o (λ q. q.plan.policy ≡ policies.DoNothing)
        → IsSomeAnd o (λ q. MayClose q outcomes.RollbackNotRequested)
    by None is some policy = absurd is
    by (Some q) is some policy = (policy, inr (is, is_broken_by q.plan.items q (broken q) refl (broken_plan d.set q is some)))

pub can_close : (d : Device) → IsIn stages.Backing d → has_failed d ≡ true → Allowed d (stored.Closed outcomes.UnableToRollback)
can_close d is failed = by d.pending is failed
  where
    by : (o : Option Pending) → IsSomeAnd o (λ q. q.stage ≡ stages.Backing) → option_map_or (λ q. q.boot_failed) o false ≡ true →
        IsSomeAnd o (λ q. MayClose q outcomes.UnableToRollback)
    by None is failed = absurd is
    by (Some q) is failed = inr (is, failed)

-- ---- plans

-- what spells one plan's record spells no other's
pub same_plan : (bytes : List ℕ) (p q : Plan) → Spelled bytes (stored.Accepted p) → Spelled bytes (stored.Accepted q) → stored.Accepted p ≡ stored.Accepted q
same_plan bytes p q one other = one_record bytes (stored.Accepted p) (stored.Accepted q) one other
