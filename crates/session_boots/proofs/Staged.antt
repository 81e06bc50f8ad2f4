-- The states in which bootstraps run, each as one of the stage in which its device is.
use Rattle.std.specs.Prelude.{ℕ, false, List, Option, Some, None, is_some, Result, Ok, Err}
use Rattle.std.specs.Option.{IsSome, IsSomeAnd}
use Rattle.std.proofs.Common.{◌≡◌, ◌∙◌, inr, refl, sym, ap, subst}
use Rattle.std.proofs.lemmas.Bool.{false≢true}
use Rattle.disk_model.specs.Disk.{Image}
use Rattle.nuc_base.specs.declared.kinds.Exit.{Exit}
use Rattle.records.specs.Stored.{Item}
use Rattle.records.specs.declared.record.Origin.{Origin}
use Rattle.device.specs.Devices.{Device, Pending}
use Rattle.device.specs.Lawful.{boots_of, next_boot}
use Rattle.device.specs.Marks.{IsMarkOf}
use Rattle.device.specs.declared.mark.Mark.TheVariants as marks
use Rattle.device.specs.declared.staged.Stage.TheVariants as stages
use Rattle.deploy_state.specs.Fields.{CanBegin, next_name}
use Rattle.deploy_state.specs.Owned.{MayMark}
use Rattle.deploy_state.specs.States.{IsIn, backed_device, device_of}
use Rattle.deploy_state.specs.declared.state.Backed.{Backed}
use Rattle.deploy_state.specs.declared.state.Rolling.{Rolling}
use Rattle.deploy_state.specs.declared.state.Backed.TheVariants as backed
use Rattle.components.specs.declared.kinds.Prepared.{Prepared}
use Rattle.histories.specs.TraceEvents.{TraceEvent}
use Rattle.histories.specs.States.{SessionState, state_after}
use Rattle.session_boots.specs.Ends.{ResultLeft}
use Rattle.session_boots.specs.Made.{AreBootsOf, AreMade, AreMadeAgain, AreMadeFor, AreStageBoots, boot_items}
use Rattle.session_boots.specs.Staged.{IsStaged, backed_hand}
use Rattle.session_boots.specs.declared.ends.SessionFault.{SessionFault}
use Rattle.session_boots.proofs.Duties.{none_next, pends}

-- ---- behind the last end on the way back

pub rolling_is : {J : Type 0} (s : Backed J) (t : Rolling J) → s ≡ backed.Rolling t → IsStaged s → IsIn stages.Rolling (device_of (backed_hand s))
rolling_is s t is staged = subst (λ (x : Backed _). IsStaged x → IsIn stages.Rolling (device_of (backed_hand x))) (sym is) (λ h. h) staged

pub none_named : (d : Device) → IsIn stages.Rolling d → next_name d ≡ None
none_named d is = by d.pending is
  where
    by : (o : Option Pending) → IsSomeAnd o (λ q. q.stage ≡ stages.Rolling) → next_name (pends d o) ≡ None
    by None h = absurd h
    by (Some q) h = none_next q (inr h)

none_some : (o : Option (List ℕ)) → o ≡ None → IsSome o → ⊥
none_some o none some = false≢true (sym (ap (λ (x : Option (List ℕ)). is_some x) none) ∙ some)

pub none_begins : (d : Device) → IsIn stages.Rolling d → CanBegin d → ⊥
none_begins d is can = by d.pending is can
  where
    by : (o : Option Pending) → IsSomeAnd o (λ q. q.stage ≡ stages.Rolling) → IsSomeAnd o (λ q. (q.boot_failed ≡ false) × IsSome (next_boot q)) → ⊥
    by None h c = h
    by (Some q) h c = none_some (next_boot q) (none_next q (inr h)) c.1

pub none_ends : (d : Device) (e : Exit) → IsIn stages.Rolling d → MayMark d (marks.BootEnded e) → ⊥
none_ends d e is may = by d.pending is may.1
  where
    by : (o : Option Pending) → IsSomeAnd o (λ q. q.stage ≡ stages.Rolling) → IsSomeAnd o (λ q. IsMarkOf d.set q (marks.BootEnded e) may.0) → ⊥
    by None h m = h
    by (Some q) h m = none_some (next_boot q) (none_next q (inr h)) (ap (λ (x : Option (List ℕ)). is_some x) m.1)

-- ---- the steps that were made ready are those of the stage

made_as : (d : Device) (q : Pending) (made : List Prepared) (items : List Item) (names : List (List ℕ)) → boot_items d q ≡ items → boots_of q ≡ names →
    IsSomeAnd d.origin (λ (o : Origin). AreBootsOf o items names made) → AreMadeFor d q made
made_as d q made items names is are h =
    subst (λ (l : List (List ℕ)). IsSomeAnd d.origin (λ (o : Origin). AreBootsOf o (boot_items d q) l made)) (sym are) (
    subst (λ (i : List Item). IsSomeAnd d.origin (λ (o : Origin). AreBootsOf o i names made)) (sym is) h)

pub stage_booting : (d : Device) (made : List Prepared) → IsIn stages.Booting d → AreMade d made → AreStageBoots d made
stage_booting d made is are = by d.pending is are
  where
    by : (o : Option Pending) → IsSomeAnd o (λ q. q.stage ≡ stages.Booting) → AreMade (pends d o) made → AreStageBoots (pends d o) made
    by None h a = tt
    by (Some q) h a = made_as (pends d (Some q)) q made q.plan.items q.plan.boots (rw h refl) (rw h refl) a

pub stage_backing : (d : Device) (made : List Prepared) → IsIn stages.Backing d → AreMadeAgain d made → AreStageBoots d made
stage_backing d made is are = by d.pending is are
  where
    by : (o : Option Pending) → IsSomeAnd o (λ q. q.stage ≡ stages.Backing) → AreMadeAgain (pends d o) made → AreStageBoots (pends d o) made
    by None h a = tt
    by (Some q) h a = made_as (pends d (Some q)) q made d.set q.backs (rw h refl) (rw h refl) a

-- ---- what the way back leaves

pub same_device : {J : Type 0} (s : Backed J) → device_of (backed_hand s) ≡ backed_device s
same_device (backed.Backing s) = refl
same_device (backed.Rolling s) = refl

pub left_as : {A D : Type 0} (entries : Image → List (List ℕ) → Type 0) (may_leave : D → Image → Type 0) (disk : D) (p : SessionState) (h : List TraceEvent)
    (before after : A → SessionState → Type 0) → ((x : A) (q : SessionState) → before x q → after x q) → (r : Result A SessionFault) →
    ResultLeft entries may_leave disk p h before r → ResultLeft entries may_leave disk p h after r
left_as entries may_leave disk p h before after to (Ok x) l = to x (state_after p h) l
left_as entries may_leave disk p h before after to (Err e) l = l
